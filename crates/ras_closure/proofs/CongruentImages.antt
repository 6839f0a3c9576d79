-- Congruent images that are recorded in the table of signatures.
use Rattle.std.proofs.Common.{◌≡◌, ◌≢◌, ℕ, ◌+◌, ◌*◌, ◌<◌, List, length, arith, refl, sym, ◌∙◌, ap, subst, ◌⊎◌, ⊎_elim, set, get_or-set_other, get_or-set_same}
use Rattle.std.specs.Prelude.{slice_get, Some}
use Rattle.std.proofs.lemmas.Option.{slice_get_within}
use Rattle.ras_logic.specs.declared.ids.FunId.{FunId}
use Rattle.ras_closure.specs.declared.link.Link.TheVariants.{Base, Image}
use Rattle.ras_closure.specs.Numbered.{IsImageLink, TableParts, IsTable}
use Rattle.ras_closure.specs.Classes.{class}
use Rattle.ras_closure.specs.Signatures.{SignatureParts, signature, IsImageOf, RecordsImage, RecordsImageAt, HasCongruentImage, HaveCongruentImages}
use Rattle.ras_closure.specs.Rules.{AreUndefRules, IsSaturated, IsPendingPair}
use Rattle.ras_closure.specs.Rules.{by_images}
use Rattle.ras_closure.proofs.Places.{place-same, place-below}
use Rattle.ras_closure.proofs.Cases.{some_same}

place_cases : (a b : ℕ) → (a ≡ b) ⊎ (a ≢ b)
place_cases a b = grind arith

-- an image was put where none was recorded
pub records-put : (t : TableParts) (classes : List ℕ) (old : SignatureParts) (f : FunId) (c i : ℕ) → length old.images ≡ old.functions * old.width → f.n < old.functions → c < old.width
    → IsImageOf t classes f c i → (IsImageOf t classes f c (signature old f.n c) → ⊥)
    → RecordsImage t classes old (record old { images = set old.images (f.n * old.width + c) i }) f c i
records-put t classes old f c i long lt_f lt_c image fresh = record {
  functions = refl;
  width = refl;
  here = get_or-set_same old.images (f.n * old.width + c) i 0 (rw long (place-below f.n c old.functions old.width lt_f lt_c));
  image = image;
  kept = λ g d lt_d congruent.
      ⊎_elim
      (λ (e : g.n * old.width + d ≡ f.n * old.width + c).
      let p = place-same g.n d f.n c old.width lt_d lt_c e in
      absurd (fresh (subst (λ (x : ℕ). IsImageOf t classes f x (signature old f.n x)) p.1
      (subst (λ (h : FunId). IsImageOf t classes h d (signature old h.n d)) (ap (λ (n : ℕ). record { n = n }) p.0) congruent))))
      (λ (h : g.n * old.width + d ≢ f.n * old.width + c). get_or-set_other old.images (f.n * old.width + c) (g.n * old.width + d) i 0 h)
      (place_cases (g.n * old.width + d) (f.n * old.width + c));
}

pub records-known : (t : TableParts) (classes : List ℕ) (old : SignatureParts) (f : FunId) (c : ℕ) → IsImageOf t classes f c (signature old f.n c)
    → RecordsImage t classes old old f c (signature old f.n c)
records-known t classes old f c congruent = record { functions = refl; width = refl; here = refl; image = congruent; kept = λ g d lt is. refl }

-- the image i is in the class of the congruent one
pub records-at : (t : TableParts) (classes : List ℕ) (old new : SignatureParts) (i of congruent : ℕ) (f : FunId) → IsImageLink t.links i of f → AreUndefRules t classes i of f
    → RecordsImage t classes old new f (class classes of) congruent → class classes congruent ≡ class classes i → RecordsImageAt t classes old new i
records-at t classes old new i of congruent f link rules records alike = record {
  here = λ of2 g link2.
      let e : Image of f ≡ Image of2 g = some_same (sym link ∙ link2) in
      let same_of : of ≡ of2 = of_same of2 g e in
      let same_f : f ≡ g = f_same of2 g e in
      subst (λ (h : FunId). HasCongruentImage t classes new i of2 h) same_f (subst (λ (x : ℕ). HasCongruentImage t classes new i x f) same_of
      (record { found = rw records.here records.image; alike = rw records.here (sym alike); undefs = rules }));
  kept = records.kept;
}
  where
    of_same : (of2 : ℕ) (g : FunId) → Image of f ≡ Image of2 g → of ≡ of2
    of_same of2 g h = cc

    f_same : (of2 : ℕ) (g : FunId) → Image of f ≡ Image of2 g → f ≡ g
    f_same of2 g h = cc

below_cases : (a b : ℕ) → a < b + 1 → (a < b) ⊎ (a ≡ b)
below_cases a b h = grind arith

-- one more image has its congruent one
pub congruent-more : (t : TableParts) (classes : List ℕ) (old new : SignatureParts) (i : ℕ) → IsTable t → ((k : ℕ) → k < length t.terms → class classes k < length t.terms) → old.width ≡ length t.terms
    → HaveCongruentImages t classes old i → RecordsImageAt t classes old new i → HaveCongruentImages t classes new (i + 1)
congruent-more t classes old new i table below width congruent records k of f lt link =
    ⊎_elim
    (λ (h : k < i).
    let was = congruent k of f h link in
    let e = records.kept f (class classes of) (rw width (below of (table.links.of_terms k of f link))) was.found in
    record { found = rw e was.found; alike = rw e was.alike; undefs = was.undefs })
    (λ (e : k ≡ i). subst (λ (x : ℕ). HasCongruentImage t classes new x of f) (sym e) (records.here of f (subst (λ (x : ℕ). IsImageLink t.links x of f) e link)))
    (below_cases k i lt)

-- no rule asks for more where each image has its congruent one
pub congruent-saturated : (t : TableParts) (classes : List ℕ) (s : SignatureParts) (n : ℕ) → length t.links ≡ n → HaveCongruentImages t classes s n → IsSaturated t classes
congruent-saturated t classes s n all congruent = record {
  images = λ i j of of2 f li lj e.
      let a = congruent i of f (rw (← all) (within i of f li)) li in
      let b = congruent j of2 f (rw (← all) (within j of2 f lj)) lj in
      a.alike ∙ ap (λ (c : ℕ). class classes (signature s f.n c)) e ∙ sym b.alike;
  undefs = λ i of f li. (congruent i of f (rw (← all) (within i of f li)) li).undefs;
}
  where
    within : (i of : ℕ) (f : FunId) → IsImageLink t.links i of f → i < length t.links
    within i of f h = slice_get_within t.links i (Image of f) h

-- a base is no image
pub records-base : (t : TableParts) (classes : List ℕ) (old : SignatureParts) (i : ℕ) → slice_get t.links i ≡ Some Base → RecordsImageAt t classes old old i
records-base t classes old i base = record { here = λ of f link. absurd (no_image of f (sym base ∙ link)); kept = λ g d lt is. refl }
  where
    no_image : (of : ℕ) (f : FunId) → Some Base ≡ Some (Image of f) → ⊥
    no_image of f e = cc

-- an image and the congruent one are a pending pair where their classes differ
pub congruent-pending : (t : TableParts) (classes : List ℕ) (old new : SignatureParts) (i of congruent : ℕ) (f : FunId) → IsTable t → i < length t.terms → IsImageLink t.links i of f
    → RecordsImage t classes old new f (class classes of) congruent → class classes i ≢ class classes congruent → IsPendingPair t classes i congruent
congruent-pending t classes old new i of congruent f table lt link records differ = record {
  forced = by_images i congruent of records.image.of f link records.image.link (sym records.image.argument);
  differ = differ;
  left = lt;
  right = rw (← table.links.as_many) (slice_get_within t.links congruent (Image records.image.of f) records.image.link);
}
