-- One term more in a table of terms.
use Rattle.std.proofs.Common.{◌≡◌, ℕ, zero, suc, ◌+◌, ◌<◌, ◌≤◌, List, [], ◌∷◌, ◌++◌, length, drop, refl, sym, ◌∙◌, ap, subst, arith, ◌⊎◌, inl, inr, ⊎_elim, length-append}
use Rattle.std.specs.Prelude.{slice_get, Some}
use Rattle.std.proofs.lemmas.Option.{slice_get_within}
use Rattle.std.proofs.lemmas.List.{take-append-drop}
use Rattle.ras_logic.specs.declared.ids.FunId.{FunId}
use Rattle.ras_logic.specs.declared.term.Term.{Term}
use Rattle.ras_logic.specs.declared.literal.Literal.{Literal}
use Rattle.ras_logic.specs.Schemas.{SchemaParts}
use Rattle.ras_closure.specs.declared.link.Link.{Link}
use Rattle.ras_closure.specs.declared.link.Link.TheVariants.{Base, Image}
use Rattle.ras_logic.specs.Terms.{image_term}
use Rattle.ras_logic.specs.Clashes.{IsTerm}
use Rattle.ras_closure.specs.Numbered.{IsAt, IsImageLink}
use Rattle.ras_closure.proofs.Prefixes.{prefix-term}
use Rattle.ras_closure.specs.Building.{IsPart, Grows, LinkFits, prefix_at, HasPrefixes}
use Rattle.ras_closure.proofs.Cases.{some_same}

pub at-push : {X : Type 0} (xs : List X) (y x : X) (i : ℕ) → slice_get (xs ++ y ∷ []) i ≡ Some x → (slice_get xs i ≡ Some x) ⊎ ((i ≡ length xs) × (y ≡ x))
at-push [] y x zero h = inr (refl, cc)
at-push [] y x (suc i) h = absurd (cc)
at-push (z ∷ zs) y x zero h = inl h
at-push (z ∷ zs) y x (suc i) h = ⊎_elim inl (λ (e : (i ≡ length zs) × (y ≡ x)). inr (omega (arith, e.0), e.1)) (at-push zs y x i h)

pub grows-push : {X : Type 0} (xs : List X) (y x : X) (i : ℕ) → slice_get xs i ≡ Some x → slice_get (xs ++ y ∷ []) i ≡ Some x
grows-push [] y x i h = absurd (cc)
grows-push (z ∷ zs) y x zero h = h
grows-push (z ∷ zs) y x (suc i) h = grows-push zs y x i h

pub pushed-at : {X : Type 0} (xs : List X) (y : X) → slice_get (xs ++ y ∷ []) (length xs) ≡ Some y
pushed-at [] y = refl
pushed-at (z ∷ zs) y = pushed-at zs y

module _ (schema : SchemaParts) (literals : List Literal) (terms : List Term) (links : List Link) (part : IsPart schema literals terms links)
    (t : Term) (known : IsTerm schema literals t) (fresh : (i : ℕ) → IsAt terms i t → ⊥) (link : Link) (fits : LinkFits schema terms t link) (few : length terms + 1 < 4294967295) where
  older : (i : ℕ) (s : Term) → IsAt (terms ++ t ∷ []) i s → i < length terms → IsAt terms i s
  older i s at lt = ⊎_elim (λ h. h) (λ (e : (i ≡ length terms) × (t ≡ s)). absurd (omega (arith, lt, e.0))) (at-push terms t s i at)

  long : length links ≡ length terms
  long = part.linked.as_many

  fits_image : (of : ℕ) (f : FunId) → link ≡ Image of f → (f.n < length schema.functions) × ((s : Term) × IsAt terms of s × (t ≡ image_term s f))
  fits_image of f e = subst (λ (l : Link). LinkFits schema terms t l) e fits

  pub part-push : IsPart schema literals (terms ++ t ∷ []) (links ++ link ∷ [])
  part-push = record {
    known = λ i s at. ⊎_elim (λ (h : IsAt terms i s). part.known i s h) (λ (e : (i ≡ length terms) × (t ≡ s)). subst (λ (u : Term). IsTerm schema literals u) e.1 known) (at-push terms t s i at);
    different = λ i j s at_i at_j.
        ⊎_elim
        (λ (h : IsAt terms i s). ⊎_elim (λ (g : IsAt terms j s). part.different i j s h g)
        (λ (e : (j ≡ length terms) × (t ≡ s)). absurd (fresh i (subst (λ (u : Term). IsAt terms i u) (sym e.1) h))) (at-push terms t s j at_j))
        (λ (d : (i ≡ length terms) × (t ≡ s)). ⊎_elim (λ (g : IsAt terms j s). absurd (fresh j (subst (λ (u : Term). IsAt terms j u) (sym d.1) g)))
        (λ (e : (j ≡ length terms) × (t ≡ s)). d.0 ∙ sym e.0) (at-push terms t s j at_j))
        (at-push terms t s i at_i);
    linked = record {
      as_many = omega (arith, length-append terms (t ∷ []), length-append links (link ∷ []), long);
      bases = λ i s at is.
          ⊎_elim (λ (h : slice_get links i ≡ Some Base). part.linked.bases i s (older i s at (rw (← long) (slice_get_within links i Base h))) h)
          (λ (e : (i ≡ length links) × (link ≡ Base)).
          ⊎_elim (λ (h : IsAt terms i s). absurd (omega (arith, slice_get_within terms i s h, long, e.0)))
          (λ (d : (i ≡ length terms) × (t ≡ s)). subst (λ (u : Term). u.path ≡ []) d.1 (subst (λ (l : Link). LinkFits schema terms t l) e.1 fits)) (at-push terms t s i at))
          (at-push links link Base i is);
      of_terms = λ i of f is.
          ⊎_elim (λ (h : IsImageLink links i of f). omega (arith, part.linked.of_terms i of f h, length-append terms (t ∷ [])))
          (λ (e : (i ≡ length links) × (link ≡ Image of f)).
          let w = fits_image of f e.1 in omega (arith, slice_get_within terms of w.1.0 w.1.1, length-append terms (t ∷ [])))
          (at-push links link (Image of f) i is);
      of_functions = λ i of f is.
          ⊎_elim (λ (h : IsImageLink links i of f). part.linked.of_functions i of f h)
          (λ (e : (i ≡ length links) × (link ≡ Image of f)). (fits_image of f e.1).0)
          (at-push links link (Image of f) i is);
      images = λ i of f s is at.
          ⊎_elim (λ (h : IsImageLink links i of f). grows-push terms t (image_term s f) i (part.linked.images i of f s h (older of s at (part.linked.of_terms i of f h))))
          (λ (e : (i ≡ length links) × (link ≡ Image of f)). last i of f s e at)
          (at-push links link (Image of f) i is);
    };
    few = omega (arith, few, length-append terms (t ∷ []));
  }
    where
      last : (i of : ℕ) (f : FunId) (s : Term) → (i ≡ length links) × (link ≡ Image of f) → IsAt (terms ++ t ∷ []) of s → IsAt (terms ++ t ∷ []) i (image_term s f)
      last i of f s e at =
          let w = fits_image of f e.1 in
          let old : IsAt terms of s = older of s at (slice_get_within terms of w.1.0 w.1.1) in
          let same : w.1.0 ≡ s = some_same (sym w.1.1 ∙ old) in
          let is : t ≡ image_term s f = w.1.2 ∙ ap (λ (u : Term). image_term u f) same in
          subst (λ (m : ℕ). IsAt (terms ++ t ∷ []) m (image_term s f)) (sym (e.0 ∙ long)) (subst (λ (u : Term). IsAt (terms ++ t ∷ []) (length terms) u) is (pushed-at terms t))

pub prefix-known : (schema : SchemaParts) (literals : List Literal) (t : Term) (k : ℕ) → IsTerm schema literals t → IsTerm schema literals (prefix_at t k)
prefix-known schema literals t k h = prefix-term schema literals (prefix_at t k) {p = t} (refl, (drop k t.path, sym (take-append-drop k t.path))) h

prefix_cases : (k n : ℕ) → k ≤ n + 1 → (k ≤ n) ⊎ (k ≡ n + 1)
prefix_cases k n h = grind arith

-- one prefix more
pub prefixes-more : (old new : List Term) (t : Term) (n at : ℕ) → Grows old new → HasPrefixes old t n → IsAt new at (prefix_at t (n + 1)) → HasPrefixes new t (n + 1)
prefixes-more old new t n at grows has here k le =
    ⊎_elim (λ (h : k ≤ n). let p = has k h in (p.0, grows p.0 (prefix_at t k) p.1)) (λ (e : k ≡ n + 1). (at, subst (λ (m : ℕ). IsAt new at (prefix_at t m)) (sym e) here)) (prefix_cases k n le)

pub prefixes-grow : (old new : List Term) (t : Term) (n : ℕ) → Grows old new → HasPrefixes old t n → HasPrefixes new t n
prefixes-grow old new t n grows has k le = let p = has k le in (p.0, grows p.0 (prefix_at t k) p.1)
