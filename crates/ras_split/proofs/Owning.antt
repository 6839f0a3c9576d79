-- What stands for a term by how it is made is one term.
use Rattle.std.proofs.Common.{◌≡◌, ◌≢◌, ℕ, ◌+◌, ◌<◌, ◌≤◌, Bool, true, false, List, [], ◌∷◌, ◌++◌, length, get_or, refl, sym, ◌∙◌, ap, subst, arith, ◌⊎◌, inl, inr, ⊎_elim}
use Rattle.std.specs.Option.{is_some}
use Rattle.std.specs.Prelude.{slice_get, not, Option, Some, None, Result, Ok, Err, IfOk, MatchOption}
use Rattle.std.proofs.lemmas.Option.{slice_get_within, slice_get-get_or}
use Rattle.ras_logic.specs.declared.ids.FunId.{FunId}
use Rattle.ras_logic.specs.declared.term.Base.{Base}
use Rattle.ras_logic.specs.declared.term.Term.{Term}
use Rattle.ras_logic.specs.Formulas.{IsNoParam}
use Rattle.ras_logic.specs.Terms.{base_term, image_term}
use Rattle.ras_closure.specs.declared.link.Link.{Link}
use Rattle.ras_closure.specs.declared.link.Link.TheVariants.{Base as BaseLink, Image}
use Rattle.ras_closure.specs.Numbered.{IsAt, IsTable, IsImageLink, TableParts}
use Rattle.ras_closure.specs.Classes.{class}
use Rattle.ras_closure.specs.Closures.{ClosureParts, IsClosure}
use Rattle.ras_closure.proofs.Prefixes.{same_term}
use Rattle.ras_closure.proofs.Merges.{term_at, at-same, no_snoc}
use Rattle.ras_closure.proofs.Cases.{some_same, none_some, true_false}
use Rattle.ras_split.specs.Standing.{standing, IsOwn, own_base, own_image, HasNoOwn}

pub get_or-same : {X : Type 0} (xs : List X) (i : ℕ) (d e : X) → i < length xs → get_or xs i d ≡ get_or xs i e
get_or-same xs i d e lt = some_same (sym (slice_get-get_or xs i d lt) ∙ slice_get-get_or xs i e lt)

-- what was read at a class stands for its terms
pub index-standing : (c : ClosureParts) → IsClosure c → (terms : List (Option Term)) (i x : ℕ) (o : Option Term) → length terms ≡ length c.table.terms → i < length c.table.terms
    → x ≡ class c.classes i → o ≡ get_or terms x o → o ≡ standing c terms i
index-standing c closure terms i x o long lt is read =
    let low = closure.partial.low i lt in
    read ∙ ap (λ (y : ℕ). get_or terms y o) is ∙ get_or-same terms (class c.classes i) o None (omega arith)

pub some-there : {X : Type 0} (o : Option X) → is_some o ≡ true → (x : X) × (o ≡ Some x)
some-there None e = absurd (true_false (sym e))
some-there (Some x) e = (x, refl)

pub not-false : (b : Bool) → not b ≡ false → b ≡ true
not-false true e = refl
not-false false e = absurd (true_false e)

pub none-there : {X : Type 0} (o : Option X) → is_some o ≡ false → o ≡ None
none-there None e = refl
none-there (Some x) e = absurd (true_false e)

module _ (c : ClosureParts) (table : IsTable c.table) (terms : List (Option Term)) where
  pub own-base_at : (i : ℕ) (t : Term) → IsAt c.table.terms i t → slice_get c.table.links i ≡ Some BaseLink → IsNoParam t.base → IsOwn c terms i t
  own-base_at i t at link free =
      let same : base_term t.base ≡ t = same_term (base_term t.base) t refl (sym (table.links.bases i t at link)) in
      subst (IsOwn c terms i) same (own_base t.base (at ∙ ap (λ (w : Term). Some w) (sym same)) free)

  pub own-base_none : (i : ℕ) (t : Term) → IsAt c.table.terms i t → slice_get c.table.links i ≡ Some BaseLink → (IsNoParam t.base → ⊥) → HasNoOwn c terms i
  own-base_none i t at link named u (own_base b at_b free) = named (subst (λ (w : Term). IsNoParam w.base) (at-same c.table.terms i (base_term b) t at_b at) free)
  own-base_none i t at link named u (own_image of f s q image at_of by) = absurd (two (sym link ∙ image))
    where
      two : Some BaseLink ≡ Some (Image of f) → ⊥
      two e = cc

  same_image : (of of2 : ℕ) (f g : FunId) → Some (Image of f) ≡ Some (Image of2 g) → (of ≡ of2) × (f ≡ g)
  same_image of of2 f g e = (cc, cc)

  base_or_image : (i of : ℕ) (f : FunId) (s : Term) (b : Base) → IsAt c.table.terms i (base_term b) → IsImageLink c.table.links i of f → IsAt c.table.terms of s → ⊥
  base_or_image i of f s b at link at_of =
      let e = at-same c.table.terms i (image_term s f) (base_term b) (table.links.images i of f s link at_of) at in
      no_snoc s.path f (ap (λ (w : Term). w.path) e)

  -- the answer of an image
  pub own-image_at : {E : Type 0} (r : Result (Option Term) E) (i of : ℕ) (f : FunId) (argument : Option Term) → IsImageLink c.table.links i of f → argument ≡ standing c terms of
      → IfOk r (λ o. MatchOption o (argument ≡ None) (λ u. (q : Term) × (argument ≡ Some q) × (u ≡ image_term q f)))
      → IfOk r (λ o. MatchOption o (HasNoOwn c terms i) (IsOwn c terms i))
  own-image_at (Err e) i of f argument link is h = h
  own-image_at (Ok None) i of f argument link is h = nothing
    where
      nothing : HasNoOwn c terms i
      nothing u (own_base b at_b free) = let s = term_at c.table.terms of (table.links.of_terms i of f link) in base_or_image i of f s.0 b at_b link s.1
      nothing u (own_image of2 g s q image at_of by) =
          let same = same_image of of2 f g (sym link ∙ image) in
          none_some (sym h ∙ is ∙ ap (standing c terms) same.0 ∙ by)
  own-image_at (Ok (Some u)) i of f argument link is h =
      let s = term_at c.table.terms of (table.links.of_terms i of f link) in
      subst (IsOwn c terms i) (sym h.2) (own_image of f s.0 h.0 link s.1 (sym is ∙ h.1))

  pub own-unique : (i : ℕ) (u w : Term) → IsOwn c terms i u → IsOwn c terms i w → u ≡ w
  own-unique i u w (own_base b at free) other = of_base other
    where
      of_base : {w : Term} → IsOwn c terms i w → base_term b ≡ w
      of_base (own_base b2 at2 free2) = at-same c.table.terms i (base_term b) (base_term b2) at at2
      of_base (own_image of f s q link at_of by) = absurd (base_or_image i of f s b at link at_of)
  own-unique i u w (own_image of f s q link at_of by) other = of_image other
    where
      of_image : {w : Term} → IsOwn c terms i w → image_term q f ≡ w
      of_image (own_base b at free) = absurd (base_or_image i of f s b at link at_of)
      of_image (own_image of2 g s2 q2 link2 at_of2 by2) =
          let same = same_image of of2 f g (sym link ∙ link2) in
          let one : q ≡ q2 = some_same (sym by ∙ ap (standing c terms) same.0 ∙ by2) in
          ap (λ (x : Term). image_term x f) one ∙ ap (image_term q2) same.1
