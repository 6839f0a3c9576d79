-- What stands for a class is put in its place.
use Rattle.std.proofs.Common.{◌≡◌, ◌≢◌, ℕ, zero, suc, ◌+◌, ◌<◌, ◌≤◌, true, false, List, [], ◌∷◌, ◌++◌, length, get_or, set, refl, sym, ◌∙◌, ap, subst, arith, ◌⊎◌, inl, inr, ⊎_elim, get_or-set_other, get_or-set_same}
use Rattle.std.specs.Prelude.{slice_get, Option, Some, None, MatchOption}
use Rattle.std.proofs.lemmas.Option.{slice_get_within}
use Rattle.std.proofs.Math.ListN.{length-set}
use Rattle.ras_logic.specs.declared.ids.FunId.{FunId}
use Rattle.ras_logic.specs.declared.term.Term.{Term}
use Rattle.ras_logic.specs.Terms.{base_term, image_term}
use Rattle.ras_closure.specs.Numbered.{IsAt, IsTable, IsImageLink}
use Rattle.ras_closure.specs.Classes.{class}
use Rattle.ras_closure.specs.Closures.{ClosureParts, IsClosure, IsFactOf}
use Rattle.ras_closure.proofs.Merges.{term_at, at-same}
use Rattle.ras_closure.proofs.Laws.{classes-together}
use Rattle.ras_closure.proofs.Cases.{some_same, none_some, same_or, below_or_same}
use Rattle.ras_split.specs.declared.standing.Gap.{Gap}
use Rattle.ras_split.specs.Among.{IsAmong}
use Rattle.ras_split.specs.Standing.{a_base, an_image, of_class, StandsIn, standing, AreStanding, IsOwn, own_base, own_image, IsGap, IsFull, AreGapsTo, FillsGap, Fills}
use Rattle.ras_split.proofs.Listed.{among-more, among-last, among-either, among-none}

-- how many classes have none
abbrev pub vacant : List (Option Term) → ℕ
vacant [] = 0
vacant (None ∷ terms) = vacant terms + 1
vacant (Some t ∷ terms) = vacant terms

-- where what was there stays there are no more vacant ones, and fewer where one is filled
vacant-below : (old new : List (Option Term)) → length new ≡ length old → ((k : ℕ) (r : Term) → get_or old k None ≡ Some r → (q : Term) × (get_or new k None ≡ Some q))
    → vacant new ≤ vacant old
vacant-below [] [] long kept = omega arith
vacant-below [] (n ∷ new) long kept = absurd (omega (arith, long))
vacant-below (o ∷ old) [] long kept = absurd (omega (arith, long))
vacant-below (None ∷ old) (None ∷ new) long kept = let h = vacant-below old new (omega (arith, long)) (λ k r e. kept (suc k) r e) in omega (arith, h)
vacant-below (None ∷ old) (Some t ∷ new) long kept = let h = vacant-below old new (omega (arith, long)) (λ k r e. kept (suc k) r e) in omega (arith, h)
vacant-below (Some u ∷ old) (None ∷ new) long kept = let q = kept 0 u refl in absurd (none_some q.1)
vacant-below (Some u ∷ old) (Some t ∷ new) long kept = vacant-below old new (omega (arith, long)) (λ k r e. kept (suc k) r e)

vacant-less : (old new : List (Option Term)) → length new ≡ length old → ((k : ℕ) (r : Term) → get_or old k None ≡ Some r → (q : Term) × (get_or new k None ≡ Some q))
    → (k : ℕ) → k < length old → get_or old k None ≡ None → (q : Term) → get_or new k None ≡ Some q → vacant new < vacant old
vacant-less [] new long kept k lt none q some = absurd (omega (arith, lt))
vacant-less (o ∷ old) [] long kept k lt none q some = absurd (omega (arith, long))
vacant-less (None ∷ old) (Some t ∷ new) long kept zero lt none q some = let h = vacant-below old new (omega (arith, long)) (λ k r e. kept (suc k) r e) in omega (arith, h)
vacant-less (None ∷ old) (None ∷ new) long kept zero lt none q some = absurd (none_some some)
vacant-less (Some u ∷ old) new long kept zero lt none q some = absurd (none_some (sym none))
vacant-less (None ∷ old) (None ∷ new) long kept (suc k) lt none q some =
    let h = vacant-less old new (omega (arith, long)) (λ j r e. kept (suc j) r e) k (omega (arith, lt)) none q some in omega (arith, h)
vacant-less (None ∷ old) (Some t ∷ new) long kept (suc k) lt none q some =
    let h = vacant-less old new (omega (arith, long)) (λ j r e. kept (suc j) r e) k (omega (arith, lt)) none q some in omega (arith, h)
vacant-less (Some u ∷ old) (None ∷ new) long kept (suc k) lt none q some = let p = kept 0 u refl in absurd (none_some p.1)
vacant-less (Some u ∷ old) (Some t ∷ new) long kept (suc k) lt none q some =
    vacant-less old new (omega (arith, long)) (λ j r e. kept (suc j) r e) k (omega (arith, lt)) none q some

-- the gaps of no terms, and of one more
pub gaps-start : (c : ClosureParts) (terms : List (Option Term)) → AreGapsTo c terms 0 []
gaps-start c terms = record { each = λ g h. absurd (among-none g h); full = λ none i lt. absurd (omega (arith, lt)) }

pub gaps-on : (c : ClosureParts) (terms : List (Option Term)) (n : ℕ) (gaps new : List Gap) (o : Option Gap) → AreGapsTo c terms n gaps → MatchOption o (IsFull c terms n) (IsGap c terms)
    → MatchOption o (new ≡ gaps) (λ g. new ≡ gaps ++ g ∷ []) → AreGapsTo c terms (n + 1) new
gaps-on c terms n gaps new None are full is = record {
  each = λ g h. are.each g (subst (λ (gs : List Gap). IsAmong gs g) is h);
  full = λ none i lt. ⊎_elim (λ (below : i < n). are.full (sym (ap (λ (gs : List Gap). length gs) is) ∙ none) i below)
      (λ (here : i ≡ n). subst (IsFull c terms) (sym here) full) (below_or_same i n lt);
}
gaps-on c terms n gaps new (Some g) are gap is = record {
  each = λ x h. ⊎_elim (λ (b : IsAmong gaps x). are.each x b) (λ (e : x ≡ g). subst (IsGap c terms) (sym e) gap) (among-either gaps g x (subst (λ (gs : List Gap). IsAmong gs x) is h));
  full = λ none. absurd (no-push gaps g (sym (ap (λ (gs : List Gap). length gs) is) ∙ none));
}
  where
    no-push : (gs : List Gap) (x : Gap) → length (gs ++ x ∷ []) ≡ 0 → ⊥
    no-push [] x e = absurd (omega (arith, e))
    no-push (y ∷ gs) x e = absurd (omega (arith, e))

-- a gap is filled, or was
pub fills-gap : (old : List (Option Term)) (g : Gap) → g.class < length old → get_or old g.class None ≡ None → FillsGap old g (set old g.class (Some g.term))
fills-gap old g lt none = record {
  long = length-set old g.class (Some g.term);
  kept = λ k r e. ⊎_elim (λ (here : k ≡ g.class). absurd (none_some (sym none ∙ sym (ap (λ (x : ℕ). get_or old x None) here) ∙ e)))
      (λ (other : k ≢ g.class). get_or-set_other old g.class k (Some g.term) None other ∙ e) (same_or k g.class);
  filled = (g.term, get_or-set_same old g.class (Some g.term) None lt);
  only = λ k r e. ⊎_elim
      (λ (here : k ≡ g.class). inr (sym here, some_same (sym (get_or-set_same old g.class (Some g.term) None lt) ∙ ap (λ (x : ℕ). get_or (set old g.class (Some g.term)) x None) (sym here) ∙ e)))
      (λ (other : k ≢ g.class). inl (sym (get_or-set_other old g.class k (Some g.term) None other) ∙ e)) (same_or k g.class);
}

pub filled-already : (old : List (Option Term)) (g : Gap) (r : Term) → get_or old g.class None ≡ Some r → FillsGap old g old
filled-already old g r e = record { long = refl; kept = λ k q h. h; filled = (r, e); only = λ k q h. inl h }

pub fills-start : (old : List (Option Term)) → Fills old [] old
fills-start old = record { long = refl; kept = λ k r e. e; filled = λ g h. absurd (among-none g h); only = λ k r e. inl e }

pub fills-on : (old mid new : List (Option Term)) (gaps : List Gap) (g : Gap) → Fills old gaps mid → FillsGap mid g new → Fills old (gaps ++ g ∷ []) new
fills-on old mid new gaps g first next = record {
  long = next.long ∙ first.long;
  kept = λ k r e. next.kept k r (first.kept k r e);
  filled = λ h among. ⊎_elim (λ (b : IsAmong gaps h). let r = first.filled h b in (r.0, next.kept h.class r.0 r.1))
      (λ (e : h ≡ g). (next.filled.0, ap (λ (x : Gap). get_or new x.class None) e ∙ next.filled.1)) (among-either gaps g h among);
  only = λ k r e. ⊎_elim
      (λ (m : get_or mid k None ≡ Some r). ⊎_elim (λ (o : get_or old k None ≡ Some r). inl o) (λ h. inr (h.0, among-more gaps g h.0 h.1, h.2, h.3)) (first.only k r m))
      (λ h. inr (g, among-last gaps g, h.0, h.1)) (next.only k r e);
}

pub none-yet : (terms : List (Option Term)) (k : ℕ) → ((j : ℕ) → j < length terms → get_or terms j None ≡ None) → get_or terms k None ≡ None
none-yet [] k h = refl
none-yet (o ∷ terms) zero h = h 0 (omega arith)
none-yet (o ∷ terms) (suc k) h = none-yet terms k (λ j lt. h (suc j) (omega arith))

module _ (c : ClosureParts) (table : IsTable c.table) (closure : IsClosure c) (terms : List (Option Term)) (are : AreStanding c terms) where
  -- what a term has by how it is made stands for it
  pub own-stands : (i : ℕ) (t u : Term) → IsAt c.table.terms i t → IsOwn c terms i u → StandsIn c t u
  own-stands i t u at (own_base b at_b free) =
      subst (λ (s : Term). StandsIn c s (base_term b)) (at-same c.table.terms i (base_term b) t at_b at) (a_base b (table.terms.known i (base_term b) at_b) free)
  own-stands i t u at (own_image of f s q link at_of by) =
      let at_i = table.links.images i of f s link at_of in
      subst (λ (w : Term). StandsIn c w (image_term q f)) (at-same c.table.terms i (image_term s f) t at_i at)
      (an_image s q f (are.sound of s q at_of by) (table.terms.known i (image_term s f) at_i))

  pub gap-within : (g : Gap) → IsGap c terms g → g.class < length terms
  gap-within g gap = let low = closure.partial.low gap.i gap.within in let e = gap.class_is in let m = are.as_many in let w = gap.within in omega arith

  -- where gaps are filled, what is there stands for its terms, and fewer classes are vacant
  pub gaps-filled : (gaps : List Gap) (new : List (Option Term)) → ((g : Gap) → IsAmong gaps g → IsGap c terms g) → Fills terms gaps new → AreStanding c new
  gaps-filled gaps new each fills = record {
    as_many = fills.long ∙ are.as_many;
    sound = λ i t r at e. ⊎_elim (λ (old : get_or terms (class c.classes i) None ≡ Some r). are.sound i t r at old)
        (λ h. here i t r at h.0 (each h.0 h.1) h.2 h.3) (fills.only (class c.classes i) r e);
  }
    where
      here : (i : ℕ) (t r : Term) → IsAt c.table.terms i t → (g : Gap) → IsGap c terms g → g.class ≡ class c.classes i → g.term ≡ r → StandsIn c t r
      here i t r at g gap same is =
          let s = term_at c.table.terms gap.i gap.within in
          let together = (classes-together c table closure gap.i i s.0 t s.1 at).0 (sym gap.class_is ∙ same) in
          subst (λ (w : Term). StandsIn c t w) is (of_class s.0 t g.term together (own-stands gap.i s.0 g.term s.1 gap.own))

  pub gaps-fewer : (gaps : List Gap) (new : List (Option Term)) → ((g : Gap) → IsAmong gaps g → IsGap c terms g) → Fills terms gaps new → (length gaps ≡ 0 → ⊥)
      → vacant new < vacant terms
  gaps-fewer gaps new each fills some =
      let g = first gaps some in
      let gap = each g.0 g.1 in
      let r = fills.filled g.0 g.1 in
      vacant-less terms new fills.long (λ k q e. (q, fills.kept k q e)) g.0.class (gap-within g.0 gap) (ap (λ (x : ℕ). get_or terms x None) gap.class_is ∙ gap.none) r.0 r.1
    where
      first : (gs : List Gap) → (length gs ≡ 0 → ⊥) → (g : Gap) × IsAmong gs g
      first [] h = absurd (h refl)
      first (g ∷ gs) h = (g, record { number = 0; known = refl })

-- at the start nothing stands for any class
pub standing-start : (c : ClosureParts) (terms : List (Option Term)) → length terms ≡ length c.table.terms → ((j : ℕ) → j < length terms → get_or terms j None ≡ None) → AreStanding c terms
standing-start c terms long none = record { as_many = long; sound = λ i t r at e. absurd (none_some (sym (none-yet terms (class c.classes i) none) ∙ e)) }
