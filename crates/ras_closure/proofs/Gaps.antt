-- The images of elements, and the spare elements for those that are missing.
use Rattle.std.proofs.Common.{◌≡◌, ◌≢◌, ℕ, zero, suc, ◌+◌, ◌-◌, ◌<◌, ◌≤◌, Bool, true, false, List, [], ◌∷◌, ◌++◌, length, get_or, set, cond, refl, sym, ◌∙◌, ap, subst, arith, ◌⊎◌, inl, inr, ⊎_elim, length-append, get_or-set_other, get_or-set_same}
use Rattle.std.specs.Prelude.{slice_get, Option, Some, None, MatchOption, MatchBool}
use Rattle.std.specs.Bool.{OnTrue, OnFalse}
use Rattle.std.proofs.lemmas.Option.{slice_get_within}
use Rattle.std.proofs.lemmas.List.{get_or_append_left, get_or_push, get_or_past}
use Rattle.std.proofs.Math.ListN.{length-set}
use Rattle.ras_logic.specs.declared.ids.FunId.{FunId}
use Rattle.ras_logic.specs.declared.ids.SortId.{SortId}
use Rattle.ras_logic.specs.declared.function.FunDecl.{FunDecl}
use Rattle.ras_logic.specs.Terms.{image_term}
use Rattle.ras_closure.specs.declared.link.Link.TheVariants.{Image}
use Rattle.ras_closure.specs.Numbered.{TableParts, IsTable, IsImageLink}
use Rattle.ras_closure.specs.Images.{HasNoImage, IsImageAt, IsFoundImage, AreImages}
use Rattle.ras_closure.specs.Models.{IsImage, IsTableOf}
use Rattle.ras_closure.specs.Elements.{number, count, AreSorted, AreNumbered, HaveElements}
use Rattle.ras_closure.specs.Spares.{IsLacking, AreLacking, NeedsSpare, IsNeeded, AreSpared, AreSpares, sized}
use Rattle.ras_logic.proofs.SameSorts.{image-source}
use Rattle.ras_closure.proofs.Merges.{term_at, table-sorted}
use Rattle.ras_closure.proofs.FoundImages.{image-found, image-none}
use Rattle.ras_closure.proofs.Models.{AreNumbers}
use Rattle.ras_closure.proofs.Cases.{below_or_same, same_or, below_or, le_or, some_same, none_some, true_false}

-- how many are false
abbrev pub unset : List Bool → ℕ
unset [] = 0
unset (true ∷ bs) = unset bs
unset (false ∷ bs) = unset bs + 1

-- the images of the first elements
pub record AreFirstImages (t : TableParts) (numbers counts : List ℕ) (spares : List Bool) (f : FunId) (decl : FunDecl) (n : ℕ) (table : List ℕ) : Type 0 where
  pub long : length table ≡ n
  pub images : (k : ℕ) → k < n → IsImage t.terms (number numbers) (sized counts spares) f decl (k + 1) (get_or table k 0)

option_more : {X : Type 0} (o : Option X) (P P2 : Type 0) (Q : X → Type 0) → MatchOption o P Q → (P → P2) → MatchOption o P2 Q
option_more None P P2 Q h f = f h
option_more (Some x) P P2 Q h f = h

module _ (t : TableParts) (numbers : List ℕ) (f : FunId) (k : ℕ) (images : List (Option ℕ)) (so_far : AreImages t numbers f k images) where
  -- the term k gives no image of these elements
  none_more : (x : ℕ) → (IsImageAt t (number numbers) f (x + 1) k → ⊥) → x < length images
      → MatchOption (get_or images x None) ((j : ℕ) → j < k + 1 → IsImageAt t (number numbers) f (x + 1) j → ⊥) (IsFoundImage t numbers f (x + 1))
  none_more x none lt =
      option_more (get_or images x None) ((j : ℕ) → j < k → IsImageAt t (number numbers) f (x + 1) j → ⊥) ((j : ℕ) → j < k + 1 → IsImageAt t (number numbers) f (x + 1) j → ⊥)
      (IsFoundImage t numbers f (x + 1)) (so_far.each x lt)
      (λ before j lt_j at. ⊎_elim (λ (h : j < k). before j h at) (λ (e : j ≡ k). none (subst (IsImageAt t (number numbers) f (x + 1)) e at)) (below_or_same j k lt_j))

  pub images-skip : ((of : ℕ) → IsImageLink t.links k of f → ⊥) → AreImages t numbers f (k + 1) images
  images-skip no_link = record { each = λ x lt. none_more x (λ at. no_link at.of at.link) lt }

  of_same : (of of2 : ℕ) → IsImageLink t.links k of f → IsImageLink t.links k of2 f → of ≡ of2
  of_same of of2 a b = inner (some_same (sym a ∙ b))
    where
      inner : Image of f ≡ Image of2 f → of ≡ of2
      inner e = cc

  pub images-outside : (of : ℕ) → IsImageLink t.links k of f → (number numbers of ≡ 0) ⊎ (length images < number numbers of) → AreImages t numbers f (k + 1) images
  images-outside of link outside = record {
    each = λ x lt. none_more x (λ at.
        let same = of_same at.of of at.link link in
        let e : number numbers of ≡ x + 1 = ap (number numbers) (sym same) ∙ at.argument in
        ⊎_elim (λ (h : number numbers of ≡ 0). omega (arith, e, h)) (λ (h : length images < number numbers of). omega (arith, e, h, lt)) outside) lt;
  }

  pub images-put : (of at : ℕ) → IsImageLink t.links k of f → number numbers of ≡ at + 1 → at < length images → AreImages t numbers f (k + 1) (set images at (Some (number numbers k)))
  images-put of at link is lt_at = record {
    each = λ x lt.
        let old : x < length images = rw (← length-set images at (Some (number numbers k))) lt in
        ⊎_elim
        (λ (e : x ≡ at). subst (λ (o : Option ℕ). MatchOption o ((j : ℕ) → j < k + 1 → IsImageAt t (number numbers) f (x + 1) j → ⊥) (IsFoundImage t numbers f (x + 1)))
        (sym (ap (λ (y : ℕ). get_or (set images at (Some (number numbers k))) y None) e ∙ get_or-set_same images at (Some (number numbers k)) None lt_at))
        (record { k = k; at = record { of = of; link = link; argument = is ∙ ap (λ (y : ℕ). y + 1) (sym e) }; element = refl }))
        (λ (h : x ≢ at). subst (λ (o : Option ℕ). MatchOption o ((j : ℕ) → j < k + 1 → IsImageAt t (number numbers) f (x + 1) j → ⊥) (IsFoundImage t numbers f (x + 1)))
        (sym (get_or-set_other images at x (Some (number numbers k)) None h))
        (none_more x (λ found. h (apart x at (sym found.argument ∙ ap (number numbers) (of_same found.of of found.link link) ∙ is))) old))
        (same_or x at);
  }
    where
      apart : (a b : ℕ) → a + 1 ≡ b + 1 → a ≡ b
      apart a b e = omega (arith, e)

-- nothing was found yet
pub images-none : (t : TableParts) (numbers : List ℕ) (f : FunId) (images : List (Option ℕ)) → ((x : ℕ) → x < length images → get_or images x None ≡ None) → AreImages t numbers f 0 images
images-none t numbers f images none = record {
  each = λ x lt. subst (λ (o : Option ℕ). MatchOption o ((j : ℕ) → j < 0 → IsImageAt t (number numbers) f (x + 1) j → ⊥) (IsFoundImage t numbers f (x + 1))) (sym (none x lt)) (λ j lt_j at. omega (arith, lt_j));
}

pub numbered-elements : (t : TableParts) (classes numbers counts : List ℕ) → IsTable t → AreNumbered t classes numbers counts (length t.terms) → HaveElements t numbers counts
numbered-elements t classes numbers counts table numbered = record {
  long = numbered.long;
  sorts = numbered.sorts;
  few = λ s. let f = numbered.few s in omega (arith, f, table.few);
  within = λ i s sort at is. numbered.within i s sort (slice_get_within t.terms i s at) at is;
}

module _ (t : TableParts) (table : IsTable t) (numbers counts : List ℕ) (elements : HaveElements t numbers counts) (f : FunId) (decl : FunDecl) where
  -- an element beyond the classes has no image
  pub beyond-none : slice_get t.shape.schema.functions f.n ≡ Some decl → (x : ℕ) → count counts decl.source < x → HasNoImage t.terms (number numbers) f x
  beyond-none known x beyond i k s at_i at_k e =
      let h = table-sorted t table k (image_term s f) at_k in
      let source = image-source t.shape t.problem.rows t.problem.params s f decl h.sort known h.is_sort in
      let le = elements.within i s decl.source at_i source.0 in
      omega (arith, le, e, beyond)

  module _ (images : List (Option ℕ)) (found : AreImages t numbers f (length t.terms) images) where
    missing-none : (x : ℕ) → x < length images → get_or images x None ≡ None → HasNoImage t.terms (number numbers) f (x + 1)
    missing-none x lt e =
        image-none t table (number numbers) f (x + 1)
        (subst (λ (o : Option ℕ). MatchOption o ((k : ℕ) → k < length t.terms → IsImageAt t (number numbers) f (x + 1) k → ⊥) (IsFoundImage t numbers f (x + 1))) e (found.each x lt))

    found-some : (x y : ℕ) → x < length images → get_or images x None ≡ Some y → IsFoundImage t numbers f (x + 1) y
    found-some x y lt e =
        subst (λ (o : Option ℕ). MatchOption o ((k : ℕ) → k < length t.terms → IsImageAt t (number numbers) f (x + 1) k → ⊥) (IsFoundImage t numbers f (x + 1))) e (found.each x lt)

    pub gap-lacking : decl.total ≡ true → length images ≡ count counts decl.source → (x : ℕ) × (x < length images) × (get_or images x None ≡ None) → IsLacking t numbers counts f decl
    gap-lacking total long gap = record { total = total; x = gap.0 + 1; above = omega arith; within = omega (arith, gap.1, long); none = missing-none gap.0 gap.1 gap.2 }

    pub full-not_lacking : length images ≡ count counts decl.source → ((x : ℕ) → x < length images → get_or images x None ≡ None → ⊥) → IsLacking t numbers counts f decl → ⊥
    full-not_lacking long full lacks = go (lacks.x - 1) (omega (arith, lacks.above)) (get_or images (lacks.x - 1) None) refl
      where
        go : (x : ℕ) → lacks.x ≡ x + 1 → (o : Option ℕ) → get_or images x None ≡ o → ⊥
        go x is None e = full x (omega (arith, is, lacks.within, long)) e
        go x is (Some y) e =
            let lt : x < length images = omega (arith, is, lacks.within, long) in
            let h = found-some x y lt e in
            let s = term_at t.terms h.at.of (table.links.of_terms h.k h.at.of f h.at.link) in
            lacks.none h.at.of h.k s.0 s.1 (table.links.images h.k h.at.of f s.0 h.at.link s.1) (h.at.argument ∙ sym is)

    -- the image of an element, found or missing
    pub image-is : (spares : List Bool) → slice_get t.shape.schema.functions f.n ≡ Some decl → length images ≡ count counts decl.source → (k y missing : ℕ)
        → missing ≡ cond decl.total (sized counts spares decl.target) 0 → MatchOption (get_or images k None) (y ≡ missing) (λ z. y ≡ z)
        → IsImage t.terms (number numbers) (sized counts spares) f decl (k + 1) y
    image-is spares known long k y missing is answer = go (below_or k (length images)) (get_or images k None) refl answer
      where
        go : (k < length images) ⊎ (length images ≤ k) → (o : Option ℕ) → get_or images k None ≡ o → MatchOption o (y ≡ missing) (λ z. y ≡ z)
            → IsImage t.terms (number numbers) (sized counts spares) f decl (k + 1) y
        go (inl lt) None e h = inr (missing-none k lt e, h ∙ is)
        go (inl lt) (Some z) e h =
            let found_it = found-some k z lt e in
            image-found t table (number numbers) f (k + 1) (sized counts spares) decl found_it.k y found_it.at (h ∙ found_it.element)
        go (inr beyond) None e h = inr (beyond-none known (k + 1) (omega (arith, beyond, long)), h ∙ is)
        go (inr beyond) (Some z) e h = absurd (none_some (sym (get_or_past images k None beyond) ∙ e))

-- one more function is lacking or not
pub lacking-more : (t : TableParts) (numbers counts : List ℕ) (lacking : List Bool) (b : Bool) (k : ℕ) (decl : FunDecl) → length lacking ≡ k → AreLacking t numbers counts lacking
    → slice_get t.shape.schema.functions k ≡ Some decl
    → MatchBool b (IsLacking t numbers counts (record { n = k }) decl) (IsLacking t numbers counts (record { n = k }) decl → ⊥) → AreLacking t numbers counts (lacking ++ b ∷ [])
lacking-more t numbers counts lacking b k decl long are known is = record {
  each = λ f d lt f_known.
      ⊎_elim (λ (below : f.n < length lacking).
      subst (λ (x : Bool). MatchBool x (IsLacking t numbers counts f d) (IsLacking t numbers counts f d → ⊥)) (sym (get_or_append_left lacking (b ∷ []) false f.n below)) (are.each f d below f_known))
      (λ (here : f.n ≡ length lacking). last f d (here ∙ long) f_known) (below_or_same f.n (length lacking) (rw (← length-append lacking (b ∷ [])) lt));
}
  where
    last : (f : FunId) (d : FunDecl) → f.n ≡ k → slice_get t.shape.schema.functions f.n ≡ Some d
        → MatchBool (get_or (lacking ++ b ∷ []) f.n false) (IsLacking t numbers counts f d) (IsLacking t numbers counts f d → ⊥)
    last f d e f_known =
        let same : decl ≡ d = some_same (sym known ∙ subst (λ (m : ℕ). slice_get t.shape.schema.functions m ≡ Some d) e f_known) in
        subst (λ (x : Bool). MatchBool x (IsLacking t numbers counts f d) (IsLacking t numbers counts f d → ⊥)) (sym (get_or_push lacking b false f.n (long ∙ sym e)))
        (subst (λ (q : FunDecl). MatchBool b (IsLacking t numbers counts f q) (IsLacking t numbers counts f q → ⊥)) same
        (subst (λ (m : ℕ). MatchBool b (IsLacking t numbers counts (record { n = m }) decl) (IsLacking t numbers counts (record { n = m }) decl → ⊥)) (sym e) is))

-- one function more is spared
pub spared-more : (functions : List FunDecl) (lacking spares : List Bool) (k : ℕ) (decl : FunDecl) → slice_get functions k ≡ Some decl → AreSpared functions lacking spares k
    → (NeedsSpare (get_or lacking k false) spares decl → get_or spares decl.target.n false ≡ true) → AreSpared functions lacking spares (k + 1)
spared-more functions lacking spares k decl known before here f d lt f_known needs =
    ⊎_elim (λ (h : f < k). before f d h f_known needs)
    (λ (e : f ≡ k).
    let same : d ≡ decl = some_same (sym f_known ∙ subst (λ (m : ℕ). slice_get functions m ≡ Some decl) (sym e) known) in
    ap (λ (q : FunDecl). get_or spares q.target.n false) same
    ∙ here (subst (λ (q : FunDecl). NeedsSpare (get_or lacking k false) spares q) same (subst (λ (m : ℕ). NeedsSpare (get_or lacking m false) spares d) e needs)))
    (below_or_same f k lt)

-- one more spare element: what was there is, and fewer are not there
set-kept : (spares : List Bool) (s k : ℕ) → s < length spares → get_or spares k false ≡ true → get_or (set spares s true) k false ≡ true
set-kept spares s k lt e =
    ⊎_elim (λ (h : k ≡ s). ap (λ (m : ℕ). get_or (set spares s true) m false) h ∙ get_or-set_same spares s true false lt)
    (λ (h : k ≢ s). get_or-set_other spares s k true false h ∙ e) (same_or k s)

needs-kept : (lacking : Bool) (spares : List Bool) (s : ℕ) (decl : FunDecl) → s < length spares → NeedsSpare lacking spares decl → NeedsSpare lacking (set spares s true) decl
needs-kept lacking spares s decl lt h = record {
  total = h.total;
  reason = ⊎_elim (λ (e : lacking ≡ true). inl e) (λ (e : get_or spares decl.source.n false ≡ true). inr (set-kept spares s decl.source.n lt e)) h.reason;
}

pub needed-more : (functions : List FunDecl) (lacking spares : List Bool) (s : ℕ) → s < length spares → ((sort : ℕ) → get_or spares sort false ≡ true → IsNeeded functions lacking spares sort)
    → IsNeeded functions lacking spares s → (sort : ℕ) → get_or (set spares s true) sort false ≡ true → IsNeeded functions lacking (set spares s true) sort
needed-more functions lacking spares s lt before here sort e =
    ⊎_elim (λ (h : sort ≡ s). kept sort (subst (IsNeeded functions lacking spares) (sym h) here))
    (λ (h : sort ≢ s). kept sort (before sort (sym (get_or-set_other spares s sort true false h) ∙ e))) (same_or sort s)
  where
    kept : (q : ℕ) → IsNeeded functions lacking spares q → IsNeeded functions lacking (set spares s true) q
    kept q n = record { f = n.f; decl = n.decl; known = n.known; target = n.target; needs = needs-kept (get_or lacking n.f false) spares s n.decl lt n.needs }

pub unset-set : (spares : List Bool) (s : ℕ) → s < length spares → get_or spares s false ≡ false → unset (set spares s true) < unset spares
unset-set [] s lt e = absurd (omega (arith, lt))
unset-set (true ∷ bs) zero lt e = absurd (true_false e)
unset-set (false ∷ bs) zero lt e = omega arith
unset-set (true ∷ bs) (suc s) lt e = unset-set bs s (omega (arith, lt)) e
unset-set (false ∷ bs) (suc s) lt e = let h = unset-set bs s (omega (arith, lt)) e in omega (arith, h)

-- the elements of classes and the spare ones are elements for terms
pub small-numbers : (t : TableParts) (table : IsTable t) (classes numbers counts : List ℕ) (lacking spares : List Bool) → AreSorted t classes → AreNumbered t classes numbers counts (length t.terms)
    → length lacking ≡ length t.shape.schema.functions → AreLacking t numbers counts lacking → AreSpares t lacking spares
    → AreNumbers t.shape t.problem.rows t.problem.params t.terms classes (number numbers) (sized counts spares)
small-numbers t table classes numbers counts lacking spares lawful numbered all lack spared = record {
  same = λ i j lt_i lt_j e. numbered.same i lt_i ∙ ap (number numbers) e ∙ sym (numbered.same j lt_j);
  apart = λ i j s u sort at_i at_j is_i is_j e. numbered.apart i j s u sort (slice_get_within t.terms i s at_i) (slice_get_within t.terms j u at_j) at_i at_j is_i is_j e;
  undefs = λ s lt.
      let here = slice_get_within t.terms s.n _ (table.terms.undefs s lt) in
      let own = lawful.rigid s.n (omega (arith, lt)) in
      numbered.undef s.n here (rw own lt);
  within = λ i s sort at is. let le = numbered.within i s sort (slice_get_within t.terms i s at) at is in omega (arith, le);
  room = λ f decl known total x lt le none.
      let within = slice_get_within t.shape.schema.functions f.n decl known in
      let spare = spared.spared f.n decl within known (record { total = total; reason = reason f decl known total x lt le none }) in
      spare-room decl.target spare;
}
  where
    spare-room : (s : SortId) → get_or spares s.n false ≡ true → 0 < sized counts spares s
    spare-room s e = rw e (omega arith)

    reason : (f : FunId) (decl : FunDecl) → slice_get t.shape.schema.functions f.n ≡ Some decl → decl.total ≡ true → (x : ℕ) → 0 < x → x ≤ sized counts spares decl.source
        → HasNoImage t.terms (number numbers) f x → (get_or lacking f.n false ≡ true) ⊎ (get_or spares decl.source.n false ≡ true)
    reason f decl known total x lt le none =
        ⊎_elim (λ (h : x ≤ count counts decl.source). inl (is_lacking (get_or lacking f.n false) (lack.each f decl (rw all (slice_get_within t.shape.schema.functions f.n decl known)) known)
        (record { total = total; x = x; above = lt; within = h; none = none })))
        (λ (h : count counts decl.source < x). inr (is_spare (get_or spares decl.source.n false) refl h)) (le_or x (count counts decl.source))
      where
        is_lacking : (b : Bool) → MatchBool b (IsLacking t numbers counts f decl) (IsLacking t numbers counts f decl → ⊥) → IsLacking t numbers counts f decl → b ≡ true
        is_lacking true h l = refl
        is_lacking false h l = absurd (h l)

        is_spare : (b : Bool) → get_or spares decl.source.n false ≡ b → count counts decl.source < x → b ≡ true
        is_spare true e h = refl
        is_spare false e h = absurd (let le2 = rw e at le in omega (arith, le2, h))

-- one image more
pub first-more : (t : TableParts) (numbers counts : List ℕ) (spares : List Bool) (f : FunId) (decl : FunDecl) (n y : ℕ) (table : List ℕ) → AreFirstImages t numbers counts spares f decl n table
    → IsImage t.terms (number numbers) (sized counts spares) f decl (n + 1) y → AreFirstImages t numbers counts spares f decl (n + 1) (table ++ y ∷ [])
first-more t numbers counts spares f decl n y table so_far here = record {
  long = length-append table (y ∷ []) ∙ ap (λ (m : ℕ). m + 1) so_far.long;
  images = λ k lt.
      ⊎_elim
      (λ (h : k < n). subst (λ (z : ℕ). IsImage t.terms (number numbers) (sized counts spares) f decl (k + 1) z) (sym (get_or_append_left table (y ∷ []) 0 k (rw so_far.long h))) (so_far.images k h))
      (λ (e : k ≡ n). subst (λ (z : ℕ). IsImage t.terms (number numbers) (sized counts spares) f decl (k + 1) z) (sym (get_or_push table y 0 k (so_far.long ∙ sym e)))
      (subst (λ (m : ℕ). IsImage t.terms (number numbers) (sized counts spares) f decl (m + 1) y) (sym e) here))
      (below_or_same k n lt);
}

pub first-table : (t : TableParts) (numbers counts : List ℕ) (spares : List Bool) (f : FunId) (decl : FunDecl) (n : ℕ) (table : List ℕ) → n ≡ sized counts spares decl.source
    → AreFirstImages t numbers counts spares f decl n table → IsTableOf t.terms (number numbers) (sized counts spares) f decl table
first-table t numbers counts spares f decl n table all done = record { long = done.long ∙ all; images = λ k lt. done.images k (rw (← done.long) lt) }

-- a function is lacking just where an image was not found
pub gap-answer : (t : TableParts) → IsTable t → (numbers counts : List ℕ) → HaveElements t numbers counts → (f : FunId) (decl : FunDecl) (images : List (Option ℕ)) → AreImages t numbers f (length t.terms) images
    → decl.total ≡ true → length images ≡ count counts decl.source → (b : Bool) → OnTrue b ((x : ℕ) × (x < length images) × (get_or images x None ≡ None))
    → OnFalse b ((x : ℕ) → x < length images → get_or images x None ≡ None → ⊥) → MatchBool b (IsLacking t numbers counts f decl) (IsLacking t numbers counts f decl → ⊥)
gap-answer t table numbers counts elements f decl images found total long true gap full = gap-lacking t table numbers counts elements f decl images found total long gap
gap-answer t table numbers counts elements f decl images found total long false gap full = full-not_lacking t table numbers counts elements f decl images found long full
