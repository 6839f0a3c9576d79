-- Laws of the terms that the entries of a table stand for.
use Rattle.std.proofs.Common.{◌≡◌, ℕ, zero, suc, ◌+◌, ◌<◌, List, [], ◌∷◌, ◌++◌, length, get_or, take, refl, sym, ◌∙◌, ap, subst, arith, ◌⊎◌, inl, inr, ⊎_elim, append_assoc, add-zero}
use Rattle.std.specs.Prelude.{slice_get, Some}
use Rattle.std.proofs.lemmas.Option.{none-some, same_Some, slice_get_within, slice_get-get_or, get_or_from_slice_get}
use Rattle.std.proofs.lemmas.List.{length_push, append-nil, take_all, take_more}
use Rattle.ras_logic.specs.declared.ids.FunId.{FunId}
use Rattle.ras_logic.specs.declared.term.Base as base
use Rattle.ras_logic.specs.declared.term.Base.TheVariants.{Param}
use Rattle.ras_logic.specs.declared.term.Term.{Term}
use Rattle.ras_logic.specs.Terms.{base_term, image_term}
use Rattle.ras_logic.specs.Clashes.{IsPrefixOf}
use Rattle.ras_refute.specs.declared.entry.Entry.{Entry}
use Rattle.ras_refute.specs.declared.entry.Entry.TheVariants.{Root, Image}
use Rattle.ras_refute.specs.Tables.{term_of, terms_after, terms_of, IsAt, EntryFits, IsTable, Adds, AddsEntry, AddsTerm}
use Rattle.ras_refute.proofs.Lists.{at-push, grows-push, pushed-at}

-- what stands for an argument that is missing
abbrev nothing : Term
nothing = base_term (Param 0)

-- the term of an entry over more terms
term_of-kept : (ts us : List Term) (e : Entry) → ((i : ℕ) (t : Term) → slice_get ts i ≡ Some t → slice_get us i ≡ Some t)
    → ((of : ℕ) (f : FunId) → e ≡ Image of f → of < length ts) → term_of ts e ≡ term_of us e
term_of-kept ts us (Root b) keeps within = refl
term_of-kept ts us (Image of f) keeps within =
    let t : Term = get_or ts of nothing in
    let at : slice_get ts of ≡ Some t = slice_get-get_or ts of nothing (within of f refl) in
    ap (λ (s : Term). image_term s f) (sym (get_or_from_slice_get us of t nothing (keeps of t at)))

terms_after-keeps : (ts : List Term) (es : List Entry) (i : ℕ) (t : Term) → slice_get ts i ≡ Some t → slice_get (terms_after ts es) i ≡ Some t
terms_after-keeps ts [] i t h = h
terms_after-keeps ts (e ∷ es) i t h = terms_after-keeps (ts ++ term_of ts e ∷ []) es i t (grows-push ts (term_of ts e) t i h)

terms_after-push : (ts : List Term) (es : List Entry) (e : Entry) → terms_after ts (es ++ e ∷ []) ≡ terms_after ts es ++ term_of (terms_after ts es) e ∷ []
terms_after-push ts [] e = refl
terms_after-push ts (x ∷ es) e = terms_after-push (ts ++ term_of ts x ∷ []) es e

length-terms_after : (ts : List Term) (es : List Entry) → length (terms_after ts es) ≡ length ts + length es
length-terms_after ts [] = omega arith
length-terms_after ts (e ∷ es) = omega (arith, length-terms_after (ts ++ term_of ts e ∷ []) es, length_push ts (term_of ts e))

entry-after : (ts : List Term) (es : List Entry) → ((k of : ℕ) (f : FunId) → slice_get es k ≡ Some (Image of f) → of < length ts + k)
    → (i : ℕ) (e : Entry) → slice_get es i ≡ Some e → slice_get (terms_after ts es) (length ts + i) ≡ Some (term_of (terms_after ts es) e)
entry-after ts [] earlier i e h = absurd (none-some e h)
entry-after ts (x ∷ es) earlier zero e h =
    let more : List Term = ts ++ term_of ts x ∷ [] in
    let us : List Term = terms_after more es in
    let here : slice_get us (length ts) ≡ Some (term_of ts x) = terms_after-keeps more es (length ts) (term_of ts x) (pushed-at ts (term_of ts x)) in
    let kept : term_of ts x ≡ term_of us x = term_of-kept ts us x (λ i t k. terms_after-keeps more es i t (grows-push ts (term_of ts x) t i k))
    (λ of f is. let lt = earlier 0 of f (ap Some is) in omega (arith, lt)) in
    subst (λ (n : ℕ). slice_get us n ≡ Some (term_of us e)) (sym (add-zero (length ts))) (here ∙ ap Some (kept ∙ ap (term_of us) (same_Some x e h)))
entry-after ts (x ∷ es) earlier (suc i) e h =
    let more : List Term = ts ++ term_of ts x ∷ [] in
    let us : List Term = terms_after more es in
    let long = length_push ts (term_of ts x) in
    let place : length more + i ≡ length ts + suc i = omega (arith, long) in
    subst (λ (n : ℕ). slice_get us n ≡ Some (term_of us e)) place
    (entry-after more es (λ k of f is. let lt = earlier (suc k) of f is in omega (arith, lt, long)) i e h)

pub terms_of-push : (es : List Entry) (e : Entry) → terms_of (es ++ e ∷ []) ≡ terms_of es ++ term_of (terms_of es) e ∷ []
unfolding terms_of
terms_of-push es e = terms_after-push [] es e

pub length-terms_of : (es : List Entry) → length (terms_of es) ≡ length es
unfolding terms_of
length-terms_of es = omega (arith, length-terms_after [] es)

-- the term of a number's entry
pub entry-at : (es : List Entry) → IsTable es → (i : ℕ) (e : Entry) → slice_get es i ≡ Some e → IsAt es i (term_of (terms_of es) e)
unfolding terms_of
entry-at es table i e h =
    let place : 0 + i ≡ i = omega arith in
    subst (λ (n : ℕ). slice_get (terms_after [] es) n ≡ Some (term_of (terms_after [] es) e)) place
    (entry-after [] es (λ k of f is. let lt = table.earlier k of f is in omega (arith, lt)) i e h)

pub no_snoc : (xs : List FunId) (x : FunId) → xs ++ x ∷ [] ≡ [] → ⊥
no_snoc [] x e = cc
no_snoc (y ∷ ys) x e = cc

snoc-same : (xs ys : List FunId) (x y : FunId) → xs ++ x ∷ [] ≡ ys ++ y ∷ [] → (xs ≡ ys) × (x ≡ y)
snoc-same [] [] x y e = (refl, cc)
snoc-same [] (z ∷ []) x y e = absurd (cc)
snoc-same [] (z ∷ w ∷ ws) x y e = absurd (cc)
snoc-same (z ∷ []) [] x y e = absurd (cc)
snoc-same (z ∷ w ∷ ws) [] x y e = absurd (cc)
snoc-same (v ∷ vs) (w ∷ ws) x y e =
    let tail : vs ++ x ∷ [] ≡ ws ++ y ∷ [] = cc in
    let r = snoc-same vs ws x y tail in
    (cc (r.0), r.1)

pub same_term : (s t : Term) → s.base ≡ t.base → s.path ≡ t.path → s ≡ t
same_term s t b p =
    let one : record { base = s.base; path = s.path } ≡ t =
    ap (λ (x : base.Base). let u : Term = record { base = x; path = s.path } in u) b ∙ ap (λ (xs : List FunId). let u : Term = record { base = t.base; path = xs } in u) p in one

image-same : (s t : Term) (f g : FunId) → image_term s f ≡ image_term t g → (s ≡ t) × (f ≡ g)
image-same s t f g e =
    let r = snoc-same s.path t.path f g (ap (λ (u : Term). u.path) e) in
    (same_term s t (ap (λ (u : Term). u.base) e) r.0, r.1)

-- nothing was added
pub adds-none : (P : Term → Type 0) (es : List Entry) → IsTable es → Adds P es es
adds-none P es table = record { table = table; grows = λ i e h. h; kept = λ i t h. h; only = λ i t h. inl h }

-- what was added is also of another kind
pub adds-as : (P Q : Term → Type 0) → ((t : Term) → P t → Q t) → (old new : List Entry) → Adds P old new → Adds Q old new
adds-as P Q weaker old new added = record {
  table = added.table;
  grows = added.grows;
  kept = added.kept;
  only = λ i t at. ⊎_elim inl (λ (h : P t). inr (weaker t h)) (added.only i t at);
}

-- entries were added twice
pub adds-then : (P Q R : Term → Type 0) → ((t : Term) → P t → R t) → ((t : Term) → Q t → R t) → (old mid new : List Entry) → Adds P old mid → Adds Q mid new → Adds R old new
adds-then P Q R first second old mid new one two = record {
  table = two.table;
  grows = λ i e h. two.grows i e (one.grows i e h);
  kept = λ i t h. two.kept i t (one.kept i t h);
  only = λ i t at.
      ⊎_elim (λ (h : IsAt mid i t). ⊎_elim inl (λ (p : P t). inr (first t p)) (one.only i t h)) (λ (q : Q t). inr (second t q)) (two.only i t at);
}

module _ (es : List Entry) (table : IsTable es) where
  pub term-at : (i : ℕ) → i < length es → (t : Term) × IsAt es i t
  term-at i lt = (get_or (terms_of es) i nothing, slice_get-get_or (terms_of es) i nothing (rw (length-terms_of es) lt))

  pub at-within : (i : ℕ) (t : Term) → IsAt es i t → i < length es
  at-within i t at = rw (← length-terms_of es) (slice_get_within (terms_of es) i t at)

  pub at-same : (i : ℕ) (s t : Term) → IsAt es i s → IsAt es i t → s ≡ t
  at-same i s t a b = same_Some s t (sym a ∙ b)

  entry-of : (i : ℕ) (t : Term) → IsAt es i t → (e : Entry) × (slice_get es i ≡ Some e) × (t ≡ term_of (terms_of es) e)
  entry-of i t at =
      let e : Entry = get_or es i (Root (Param 0)) in
      let is : slice_get es i ≡ Some e = slice_get-get_or es i (Root (Param 0)) (at-within i t at) in
      (e, is, at-same i t (term_of (terms_of es) e) at (entry-at es table i e is))

  -- the entry of an image
  pub image-entry : (i : ℕ) (s : Term) (f : FunId) → IsAt es i (image_term s f) → (p : ℕ) × (slice_get es i ≡ Some (Image p f)) × IsAt es p s
  image-entry i s f at = let x = entry-of i (image_term s f) at in go x.0 x.1 x.2
    where
      go : (e : Entry) → slice_get es i ≡ Some e → image_term s f ≡ term_of (terms_of es) e → (p : ℕ) × (slice_get es i ≡ Some (Image p f)) × IsAt es p s
      go (Root b) is e = absurd (no_snoc s.path f (ap (λ (u : Term). u.path) e))
      go (Image p g) is e =
          let same = image-same s (get_or (terms_of es) p nothing) f g e in
          let within : p < length es = omega (arith, table.earlier i p g is, at-within i (image_term s f) at) in (
            p,
            subst (λ (h : FunId). slice_get es i ≡ Some (Image p h)) (sym same.1) is,
            subst (λ (u : Term). IsAt es p u) (sym same.0) (slice_get-get_or (terms_of es) p nothing (rw (length-terms_of es) within)),
          )

  -- the entry of a base
  pub root-entry : (i : ℕ) (b : base.Base) → IsAt es i (base_term b) → slice_get es i ≡ Some (Root b)
  root-entry i b at = let x = entry-of i (base_term b) at in go x.0 x.1 x.2
    where
      go : (e : Entry) → slice_get es i ≡ Some e → base_term b ≡ term_of (terms_of es) e → slice_get es i ≡ Some (Root b)
      go (Root c) is e = subst (λ (d : base.Base). slice_get es i ≡ Some (Root d)) (sym (ap (λ (u : Term). u.base) e)) is
      go (Image p g) is e = absurd (no_snoc (get_or (terms_of es) p nothing).path g (sym (ap (λ (u : Term). u.path) e)))

  -- an image and its argument
  pub image-of : (i p : ℕ) (f : FunId) → slice_get es i ≡ Some (Image p f) → (s : Term) × IsAt es p s × IsAt es i (image_term s f)
  image-of i p f is =
      let within : p < length es = omega (arith, table.earlier i p f is, slice_get_within es i (Image p f) is) in
      (get_or (terms_of es) p nothing, slice_get-get_or (terms_of es) p nothing (rw (length-terms_of es) within), entry-at es table i (Image p f) is)

  fresh-term : (e : Entry) → EntryFits es e → ((i : ℕ) → slice_get es i ≡ Some e → ⊥) → (i : ℕ) → IsAt es i (term_of (terms_of es) e) → ⊥
  fresh-term (Root b) fits fresh i at = fresh i (root-entry i b at)
  fresh-term (Image of f) fits fresh i at =
      let s : Term = get_or (terms_of es) of nothing in
      let x = image-entry i s f at in
      let same : x.0 ≡ of = table.different x.0 of s x.2 (slice_get-get_or (terms_of es) of nothing (rw (length-terms_of es) fits)) in
      fresh i (subst (λ (p : ℕ). slice_get es i ≡ Some (Image p f)) same x.1)

  -- an entry that is there already
  pub adds-known : (e : Entry) (i : ℕ) → slice_get es i ≡ Some e → AddsEntry es es e i
  adds-known e i is = record { adds = adds-none (λ (t : Term). t ≡ term_of (terms_of es) e) es table; here = is }

  -- one entry more
  pub adds-pushed : (e : Entry) → EntryFits es e → ((i : ℕ) → slice_get es i ≡ Some e → ⊥) → AddsEntry es (es ++ e ∷ []) e (length es)
  adds-pushed e fits fresh =
      let x : Term = term_of (terms_of es) e in
      let more = terms_of-push es e in
      let cases : (k : ℕ) (t : Term) → IsAt (es ++ e ∷ []) k t → IsAt es k t ⊎ ((k ≡ length (terms_of es)) × (x ≡ t)) =
      λ k t at. at-push (terms_of es) x t k (subst (λ (ts : List Term). slice_get ts k ≡ Some t) more at) in
      record {
        adds = record {
          table = record { earlier = earlier; different = λ i j t at_i at_j. different t i j (cases i t at_i) (cases j t at_j) };
          grows = λ k y h. grows-push es e y k h;
          kept = λ k t at. subst (λ (ts : List Term). slice_get ts k ≡ Some t) (sym more) (grows-push (terms_of es) x t k at);
          only = λ k t at. ⊎_elim inl (λ (d : (k ≡ length (terms_of es)) × (x ≡ t)). inr (sym d.1)) (cases k t at);
        };
        here = pushed-at es e;
      }
    where
      earlier : (i of : ℕ) (f : FunId) → slice_get (es ++ e ∷ []) i ≡ Some (Image of f) → of < i
      earlier i of f is =
          ⊎_elim (λ (h : slice_get es i ≡ Some (Image of f)). table.earlier i of f h)
          (λ (d : (i ≡ length es) × (e ≡ Image of f)). let lt : of < length es = subst (λ (y : Entry). EntryFits es y) d.1 fits in omega (arith, lt, d.0))
          (at-push es e (Image of f) i is)

      different : (t : Term) (i j : ℕ) → IsAt es i t ⊎ ((i ≡ length (terms_of es)) × (term_of (terms_of es) e ≡ t)) → IsAt es j t ⊎ ((j ≡ length (terms_of es)) × (term_of (terms_of es) e ≡ t)) → i ≡ j
      different t i j (inl a) (inl b) = table.different i j t a b
      different t i j (inl a) (inr b) = absurd (fresh-term e fits fresh i (subst (λ (u : Term). IsAt es i u) (sym b.1) a))
      different t i j (inr a) (inl b) = absurd (fresh-term e fits fresh j (subst (λ (u : Term). IsAt es j u) (sym a.1) b))
      different t i j (inr a) (inr b) = a.0 ∙ sym b.0

-- the first functions of a path alone
abbrev pub prefix_at : Term → ℕ → Term
prefix_at t k = record { base = t.base; path = take k t.path }

whole-prefix : (p t : Term) → p ≡ t → IsPrefixOf p t
whole-prefix p t e = (ap (λ (u : Term). u.base) e, ([], sym (append-nil p.path ∙ ap (λ (u : Term). u.path) e)))

-- the base of a term was added
pub adds-base : (old new : List Entry) (t : Term) (i : ℕ) → AddsEntry old new (Root t.base) i → AddsTerm old new (prefix_at t 0) i
adds-base old new t i added = record {
  adds = adds-as (λ (p : Term). p ≡ base_term t.base) (λ (p : Term). IsPrefixOf p (prefix_at t 0)) (λ p e. whole-prefix p (base_term t.base) e) old new added.adds;
  here = entry-at new added.adds.table i (Root t.base) added.here;
}

longer : (p t : Term) (k : ℕ) (f : FunId) → prefix_at t (k + 1) ≡ image_term (prefix_at t k) f → IsPrefixOf p (prefix_at t k) → IsPrefixOf p (prefix_at t (k + 1))
longer p t k f e pre =
    (pre.0, (pre.1.0 ++ f ∷ [], ap (λ (u : Term). u.path) e ∙ ap (λ (xs : List FunId). xs ++ f ∷ []) pre.1.1 ∙ append_assoc p.path pre.1.0 (f ∷ [])))

-- one function more of a term's path was added
pub adds-image : (old mid new : List Entry) (t : Term) (k at i : ℕ) (f d : FunId) → k < length t.path → f ≡ get_or t.path k d → AddsTerm old mid (prefix_at t k) at
    → AddsEntry mid new (Image at f) i → AddsTerm old new (prefix_at t (k + 1)) i
adds-image old mid new t k at i f d lt is before added =
    let e : prefix_at t (k + 1) ≡ image_term (prefix_at t k) f =
    ap (λ (xs : List FunId). let u : Term = record { base = t.base; path = xs } in u) (take_more t.path k d lt ∙ ap (λ (g : FunId). take k t.path ++ g ∷ []) (sym is)) in
    let argument : get_or (terms_of new) at nothing ≡ prefix_at t k = get_or_from_slice_get (terms_of new) at (prefix_at t k) nothing (added.adds.kept at (prefix_at t k) before.here) in
    let before_is : get_or (terms_of mid) at nothing ≡ prefix_at t k = get_or_from_slice_get (terms_of mid) at (prefix_at t k) nothing before.here in
    record {
      adds = adds-then (λ (p : Term). IsPrefixOf p (prefix_at t k)) (λ (p : Term). p ≡ term_of (terms_of mid) (Image at f)) (λ (p : Term). IsPrefixOf p (prefix_at t (k + 1)))
          (λ p pre. longer p t k f e pre)
          (λ p h. whole-prefix p (prefix_at t (k + 1)) (h ∙ ap (λ (s : Term). image_term s f) before_is ∙ sym e))
          old mid new before.adds added.adds;
      here = entry-at new added.adds.table i (Image at f) added.here ∙ ap Some (ap (λ (s : Term). image_term s f) argument ∙ sym e);
    }

-- the whole term was added
pub adds-term : (old new : List Entry) (t : Term) (n i : ℕ) → length t.path ≡ n → AddsTerm old new (prefix_at t n) i → AddsTerm old new t i
adds-term old new t n i e added =
    subst (λ (u : Term). AddsTerm old new u i) (same_term (prefix_at t n) t refl (take_all n t.path (omega (arith, e)))) added
