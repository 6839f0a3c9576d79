-- The cases of a term: that it is undef, and that it is not.
use Rattle.std.proofs.Common.{◌≡◌, ◌≢◌, ℕ, zero, suc, ◌+◌, ◌<◌, ◌≤◌, Bool, true, false, List, [], ◌∷◌, ◌++◌, length, get_or, nat_eq, refl, sym, ◌∙◌, ap, subst, arith, ◌⊎◌, inl, inr, ⊎_elim}
use Rattle.std.specs.Result.{is_err}
use Rattle.std.specs.Prelude.{slice_get, Some, None, Result, Ok, Err, OnOk, IfOk, IsTrue, not}
use Rattle.std.proofs.lemmas.Bool.{eqb-true, eq-eqb}
use Rattle.ras_logic.specs.declared.ids.SortId.{SortId}
use Rattle.ras_logic.specs.declared.raw_db.RawDb.{RawDb}
use Rattle.ras_logic.specs.declared.values.Values.{Values}
use Rattle.ras_logic.specs.declared.term.Base.TheVariants.{Undef}
use Rattle.ras_logic.specs.declared.term.Term.{Term}
use Rattle.ras_logic.specs.declared.literal.Literal.{Literal}
use Rattle.ras_logic.specs.declared.literal.Literal.TheVariants.{Equal}
use Rattle.ras_logic.specs.Databases.{IsDatabase}
use Rattle.ras_logic.specs.Truth.{AreValues, value, holds}
use Rattle.ras_logic.specs.Terms.{undef_term}
use Rattle.ras_logic.specs.Clashes.{IsTerm, an_undef, Together, symmetric, stated}
use Rattle.ras_closure.specs.declared.term_no.TermNo.{TermNo}
use Rattle.ras_closure.specs.Numbered.{IsAt, IsTable, IsSortOf, IsImageLink, TableParts}
use Rattle.ras_closure.specs.Closures.{ClosureParts, IsClosure, IsFactOf, EachHolds, AddsFact, Asserts, HasNoModel, IsLiteralOf}
use Rattle.ras_closure.specs.declared.clash.Clash.{Clash}
use Rattle.ras_closure.proofs.Merges.{at-same, sort-exists}
use Rattle.ras_closure.proofs.Cases.{same_or, below_or_same, true_false}
use Rattle.ras_split.specs.Among.{IsAmong}
use Rattle.ras_split.specs.Standing.{CaseParts, Stands, a_base, of_class, IsKept}
use Rattle.ras_split.specs.Splits.{IsModel, IsDefined, IsSettled, HasNoTotalImage, HasMore, HoldsIn, IsSplit, AddsCases, IsUndefAt, IsDefinedAt, Always, IsOpen, IsUndefOf, IsSplitOf, AreSplits, IsCaseTo, AreCasesTo}
use Rattle.ras_split.proofs.Listed.{among-more, among-last, among-either, among-none}
use Rattle.ras_split.proofs.Stands.{stands-more}

-- no case is added where there is nothing for it
pub adds-none : (c : ClosureParts) (i : ℕ) (When : RawDb → Values → Type 0) (cases : List CaseParts) → ((d : RawDb) (v : Values) → IsModel c d v → When d v → ⊥)
    → AddsCases c i When cases cases
adds-none c i When cases none = record { kept = λ e h. h; each = λ e h. inl h; complete = λ d v model when. absurd (none d v model when) }

pub adds-one : (c : ClosureParts) (i : ℕ) (When : RawDb → Values → Type 0) (cases : List CaseParts) (e : CaseParts) → IsSplit c e.closure i
    → ((d : RawDb) (v : Values) → IsModel c d v → When d v → EachHolds d v (IsFactOf e.closure)) → AddsCases c i When cases (cases ++ e ∷ [])
adds-one c i When cases e split holds = record {
  kept = λ x h. among-more cases e x h;
  each = λ x h. ⊎_elim (λ old. inl old) (λ same. inr (subst (λ (y : CaseParts). IsSplit c y.closure i) (sym same) split)) (among-either cases e x h);
  complete = λ d v model when. record { one = e; among = among-last cases e; facts = holds d v model when };
}

pub adds-both : (c : ClosureParts) (i : ℕ) (One Other : RawDb → Values → Type 0) (a b x : List CaseParts) → AddsCases c i One a b → AddsCases c i Other b x
    → ((d : RawDb) (v : Values) → One d v ⊎ Other d v) → AddsCases c i Always a x
adds-both c i One Other a b x first second either = record {
  kept = λ e h. second.kept e (first.kept e h);
  each = λ e h. ⊎_elim (λ (mid : IsAmong b e). first.each e mid) (λ (split : IsSplit c e.closure i). inr split) (second.each e h);
  complete = λ d v model when.
      ⊎_elim (λ (one : One d v). let h = first.complete d v model one in record { one = h.one; among = second.kept h.one h.among; facts = h.facts })
      (λ (other : Other d v). second.complete d v model other) (either d v);
}

-- a value is undef, or is not
pub undef-or : (c : ClosureParts) (i : ℕ) (d : RawDb) (v : Values) → (t : Term) → IsAt c.table.terms i t → IsUndefAt c i d v ⊎ IsDefinedAt c i d v
undef-or c i d v t at =
    ⊎_elim (λ (e : value d v t ≡ 0). inl (λ s at_s. ap (value d v) (at-same c.table.terms i s t at_s at) ∙ e))
    (λ (h : value d v t ≢ 0). inr (λ s at_s e. h (ap (value d v) (at-same c.table.terms i t s at at_s) ∙ e))) (same_or (value d v t) 0)

-- one without images under total functions is a case by itself
pub static-split : (c : ClosureParts) (i : ℕ) → c.clash ≡ None → HasNoTotalImage c i → IsSplit c c i
static-split c i none no_image = record { more = record { table = refl; no_clash = none; facts = λ l h. h }; settled = inr no_image }

-- one that something stands for is a case by itself
pub kept-split : (c : ClosureParts) (i : ℕ) → c.clash ≡ None → ((t : Term) → IsAt c.table.terms i t → IsKept c t) → IsSplit c c i
kept-split c i none kept = record { more = record { table = refl; no_clash = none; facts = λ l h. h }; settled = inl (λ t at. inl (kept t at)) }

module _ (c e : ClosureParts) (same : Bool) (i u : TermNo) (undef : IsUndefOf c i u) (adds : AddsFact c e same i u) where
  -- the term and the undef of its sort in the new closure
  there : (t : Term) → IsAt e.table.terms i.n t → IsAt c.table.terms i.n t
  there t at = subst (λ (b : TableParts). IsAt b.terms i.n t) adds.table at

  new-sort : (t : Term) (sort : SortId) → IsSortOf c.table t sort → IsSortOf e.table t sort
  new-sort t sort h = subst (λ (b : TableParts). IsSortOf b t sort) (sym adds.table) h

  new-fact : (t : Term) (sort : SortId) → IsAt c.table.terms i.n t → IsAt c.table.terms u.n (undef_term sort) → IsFactOf e (Equal t (undef_term sort) same)
  new-fact t sort at at_u = (adds.facts (Equal t (undef_term sort) same)).1 (inr (t, undef_term sort, at, at_u, refl))

  pub case-more : e.clash ≡ None → HasMore c e
  case-more none = record { table = adds.table; no_clash = none; facts = λ l h. (adds.facts l).1 (inl h) }

  -- where the new literal holds, all facts do
  pub case-holds : (d : RawDb) (v : Values) → IsModel c d v → ((t : Term) (sort : SortId) → IsAt c.table.terms i.n t → IsTrue (holds d v (Equal t (undef_term sort) same)))
      → EachHolds d v (IsFactOf e)
  case-holds d v model new l fact = ⊎_elim (λ (old : IsFactOf c l). model.facts l old) (λ (h : IsLiteralOf c same i u l). added h) ((adds.facts l).0 fact)
    where
      added : IsLiteralOf c same i u l → IsTrue (holds d v l)
      added h =
          let s = undef.sorted h.0 h.2 in
          let right : h.1 ≡ undef_term s.0 = at-same c.table.terms u.n h.1 (undef_term s.0) h.3 s.2 in
          subst (λ (m : Literal). IsTrue (holds d v m)) (sym (h.4 ∙ ap (λ (w : Term). Equal h.0 w same) right)) (new h.0 s.0 h.2)

  -- a case without a model holds nowhere
  pub case-none : HasNoModel e → (d : RawDb) (v : Values) → IsModel c d v → EachHolds d v (IsFactOf e) → ⊥
  case-none none d v model facts =
      none d v (subst (λ (b : TableParts). IsDatabase b.shape.schema d) (sym adds.table) model.database)
      (subst (λ (b : TableParts). AreValues b.shape d b.problem.rows b.problem.params v) (sym adds.table) model.values) facts

pub undef-settled : (c e : ClosureParts) (i u : TermNo) → IsUndefOf c i u → AddsFact c e true i u → IsTable e.table → IsSettled e i.n
undef-settled c e i u undef adds table = inl (λ t at.
    let at_c = there c e true i u undef adds t at in
    let s = undef.sorted t at_c in
    let lt = sort-exists e.table table t s.0 (new-sort c e true i u undef adds t s.0 s.1) in
    inl (record {
      by = undef_term s.0;
      stands = of_class (undef_term s.0) t (undef_term s.0) (symmetric t (undef_term s.0) (stated t (undef_term s.0) (new-fact c e true i u undef adds t s.0 at_c s.2)))
          (a_base (Undef s.0) (an_undef s.0 lt) tt);
    }))

pub defined-settled : (c e : ClosureParts) (i u : TermNo) → IsUndefOf c i u → AddsFact c e false i u → IsSettled e i.n
defined-settled c e i u undef adds = inl (λ t at.
    let at_c = there c e false i u undef adds t at in
    let s = undef.sorted t at_c in
    inr (record { sort = s.0; is_sort = new-sort c e false i u undef adds t s.0 s.1; fact = new-fact c e false i u undef adds t s.0 at_c s.2 }))

pub undef-holds : (d : RawDb) (v : Values) (t : Term) (sort : SortId) → value d v t ≡ 0 → IsTrue (holds d v (Equal t (undef_term sort) true))
undef-holds d v t sort z = eq-eqb (value d v t) 0 z

pub defined-holds : (d : RawDb) (v : Values) (t : Term) (sort : SortId) → value d v t ≢ 0 → IsTrue (holds d v (Equal t (undef_term sort) false))
defined-holds d v t sort h = differ (nat_eq (value d v t) 0) (λ e. h (eqb-true (value d v t) 0 e))
  where
    differ : (x : Bool) → (x ≡ true → ⊥) → IsTrue (not x)
    differ true h = absurd (h refl)
    differ false h = refl

-- what is settled stays settled
pub settled-more : (c e : ClosureParts) (i : ℕ) → HasMore c e → IsSettled c i → IsSettled e i
settled-more c e i more (inr none) = inr (λ k f decl link known total. none k f decl (subst (λ (b : TableParts). IsImageLink b.links k i f) more.table link)
    (subst (λ (b : TableParts). slice_get b.shape.schema.functions f.n ≡ Some decl) more.table known) total)
settled-more c e i more (inl settled) = inl (λ t at. ⊎_elim (kept t) (defined t) (settled t (subst (λ (b : TableParts). IsAt b.terms i t) more.table at)))
  where
    kept : (t : Term) → IsKept c t → IsKept e t ⊎ IsDefined e t
    kept t h = inl (record {
      by = h.by;
      stands = stands-more e.table.shape.schema e.table.problem.literals (IsFactOf c) (IsFactOf e) more.facts {t = t} {r = h.by}
          (subst (λ (b : TableParts). Stands b.shape.schema b.problem.literals (IsFactOf c) t h.by) (sym more.table) h.stands);
    })

    defined : (t : Term) → IsDefined c t → IsKept e t ⊎ IsDefined e t
    defined t h = inr (record { sort = h.sort; is_sort = subst (λ (b : TableParts). IsSortOf b t h.sort) (sym more.table) h.is_sort; fact = more.facts (Equal t (undef_term h.sort) false) h.fact })

pub more-through : (a b c : ClosureParts) → HasMore a b → HasMore b c → HasMore a c
more-through a b c one two = record { table = two.table ∙ one.table; no_clash = two.no_clash; facts = λ l h. two.facts l (one.facts l h) }

-- one more of the old cases is done
pub splits-on : (done : List CaseParts) (c : CaseParts) (i : ℕ) (before after : List CaseParts) → AreSplits done i before → AddsCases c.closure i Always before after
    → AreSplits (done ++ c ∷ []) i after
splits-on done c i before after so_far adds = record {
  each = λ e h.
      ⊎_elim (λ (b : IsAmong before e). let s = so_far.each e b in record { from = s.from; among = among-more done c s.from s.among; split = s.split })
      (λ (s : IsSplit c.closure e.closure i). record { from = c; among = among-last done c; split = s }) (adds.each e h);
  complete = λ x h d v model.
      ⊎_elim (λ (m : IsAmong done x). let q = so_far.complete x m d v model in record { one = q.one; among = adds.kept q.one q.among; facts = q.facts })
      (λ (e : x ≡ c). adds.complete d v (subst (λ (y : CaseParts). IsModel y.closure d v) e model) tt) (among-either done c x h);
}

pub splits-start : (i : ℕ) → AreSplits [] i []
splits-start i = record { each = λ e h. absurd (among-none e h); complete = λ c h. absurd (among-none c h) }

pub cases-start : (first : ClosureParts) (c : CaseParts) → c.closure ≡ first → first.clash ≡ None → AreCasesTo first 0 (c ∷ [])
cases-start first c is none = record {
  each = λ e h. subst (λ (y : ClosureParts). IsCaseTo first 0 y) (sym (ap (λ (y : CaseParts). y.closure) (one e h) ∙ is))
      (record { more = record { table = refl; no_clash = none; facts = λ l f. f }; settled = λ i lt. absurd (omega (arith, lt)) });
  complete = λ d v model. record { one = c; among = record { number = 0; known = refl }; facts = subst (λ (y : ClosureParts). EachHolds d v (IsFactOf y)) (sym is) model.facts };
}
  where
    one : (e : CaseParts) → IsAmong (c ∷ []) e → e ≡ c
    one e h = ⊎_elim (λ (n : IsAmong [] e). absurd (among-none e n)) (λ q. q) (among-either [] c e h)

pub cases-on : (first : ClosureParts) (n : ℕ) (old new : List CaseParts) → AreCasesTo first n old → AreSplits old n new → AreCasesTo first (n + 1) new
cases-on first n old new are splits = record {
  each = λ e h.
      let s = splits.each e h in
      let from = are.each s.from s.among in
      record {
        more = more-through first s.from.closure e.closure from.more s.split.more;
        settled = λ i lt.
            ⊎_elim (λ (below : i < n). settled-more s.from.closure e.closure i s.split.more (from.settled i below))
            (λ (here : i ≡ n). subst (λ (m : ℕ). IsSettled e.closure m) (sym here) s.split.settled) (below_or_same i n lt);
      };
  complete = λ d v model.
      let h = are.complete d v model in
      let more = (are.each h.one h.among).more in
      splits.complete h.one h.among d v (record {
        database = subst (λ (b : TableParts). IsDatabase b.shape.schema d) (sym more.table) model.database;
        values = subst (λ (b : TableParts). AreValues b.shape d b.problem.rows b.problem.params v) (sym more.table) model.values;
        facts = h.facts;
      });
}

pub cases-open : (first : ClosureParts) (n : ℕ) (cases : List CaseParts) → AreCasesTo first n cases → n < length first.table.terms → (c : CaseParts) → IsAmong cases c → IsOpen n c.closure
cases-open first n cases are lt c h =
    let more = (are.each c h).more in
    record { no_clash = more.no_clash; within = subst (λ (b : TableParts). n < length b.terms) (sym more.table) lt }

-- what an assertion adds
asserted-fact : {T : Type 0} (c before e : ClosureParts) (same : Bool) (i u : TermNo) (r : Result T Clash) → before ≡ c → c.clash ≡ None → Asserts before e same i u r → AddsFact c e same i u
asserted-fact c before e same i u r is none asserts =
    subst (λ (x : ClosureParts). AddsFact x e same i u) is (asserts.added (ap (λ (x : ClosureParts). x.clash) is ∙ none))

pub undef-none : {T : Type 0} (c before e : ClosureParts) (i u : TermNo) (r : Result T Clash) (cases : List CaseParts) → before ≡ c → c.clash ≡ None → IsUndefOf c i u
    → Asserts before e true i u r → HasNoModel e → AddsCases c i.n (IsUndefAt c i.n) cases cases
undef-none c before e i u r cases is none undef asserts no_model =
    let adds = asserted-fact c before e true i u r is none asserts in
    adds-none c i.n (IsUndefAt c i.n) cases
    (λ d v model when. case-none c e true i u undef adds no_model d v model (case-holds c e true i u undef adds d v model (λ t sort at. undef-holds d v t sort (when t at))))

pub undef-added : {T : Type 0} (c before e : ClosureParts) (x : CaseParts) (i u : TermNo) (r : Result T Clash) (cases : List CaseParts) → x.closure ≡ e → before ≡ c → c.clash ≡ None → IsUndefOf c i u
    → Asserts before e true i u r → e.clash ≡ None → IsTable e.table → AddsCases c i.n (IsUndefAt c i.n) cases (cases ++ x ∷ [])
undef-added c before e x i u r cases made is none undef asserts open_yet table =
    let adds = asserted-fact c before e true i u r is none asserts in
    let split : IsSplit c e i.n = record { more = case-more c e true i u undef adds open_yet; settled = undef-settled c e i u undef adds table } in
    adds-one c i.n (IsUndefAt c i.n) cases x (subst (λ (y : ClosureParts). IsSplit c y i.n) (sym made) split)
    (λ d v model when. subst (λ (y : ClosureParts). EachHolds d v (IsFactOf y)) (sym made) (case-holds c e true i u undef adds d v model (λ t sort at. undef-holds d v t sort (when t at))))

pub defined-none : {T : Type 0} (c before e : ClosureParts) (i u : TermNo) (r : Result T Clash) (cases : List CaseParts) → before ≡ c → c.clash ≡ None → IsUndefOf c i u
    → Asserts before e false i u r → HasNoModel e → AddsCases c i.n (IsDefinedAt c i.n) cases cases
defined-none c before e i u r cases is none undef asserts no_model =
    let adds = asserted-fact c before e false i u r is none asserts in
    adds-none c i.n (IsDefinedAt c i.n) cases
    (λ d v model when. case-none c e false i u undef adds no_model d v model (case-holds c e false i u undef adds d v model (λ t sort at. defined-holds d v t sort (when t at))))

pub defined-added : {T : Type 0} (c before e : ClosureParts) (x : CaseParts) (i u : TermNo) (r : Result T Clash) (cases : List CaseParts) → x.closure ≡ e → before ≡ c → c.clash ≡ None → IsUndefOf c i u
    → Asserts before e false i u r → e.clash ≡ None → AddsCases c i.n (IsDefinedAt c i.n) cases (cases ++ x ∷ [])
defined-added c before e x i u r cases made is none undef asserts open_yet =
    let adds = asserted-fact c before e false i u r is none asserts in
    let split : IsSplit c e i.n = record { more = case-more c e false i u undef adds open_yet; settled = defined-settled c e i u undef adds } in
    adds-one c i.n (IsDefinedAt c i.n) cases x (subst (λ (y : ClosureParts). IsSplit c y i.n) (sym made) split)
    (λ d v model when. subst (λ (y : ClosureParts). EachHolds d v (IsFactOf y)) (sym made) (case-holds c e false i u undef adds d v model (λ t sort at. defined-holds d v t sort (when t at))))

pub open-yet : {T E : Type 0} {P : Type 0} (r : Result T E) → is_err r ≡ false → OnOk r P → P
open-yet (Ok x) e h = h
open-yet (Err q) e h = absurd (true_false e)

pub ok-more : {T E : Type 0} {P Q : Type 0} (r : Result T E) → OnOk r P → (P → Q) → OnOk r Q
ok-more (Ok x) h f = f h
ok-more (Err e) h f = h

-- what follows of an answer's value
pub ok-if : {T E : Type 0} {P Q : T → Type 0} (r : Result T E) → IfOk r P → ((x : T) → P x → Q x) → IfOk r Q
ok-if (Ok x) h f = f x h
ok-if (Err e) h f = h
