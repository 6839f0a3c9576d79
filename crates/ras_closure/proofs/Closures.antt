-- What a closure keeps when one more fact is asserted.
use Rattle.std.proofs.Common.{◌≡◌, ◌≢◌, ℕ, ◌<◌, Bool, true, false, List, length, refl, sym, ◌∙◌, ap, subst, arith, ◌⊎◌, inl, inr, ⊎_elim}
use Rattle.std.specs.Prelude.{slice_get, Option, Some, None}
use Rattle.std.proofs.lemmas.Option.{slice_get_within}
use Rattle.ras_logic.specs.declared.term.Term.{Term}
use Rattle.ras_logic.specs.declared.literal.Literal.{Literal}
use Rattle.ras_logic.specs.declared.literal.Literal.TheVariants.{Equal}
use Rattle.ras_logic.specs.Clashes.{Together, reflexive, stated}
use Rattle.ras_closure.specs.declared.clash.Clash.{Clash}
use Rattle.ras_closure.specs.declared.term_no.TermNo.{TermNo}
use Rattle.ras_closure.specs.Numbered.{IsAt, TableParts, IsTable}
use Rattle.ras_closure.specs.Assertions.{MarkParts, IsAsserted, is_marked, AddsMark, FactsFit}
use Rattle.ras_closure.specs.Classes.{class, AreClosed}
use Rattle.ras_closure.specs.Partitions.{ArePartial, AreTogether, IsRest}
use Rattle.ras_closure.specs.Verdicts.{AreClashing, AreUnbroken, IsVerdict}
use Rattle.ras_closure.specs.Closures.{ClosureParts, IsClosure, IsNo, AreOfOneSort, IsFactOf, IsLiteralOf, AddsFact}
use Rattle.ras_logic.proofs.MoreFacts.{together-more}
use Rattle.ras_closure.proofs.NoFacts.{no_facts-no_clash}
use Rattle.ras_closure.proofs.Merges.{term_at, saturated-closed, rigid-within, clashing-conflict, conflict-clash}
use Rattle.ras_closure.proofs.Cases.{some_same, none_some, true_false}

module _ (old : ClosureParts) (table : IsTable old.table) (closure : IsClosure old) (new : MarkParts) (same : Bool) (left right : TermNo)
    (lt_left : IsNo old left) (lt_right : IsNo old right) (one_sort : AreOfOneSort old left right) (adds : AddsMark old.marks new same left.n right.n) where
  asserted-more : (l : Literal) → IsFactOf old l → IsAsserted old.table.terms new l
  asserted-more (Equal s u b) h = (h.0, h.1, h.2, h.3, adds.kept b h.0 h.1 h.4)

  -- a mark is an old one or the new one
  mark_cases : (b : Bool) (k l : ℕ) (s u : Term) → IsAt old.table.terms k s → IsAt old.table.terms l u → is_marked new b k l ≡ true
      → (is_marked old.marks b k l ≡ true) ⊎ ((b ≡ same) × (k ≡ left.n) × (l ≡ right.n))
  mark_cases b k l s u at_s at_u h =
      adds.only b k l (rw closure.width (slice_get_within old.table.terms k s at_s)) (rw closure.width (slice_get_within old.table.terms l u at_u)) h

  -- a fact is an old one or the new one
  pub marks-facts : (classes : List ℕ) (clash : Option Clash) → AddsFact old (record { table = old.table; marks = new; classes = classes; clash = clash }) same left right
  marks-facts classes clash = record { table = refl; facts = λ l. (forth l, further l) }
    where
      forth : (l : Literal) → IsAsserted old.table.terms new l → IsFactOf old l ⊎ IsLiteralOf old same left right l
      forth (Equal s u b) h =
          ⊎_elim (λ (e : is_marked old.marks b h.0 h.1 ≡ true). inl (h.0, h.1, h.2, h.3, e))
          (λ (e : (b ≡ same) × (h.0 ≡ left.n) × (h.1 ≡ right.n)).
          inr (s, u, subst (λ (k : ℕ). IsAt old.table.terms k s) e.1 h.2, subst (λ (k : ℕ). IsAt old.table.terms k u) e.2 h.3, ap (Equal s u) e.0))
          (mark_cases b h.0 h.1 s u h.2 h.3 h.4)

      further : (l : Literal) → IsFactOf old l ⊎ IsLiteralOf old same left right l → IsAsserted old.table.terms new l
      further l (inl h) = asserted-more l h
      further l (inr h) = rw h.4 (left.n, right.n, h.2, h.3, adds.here)

  pub marks-fit : FactsFit old.table new
  marks-fit (Equal s u b) h =
      ⊎_elim (λ (e : is_marked old.marks b h.0 h.1 ≡ true). closure.facts_fit (Equal s u b) (h.0, h.1, h.2, h.3, e))
      (λ (e : (b ≡ same) × (h.0 ≡ left.n) × (h.1 ≡ right.n)).
      one_sort.both s u (subst (λ (k : ℕ). IsAt old.table.terms k s) e.1 h.2) (subst (λ (k : ℕ). IsAt old.table.terms k u) e.2 h.3))
      (mark_cases b h.0 h.1 s u h.2 h.3 h.4)

  pub marks-partial : ArePartial old.table new old.classes
  marks-partial = record {
    as_many = closure.partial.as_many;
    low = closure.partial.low;
    own = closure.partial.own;
    sound = λ k l s u at_s at_u e.
        together-more old.table.shape.schema old.table.problem.literals old.table.problem.literals (λ _ known. known) (IsFactOf old) (IsAsserted old.table.terms new) asserted-more (closure.partial.sound k l s u at_s at_u e);
  }

  pub marks-together : same ≡ true → AreTogether old.table new left.n right.n
  marks-together is_same s u at_s at_u = stated s u (left.n, right.n, at_s, at_u, subst (λ (b : Bool). is_marked new b left.n right.n ≡ true) is_same adds.here)

  -- marks of the other kind break nothing
  pub marks-unbroken : same ≡ true → AreUnbroken old.table old.marks old.classes → AreUnbroken old.table new old.classes
  marks-unbroken is_same unbroken = record {
    rigid = unbroken.rigid;
    apart = λ k l lt_k lt_l marked.
        ⊎_elim (λ (e : is_marked old.marks false k l ≡ true). unbroken.apart k l (rw (← adds.width) lt_k) (rw (← adds.width) lt_l) e)
        (λ (e : (false ≡ same) × (k ≡ left.n) × (l ≡ right.n)). absurd (true_false (sym (e.0 ∙ is_same))))
        (adds.only false k l (rw (← adds.width) lt_k) (rw (← adds.width) lt_l) marked);
  }

  pub closure-same : (after : List ℕ) (clash : Option Clash) → same ≡ true → IsRest old.table new old.classes after → class after left.n ≡ class after right.n
      → IsVerdict old.table new after clash → IsClosure (record { table = old.table; marks = new; classes = after; clash = clash })
  closure-same after clash is_same rest merged verdict = record {
    width = adds.width ∙ closure.width;
    facts_fit = marks-fit;
    partial = rest.partial;
    closed = saturated-closed old.table table new after rest.partial rest.saturated stated_still;
    verdict = verdict;
  }
    where
      stated_still : (k l : ℕ) (s u : Term) → IsAt old.table.terms k s → IsAt old.table.terms l u → IsAsserted old.table.terms new (Equal s u true) → class after k ≡ class after l
      stated_still k l s u at_s at_u fact =
          let one = table.terms.different fact.0 k s fact.2 at_s in
          let two = table.terms.different fact.1 l u fact.3 at_u in
          ⊎_elim
          (λ (e : is_marked old.marks true fact.0 fact.1 ≡ true).
          rest.coarser k l (rw closure.partial.as_many (slice_get_within old.table.terms k s at_s)) (rw closure.partial.as_many (slice_get_within old.table.terms l u at_u))
          (closure.closed.stated k l s u at_s at_u (fact.0, fact.1, fact.2, fact.3, e)))
          (λ (e : (true ≡ same) × (fact.0 ≡ left.n) × (fact.1 ≡ right.n)). ap (class after) (sym one ∙ e.1) ∙ merged ∙ ap (class after) (sym e.2 ∙ two))
          (mark_cases true fact.0 fact.1 s u fact.2 fact.3 fact.4)

  closed-apart : same ≡ false → AreClosed old.table.shape.schema (IsAsserted old.table.terms new) old.table.terms old.classes
  closed-apart is_apart = record {
    stated = λ k l s u at_s at_u fact.
        ⊎_elim (λ (e : is_marked old.marks true fact.0 fact.1 ≡ true). closure.closed.stated k l s u at_s at_u (fact.0, fact.1, fact.2, fact.3, e))
        (λ (e : (true ≡ same) × (fact.0 ≡ left.n) × (fact.1 ≡ right.n)). absurd (true_false (e.0 ∙ is_apart)))
        (mark_cases true fact.0 fact.1 s u fact.2 fact.3 fact.4);
    same_images = closure.closed.same_images;
    image_of_undef = closure.closed.image_of_undef;
    only_undef = closure.closed.only_undef;
  }

  pub closure-apart : same ≡ false → old.clash ≡ None → class old.classes left.n ≢ class old.classes right.n
      → IsClosure (record { table = old.table; marks = new; classes = old.classes; clash = old.clash })
  closure-apart is_apart open_yet differ = record {
    width = adds.width ∙ closure.width;
    facts_fit = marks-fit;
    partial = marks-partial;
    closed = closed-apart is_apart;
    verdict = record {
      unbroken = λ none. let before = closure.verdict.unbroken open_yet in record {
        rigid = before.rigid;
        apart = λ k l lt_k lt_l marked e.
            ⊎_elim (λ (h : is_marked old.marks false k l ≡ true). before.apart k l (rw (← adds.width) lt_k) (rw (← adds.width) lt_l) h e)
            (λ (h : (false ≡ same) × (k ≡ left.n) × (l ≡ right.n)). differ (ap (class old.classes) (sym h.1) ∙ e ∙ ap (class old.classes) h.2))
            (adds.only false k l (rw (← adds.width) lt_k) (rw (← adds.width) lt_l) marked);
      };
      clashing = λ q some. absurd (none_some (sym open_yet ∙ some));
    };
  }

  pub closure-apart_clash : same ≡ false → class old.classes left.n ≡ class old.classes right.n
      → IsClosure (record { table = old.table; marks = new; classes = old.classes; clash = Some (record { left = left; right = right }) })
  closure-apart_clash is_apart one_class = record {
    width = adds.width ∙ closure.width;
    facts_fit = marks-fit;
    partial = marks-partial;
    closed = closed-apart is_apart;
    verdict = record {
      unbroken = λ none. absurd (none_some (sym none));
      clashing = λ q some. subst (λ (w : Clash). AreClashing old.table new w.left.n w.right.n) (some_same some) here;
    };
  }
    where
      here : AreClashing old.table new left.n right.n
      here = record {
        left = lt_left;
        right = lt_right;
        together = λ s u at_s at_u. marks-partial.sound left.n right.n s u at_s at_u one_class;
        reason = inl (subst (λ (b : Bool). is_marked new b left.n right.n ≡ true) is_apart adds.here);
      }

module _ (t : TableParts) (table : IsTable t) (marks : MarkParts) (width : marks.width ≡ length t.terms) (none : (b : Bool) (i j : ℕ) → is_marked marks b i j ≡ false) where
  pub no_fact : (l : Literal) → IsAsserted t.terms marks l → ⊥
  no_fact (Equal s u b) h = true_false (sym h.4 ∙ none b h.0 h.1)

  module _ (classes : List ℕ) (n : ℕ) (all : n ≡ length t.terms) (long : length classes ≡ n) (own : (k : ℕ) → k < n → class classes k ≡ k) where
    pub start-partial : ArePartial t marks classes
    start-partial = record {
      as_many = long ∙ all;
      low = λ i lt. let e = own i (rw all lt) in omega (arith, e);
      own = λ i lt. ap (class classes) (own i (rw all lt));
      sound = λ i j s u at_i at_j e.
          let one = own i (rw all (slice_get_within t.terms i s at_i)) in
          let two = own j (rw all (slice_get_within t.terms j u at_j)) in
          let same : i ≡ j = sym one ∙ e ∙ two in
          let terms_same : s ≡ u = some_same (sym at_i ∙ subst (λ (k : ℕ). slice_get t.terms k ≡ Some u) (sym same) at_j) in
          subst (λ (w : Term). Together t.shape.schema t.problem.literals (IsAsserted t.terms marks) s w) terms_same (reflexive s (table.terms.known i s at_i));
    }

    pub start-verdict : IsVerdict t marks classes None
    start-verdict = record {
      unbroken = λ e. record { rigid = λ k lt. own k (rw all (rigid-within t table k lt)); apart = λ i j lt_i lt_j marked. absurd (true_false (sym marked ∙ none false i j)) };
      clashing = λ q e. absurd (none_some e);
    }

  pub start-closure : (before after : List ℕ) (clash : Option Clash) → IsRest t marks before after → IsVerdict t marks after clash
      → IsClosure (record { table = t; marks = marks; classes = after; clash = clash })
  start-closure before after clash rest verdict = record {
    width = width;
    facts_fit = λ l h. absurd (no_fact l h);
    partial = rest.partial;
    closed = saturated-closed t table marks after rest.partial rest.saturated (λ i j s u at_s at_u fact. absurd (no_fact (Equal s u true) fact));
    verdict = verdict;
  }

  -- without facts nothing clashes
  pub start-no_clash : (after : List ℕ) (clash : Option Clash) → IsVerdict t marks after clash → clash ≡ None
  start-no_clash after None verdict = refl
  start-no_clash after (Some q) verdict =
      let clashing = verdict.clashing q refl in
      let s = term_at t.terms q.left.n clashing.left in
      let u = term_at t.terms q.right.n clashing.right in
      absurd (no_facts-no_clash t.shape.schema t.problem.literals (IsAsserted t.terms marks) no_fact
      (conflict-clash t.shape.schema t.problem.literals (IsAsserted t.terms marks) (clashing.together s.0 u.0 s.1 u.1)
      (clashing-conflict t table marks (λ l h. absurd (no_fact l h)) q.left.n q.right.n s.0 u.0 clashing s.1 u.1)))
