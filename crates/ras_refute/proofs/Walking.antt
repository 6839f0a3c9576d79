-- A walk over the nodes of a tree.
use Rattle.std.proofs.Common.{◌≡◌, ℕ, ◌+◌, ◌<◌, ◌≤◌, ◌^◌, List, [], ◌∷◌, ◌++◌, length, get_or, take, drop, reverse, refl, sym, ◌∙◌, ap, subst, arith}
use Rattle.std.specs.Prelude.{All, Result, Ok, Err, IfErr, IsErrAnd}
use Rattle.std.proofs.lemmas.List.{reverse-append, take-append-le, take_at, length-take-le, length_push, length-append, drop_more, drop_all, take_all}
use Rattle.std.proofs.lemmas.Option.{get_or_from_slice_get}
use Rattle.ras_logic.specs.declared.literal.Literal.{Literal}
use Rattle.ras_logic.specs.Formulas.{negated, replace}
use Rattle.ras_logic.specs.Refutations.{chosen_row, children_facts}
use Rattle.ras_logic.specs.declared.ids.RelId.{RelId}
use Rattle.ras_logic.specs.declared.problem.Problem.{Problem}
use Rattle.ras_logic.specs.declared.tree.Node.{Node}
use Rattle.ras_logic.specs.declared.tree.Node.TheVariants.{Leaf}
use Rattle.ras_logic.specs.Schemas.{SchemaParts}
use Rattle.ras_logic.specs.Clashes.{FactsClash}
use Rattle.ras_refute.specs.declared.cases.Cases.{Cases}
use Rattle.ras_refute.specs.declared.tree_fault.TreeFault.{TreeFault}
use Rattle.ras_refute.specs.declared.tree_fault.TreeKind.{TreeKind}
use Rattle.ras_refute.specs.declared.tree_fault.TreeKind.TheVariants as kind
use Rattle.ras_refute.specs.declared.tree_fault.CloseError.{CloseError}
use Rattle.ras_refute.specs.declared.tree_fault.CloseError.TheVariants.{Fault, Memory}
use Rattle.ras_refute.specs.Faults.{IsNodeFault, IsGood, OnFault}
use Rattle.ras_refute.specs.Walks.{waiting, AreOpen, EntersCase, StandsBefore, Passes}

pub reverse-push : {X : Type 0} (xs : List X) (x : X) → reverse (xs ++ x ∷ []) ≡ x ∷ reverse xs
reverse-push xs x = reverse-append xs (x ∷ [])

-- the splits before stand at the same facts when others follow
waiting-kept : (facts more : List Literal) (splits : List Cases) → AreOpen facts splits → waiting (facts ++ more) splits ≡ waiting facts splits
waiting-kept facts more [] are = refl
waiting-kept facts more (c ∷ cs) are = ap (λ (fs : List Literal). children_facts (reverse fs) c.rows.now (drop c.next c.literals.now) ++ waiting fs cs) (take-append-le c.above facts more are.0)

open-kept : (facts more : List Literal) (splits : List Cases) → AreOpen facts splits → AreOpen (facts ++ more) splits
open-kept facts more [] are = tt
open-kept facts more (c ∷ cs) are =
    (omega (arith, are.0, length-append facts more), are.1, are.2, subst (λ (fs : List Literal). AreOpen fs cs) (sym (take-append-le c.above facts more are.0)) are.3)

-- what a case adds to the facts above its split
abbrev pub fact_of_case : Cases → Literal → Literal
fact_of_case c l = negated (replace (chosen_row c.rows.now) l)

module _ (facts : List Literal) (c : Cases) (below : List Cases) (are : AreOpen facts (c ∷ below)) (l : Literal) (is : l ≡ get_or c.literals.now c.next l) where
  first_case : waiting facts (c ∷ below) ≡ reverse (take c.above facts ++ fact_of_case c l ∷ []) ∷ (children_facts (reverse (take c.above facts)) c.rows.now (drop (c.next + 1) c.literals.now) ++ waiting (take c.above facts) below)
  first_case =
      ap (λ (ls : List Literal). children_facts (reverse (take c.above facts)) c.rows.now ls ++ waiting (take c.above facts) below) (drop_more c.literals.now c.next l are.1 ∙ ap (λ (x : Literal). x ∷ drop (c.next + 1) c.literals.now) (sym is))
      ∙ ap (λ (fs : List Literal). fs ∷ (children_facts (reverse (take c.above facts)) c.rows.now (drop (c.next + 1) c.literals.now) ++ waiting (take c.above facts) below))
      (sym (reverse-push (take c.above facts) (fact_of_case c l)))

  stays : take c.above (take c.above facts ++ fact_of_case c l ∷ []) ≡ take c.above facts
  stays = take_at (take c.above facts) (fact_of_case c l ∷ []) c.above (length-take-le c.above facts are.0)

  -- the split has more cases
  case-more : (next : ℕ) (splits : List Cases) → next ≡ c.next + 1 → next < length c.literals.now → reverse splits ≡ record c { next = next } ∷ below
      → StandsBefore (waiting facts (c ∷ below)) (take c.above facts ++ fact_of_case c l ∷ []) splits
  case-more next splits e lt is_reverse =
      subst (λ (p : List (List Literal)). StandsBefore p (take c.above facts ++ fact_of_case c l ∷ []) splits) (sym first_case) (
        refl,
        sym (ap (waiting (take c.above facts ++ fact_of_case c l ∷ [])) is_reverse
            ∙ ap (λ (fs : List Literal). children_facts (reverse fs) c.rows.now (drop next c.literals.now) ++ waiting fs below) stays
            ∙ ap (λ (n : ℕ). children_facts (reverse (take c.above facts)) c.rows.now (drop n c.literals.now) ++ waiting (take c.above facts) below) e),
        subst (AreOpen (take c.above facts ++ fact_of_case c l ∷ [])) (sym is_reverse)
            (omega (arith, length_push (take c.above facts) (fact_of_case c l), length-take-le c.above facts are.0), lt, are.2, subst (λ (fs : List Literal). AreOpen fs below) (sym stays) are.3),
      )

  -- it was the split's last case
  case-last : (splits : List Cases) → length c.literals.now ≤ c.next + 1 → reverse splits ≡ below → StandsBefore (waiting facts (c ∷ below)) (take c.above facts ++ fact_of_case c l ∷ []) splits
  case-last splits le is_reverse =
      subst (λ (p : List (List Literal)). StandsBefore p (take c.above facts ++ fact_of_case c l ∷ []) splits) (sym first_case) (
        refl,
        ap (λ (ls : List Literal). children_facts (reverse (take c.above facts)) c.rows.now ls ++ waiting (take c.above facts) below) (drop_all (c.next + 1) c.literals.now le)
            ∙ sym (waiting-kept (take c.above facts) (fact_of_case c l ∷ []) below are.3) ∙ sym (ap (waiting (take c.above facts ++ fact_of_case c l ∷ [])) is_reverse),
        subst (AreOpen (take c.above facts ++ fact_of_case c l ∷ [])) (sym is_reverse) (open-kept (take c.above facts) (fact_of_case c l ∷ []) below are.3),
      )

-- the last split, whose next case is entered
module _ (facts : List Literal) (splits rest : List Cases) (c : Cases) (last : splits ≡ rest ++ c ∷ []) (are : AreOpen facts (reverse splits)) where
  top : reverse splits ≡ c ∷ reverse rest
  top = ap reverse last ∙ reverse-push rest c

  pub last-open : AreOpen facts (c ∷ reverse rest)
  last-open = subst (AreOpen facts) top are

  module _ (after : List Literal) (enters : EntersCase c facts after) where
    first_literal : enters.literal ≡ get_or c.literals.now c.next enters.literal
    first_literal = sym (get_or_from_slice_get c.literals.now c.next enters.literal enters.literal enters.known)

    pub next-more : (next : ℕ) (left : List Cases) → next ≡ c.next + 1 → next < length c.literals.now → left ≡ rest ++ record c { next = next } ∷ []
        → StandsBefore (waiting facts (reverse splits)) after left
    next-more next left e lt pushed =
        rw (top, enters.facts)
        (case-more facts c (reverse rest) last-open enters.literal first_literal next left e lt (ap reverse pushed ∙ reverse-push rest (record c { next = next })))

    pub next-last : length c.literals.now ≤ c.next + 1 → StandsBefore (waiting facts (reverse splits)) after rest
    next-last le = rw (top, enters.facts) (case-last facts c (reverse rest) last-open enters.literal first_literal rest le refl)

-- a split opens
pub split-opens : (facts literals : List Literal) (rows : List ℕ) (splits : List Cases) (c : Cases) → c.above ≡ length facts → c.next ≡ 0 → literals ≡ c.literals.now → rows ≡ c.rows.now
    → 0 < length literals → All (λ k. k < 2 ^ 16) rows → AreOpen facts (reverse splits)
    → AreOpen facts (reverse (splits ++ c ∷ [])) × (waiting facts (reverse (splits ++ c ∷ [])) ≡ children_facts (reverse facts) rows literals ++ waiting facts (reverse splits))
split-opens facts literals rows splits c above next lits row some small are =
    let whole : take c.above facts ≡ facts = take_all c.above facts (omega (arith, above)) in
    let first : drop c.next c.literals.now ≡ literals = rw next (sym lits) in (
      subst (AreOpen facts) (sym (reverse-push splits c))
          (omega (arith, above), omega (arith, next, some, ap length lits), subst (All (λ k. k < 2 ^ 16)) row small, subst (λ (fs : List Literal). AreOpen fs (reverse splits)) (sym whole) are),
      ap (waiting facts) (reverse-push splits c) ∙ ap (λ (fs : List Literal). children_facts (reverse fs) c.rows.now (drop c.next c.literals.now) ++ waiting fs (reverse splits)) whole
          ∙ ap (λ (ls : List Literal). children_facts (reverse facts) c.rows.now ls ++ waiting facts (reverse splits)) first
          ∙ ap (λ (ks : List ℕ). children_facts (reverse facts) ks literals ++ waiting facts (reverse splits)) (sym row),
    )

leaf_fault : (schema : SchemaParts) (formulas : List Problem) (rows : List RelId) (facts : List Literal) (number : ℕ) (f : TreeFault)
    → (f ≡ record { node = number; kind = kind.NoClash }) × ¬ FactsClash schema facts → (f.node ≡ number) × IsNodeFault schema formulas rows facts Leaf f.kind
leaf_fault schema formulas rows facts number f h =
    (ap (λ (x : TreeFault). x.node) h.0, subst (λ (k : TreeKind). IsNodeFault schema formulas rows facts Leaf k) (sym (ap (λ (x : TreeFault). x.kind) h.0)) h.1)

-- the fault of a leaf, handed on
pub leaf-err : {T : Type 0} (schema : SchemaParts) (formulas : List Problem) (rows : List RelId) (facts : List Literal) (node : Node) (number : ℕ) (r : Result T CloseError) (e : CloseError)
    → node ≡ Leaf → IsErrAnd r (λ x. x ≡ e) → OnFault e (λ f. (f ≡ record { node = number; kind = kind.NoClash }) × ¬ FactsClash schema facts)
    → IfErr r (λ x. OnFault x (λ f. (f.node ≡ number) × IsNodeFault schema formulas rows facts node f.kind))
leaf-err schema formulas rows facts node number (Ok x) e leaf is h = absurd is
leaf-err schema formulas rows facts node number (Err x) e leaf is h =
    subst (λ (n : Node). OnFault x (λ f. (f.node ≡ number) × IsNodeFault schema formulas rows facts n f.kind)) (sym leaf) (go x (subst (λ (y : CloseError). OnFault y (λ f. (f ≡ record { node = number; kind = kind.NoClash }) × ¬ FactsClash schema facts)) (sym is) h))
  where
    go : (y : CloseError) → OnFault y (λ f. (f ≡ record { node = number; kind = kind.NoClash }) × ¬ FactsClash schema facts) → OnFault y (λ f. (f.node ≡ number) × IsNodeFault schema formulas rows facts Leaf f.kind)
    go (Fault f) h = leaf_fault schema formulas rows facts number f h
    go (Memory m) h = h

-- a leaf that is good
pub leaf-passed : (schema : SchemaParts) (formulas : List Problem) (rows : List RelId) (node : Node) (facts after : List Literal) (splits rest : List Cases)
    → node ≡ Leaf → FactsClash schema (reverse facts) → StandsBefore (waiting facts (reverse splits)) after rest → Passes schema formulas rows node facts splits after rest
leaf-passed schema formulas rows node facts after splits rest leaf clash stands =
    record { more = []; good = subst (λ (n : Node). IsGood schema formulas rows (reverse facts) n []) (sym leaf) (clash, refl); stands = stands }
