-- Trees close with more facts where they close with fewer, and need their splits with fewer where they need them with more.
use Rattle.std.proofs.Common.{◌≡◌, ℕ, ◌+◌, List, [], ◌∷◌, ◌++◌, length, sym, ◌∙◌, ap, subst, zero-add, ⊎_elim, length-append}
use Rattle.std.specs.Prelude.{Contains}
use Rattle.std.specs.List.{AllZip}
use Rattle.std.proofs.lemmas.List.{length-map}
use Rattle.std.proofs.lemmas.List.Elements.{All-weaker}
use Rattle.ras_logic.specs.declared.ids.RelId.{RelId}
use Rattle.ras_logic.specs.declared.literal.Literal.{Literal}
use Rattle.ras_logic.specs.declared.problem.Problem.{Problem}
use Rattle.ras_logic.specs.declared.tree.Node.{Node}
use Rattle.ras_logic.specs.declared.tree.Node.TheVariants.{Leaf, Split}
use Rattle.ras_logic.specs.Schemas.{SchemaParts}
use Rattle.ras_logic.specs.Formulas.{negated, replace}
use Rattle.ras_logic.specs.Trees.{AreTrees}
use Rattle.ras_logic.specs.Refutations.{chosen_row, children_facts, CloseAll}
use Rattle.ras_logic.proofs.Elements.{contains_cases, contains-here, contains-later}
use Rattle.ras_refute.proofs.Wider.{clash-wider}
use Rattle.ras_sat.specs.Needed.{AllNeeded}

-- each fact of the first list is one of the second
abbrev pub AreWithin : List Literal → List Literal → Type 0
AreWithin less more = (l : Literal) → Contains less l → Contains more l

within-cons : (x : Literal) (less more : List Literal) → AreWithin less more → AreWithin (x ∷ less) (x ∷ more)
within-cons x less more w l h =
    ⊎_elim (λ (e : x ≡ l). subst (λ (y : Literal). Contains (x ∷ more) y) e (contains-here x more)) (λ (rest : Contains less l). contains-later x l more (w l rest)) (contains_cases x l less h)

children-within : (less more : List Literal) → AreWithin less more → (chosen : List ℕ) (literals : List Literal) (ps qs : List (List Literal)) → AllZip AreWithin ps qs
    → AllZip AreWithin (children_facts less chosen literals ++ ps) (children_facts more chosen literals ++ qs)
children-within less more w chosen [] ps qs z = z
children-within less more w chosen (l ∷ literals) ps qs z = (within-cons (negated (replace (chosen_row chosen) l)) less more w, children-within less more w chosen literals ps qs z)

module _ (schema : SchemaParts) (formulas : List Problem) (rows : List RelId) where
  pub closes-wider : (nodes : List Node) (ps qs : List (List Literal)) → AllZip AreWithin ps qs → CloseAll schema formulas rows ps nodes → CloseAll schema formulas rows qs nodes
  closes-wider nodes [] [] z h = h
  closes-wider nodes [] (q ∷ qs) z h = absurd z
  closes-wider nodes (p ∷ ps) [] z h = absurd z
  closes-wider [] (p ∷ ps) (q ∷ qs) z h = absurd h
  closes-wider (Leaf ∷ nodes) (p ∷ ps) (q ∷ qs) z h = (clash-wider schema p q z.0 h.0, closes-wider nodes ps qs z.1 h.1)
  closes-wider (Split formula chosen children ∷ nodes) (p ∷ ps) (q ∷ qs) z h =
      let f : Problem = h.0 in
      (f, h.1, h.2, h.3, closes-wider nodes (children_facts p chosen f.literals ++ ps) (children_facts q chosen f.literals ++ qs) (children-within p q z.0 chosen f.literals ps qs z.1) h.4)

  pub needed-narrower : (nodes : List Node) (ps qs : List (List Literal)) → AllZip AreWithin ps qs → AllNeeded schema formulas rows qs nodes → AllNeeded schema formulas rows ps nodes
  needed-narrower nodes [] [] z h = tt
  needed-narrower nodes [] (q ∷ qs) z h = absurd z
  needed-narrower nodes (p ∷ ps) [] z h = absurd z
  needed-narrower [] (p ∷ ps) (q ∷ qs) z h = tt
  needed-narrower (Leaf ∷ nodes) (p ∷ ps) (q ∷ qs) z h = needed-narrower nodes ps qs z.1 h
  needed-narrower (Split formula chosen children ∷ nodes) (p ∷ ps) (q ∷ qs) z h =
      let f : Problem = h.0 in
      let n = h.2 in (
        f,
        h.1,
        record {
          trees = n.trees;
          rest = n.rest;
          first = n.first;
          as_many = n.as_many;
          whole = n.whole;
          needed = All-weaker (λ (tree : List Node). ¬ CloseAll schema formulas rows (q ∷ []) tree) (λ (tree : List Node). ¬ CloseAll schema formulas rows (p ∷ []) tree)
              (λ tree none closes. none (closes-wider tree (p ∷ []) (q ∷ []) (z.0, tt) closes)) n.trees n.needed;
        },
        needed-narrower nodes (children_facts p chosen f.literals ++ ps) (children_facts q chosen f.literals ++ qs) (children-within p q z.0 chosen f.literals ps qs z.1) h.3,
      )

  -- what closes is as many whole trees
  pub closes-whole : (nodes : List Node) (ps : List (List Literal)) → CloseAll schema formulas rows ps nodes → AreTrees (length ps) nodes
  closes-whole [] [] h = tt
  closes-whole (node ∷ nodes) [] h = absurd h
  closes-whole [] (p ∷ ps) h = absurd h
  closes-whole (Leaf ∷ nodes) (p ∷ ps) h = subst (λ (n : ℕ). AreTrees n nodes) (sym (zero-add (length ps))) (closes-whole nodes ps h.1)
  closes-whole (Split formula chosen children ∷ nodes) (p ∷ ps) h =
      let f : Problem = h.0 in
      let many : length (children_facts p chosen f.literals ++ ps) ≡ children + length ps =
      length-append (children_facts p chosen f.literals) ps
      ∙ ap (λ (n : ℕ). n + length ps) (length-map f.literals (λ (l : Literal). negated (replace (chosen_row chosen) l) ∷ p) ∙ sym h.3) in
      subst (λ (n : ℕ). AreTrees n nodes) many (closes-whole nodes (children_facts p chosen f.literals ++ ps) h.4)
