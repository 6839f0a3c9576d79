-- Where a tree refutes a premise by cases on instances, nothing satisfies the premise and falsifies each instance.
use Rattle.std.proofs.Common.{◌≡◌, ℕ, Bool, true, false, List, [], ◌∷◌, ◌++◌, nat_eq, refl, sym, ◌∙◌, subst, arith, ⊎_elim}
use Rattle.std.specs.Prelude.{slice_get, Some, All, Contains, IsTrue, not}
use Rattle.std.specs.List.{AllByRecursion}
use Rattle.std.proofs.lemmas.List.Elements.{All-cons, All-head, All-tail, All-contains}
use Rattle.std.proofs.lemmas.Option.{same_Some}
use Rattle.ras_logic.specs.declared.ids.SortId.{SortId}
use Rattle.ras_logic.specs.declared.raw_db.RawDb.{RawDb}
use Rattle.ras_logic.specs.declared.values.Values.{Values}
use Rattle.ras_logic.specs.declared.literal.Literal.{Literal}
use Rattle.ras_logic.specs.declared.literal.Literal.TheVariants.{Equal}
use Rattle.ras_logic.specs.declared.problem.Problem.{Problem}
use Rattle.ras_logic.specs.declared.tree.Node.{Node}
use Rattle.ras_logic.specs.declared.tree.Node.TheVariants.{Leaf, Split}
use Rattle.ras_logic.specs.Shapes.{ShapeParts}
use Rattle.ras_logic.specs.Schemas.{IsSchema}
use Rattle.ras_logic.specs.Formulas.{LiteralFits, Fits, IsCube, negated, replace}
use Rattle.ras_logic.specs.Truth.{AllHold, holds, value}
use Rattle.ras_logic.specs.Refutations.{AreRowsOf, chosen_row, children_facts, CloseAll, Closes}
use Rattle.ras_logic.proofs.Clashes.{clash-none}
use Rattle.ras_logic.proofs.Elements.{from_known}
use Rattle.ras_logic.proofs.Elements.{contains_cases}
use Rattle.ras_sat.specs.declared.instance.Instance.{Instance}
use Rattle.ras_sat.specs.Instances.{IsFalsified, IsByInstance}
use Rattle.ras_sat.specs.Answers.{IsEscape}
use Rattle.ras_logic.proofs.Closing.{replaced-fits}

not_false : (b : Bool) → not b ≡ false → b ≡ true
not_false true h = refl
not_false false h = absurd (cc)

negated-holds : (d : RawDb) (v : Values) (l : Literal) → holds d v l ≡ false → IsTrue (holds d v (negated l))
negated-holds d v (Equal left right true) h = rw h
negated-holds d v (Equal left right false) h = not_false (nat_eq (value d v left) (value d v right)) h

halves : {A : Type 0} (P : A → Type 0) (xs ys : List A) → AllByRecursion P (xs ++ ys) → AllByRecursion P xs × AllByRecursion P ys
halves P [] ys h = (tt, h)
halves P (x ∷ xs) ys h = let r = halves P xs ys h.1 in ((h.0, r.0), r.1)

-- what holds of the facts of each child holds of those of the child for this literal
child-of : (P : List Literal → Type 0) (facts : List Literal) (chosen : List ℕ) (literals : List Literal) (l : Literal) → Contains literals l → AllByRecursion P (children_facts facts chosen literals)
    → P (negated (replace (chosen_row chosen) l) ∷ facts)
child-of P facts chosen [] l inside h = absurd (omega (arith, inside.1))
child-of P facts chosen (m ∷ literals) l inside h =
    ⊎_elim (λ (e : m ≡ l). subst (λ (q : Literal). P (negated (replace (chosen_row chosen) q) ∷ facts)) e h.0) (λ (rest : Contains literals l). child-of P facts chosen literals l rest h.1)
    (contains_cases m l literals inside)

module _ (shape : ShapeParts) (premise : Problem) (formulas : List Problem) (instances : List Instance) (ok : IsSchema shape.schema) (fit : All (Fits shape) formulas) (cubes : All IsCube formulas)
    (d : RawDb) (v : Values) (escape : IsEscape shape premise formulas instances d v) where
  -- these facts do not hold
  abbrev Fail : List Literal → Type 0
  Fail facts = All (LiteralFits shape premise.rows premise.params) facts → AllHold d v facts → ⊥

  split-fails : (facts : List Literal) (number : ℕ) (f : Problem) (chosen : List ℕ) → slice_get formulas number ≡ Some f → AreRowsOf premise.rows f.rows chosen
      → Contains instances (record { formula = number; rows = chosen }) → AllByRecursion Fail (children_facts facts chosen f.literals) → Fail facts
  split-fails facts number f chosen known rows_of among children fits hold =
      let i : Instance = record { formula = number; rows = chosen } in
      let one : IsFalsified d v formulas i = All-contains (IsFalsified d v formulas) instances i escape.falsified among in
      let g : Problem = one.formula in
      let same : g ≡ f = same_Some g f (sym one.known ∙ known) in
      let inside : Contains f.literals one.literal = subst (λ (q : Problem). Contains q.literals one.literal) same one.among in
      let no_params : f.params ≡ [] = (from_known IsCube formulas cubes number f known).none in
      let literals : All (LiteralFits shape f.rows []) f.literals = subst (λ (q : List SortId). All (LiteralFits shape f.rows q) f.literals) no_params (from_known (Fits shape) formulas fit number f known).literals in
      let child : Literal = negated (replace (chosen_row chosen) one.literal) in
      child-of Fail facts chosen f.literals one.literal inside children
      (All-cons (LiteralFits shape premise.rows premise.params) child facts
      (replaced-fits shape premise.rows f.rows premise.params chosen rows_of one.literal (All-contains (LiteralFits shape f.rows []) f.literals one.literal literals inside)) fits)
      (All-cons (λ (q : Literal). IsTrue (holds d v q)) child facts (negated-holds d v (replace (chosen_row chosen) one.literal) one.fails) hold)

  closed-fail : (nodes : List Node) (pending : List (List Literal)) → CloseAll shape.schema formulas premise.rows pending nodes → All (IsByInstance instances) nodes → AllByRecursion Fail pending
  closed-fail [] [] c by = tt
  closed-fail [] (facts ∷ pending) c by = absurd c
  closed-fail (node ∷ nodes) [] c by = tt
  closed-fail (Leaf ∷ nodes) (facts ∷ pending) c by =
      (λ f h. clash-none shape d escape.database premise.rows premise.params v escape.satisfies.values ok facts f h c.0, closed-fail nodes pending c.1 (All-tail (IsByInstance instances) Leaf nodes by))
  closed-fail (Split formula chosen children ∷ nodes) (facts ∷ pending) c by =
      let f : Problem = c.0 in
      let here = All-head (IsByInstance instances) (Split formula chosen children) nodes by in
      let later = halves Fail (children_facts facts chosen f.literals) pending
      (closed-fail nodes (children_facts facts chosen f.literals ++ pending) c.4 (All-tail (IsByInstance instances) (Split formula chosen children) nodes by)) in
      (split-fails facts formula f chosen c.1 c.2 here later.0, later.1)

pub closed-no_escape : (shape : ShapeParts) (premise : Problem) (formulas : List Problem) (instances : List Instance) (nodes : List Node) → IsSchema shape.schema → Fits shape premise
    → All (Fits shape) formulas → All IsCube formulas → Closes shape.schema premise formulas nodes → All (IsByInstance instances) nodes
    → (d : RawDb) (v : Values) → ¬ IsEscape shape premise formulas instances d v
closed-no_escape shape premise formulas instances nodes ok premise_fits fit cubes closes by d v escape =
    (closed-fail shape premise formulas instances ok fit cubes d v escape nodes (premise.literals ∷ []) closes by).0 premise_fits.literals escape.satisfies.literals
