-- Where nodes close a premise, whatever satisfies the premise satisfies a formula.
use Rattle.std.proofs.Common.{◌≡◌, ℕ, zero, suc, Bool, true, false, List, [], ◌∷◌, ◌++◌, map, get_or, nat_eq, refl, ◌∙◌, subst, ◌⊎◌, inl, inr, ⊎_elim}
use Rattle.std.specs.Prelude.{slice_get, Some, option_and_then, All, IsTrue, not}
use Rattle.std.specs.List.{AllByRecursion, AllZip}
use Rattle.std.proofs.lemmas.List.Elements.{All-head, All-tail, All-nil, All-cons}
use Rattle.ras_logic.specs.declared.ids.SortId.{SortId}
use Rattle.ras_logic.specs.declared.ids.RelId.{RelId}
use Rattle.ras_logic.specs.declared.raw_db.RawDb.{RawDb}
use Rattle.ras_logic.specs.declared.values.Values.{Values}
use Rattle.ras_logic.specs.declared.term.Base.{Base}
use Rattle.ras_logic.specs.declared.term.Base.TheVariants.{Var, Cell, Constant, Undef, Param}
use Rattle.ras_logic.specs.declared.term.Term.{Term}
use Rattle.ras_logic.specs.declared.literal.Literal.{Literal}
use Rattle.ras_logic.specs.declared.literal.Literal.TheVariants.{Equal}
use Rattle.ras_logic.specs.declared.problem.Problem.{Problem}
use Rattle.ras_logic.specs.Shapes.{ShapeParts}
use Rattle.ras_logic.specs.Schemas.{IsSchema}
use Rattle.ras_logic.specs.Databases.{IsDatabase}
use Rattle.ras_logic.specs.Terms.{sort_of_base, sort_along, sort_of, replace_term}
use Rattle.ras_logic.specs.Formulas.{LiteralFits, Fits, IsCube, negated, replace}
use Rattle.ras_logic.specs.Truth.{AreValues, AllHold, Satisfies, holds, value, value_of_base, image_along}
use Rattle.ras_logic.proofs.TermSorts.{and_then_through, and_then_from, and_then-and_then, sort_along-append, image_along-append}
use Rattle.ras_logic.specs.declared.tree.Node.{Node}
use Rattle.ras_logic.specs.declared.tree.Node.TheVariants.{Leaf, Split}
use Rattle.ras_logic.specs.Refutations.{AreRowsOf, chosen_row, children_facts, CloseAll, Closes, HoldsOfSome}
use Rattle.ras_logic.proofs.Elements.{from_known}
use Rattle.ras_logic.proofs.Clashes.{clash-none}

not_false : (b : Bool) → not b ≡ false → b ≡ true
not_false true h = refl
not_false false h = absurd (cc)

either : (b : Bool) → (b ≡ true) ⊎ (b ≡ false)
either true = inl refl
either false = inr refl

negated-holds : (d : RawDb) (v : Values) (l : Literal) → holds d v l ≡ false → IsTrue (holds d v (negated l))
negated-holds d v (Equal left right true) h = rw h
negated-holds d v (Equal left right false) h = not_false (nat_eq (value d v left) (value d v right)) h

AllByRecursion-append : {A : Type 0} (P : A → Type 0) (xs ys : List A) → AllByRecursion P (xs ++ ys) → AllByRecursion P xs × AllByRecursion P ys
AllByRecursion-append P [] ys h = (tt, h)
AllByRecursion-append P (x ∷ xs) ys h = let r = AllByRecursion-append P xs ys h.1 in ((h.0, r.0), r.1)

-- the sort of a base stays the same where the formula's rows are replaced by rows of the premise of the same relations
chosen_relation : (rows formula : List RelId) (chosen : List ℕ) → AllZip (λ (r : RelId) (k : ℕ). slice_get rows k ≡ Some r) formula chosen
    → (n : ℕ) (r : RelId) → slice_get formula n ≡ Some r → slice_get rows (get_or chosen n 0) ≡ Some r
chosen_relation rows [] chosen z n r h = absurd (cc)
chosen_relation rows (q ∷ formula) [] z n r h = elim z [ ]
chosen_relation rows (q ∷ formula) (k ∷ chosen) z zero r h = z.0 ∙ h
chosen_relation rows (q ∷ formula) (k ∷ chosen) z (suc n) r h = chosen_relation rows formula chosen z.1 n r h

-- the sort and the value of a term whose base is replaced
pub replaced-sort : (shape : ShapeParts) (rows : List RelId) (params : List SortId) (f : Base → Term) (t : Term)
    → sort_of shape rows params (replace_term f t) ≡ option_and_then (sort_along shape.schema t.path) (sort_of shape rows params (f t.base))
replaced-sort shape rows params f t =
    and_then-and_then (sort_along shape.schema ((f t.base).path ++ t.path)) (sort_along shape.schema (f t.base).path) (sort_along shape.schema t.path)
    (sort_along-append shape.schema (f t.base).path t.path) (sort_of_base shape rows params (f t.base).base)

pub replaced-value : (d : RawDb) (v : Values) (f : Base → Term) (t : Term) → value d v (replace_term f t) ≡ image_along d t.path (value d v (f t.base))
replaced-value d v f t = image_along-append d (f t.base).path t.path (value_of_base d v (f t.base).base)

module _ (shape : ShapeParts) (rows formula_rows : List RelId) (params : List SortId) (chosen : List ℕ) (of : AreRowsOf rows formula_rows chosen) where
  replaced-base : (b : Base) (s : SortId) → sort_of_base shape formula_rows [] b ≡ Some s → sort_of shape rows params (chosen_row chosen b) ≡ Some s
  replaced-base (Var x) s h = rw h
  replaced-base (Cell row column) s h =
      let t = and_then_through (λ (r : RelId). option_and_then (λ (columns : List SortId). slice_get columns column) (slice_get shape.relations r.n)) (slice_get formula_rows row) s h in
      rw (chosen_relation rows formula_rows chosen of.relations row t.mid t.first, t.second)
  replaced-base (Constant c) s h = rw h
  replaced-base (Undef u) s h = rw h
  replaced-base (Param p) s h = absurd (cc)

  replaced-term : (t : Term) (s : SortId) → sort_of shape formula_rows [] t ≡ Some s → sort_of shape rows params (replace_term (chosen_row chosen) t) ≡ Some s
  replaced-term t s h =
      let u = and_then_through (sort_along shape.schema t.path) (sort_of_base shape formula_rows [] t.base) s h in
      replaced-sort shape rows params (chosen_row chosen) t
      ∙ and_then_from (sort_along shape.schema t.path) (sort_of shape rows params (chosen_row chosen t.base)) u.mid s (replaced-base t.base u.mid u.first) u.second

  pub replaced-fits : (l : Literal) → LiteralFits shape formula_rows [] l → LiteralFits shape rows params (negated (replace (chosen_row chosen) l))
  replaced-fits (Equal left right same) f = (f.0, replaced-term left f.0 f.1, replaced-term right f.0 f.2)

module _ (shape : ShapeParts) (d : RawDb) (db : IsDatabase shape.schema d) (ok : IsSchema shape.schema)
    (rows : List RelId) (params : List SortId) (v : Values) (values : AreValues shape d rows params v)
    (formulas : List Problem) (fit : All (Fits shape) formulas) (cubes : All IsCube formulas) where
  -- whatever satisfies these facts satisfies a formula
  abbrev Follows : List Literal → Type 0
  Follows facts = All (LiteralFits shape rows params) facts → AllHold d v facts → HoldsOfSome d v rows formulas

  -- either each literal of the formula holds of the chosen rows, or the facts of some child do
  by_cases : (facts : List Literal) (chosen : List ℕ) (formula_rows : List RelId) → AreRowsOf rows formula_rows chosen
      → All (LiteralFits shape rows params) facts → AllHold d v facts
      → (literals : List Literal) → All (LiteralFits shape formula_rows []) literals → AllByRecursion Follows (children_facts facts chosen literals)
      → HoldsOfSome d v rows formulas ⊎ AllHold d v (map (replace (chosen_row chosen)) literals)
  by_cases facts chosen formula_rows of f h [] lf c = inr (All-nil (λ (l : Literal). IsTrue (holds d v l)))
  by_cases facts chosen formula_rows of f h (l ∷ literals) lf c =
      let here : LiteralFits shape formula_rows [] l = All-head (LiteralFits shape formula_rows []) l literals lf in
      let rest : HoldsOfSome d v rows formulas ⊎ AllHold d v (map (replace (chosen_row chosen)) literals) =
      by_cases facts chosen formula_rows of f h literals (All-tail (LiteralFits shape formula_rows []) l literals lf) c.1 in
      let child : Literal = negated (replace (chosen_row chosen) l) in
      ⊎_elim
      (λ yes_here. ⊎_elim inl (λ all. inr (All-cons (λ (q : Literal). IsTrue (holds d v q)) (replace (chosen_row chosen) l) (map (replace (chosen_row chosen)) literals) yes_here all)) rest)
      (λ no_here. inl (c.0
      (All-cons (LiteralFits shape rows params) child facts (replaced-fits shape rows formula_rows params chosen of l here) f)
      (All-cons (λ (q : Literal). IsTrue (holds d v q)) child facts (negated-holds d v (replace (chosen_row chosen) l) no_here) h)))
      (either (holds d v (replace (chosen_row chosen) l)))

  split-follows : (facts : List Literal) (number : ℕ) (g : Problem) (chosen : List ℕ) → slice_get formulas number ≡ Some g → AreRowsOf rows g.rows chosen
      → AllByRecursion Follows (children_facts facts chosen g.literals) → Follows facts
  split-follows facts number g chosen known of children f h =
      let no_params : g.params ≡ [] = (from_known IsCube formulas cubes number g known).none in
      let lits : All (LiteralFits shape g.rows []) g.literals =
      subst (λ (q : List SortId). All (LiteralFits shape g.rows q) g.literals) no_params (from_known (Fits shape) formulas fit number g known).literals in
      ⊎_elim (λ found. found) (λ all. record { number = number; formula = g; known = known; chosen = chosen; rows_of = of; literals = all })
      (by_cases facts chosen g.rows of f h g.literals lits children)

  close-all : (nodes : List Node) (pending : List (List Literal)) → CloseAll shape.schema formulas rows pending nodes → AllByRecursion Follows pending
  close-all [] [] c = tt
  close-all [] (facts ∷ pending) c = absurd c
  close-all (node ∷ nodes) [] c = tt
  close-all (Leaf ∷ nodes) (facts ∷ pending) c = (λ f h. absurd (clash-none shape d db rows params v values ok facts f h c.0), close-all nodes pending c.1)
  close-all (Split formula chosen children ∷ nodes) (facts ∷ pending) c =
      let g : Problem = c.0 in
      let later = AllByRecursion-append Follows (children_facts facts chosen g.literals) pending (close-all nodes (children_facts facts chosen g.literals ++ pending) c.4) in
      (split-follows facts formula g chosen c.1 c.2 later.0, later.1)

  -- a premise whose nodes close it is among the formulas
  pub closed-holds : (premise : Problem) (nodes : List Node) → premise.rows ≡ rows → Closes shape.schema premise formulas nodes
      → All (LiteralFits shape rows params) premise.literals → AllHold d v premise.literals → HoldsOfSome d v rows formulas
  closed-holds premise nodes e c f h =
      (close-all nodes (premise.literals ∷ []) (subst (λ (r : List RelId). CloseAll shape.schema formulas r (premise.literals ∷ []) nodes) e c)).0 f h

pub closed-sound : (shape : ShapeParts) (premise : Problem) (formulas : List Problem) (nodes : List Node) → IsSchema shape.schema → Fits shape premise
    → All (Fits shape) formulas → All IsCube formulas → Closes shape.schema premise formulas nodes
    → (d : RawDb) (v : Values) → IsDatabase shape.schema d → Satisfies shape d v premise → HoldsOfSome d v premise.rows formulas
closed-sound shape premise formulas nodes ok fit formulas_fit cubes closes d v db sat =
    closed-holds shape d db ok premise.rows premise.params v sat.values formulas formulas_fit cubes premise nodes refl closes fit.literals sat.literals
