-- A plain system, and its numbers.
use Rattle.std.proofs.Common.{◌≡◌, true, ℕ, suc, ◌+◌, ◌<◌, List, [], ◌∷◌, length, map, get_or, take, sym, ap, ◌∙◌, subst, refl, arith}
use Rattle.std.specs.Prelude.{Option, Some, None, All, Any, Contains}
use Rattle.std.proofs.lemmas.List.{get_or-take, length-take}
use Rattle.ras_logic.specs.declared.ids.SortId.{SortId}
use Rattle.ras_logic.specs.declared.ids.ConstId.{ConstId}
use Rattle.ras_logic.specs.declared.ids.RelId.{RelId}
use Rattle.ras_logic.specs.declared.function.FunDecl.{FunDecl}
use Rattle.ras_logic.specs.declared.term.Term.{Term}
use Rattle.ras_logic.specs.declared.literal.Literal.{Literal}
use Rattle.ras_logic.specs.declared.problem.Problem.{Problem}
use Rattle.ras_logic.specs.declared.kind.Kind.TheVariants.{Sort, Function, Constant, Variable, Relation, Column}
use Rattle.ras_logic.specs.declared.schema_fault.SchemaFault.{SchemaFault}
use Rattle.ras_logic.specs.declared.schema_fault.SchemaFault.TheVariants.{TooMany, BadSort, Cycle}
use Rattle.ras_logic.specs.declared.shape_fault.ShapeFault.{ShapeFault}
use Rattle.ras_logic.specs.declared.shape_fault.ShapeFault.TheVariants as shape_fault
use Rattle.ras_logic.specs.Schemas.{SchemaParts, IsSchema}
use Rattle.ras_logic.specs.SchemaFaults.{HasSchemaLimits, IsSchemaFault, HasCycle}
use Rattle.ras_logic.specs.Shapes.{ShapeParts, IsShape}
use Rattle.ras_logic.specs.ShapeFaults.{HasShapeLimits, IsShapeFault, all_columns}
use Rattle.ras_logic.specs.Terms.{sort_of}
use Rattle.ras_logic.proofs.Rounds.{acyclic-no_cycle}
use Rattle.ras_system.specs.declared.bulk.Bulk.{Bulk}
use Rattle.ras_system.specs.declared.update.Target.{Target}
use Rattle.ras_system.specs.declared.update.Target.TheVariants.{Var, Cell}
use Rattle.ras_system.specs.declared.update.Update.{Update}
use Rattle.ras_system.specs.declared.transition.Transition.{Transition}
use Rattle.ras_system.specs.Systems.{SystemParts, target_term, UpdateFits, IsTransition}
use Rattle.ras_system.specs.Plain.{IsPlainTransition}
use Rattle.ras_bundles.specs.declared.system_lines.FunctionLine.{FunctionLine}
use Rattle.ras_bundles.specs.declared.system_lines.VariableLine.{VariableLine}
use Rattle.ras_bundles.specs.declared.system_lines.TransitionLines.{TransitionLines}
use Rattle.ras_bundles.specs.declared.system_lines.UpdateLine.{UpdateLine}
use Rattle.ras_bundles.specs.declared.system_lines.SystemLines.{SystemLines}
use Rattle.ras_bundles.specs.Numbers.{function_numbers, sort_number, constant_number, variables_of, disjunct_cube, update_numbers, transition_numbers, numbers_of, function_named, sort_named, constant_named, variable_sort, variable_initial, literals_of, update_named, transition_named, system_named}
use Rattle.ras_bundles.specs.Bundles.{IsPlainSystem}

-- What the checks of a system refuse is no system.

contains_more : {X : Type 0} (xs : List X) (n : ℕ) (x : X) → Contains (take n xs) x → Contains xs x
contains_more xs n x (k, lt, is) =
    let within : (k < n) × (k < length xs) = (omega (arith, lt, length-take n xs), omega (arith, lt, length-take n xs)) in
    (k, within.1, sym (get_or-take n xs k x within.0) ∙ is)

cycle_more : (functions : List FunDecl) (n : ℕ) → HasCycle (take n functions) → HasCycle functions
cycle_more functions n (f, fs, chain, end) = (f, fs, record { known = λ k d lt. contains_more functions n (get_or (f ∷ fs) k d) (chain.known k d lt); linked = chain.linked }, end)

pub schema_never : (s : SchemaParts) → IsSchema s → HasSchemaLimits s → (f : SchemaFault) → IsSchemaFault s f → ⊥
schema_never s is few (TooMany Sort) h = absurd (omega (arith, few.sorts, h))
schema_never s is few (TooMany Function) h = absurd (omega (arith, few.functions, h.1))
schema_never s is few (TooMany Constant) h = absurd (omega (arith, few.constants, h.2))
schema_never s is few (TooMany kind) h = absurd h
schema_never s is few (BadSort Function place) h = let d : FunDecl = record { source = record { n = 0 }; target = record { n = 0 }; total = true } in h.1.bad d (is.functions place d h.1.within)
schema_never s is few (BadSort Constant place) h = let d : SortId = record { n = 0 } in h.2.bad d (is.constants place d h.2.within)
schema_never s is few (BadSort kind place) h = absurd h
schema_never s is few (Cycle f) h = acyclic-no_cycle s.sorts s.functions is.acyclic (cycle_more s.functions (f.n + 1) h.3.closed)

no_element : {X : Type 0} {P : X → Type 0} (xs : List X) → xs ≡ [] → Any P xs → ⊥
no_element xs none (k, x, lt, is, p) = absurd (omega (arith, lt, ap length none))

no_bad : {X : Type 0} (xs : List X) (k : ℕ) → xs ≡ [] → k < length xs → ⊥
no_bad xs k none lt = absurd (omega (arith, lt, ap length none))

pub shape_never : (s : ShapeParts) → IsShape s → HasShapeLimits s → s.relations ≡ [] → (f : ShapeFault) → IsShapeFault s f → ⊥
shape_never s is few none (shape_fault.TooMany Variable) h = absurd (omega (arith, few.vars, h))
shape_never s is few none (shape_fault.TooMany Relation) h = absurd (omega (arith, few.relations, h.1))
shape_never s is few none (shape_fault.TooMany Column) h = no_element s.relations none h.2
shape_never s is few none (shape_fault.TooMany kind) h = absurd h
shape_never s is few none (shape_fault.BadSort Variable place) h = let d : SortId = record { n = 0 } in h.1.bad d (is.vars place d h.1.within)
shape_never s is few none (shape_fault.BadSort Column place) h = no_bad (all_columns s.relations) place (ap all_columns none) h.2.within
shape_never s is few none (shape_fault.BadSort kind place) h = absurd h
shape_never s is few none (shape_fault.NoColumn r) h = no_bad s.relations r.n none h.3.within

-- The system that the numbers of a plain system name.

back : {A B : Type 0} (f : A → B) (g : B → A) → ((x : A) → g (f x) ≡ x) → (xs : List A) → map g (map f xs) ≡ xs
back f g h [] = refl
back {A} f g h (x ∷ xs) = ap (λ (y : A). y ∷ map g (map f xs)) (h x) ∙ ap (λ (ys : List A). x ∷ ys) (back f g h xs)

back_where : {A B : Type 0} (f : A → B) (g : B → A) (Q : A → Type 0) → ((x : A) → Q x → g (f x) ≡ x) → (xs : List A) → All Q xs → map g (map f xs) ≡ xs
back_where f g Q h [] all = refl
back_where {A} f g Q h (x ∷ xs) all =
    ap (λ (y : A). y ∷ map g (map f xs)) (h x (all 0 x (omega arith))) ∙ ap (λ (ys : List A). x ∷ ys) (back_where f g Q h xs (λ k d lt. all (suc k) d (omega (arith, lt))))

variables_sorts : (vars : List SortId) (initial : List (Option ConstId)) → length initial ≡ length vars → map variable_sort (variables_of vars initial) ≡ vars
variables_sorts [] initial e = refl
variables_sorts (s ∷ vars) [] e = absurd (omega (arith, e))
variables_sorts (s ∷ vars) (c ∷ initial) e = ap (λ (ss : List SortId). s ∷ ss) (variables_sorts vars initial (omega (arith, e)))

constant_back : (c : Option ConstId) → constant_named (constant_number c) ≡ c
constant_back None = refl
constant_back (Some c) = refl

variables_initial : (vars : List SortId) (initial : List (Option ConstId)) → length initial ≡ length vars → map variable_initial (variables_of vars initial) ≡ initial
variables_initial [] [] e = refl
variables_initial [] (c ∷ initial) e = absurd (omega (arith, e))
variables_initial (s ∷ vars) [] e = absurd (omega (arith, e))
variables_initial (s ∷ vars) (c ∷ initial) e =
    ap (λ (o : Option ConstId). o ∷ map variable_initial (variables_of vars initial)) (constant_back c) ∙ ap (λ (cs : List (Option ConstId)). c ∷ cs) (variables_initial vars initial (omega (arith, e)))

no_cell : (shape : ShapeParts) (rows : List RelId) (params : List SortId) (row column : ℕ) (sort : SortId) → rows ≡ [] → sort_of shape rows params (target_term (Cell row column)) ≡ Some sort → ⊥
no_cell shape rows params row column sort none e = none_there (subst (λ (rs : List RelId). sort_of shape rs params (target_term (Cell row column)) ≡ Some sort) none e)
  where
    none_there : sort_of shape [] params (target_term (Cell row column)) ≡ Some sort → ⊥
    none_there e = cc

target_back : (shape : ShapeParts) (rows : List RelId) (params : List SortId) (target : Target) (term : Term) (sort : SortId) → rows ≡ [] → sort_of shape rows params (target_term target) ≡ Some sort
    → update_named (update_numbers (record { target = target; term = term })) ≡ record { target = target; term = term }
target_back shape rows params (Var v) term sort none e = refl
target_back shape rows params (Cell row column) term sort none e = absurd (no_cell shape rows params row column sort none e)

update_back : (shape : ShapeParts) (rows : List RelId) (params : List SortId) (u : Update) → rows ≡ [] → UpdateFits shape rows params u → update_named (update_numbers u) ≡ u
update_back shape rows params u none fits = target_back shape rows params u.target u.term fits.0 none fits.1

transition_back : (shape : ShapeParts) (t : Transition) → IsTransition shape t → IsPlainTransition t → transition_named (transition_numbers t) ≡ t
transition_back shape t is plain =
    let make : List RelId → List SortId → List (List Literal) → List Update → List Bulk → Transition = λ rs ps g us b. record { rows = rs; params = ps; guard = g; updates = us; bulk = b } in
    ap (λ (rs : List RelId). make rs [] (map literals_of (map disjunct_cube t.guard)) (map update_named (map update_numbers t.updates)) []) (sym plain.rows)
    ∙ ap (λ (ps : List SortId). make t.rows ps (map literals_of (map disjunct_cube t.guard)) (map update_named (map update_numbers t.updates)) []) (sym plain.params)
    ∙ ap (λ (g : List (List Literal)). make t.rows t.params g (map update_named (map update_numbers t.updates)) []) (back disjunct_cube literals_of (λ ls. refl) t.guard)
    ∙ ap (λ (us : List Update). make t.rows t.params t.guard us [])
    (back_where update_numbers update_named (UpdateFits shape t.rows t.params) (λ u fits. update_back shape t.rows t.params u plain.rows fits) t.updates is.updates)
    ∙ ap (λ (b : List Bulk). make t.rows t.params t.guard t.updates b) (sym plain.bulk)

transitions_back : (s : SystemParts) → IsPlainSystem s → map transition_named (map transition_numbers s.transitions) ≡ s.transitions
transitions_back s h =
    back_where transition_numbers transition_named (λ t. IsTransition s.shape t × IsPlainTransition t) (λ t both. transition_back s.shape t both.0 both.1) s.transitions
    (λ k d lt. (h.system.transitions k d lt, h.plain.transitions k d lt))

abbrev system_from : List FunDecl → List SortId → List SortId → List (List SortId) → List (Option ConstId) → List Transition → SystemParts → SystemParts
system_from fs cs vs rs is ts s =
    record { shape = record { schema = record { sorts = s.shape.schema.sorts; functions = fs; constants = cs }; vars = vs; relations = rs }; initial = is; transitions = ts; goals = s.goals }

pub named_back : (s : SystemParts) → IsPlainSystem s → system_named (numbers_of s) ≡ s
named_back s h =
    let fs = map function_named (map function_numbers s.shape.schema.functions) in
    let cs = map sort_named (map sort_number s.shape.schema.constants) in
    let vs = map variable_sort (variables_of s.shape.vars s.initial) in
    let is = map variable_initial (variables_of s.shape.vars s.initial) in
    let ts = map transition_named (map transition_numbers s.transitions) in
    ap (λ (x : List FunDecl). system_from x cs vs [] is ts s) (back function_numbers function_named (λ f. refl) s.shape.schema.functions)
    ∙ ap (λ (x : List SortId). system_from s.shape.schema.functions x vs [] is ts s) (back sort_number sort_named (λ c. refl) s.shape.schema.constants)
    ∙ ap (λ (x : List SortId). system_from s.shape.schema.functions s.shape.schema.constants x [] is ts s) (variables_sorts s.shape.vars s.initial h.system.initial_for_each)
    ∙ ap (λ (x : List (List SortId)). system_from s.shape.schema.functions s.shape.schema.constants s.shape.vars x is ts s) (sym h.plain.relations)
    ∙ ap (λ (x : List (Option ConstId)). system_from s.shape.schema.functions s.shape.schema.constants s.shape.vars s.shape.relations x ts s) (variables_initial s.shape.vars s.initial h.system.initial_for_each)
    ∙ ap (λ (x : List Transition). system_from s.shape.schema.functions s.shape.schema.constants s.shape.vars s.shape.relations s.initial x s) (transitions_back s h)

-- a plain system has the numbers of no other
pub one_system : (s t : SystemParts) → IsPlainSystem s → IsPlainSystem t → numbers_of s ≡ numbers_of t → s ≡ t
one_system s t hs ht e = sym (named_back s hs) ∙ ap system_named e ∙ named_back t ht

-- The numbers of the system that numbers name.

number_back : (o : Option ℕ) → constant_number (constant_named o) ≡ o
number_back None = refl
number_back (Some n) = refl

abbrev line_of : ℕ → Option ℕ → VariableLine
line_of n o = record { sort = n; initial = o }

variables_back : (vs : List VariableLine) → variables_of (map variable_sort vs) (map variable_initial vs) ≡ vs
variables_back [] = refl
variables_back (v ∷ vs) =
    ap (λ (o : Option ℕ). line_of v.sort o ∷ variables_of (map variable_sort vs) (map variable_initial vs)) (number_back v.initial) ∙ ap (λ (ws : List VariableLine). v ∷ ws) (variables_back vs)

-- a cube that names no row and no data parameter
pub record IsBare (p : Problem) : Type 0 where
  pub rows : p.rows ≡ []
  pub params : p.params ≡ []

abbrev pub HasBareGuard : TransitionLines → Type 0
HasBareGuard t = All IsBare t.guard

cube_back : (p : Problem) → IsBare p → disjunct_cube (literals_of p) ≡ p
cube_back p bare =
    let make : List RelId → List SortId → Problem = λ rs ps. record { rows = rs; params = ps; literals = p.literals } in
    ap (λ (rs : List RelId). make rs []) (sym bare.rows) ∙ ap (λ (ps : List SortId). make p.rows ps) (sym bare.params)

lines_back : (t : TransitionLines) → HasBareGuard t → transition_numbers (transition_named t) ≡ t
lines_back t bare =
    let make : List Problem → List UpdateLine → TransitionLines = λ g us. record { guard = g; updates = us } in
    ap (λ (g : List Problem). make g (map update_numbers (map update_named t.updates))) (back_where literals_of disjunct_cube IsBare cube_back t.guard bare)
    ∙ ap (λ (us : List UpdateLine). make t.guard us) (back update_named update_numbers (λ u. refl) t.updates)

abbrev lines_from : List FunctionLine → List ℕ → List VariableLine → List TransitionLines → SystemLines → SystemLines
lines_from fs cs vs ts l = record { sorts = l.sorts; functions = fs; constants = record { sorts = cs }; variables = vs; transitions = ts; goals = l.goals }

pub numbers_back : (l : SystemLines) → All HasBareGuard l.transitions → numbers_of (system_named l) ≡ l
numbers_back l bare =
    let cs = map sort_number (map sort_named l.constants.sorts) in
    let vs = variables_of (map variable_sort l.variables) (map variable_initial l.variables) in
    let ts = map transition_numbers (map transition_named l.transitions) in
    ap (λ (x : List FunctionLine). lines_from x cs vs ts l) (back function_named function_numbers (λ f. refl) l.functions)
    ∙ ap (λ (x : List ℕ). lines_from l.functions x vs ts l) (back sort_named sort_number (λ c. refl) l.constants.sorts)
    ∙ ap (λ (x : List VariableLine). lines_from l.functions l.constants.sorts x ts l) (variables_back l.variables)
    ∙ ap (λ (x : List TransitionLines). lines_from l.functions l.constants.sorts l.variables x l) (back_where transition_named transition_numbers HasBareGuard lines_back l.transitions bare)
