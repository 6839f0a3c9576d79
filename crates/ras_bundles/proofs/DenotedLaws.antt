-- The system that numbers without a fault name is made of them.
use Rattle.std.proofs.Common.{◌≡◌, ℕ, ◌<◌, List, [], ◌++◌, map, sym, ap, ◌∙◌, subst, refl, arith, append-nil}
use Rattle.std.specs.Prelude.{Option, Some, None, Result, Ok, Err, IsErrAnd, IfErr, All, slice_get}
use Rattle.std.proofs.lemmas.Option.{slice_get_within}
use Rattle.ras_logic.specs.declared.ids.SortId.{SortId}
use Rattle.ras_logic.specs.declared.ids.ConstId.{ConstId}
use Rattle.ras_logic.specs.declared.function.FunDecl.{FunDecl}
use Rattle.ras_logic.specs.declared.schema_fault.SchemaFault.{SchemaFault}
use Rattle.ras_logic.specs.declared.shape_fault.ShapeFault.{ShapeFault}
use Rattle.ras_logic.specs.Schemas.{SchemaParts, IsSort, HasSorts}
use Rattle.ras_logic.specs.SchemaFaults.{HasSchemaLimits, IsSchemaFault}
use Rattle.ras_logic.specs.Shapes.{ShapeParts, IsShape}
use Rattle.ras_logic.specs.ShapeFaults.{HasShapeLimits, IsShapeFault}
use Rattle.ras_logic.specs.Terms.{sort_along}
use Rattle.ras_logic.proofs.Clashes.{from_known}
use Rattle.ras_logic.proofs.TermSorts.{and_then_through}
use Rattle.ras_system.specs.declared.transition.Transition.{Transition}
use Rattle.ras_system.specs.declared.system_fault.SystemFault.{SystemFault}
use Rattle.ras_system.specs.Systems.{SystemParts, IsTransition, UpdateFits}
use Rattle.ras_system.specs.SystemFaults as system
use Rattle.ras_system.proofs.NoFaults.{no_fault_of_system}
use Rattle.ras_bundles.specs.declared.system_lines.FunctionLine.{FunctionLine}
use Rattle.ras_bundles.specs.declared.system_lines.VariableLine.{VariableLine}
use Rattle.ras_bundles.specs.declared.system_lines.TransitionLines.{TransitionLines}
use Rattle.ras_bundles.specs.declared.system_lines.SystemLines.{SystemLines}
use Rattle.ras_bundles.specs.declared.fault.BundleError.{BundleError}
use Rattle.ras_bundles.specs.declared.fault.BundleError.TheVariants.{System, Evidence, Memory}
use Rattle.ras_bundles.specs.SystemTexts.{IsWrittenSystem}
use Rattle.ras_bundles.specs.Numbers.{function_named, sort_named, constant_named, variable_sort, variable_initial, update_named, transition_named, schema_named, shape_named, system_named}
use Rattle.ras_bundles.specs.Bundles.{IsPlainSystem}
use Rattle.ras_bundles.specs.Checks.{first_from, shape_checks, step_checks}
use Rattle.ras_bundles.specs.Judging.{Judges, AnswersFirstFault, IsShort, HasShortSorts, HasShortSort, IsShortInitial, HasShortInitial, HasShortTarget, HasShortTargets}
use Rattle.ras_logic.proofs.ByPlace.{map-at, all-from}
use Rattle.ras_bundles.proofs.NamedLaws.{schema_never, shape_never}
use Rattle.ras_bundles.proofs.CompleteLaws.{GoodShape, good_shape, judged_pass, IsDenoted, denoted_by}

module _ (l : SystemLines) (few : HasSchemaLimits (schema_named l)) (shape : IsShape (shape_named l)) where
  short : (n : ℕ) → n < l.sorts → IsShort n
  short n lt = (let most = few.sorts in omega (arith, lt, most))

  pub short_functions : (fs : List FunctionLine) → fs ≡ l.functions → All HasShortSorts fs
  short_functions fs same = subst (All HasShortSorts) (sym same) (all-from HasShortSorts l.functions (λ k f at.
      let sorts : HasSorts l.sorts (function_named f) = from_known (HasSorts l.sorts) (map function_named l.functions) shape.schema.functions k (function_named f) (map-at function_named l.functions k f at) in
      (short f.source sorts.0, short f.target sorts.1)))

  pub short_constants : (cs : List ℕ) → cs ≡ l.constants.sorts → All IsShort cs
  short_constants cs same = subst (All IsShort) (sym same) (all-from IsShort l.constants.sorts (λ k n at.
      short n (from_known (IsSort l.sorts) (map sort_named l.constants.sorts) shape.schema.constants k (sort_named n) (map-at sort_named l.constants.sorts k n at))))

  pub short_sorts : (vs : List VariableLine) → vs ≡ l.variables → All HasShortSort vs
  short_sorts vs same = subst (All HasShortSort) (sym same) (all-from HasShortSort l.variables (λ k v at.
      short v.sort (from_known (IsSort l.sorts) (map variable_sort l.variables) shape.vars k (variable_sort v) (map-at variable_sort l.variables k v at))))

  pub no_schema_fault : (fs : List FunDecl) (cs : List SortId) (f : SchemaFault) → fs ≡ map function_named l.functions → cs ≡ map sort_named l.constants.sorts
      → IsSchemaFault (record { sorts = l.sorts; functions = fs; constants = cs }) f → ⊥
  no_schema_fault fs cs f functions constants fault =
      let make : List FunDecl → List SortId → SchemaParts = λ x y. record { sorts = l.sorts; functions = x; constants = y } in
      let same : make fs cs ≡ schema_named l = ap (λ (x : List FunDecl). make x cs) functions ∙ ap (make (map function_named l.functions)) constants in
      schema_never (schema_named l) shape.schema few f (subst (λ (s : SchemaParts). IsSchemaFault s f) same fault)

  pub no_shape_fault : HasShapeLimits (shape_named l) → (schema : SchemaParts) (fs : List FunDecl) (cs vs : List SortId) (rs : List (List SortId)) (f : ShapeFault)
      → schema ≡ record { sorts = l.sorts; functions = fs; constants = cs } → fs ≡ map function_named l.functions → cs ≡ map sort_named l.constants.sorts → vs ≡ map variable_sort l.variables → rs ≡ []
      → IsShapeFault (record { schema = schema; vars = vs; relations = rs }) f → ⊥
  no_shape_fault limits schema fs cs vs rs f is functions constants vars none fault =
      let make : List FunDecl → List SortId → SchemaParts = λ x y. record { sorts = l.sorts; functions = x; constants = y } in
      let with : SchemaParts → List SortId → List (List SortId) → ShapeParts = λ s v r. record { schema = s; vars = v; relations = r } in
      let schema_is : schema ≡ schema_named l = is ∙ ap (λ (x : List FunDecl). make x cs) functions ∙ ap (make (map function_named l.functions)) constants in
      let same : with schema vs rs ≡ shape_named l =
      ap (λ (s : SchemaParts). with s vs rs) schema_is ∙ ap (λ (v : List SortId). with (schema_named l) v rs) vars ∙ ap (λ (r : List (List SortId)). with (schema_named l) (map variable_sort l.variables) r) none in
      shape_never (shape_named l) shape limits refl f (subst (λ (s : ShapeParts). IsShapeFault s f) same fault)

pub shape_is : (l : SystemLines) (schema : SchemaParts) (fs : List FunDecl) (cs vs : List SortId) (rs : List (List SortId))
    → schema ≡ record { sorts = l.sorts; functions = fs; constants = cs } → fs ≡ map function_named l.functions → cs ≡ map sort_named l.constants.sorts → vs ≡ map variable_sort l.variables → rs ≡ []
    → record { schema = schema; vars = vs; relations = rs } ≡ shape_named l
shape_is l schema fs cs vs rs is functions constants vars none =
    let make : List FunDecl → List SortId → SchemaParts = λ x y. record { sorts = l.sorts; functions = x; constants = y } in
    let with : SchemaParts → List SortId → List (List SortId) → ShapeParts = λ s v r. record { schema = s; vars = v; relations = r } in
    let schema_is : schema ≡ schema_named l = is ∙ ap (λ (x : List FunDecl). make x cs) functions ∙ ap (make (map function_named l.functions)) constants in
    ap (λ (s : SchemaParts). with s vs rs) schema_is ∙ ap (λ (v : List SortId). with (schema_named l) v rs) vars ∙ ap (λ (r : List (List SortId)). with (schema_named l) (map variable_sort l.variables) r) none

module _ (l : SystemLines) (h : IsPlainSystem (system_named l)) where
  short_constant : (sort : ℕ) (i : Option ℕ) → ((c : ConstId) → constant_named i ≡ Some c → slice_get (map sort_named l.constants.sorts) c.n ≡ Some (sort_named sort)) → IsShortInitial i
  short_constant sort None known = tt
  short_constant sort (Some m) known =
      let within = slice_get_within (map sort_named l.constants.sorts) m (sort_named sort) (known (record { n = m }) refl) in
      let most = h.schema.constants in omega (arith, within, most)

  pub short_initial : (vs : List VariableLine) → vs ≡ l.variables → All HasShortInitial vs
  short_initial vs same = subst (All HasShortInitial) (sym same) (all-from HasShortInitial l.variables (λ k v at.
      short_constant v.sort v.initial (λ c e. h.system.initial_sorts k c (variable_sort v) (map-at variable_initial l.variables k v at ∙ ap (λ (o : Option ConstId). Some o) e) (map-at variable_sort l.variables k v at))))

  pub short_targets : (ts : List TransitionLines) → ts ≡ l.transitions → All HasShortTargets ts
  short_targets ts same = subst (All HasShortTargets) (sym same) (all-from HasShortTargets l.transitions (λ k t at.
      let fits : IsTransition (shape_named l) (transition_named t) =
      from_known (IsTransition (shape_named l)) (map transition_named l.transitions) h.system.transitions k (transition_named t) (map-at transition_named l.transitions k t at) in
      all-from HasShortTarget t.updates (λ j u u_at.
      let fit : UpdateFits (shape_named l) [] [] (update_named u) = from_known (UpdateFits (shape_named l) [] []) (map update_named t.updates) fits.updates j (update_named u) (map-at update_named t.updates j u u_at) in
      let at_var = and_then_through (sort_along (schema_named l) []) (slice_get (map variable_sort l.variables) u.target) fit.0 fit.1 in
      let within = slice_get_within (map variable_sort l.variables) u.target at_var.mid at_var.first in
      let most = h.shape.vars in omega (arith, within, most))))

  pub no_system_fault : (shape : ShapeParts) (is : List (Option ConstId)) (ts : List Transition) (f : SystemFault) → shape ≡ shape_named l → is ≡ map variable_initial l.variables
      → ts ≡ map transition_named l.transitions → system.first_fault (record { shape = shape; initial = is; transitions = ts; goals = l.goals }) ≡ Some f → ⊥
  no_system_fault shape is ts f a b c fault =
      let make : ShapeParts → List (Option ConstId) → List Transition → SystemParts = λ s i t. record { shape = s; initial = i; transitions = t; goals = l.goals } in
      let same : make shape is ts ≡ system_named l =
      ap (λ (s : ShapeParts). make s is ts) a ∙ ap (λ (i : List (Option ConstId)). make (shape_named l) i ts) b ∙ ap (make (shape_named l) (map variable_initial l.variables)) c in
      some_or_none (system.first_fault (system_named l)) f (sym (ap system.first_fault same) ∙ fault) (no_fault_of_system (system_named l) h.system h.limits)
    where
      some_or_none : (o : Option SystemFault) (f : SystemFault) → o ≡ Some f → o ≡ None → ⊥
      some_or_none o f some none = cc

pub system_is : (l : SystemLines) (shape : ShapeParts) (is : List (Option ConstId)) (ts : List Transition) → shape ≡ shape_named l → is ≡ map variable_initial l.variables
    → ts ≡ map transition_named l.transitions → record { shape = shape; initial = is; transitions = ts; goals = l.goals } ≡ system_named l
system_is l shape is ts a b c =
    let make : ShapeParts → List (Option ConstId) → List Transition → SystemParts = λ s i t. record { shape = s; initial = i; transitions = t; goals = l.goals } in
    ap (λ (s : ShapeParts). make s is ts) a ∙ ap (λ (i : List (Option ConstId)). make (shape_named l) i ts) b ∙ ap (make (shape_named l) (map variable_initial l.variables)) c

-- What was judged.

pub judged_shape : (l : SystemLines) (n : ℕ) → Judges (shape_checks l) 1 (Ok n) → GoodShape l
judged_shape l n h = good_shape l (judged_pass (shape_checks l) 1 n h)

module _ (l : SystemLines) (n : ℕ) (h : Judges (shape_checks l) 1 (Ok n)) where
  pub judged_system : IsWrittenSystem l → (shape : ShapeParts) (m : ℕ) → shape ≡ shape_named l → Judges (step_checks shape l) n (Ok m) → IsDenoted l
  judged_system written shape m same g =
      denoted_by l written (judged_pass (step_checks (shape_named l) l) n m (subst (λ (s : ShapeParts). Judges (step_checks s l) n (Ok m)) same g)) (judged_shape l n h)

  steps_fault : (shape : ShapeParts) (e : BundleError) → shape ≡ shape_named l → Judges (step_checks shape l) n (Err e) → AnswersFirstFault l e
  steps_fault shape (System line kind) same g =
      h (step_checks (shape_named l) l) ∙ ap (first_from n) (sym (append-nil (step_checks (shape_named l) l)))
      ∙ subst (λ (s : ShapeParts). first_from n (step_checks s l ++ []) ≡ Some (line, kind)) same (g [])
  steps_fault shape (Evidence f) same g = g
  steps_fault shape (Memory e) same g = tt

  pub steps_stop : {X : Type 0} (shape : ShapeParts) (e : BundleError) (r : Result X BundleError) → shape ≡ shape_named l → Judges (step_checks shape l) n (Err e) → IsErrAnd r (λ k. k ≡ e) → IfErr r (AnswersFirstFault l)
  steps_stop shape e (Ok x) same g is = absurd is
  steps_stop shape e (Err k) same g is = subst (AnswersFirstFault l) (sym is) (steps_fault shape e same g)
