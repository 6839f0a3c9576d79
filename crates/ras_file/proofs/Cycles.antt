-- A cycle names a function of the file: of all checks those of the functions alone can tell of one.
use Rattle.std.proofs.Common.{◌≡◌, ℕ, ◌+◌, ◌<◌, ◌≤◌, Bool, true, false, List, [], ◌∷◌, ◌++◌, length, take, map, subst, arith, cond}
use Rattle.std.specs.Prelude.{Option, Some, None}
use Rattle.ras_logic.specs.declared.ids.FunId.{FunId}
use Rattle.ras_names.specs.declared.spec_fault.SpecKind.{SpecKind}
use Rattle.ras_names.specs.declared.spec_fault.SpecKind.TheVariants.{Cycle}
use Rattle.ras_names.specs.declared.spec_fault.SpecFault.{SpecFault}
use Rattle.ras_syntax.specs.Grammar.{Text}
use Rattle.ras_names.specs.Placed as placed
use Rattle.ras_names.specs.Placed.{Name, Declared, columns, disjuncts, literals, cases}
use Rattle.ras_names.specs.Checks.{Check, first_of, for_each, for_each_from, used_check, declared_texts}
use Rattle.ras_names.specs.TermChecks.{Scope, base_checks, argument_checks, term_checks, literal_checks, conjunction_checks, disjunct_checks, guard_checks, function_texts}
use Rattle.ras_names.specs.StepChecks.{row_checks, param_checks, target_checks, update_checks, assignment_checks, case_checks, each_checks, inside_checks, with_row, case_count}
use Rattle.ras_names.specs.FileChecks.{sort_checks, function_checks, constant_checks, initial_checks, variable_checks, column_checks, relation_checks, step_checks, goal_checks, checks, first_fault, above_step, goal_count}

-- a cycle that is told has a number below n
abbrev pub IsBelow : ℕ → SpecKind → Type 0
IsBelow n (Cycle f) = f.n < n
IsBelow n other = Unit {0}

abbrev pub AreBelow : ℕ → List Check → Type 0
AreBelow n [] = Unit {0}
AreBelow n (c ∷ cs) = IsBelow n c.fault.kind × AreBelow n cs

some_is : (f g : SpecFault) → Some f ≡ Some g → f ≡ g
some_is f g e = cc

first-below : (n : ℕ) (cs : List Check) (f : SpecFault) → AreBelow n cs → first_of cs ≡ Some f → IsBelow n f.kind
first-below n [] f h e = absurd (cc)
first-below n (c ∷ cs) f h e = go c.fails (first-below n cs f h.1) e
  where
    go : (b : Bool) → (first_of cs ≡ Some f → IsBelow n f.kind) → cond b (Some c.fault) (first_of cs) ≡ Some f → IsBelow n f.kind
    go true later q = subst (λ (x : SpecFault). IsBelow n x.kind) (some_is c.fault f q) h.0
    go false later q = later q

below_both : (n : ℕ) (xs ys : List Check) → AreBelow n xs → AreBelow n ys → AreBelow n (xs ++ ys)
below_both n [] ys h k = k
below_both n (c ∷ xs) ys h k = (h.0, below_both n xs ys h.1 k)

below_map : {A : Type 0} (n : ℕ) (check : A → Check) (xs : List A) → ((x : A) → IsBelow n (check x).fault.kind) → AreBelow n (map check xs)
below_map n check [] h = tt
below_map n check (x ∷ xs) h = (h x, below_map n check xs h)

-- the checks of the elements of a list that has the numbers from m on
below_each : {A : Type 0} (n m : ℕ) (of : ℕ → A → List Check) (xs : List A) → ((k : ℕ) (x : A) → m ≤ k → k < m + length xs → AreBelow n (of k x)) → AreBelow n (for_each_from m of xs)
below_each n m of [] h = tt
below_each {A} n m of (x ∷ xs) h =
    below_both n (of m x) (for_each_from (m + 1) of xs) (h m x (omega arith) (omega arith))
    (below_each n (m + 1) of xs (λ k y le lt. h k y (omega (arith, le)) (omega (arith, lt))))

below_any : {A : Type 0} (n m : ℕ) (of : ℕ → A → List Check) (xs : List A) → ((k : ℕ) (x : A) → AreBelow n (of k x)) → AreBelow n (for_each_from m of xs)
below_any n m of xs h = below_each n m of xs (λ k x le lt. h k x)

module _ (n : ℕ) (scope : Scope) where
  base-below : (b : placed.Base) → AreBelow n (base_checks scope b)
  base-below (placed.undef place) = tt
  base-below (placed.plain x) = (tt, tt)
  base-below (placed.cell row column) = (tt, (tt, tt))

  arguments-below : (fs : List Name) (b : placed.Base) → AreBelow n (argument_checks scope fs b)
  arguments-below [] b = tt
  arguments-below (f ∷ fs) b = below_both n (argument_checks scope fs b) _ (arguments-below fs b) (tt, tt)

  term-below : (t : placed.Term) → AreBelow n (term_checks scope t)
  term-below t =
      below_both n (map (used_check (function_texts scope.file.functions)) t.functions) (base_checks scope t.base ++ argument_checks scope t.functions t.base)
      (below_map n (used_check (function_texts scope.file.functions)) t.functions (λ x. tt))
      (below_both n (base_checks scope t.base) (argument_checks scope t.functions t.base) (base-below t.base) (arguments-below t.functions t.base))

  literal-below : (limit k : ℕ) (l : placed.Literal) → AreBelow n (literal_checks scope limit k l)
  literal-below limit k l = (tt, below_both n (term_checks scope l.left) _ (term-below l.left) (below_both n (term_checks scope l.right) _ (term-below l.right) (tt, tt)))

  conjunction-below : (limit : ℕ) (c : placed.Conjunction) → AreBelow n (conjunction_checks scope limit c)
  conjunction-below limit c = below_any n 0 (literal_checks scope limit) (literals c) (literal-below limit)

  disjunct-below : (k : ℕ) (c : placed.Conjunction) → AreBelow n (disjunct_checks scope k c)
  disjunct-below k c = (tt, conjunction-below 128 c)

  guard-below : (m : ℕ) (g : placed.Guard) → AreBelow n (guard_checks scope m g)
  guard-below m g = below_any n m (disjunct_checks scope) (disjuncts g) disjunct-below

  target-below : (name : Name) (column : Option Name) → AreBelow n (target_checks scope name column)
  target-below name None = (tt, tt)
  target-below name (Some column) = (tt, (tt, tt))

  update-below : (all : List placed.Update) (k : ℕ) (u : placed.Update) → AreBelow n (update_checks scope all k u)
  update-below all k u = below_both n (target_checks scope u.name u.column) _ (target-below u.name u.column) (tt, below_both n (term_checks scope u.term) _ (term-below u.term) (tt, tt))

  assignment-below : (e : placed.Each) (all : List placed.Assignment) (k : ℕ) (a : placed.Assignment) → AreBelow n (assignment_checks scope e all k a)
  assignment-below e all k a = (tt, (tt, (tt, below_both n (term_checks scope a.term) _ (term-below a.term) (tt, tt))))

  case-below : (e : placed.Each) (k : ℕ) (c : placed.Case) → AreBelow n (case_checks scope e k c)
  case-below e k c = (tt, below_both n (conjunction_checks scope 16 c.condition) _ (conjunction-below 16 c.condition) (below_any n 0 (assignment_checks scope e c.assignments) c.assignments (assignment-below e c.assignments)))

each-below : (n : ℕ) (scope : Scope) (names : List Text) (eachs : List placed.Each) (k : ℕ) (e : placed.Each) → AreBelow n (each_checks scope names eachs k e)
each-below n scope names eachs k e = (tt, (tt, (tt, below_any n (case_count (take k eachs)) (case_checks (with_row scope e) e) (cases e) (case-below n (with_row scope e) e))))

module _ (n : ℕ) (file : placed.File) where
  rows-below : (above : List Text) (rows : List Declared) → AreBelow n (for_each (row_checks file above rows) rows)
  rows-below above rows = below_any n 0 (row_checks file above rows) rows (λ k r. (tt, (tt, (tt, tt))))

  inside-below : (above : List Text) (s : placed.Step) → AreBelow n (inside_checks file above s)
  inside-below above s =
      let scope : Scope = record { file = file; rows = s.rows; params = s.params } in
      below_both n (for_each (row_checks file above s.rows) s.rows) _ (rows-below above s.rows)
      (below_both n (for_each (param_checks file (above ++ declared_texts s.rows) s.params) s.params) _ (below_any n 0 (param_checks file (above ++ declared_texts s.rows) s.params) s.params (λ k q. (tt, (tt, (tt, tt)))))
      (below_both n (guard_checks scope 0 s.guard) _ (guard-below n scope 0 s.guard)
      (below_both n (for_each (update_checks scope s.updates) s.updates) _ (below_any n 0 (update_checks scope s.updates) s.updates (update-below n scope s.updates))
      (below_any n 0 (each_checks scope (above ++ (declared_texts s.rows ++ declared_texts s.params)) s.eachs) s.eachs (each-below n scope (above ++ (declared_texts s.rows ++ declared_texts s.params)) s.eachs)))))

  step-below : (k : ℕ) (s : placed.Step) → AreBelow n (step_checks file k s)
  step-below k s = (tt, (tt, inside-below (above_step file (k + 1)) s))

  goal-below : (k : ℕ) (g : placed.Goal) → AreBelow n (goal_checks file k g)
  goal-below k g =
      below_both n (for_each (row_checks file (above_step file (length file.steps)) g.rows) g.rows) _ (rows-below (above_step file (length file.steps)) g.rows)
      (guard-below n (record { file = file; rows = g.rows; params = [] }) (goal_count (take k file.goals)) g.guard)

  initial-below : (sort : Name) (i : Option placed.Initial) → AreBelow n (initial_checks file sort i)
  initial-below sort None = tt
  initial-below sort (Some i) = (tt, (tt, tt))

  relation-below : (k : ℕ) (r : placed.Relation) → AreBelow n (relation_checks file k r)
  relation-below k r = (tt, (tt, below_any n 0 (column_checks file (columns r)) (columns r) (λ j c. (tt, (tt, (tt, tt))))))

all-below : (file : placed.File) → AreBelow (length file.functions) (checks file)
all-below file =
    let n : ℕ = length file.functions in
    below_both n (for_each (sort_checks file) file.sorts) _ (below_any n 0 (sort_checks file) file.sorts (λ k s. (tt, (tt, tt))))
    (below_both n (for_each (function_checks file) file.functions) _ (below_each n 0 (function_checks file) file.functions (λ k f le lt. (tt, (tt, (tt, (tt, (omega (arith, lt), tt)))))))
    (below_both n (for_each (constant_checks file) file.constants) _ (below_any n 0 (constant_checks file) file.constants (λ k c. (tt, (tt, (tt, tt)))))
    (below_both n (for_each (variable_checks file) file.variables) _ (below_any n 0 (variable_checks file) file.variables (λ k v. (tt, (tt, (tt, initial-below n file v.sort v.initial)))))
    (below_both n (for_each (relation_checks file) file.relations) _ (below_any n 0 (relation_checks file) file.relations (relation-below n file))
    (below_both n (for_each (step_checks file) file.steps) _ (below_any n 0 (step_checks file) file.steps (step-below n file))
    (below_any n 0 (goal_checks file) file.goals (goal-below n file)))))))

-- the function that closes a cycle is one of the file
pub cycle_within : (file : placed.File) (first : SpecFault) (f : FunId) → first_fault file ≡ Some first → first.kind ≡ Cycle f → f.n < length file.functions
cycle_within file first f is kind = subst (IsBelow (length file.functions)) kind (first-below (length file.functions) (checks file) first (all-below file) is)
