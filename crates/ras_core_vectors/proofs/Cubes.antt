-- What a state that meets one of the cubes says of the variable.
use Rattle.std.proofs.Common.{◌≡◌, ℕ, Bool, true, false, List, [], ◌∷◌, get_or, refl, sym, ◌∙◌, arith}
use Rattle.std.specs.Prelude.{slice_get, Some, None, IsTrue, not, nat_eq}
use Rattle.std.proofs.lemmas.Bool.{eqb-true, eq-eqb}
use Rattle.std.proofs.lemmas.List.Elements.{All-nil, All-cons, All-head}
use Rattle.ras_logic.specs.declared.raw_db.RawDb.{RawDb}
use Rattle.ras_logic.specs.declared.literal.Literal.{Literal}
use Rattle.ras_logic.specs.declared.problem.Problem.{Problem}
use Rattle.ras_logic.specs.declared.values.Values.{Values}
use Rattle.ras_logic.specs.Databases.{IsDatabase, constant_of}
use Rattle.ras_logic.specs.Truth.{AreElements, AllHold, holds}
use Rattle.ras_system.specs.declared.state.State.{State}
use Rattle.ras_system.specs.declared.transition.Transition.{Transition}
use Rattle.ras_system.specs.Systems.{SystemParts}
use Rattle.ras_system.specs.States.{AreRows, Meets, values_at}
use Rattle.ras_extension.specs.Reaching.{IsStateOf}
use Rattle.ras_core.specs.Admissible.{IsFormula, NoneIsInitial}
use Rattle.ras_vectors.proofs.DataTests.{is_database, is_database-passed, fits, fits-passed, is_cube, is_cube-passed}
use Rattle.ras_vectors.proofs.StateTests.{is_state, is_state-passed, meets, meets-passed}
use Rattle.ras_vectors.proofs.ListTests.{not-true}
use Rattle.ras_vectors.specs.Words.{state, same, apart}
use Rattle.ras_vectors.specs.Small.{still, two, x, a, b, c, unset, is_b, is_c, is_set}
use Rattle.ras_core_vectors.specs.Searches.{not_a, is_unset}

-- the value of the variable
abbrev pub here : State → ℕ
here s = get_or s.vars 0 0

pub no_rows : (s : State) → AreRows s [] []
no_rows s = record { as_many = refl; each = λ k r h. absurd (cc); different = λ j k r h. absurd (cc) }

pub no_elements : (d : RawDb) → AreElements d [] []
no_elements d = record { as_many = refl; each = λ k s h. absurd (cc) }

not-from : (t : Bool) → (t ≡ true → ⊥) → not t ≡ true
not-from true h = absurd (h refl)
not-from false h = refl

-- the first literal holds
first : (d : RawDb) (v : Values) (l : Literal) (ls : List Literal) → AllHold d v (l ∷ ls) → holds d v l ≡ true
first d v l ls h = All-head (λ (q : Literal). IsTrue (holds d v q)) l ls h

-- a literal alone
only : (d : RawDb) (v : Values) (l : Literal) → holds d v l ≡ true → AllHold d v (l ∷ [])
only d v l h = All-cons (λ (q : Literal). IsTrue (holds d v q)) l [] h (All-nil (λ (q : Literal). IsTrue (holds d v q)))

module _ (d : RawDb) (s : State) where
  pub b-here : Meets d s is_b → here s ≡ constant_of d 1
  b-here m = eqb-true (here s) (constant_of d 1) (first d (values_at s [] m.0 m.1) (same x b) [] m.4)

  pub c-here : Meets d s is_c → here s ≡ constant_of d 2
  c-here m = eqb-true (here s) (constant_of d 2) (first d (values_at s [] m.0 m.1) (same x c) [] m.4)

  pub no-a-here : Meets d s not_a → here s ≡ constant_of d 0 → ⊥
  no-a-here m e = not-true (nat_eq (here s) (constant_of d 0)) (first d (values_at s [] m.0 m.1) (apart x a) [] m.4) (eq-eqb (here s) (constant_of d 0) e)

  pub set-here : Meets d s is_set → here s ≡ 0 → ⊥
  set-here m e = not-true (nat_eq (here s) 0) (first d (values_at s [] m.0 m.1) (apart x unset) [] m.4) (eq-eqb (here s) 0 e)

  pub b-holds : here s ≡ constant_of d 1 → AllHold d (values_at s [] [] []) (same x b ∷ [])
  b-holds e = only d (values_at s [] [] []) (same x b) (eq-eqb (here s) (constant_of d 1) e)

  pub here-b : here s ≡ constant_of d 1 → Meets d s is_b
  here-b e = ([], [], no_rows s, no_elements d, b-holds e)

  pub here-c : here s ≡ constant_of d 2 → Meets d s is_c
  here-c e = ([], [], no_rows s, no_elements d, only d (values_at s [] [] []) (same x c) (eq-eqb (here s) (constant_of d 2) e))

  pub not_a-holds : (here s ≡ constant_of d 0 → ⊥) → AllHold d (values_at s [] [] []) (apart x a ∷ [])
  not_a-holds ne = only d (values_at s [] [] []) (apart x a) (not-from (nat_eq (here s) (constant_of d 0)) (λ t. ne (eqb-true (here s) (constant_of d 0) t)))

  pub here-not-a : (here s ≡ constant_of d 0 → ⊥) → Meets d s not_a
  here-not-a ne = ([], [], no_rows s, no_elements d, not_a-holds ne)

  pub here-set : (here s ≡ 0 → ⊥) → Meets d s is_set
  here-set ne = ([], [], no_rows s, no_elements d, only d (values_at s [] [] []) (apart x unset) (not-from (nat_eq (here s) 0) (λ t. ne (eqb-true (here s) 0 t))))

  pub unset-here : Meets d s is_unset → here s ≡ 0
  unset-here m = eqb-true (here s) 0 (first d (values_at s [] m.0 m.1) (same x unset) [] m.4)

-- the three constants are different
pub constants_differ : (d : RawDb) (j k : ℕ) → IsDatabase two.shape.schema d → slice_get two.shape.schema.constants j ≡ Some (record { n = 0 })
    → slice_get two.shape.schema.constants k ≡ Some (record { n = 0 }) → (j ≡ k → ⊥) → constant_of d j ≡ constant_of d k → ⊥
constants_differ d j k db first_one second_one apart_numbers e = apart_numbers (db.apart j k (record { n = 0 }) first_one second_one e)

pub a_is_not_b : (d : RawDb) → IsDatabase two.shape.schema d → constant_of d 0 ≡ constant_of d 1 → ⊥
a_is_not_b d db = constants_differ d 0 1 db refl refl (λ e. absurd (omega (arith, e)))

pub a_is_not_c : (d : RawDb) → IsDatabase two.shape.schema d → constant_of d 0 ≡ constant_of d 2 → ⊥
a_is_not_c d db = constants_differ d 0 2 db refl refl (λ e. absurd (omega (arith, e)))

pub b_is_not_c : (d : RawDb) → IsDatabase two.shape.schema d → constant_of d 1 ≡ constant_of d 2 → ⊥
b_is_not_c d db = constants_differ d 1 2 db refl refl (λ e. absurd (omega (arith, e)))

-- no initial state meets the cubes, whatever the transitions and the goals
module _ (transitions : List Transition) (goals : List Problem) where
  abbrev System : SystemParts
  System = record two { transitions = transitions; goals = goals }

  pub b-start : NoneIsInitial System is_b
  b-start d s db i m = a_is_not_b d db (sym (i.vars 0 (Some (record { n = 0 })) refl) ∙ b-here d s m)

  pub c-start : NoneIsInitial System is_c
  c-start d s db i m = a_is_not_c d db (sym (i.vars 0 (Some (record { n = 0 })) refl) ∙ c-here d s m)

  pub not_a-start : NoneIsInitial System not_a
  not_a-start d s db i m = no-a-here d s m (i.vars 0 (Some (record { n = 0 })) refl)

pub set-start : NoneIsInitial still is_set
set-start d s db i m = set-here d s m (i.vars 0 None refl)

-- a state of a cube by the tests, the variable being this element
pub state_of : (system : SystemParts) (d : RawDb) (n : ℕ) (p : Problem) → is_database system.shape.schema d ≡ true → is_state system.shape d (state (n ∷ []) []) ≡ true
    → meets d (state (n ∷ []) []) p [] [] ≡ true → IsStateOf system p d (state (n ∷ []) [])
state_of system d n p db st m = record {
  state = record { database = is_database-passed system.shape.schema d db; state = is_state-passed system.shape d (state (n ∷ []) []) st };
  meets = meets-passed d (state (n ∷ []) []) p [] [] m;
}

pub formula_of : (system : SystemParts) (p : Problem) → fits system.shape p ≡ true → is_cube p ≡ true → IsFormula system p
formula_of system p fit cube = record { fits = fits-passed system.shape p fit; is_cube = is_cube-passed p cube }
