-- A goal is a chain, and what leads into the first cube of a chain makes a longer one.
use Rattle.std.proofs.Common.{◌≡◌, ℕ, ◌<◌, List, [], ◌∷◌, length, get_or, refl, sym, ◌∙◌, ap, subst}
use Rattle.std.specs.Prelude.{slice_get, Some, None}
use Rattle.std.proofs.lemmas.Option.{slice_get-get_or}
use Rattle.ras_logic.specs.declared.problem.Problem.{Problem}
use Rattle.ras_system.specs.Systems.{SystemParts, IsSystem}
use Rattle.ras_logic.specs.Formulas.{Fits, IsCube}
use Rattle.ras_system.specs.States.{Meets}
use Rattle.ras_core.specs.declared.link.Link.{Link}
use Rattle.ras_core.specs.Chains.{LeadsOn, IsChain}
use Rattle.ras_core.proofs.Lists.{any-at, all-at}
use Rattle.ras_leads.specs.Covered.{AreMetWhereLeading, AreCubesOfSome}
use Rattle.ras_concrete.proofs.Chains.{first-link}
use Rattle.ras_concrete_tests.specs.Backwards.{IsSomeChain, IsBefore, AreBefore}

-- what a look-up of a number tells
pub known-at : {X : Type 0} (xs : List X) (i : ℕ) (x : X) → i < length xs → ((d : X) → x ≡ get_or xs i d) → slice_get xs i ≡ Some x
known-at xs i x lt is = slice_get-get_or xs i x lt ∙ ap Some (sym (is x))

pub goal-alone : (system : SystemParts) (goal : Link) (disjunct : ℕ) → slice_get system.goals disjunct ≡ Some goal.cube → goal.transition ≡ None
    → IsSomeChain system (goal ∷ [])
goal-alone system goal disjunct known ends = (
  goal.cube,
  record { front = []; goal = goal; parts = refl; begins = refl; lead = tt; ends = ends; disjunct = disjunct; is_goal = known },
)

pub one-before : (system : SystemParts) → IsSystem system → (links : List Link) → IsSomeChain system links → (first l : Link) (transition : ℕ)
    → slice_get links 0 ≡ Some first → l.transition ≡ Some transition → IsBefore system transition first.cube l.cube → (more : List Link) → more ≡ l ∷ links
    → IsSomeChain system more
one-before system good links (from, is) first l transition known by before more same =
    let on : LeadsOn system l first.cube = record { formula = before.formula; transition = transition; by = by; leads = before.leads } in
    subst (IsSomeChain system) (sym same) (
      l.cube,
      record {
        front = l ∷ is.front;
        goal = is.goal;
        parts = ap (λ (ls : List Link). l ∷ ls) is.parts;
        begins = refl;
        lead = (subst (LeadsOn system l) (first-link system good from links is first known ∙ sym is.begins) on, is.lead);
        ends = is.ends;
        disjunct = is.disjunct;
        is_goal = is.is_goal;
      },
    )

pub are-before : (system : SystemParts) (transition : ℕ) (next : Problem) (problems cubes : List Problem) → AreMetWhereLeading system transition next cubes
    → AreCubesOfSome system.shape problems cubes → AreBefore system transition next cubes
are-before system transition next problems cubes exact are k cube known = record {
  formula = record { fits = all-at (Fits system.shape) cubes are.fit k cube known; is_cube = all-at IsCube cubes are.are_cubes k cube known };
  leads = λ d s is. (exact d s is.state).0 (any-at (Meets d s) cubes k cube known is.meets);
}
