-- What is admissible is tight for the entry from which it comes.
use Rattle.std.proofs.Common.{◌≡◌, ℕ, List, take, sym, ◌∙◌, subst}
use Rattle.std.specs.Prelude.{slice_get, Some}
use Rattle.ras_logic.specs.declared.problem.Problem.{Problem}
use Rattle.ras_system.specs.Systems.{SystemParts}
use Rattle.ras_core.specs.declared.origin.Origin.{Origin}
use Rattle.ras_core.specs.declared.origin.Origin.TheVariants.{Step}
use Rattle.ras_core.specs.CoreStates.{EntryParts, CoreParts, IsEntry, cubes_of}
use Rattle.ras_core.specs.Admissible.{ComesFrom, IsTightFor, IsTight, IsAdmissible}
use Rattle.ras_core.proofs.Lists.{to-map, of-take}

module _ (system : SystemParts) (s : CoreParts) (origin : Origin) (cube : Problem) (from transition : ℕ) (target : EntryParts) (origin_is : origin ≡ Step from transition) (known : IsEntry s from target) where
  tight-among : (cubes : List Problem) → ((p : Problem) → slice_get cubes from ≡ Some p → slice_get (cubes_of s) from ≡ Some p)
      → IsAdmissible system cubes s.base origin cube → IsTight system transition target.cube cube
  tight-among cubes within new =
      let comes = subst (λ (o : Origin). ComesFrom system cubes o cube) origin_is new.comes in
      let tight = subst (λ (o : Origin). IsTightFor system cubes o cube) origin_is new.tight in
      let here : slice_get (cubes_of s) from ≡ Some target.cube = to-map (λ (e : EntryParts). e.cube) s.entries from target known in
      let same : comes.target ≡ target.cube = one comes.target (sym (within comes.target comes.known) ∙ here) in
      subst (λ (p : Problem). IsTight system transition p cube) same (tight comes.target comes.known)
    where
      one : (p : Problem) → Some p ≡ Some target.cube → p ≡ target.cube
      one p h = cc

  pub entry-tight : (i : ℕ) → IsAdmissible system (take i (cubes_of s)) s.base origin cube → IsTight system transition target.cube cube
  entry-tight i new = tight-among (take i (cubes_of s)) (λ p h. (of-take i (cubes_of s) from p h).1) new

  pub spill-tight : IsAdmissible system (cubes_of s) s.base origin cube → IsTight system transition target.cube cube
  spill-tight new = tight-among (cubes_of s) (λ p h. h) new
