use Rattle.std.proofs.Common.{ℕ, List, length, ◌∷◌, ⊎_elim}
use Rattle.std.specs.Prelude.{All}
use Rattle.std.proofs.lemmas.Bool.{cases_lt}
use Rattle.ras_logic.specs.declared.function.FunDecl.{FunDecl}
use Rattle.ras_logic.specs.Schemas.{HasSorts, IsAcyclic}
use Rattle.ras_logic.specs.SchemaFaults.{HasCycle}
use Rattle.ras_logic.proofs.Rounds.{acyclic-no_cycle, HasLongChain-cycle}
use Rattle.ras_logic.proofs.law.acyclic_is_without_a_cycle.Goals as goal

short : (sorts : ℕ) (functions : List FunDecl) → All (HasSorts sorts) functions → (HasCycle functions → ⊥) → IsAcyclic sorts functions
short sorts functions good none f fs chain =
    ⊎_elim (λ lt. lt) (λ long. absurd (none (HasLongChain-cycle sorts functions good (f, fs, chain, long)))) (cases_lt (length (f ∷ fs)) sorts)

pub returns : goal.returns
returns c = λ sorts functions good. (acyclic-no_cycle sorts functions, short sorts functions good)
