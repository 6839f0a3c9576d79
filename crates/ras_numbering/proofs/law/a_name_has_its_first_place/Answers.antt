use Rattle.std.proofs.Common.{ap}
use Rattle.std.specs.Prelude.{ℕ, Option}
use Rattle.std.specs.Option.{option_map_or}
use Rattle.ras_numbering.proofs.law.a_name_has_its_first_place.Goals as goal

pub returns : goal.returns
returns c names name n h = ap (λ (o : Option ℕ). option_map_or (λ (k : ℕ). k) o 0) h
