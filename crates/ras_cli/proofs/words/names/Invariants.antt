use Rattle.std.proofs.Common.{take}
use Rattle.std.specs.Prelude.{All}
use Rattle.ras_cli.specs.Words.{texts, IsName}
use Rattle.ras_cli.proofs.words.names.Given as goal

abbrev pub invariant-loop-at : goal.invariant-loop-at
invariant-loop-at l = All IsName (take l.at (texts l.words))
