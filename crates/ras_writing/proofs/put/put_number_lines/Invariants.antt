use Rattle.std.proofs.Common.{◌≡◌, ◌++◌, take, flat_map}
use Rattle.ras_writing.specs.Pieces as piece
use Rattle.ras_writing.proofs.put.put_number_lines.Given as goal

abbrev pub invariant-loop-numbers : goal.invariant-loop-numbers
invariant-loop-numbers l = l.out.items ≡ l.fn.out.items ++ flat_map (piece.numbers l.word) (take l.numbers-index l.lists)
