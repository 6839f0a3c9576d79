use Rattle.std.proofs.Common.{◌≡◌, ◌+◌, ◌-◌, ◌^◌, min, vec_len}
use Rattle.std.specs.Io.KnownBytes.{Consumes}
use Rattle.ras_outside.proofs.dir_shelf.read_whole.Given as goal

abbrev pub invariant-loop-left : goal.invariant-loop-left
invariant-loop-left g l =
    (vec_len l.bytes + l.left ≡ min (l.most + 1) (2 ^ 64 - 1))
    × Consumes (g.F.Read.remaining l.initial.file) (g.F.Read.remaining l.file) l.bytes.items

-- what is left of `most` + 1 bytes
abbrev pub decreases-loop-left : goal.decreases-loop-left
decreases-loop-left g l = l.left
