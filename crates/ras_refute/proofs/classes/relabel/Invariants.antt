use Rattle.std.proofs.Common.{◌≡◌, map, take, drop, ◌++◌, nat_eq, cond}
use Rattle.ras_refute.proofs.classes.relabel.Given as goal

abbrev pub invariant-loop-class : goal.invariant-loop-class
invariant-loop-class l = l.classes ≡ map (λ c. cond (nat_eq c l.from) l.to c) (take l.class-index l.initial.classes) ++ drop l.class-index l.initial.classes
