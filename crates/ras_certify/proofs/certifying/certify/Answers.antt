use Rattle.std.proofs.Common.{[], sym, subst}
use Rattle.std.specs.List.{AllZip}
use Rattle.ras_system.specs.Evidence.{ClosesObligation}
use Rattle.ras_certify.proofs.certifying.certify.Goals as goal

pub unreachable-requires : goal.unreachable-requires
unreachable-requires c =
    let stop = rw c.in-Err-Stopped.field-0-is at c.in-Err-Stopped.ensures.barred in
    stop.stops [] (subst (AllZip (ClosesObligation c.args.system.now) []) (sym c.new.ensures) tt) c.requires.hold

pub returns-in-Ok : goal.returns-in-Ok
returns-in-Ok c = record {
  fit = c.requires.fit;
  cubes = c.are_cubes.ensures;
  closed = c.in-Ok.ensures.visited.longer [] (subst (AllZip (ClosesObligation c.args.system.now) []) (sym c.new.ensures) tt);
}
