use Rattle.std.proofs.Common.{length, refl}
use Rattle.ras_closure.proofs.Closures.{start-partial, start-verdict, start-closure, start-no_clash, no_fact}
use Rattle.ras_closure.proofs.closure.Closure.with.Goals as goal

pub saturate-clash-requires : goal.saturate-clash-requires
saturate-clash-requires c =
    let room = c.in_ok-room.ensures in
    let table = c.in_ok-table.table in
    record {
      signatures = record { width = room.signatures; functions = room.functions };
      classes = record { width = room.width; partial = start-partial table c.known.ensures c.in_ok-room.room.marks room.width room.none c.in_ok-room.room.classes (length table.terms) refl room.long room.own };
      verdict = start-verdict table c.known.ensures c.in_ok-room.room.marks room.width room.none c.in_ok-room.room.classes (length table.terms) refl room.long room.own;
    }

pub invariant_of-result : goal.invariant_of-result
invariant_of-result c =
    let room = c.in_ok-room.ensures in
    let done = c.saturate-clash.ensures in (
      start-closure c.in_ok-table.table c.known.ensures c.in_ok-room.room.marks room.width room.none c.in_ok-room.room.classes c.saturate-clash.new.classes c.saturate-clash.result done.rest done.verdict,
      done.signatures.width,
      done.signatures.functions,
    )

pub returns-clause-none : goal.returns-clause-none
returns-clause-none c = no_fact c.in_ok-table.table c.known.ensures c.in_ok-room.room.marks c.in_ok-room.ensures.width c.in_ok-room.ensures.none

pub returns-clause-no_clash : goal.returns-clause-no_clash
returns-clause-no_clash c =
    start-no_clash c.in_ok-table.table c.known.ensures c.in_ok-room.room.marks c.in_ok-room.ensures.width c.in_ok-room.ensures.none c.saturate-clash.new.classes
    c.saturate-clash.result c.saturate-clash.ensures.verdict
