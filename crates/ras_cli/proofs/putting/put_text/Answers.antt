use Rattle.std.proofs.Common.{◌≡◌, ◌+◌, ◌-◌, ◌≤◌, ℕ, take, drop, ◌∙◌, ap, arith}
use Rattle.std.specs.Io.KnownBytes.{append_known}
use Rattle.std.proofs.lemmas.List.{length-take, length-drop}
use Rattle.ras_outside.specs.SinkFault.{taken_of}
use Rattle.ras_cli.proofs.Pieces.{piece-put, front-of_front}
use Rattle.ras_cli.proofs.putting.put_text.Goals as goal

pub returns-in-Err-clause-front : goal.returns-in-Err-clause-front
returns-in-Err-clause-front g c =
    let taken : ℕ = taken_of c.in-Err.field-0 in
    let size : ℕ = c.min-end.result - c.loop-at.at in
    let long = length-take size (drop c.loop-at.at c.args.text.now) in
    let few : taken ≤ size = omega (arith, c.in-Err.ensures.taken, long) in (
      c.loop-at.at + taken,
      omega (arith, c.in-Err.ensures.taken, long, length-drop c.loop-at.at c.args.text.now, c.loop-at.invariant.within),
      piece-put (g.K.Sink.written c.args.out.now) (g.K.Sink.written c.loop-at.out) (g.K.Sink.written c.put.new.self) c.args.text.now c.loop-at.at taken c.loop-at.invariant.put
          (c.in-Err.ensures.first ∙ ap (append_known (g.K.Sink.written c.loop-at.out)) (front-of_front taken size (drop c.loop-at.at c.args.text.now) few)),
    )

pub loop-at-preserved : goal.loop-at-preserved
loop-at-preserved g c =
    let past : c.loop-at.at + (c.min-end.result - c.loop-at.at) ≡ c.min-end.result = omega (arith, c.min-end.ensures, c.loop-at-test.true) in
    record {
      within = omega (arith, c.min-end.ensures);
      put = piece-put (g.K.Sink.written c.args.out.now) (g.K.Sink.written c.loop-at.out) (g.K.Sink.written c.put.new.self) c.args.text.now c.loop-at.at (c.min-end.result - c.loop-at.at)
          c.loop-at.invariant.put c.in-Ok.ensures.ok ∙ ap (λ (n : ℕ). append_known (g.K.Sink.written c.args.out.now) (take n c.args.text.now)) past;
      faults = c.in-Ok.ensures.stands ∙ c.loop-at.invariant.faults;
    }
