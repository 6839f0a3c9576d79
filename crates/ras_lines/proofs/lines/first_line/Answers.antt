use Rattle.std.proofs.Common.{◌≡◌, ◌∷◌, List, ℕ, length, drop, sym, ap, ◌∙◌, arith}
use Rattle.ras_lines.specs.Lines.{lines_of}
use Rattle.ras_lines.proofs.LineEnds.{first_end, one_more, nothing_ends}
use Rattle.ras_lines.proofs.lines.first_line.Goals as goal

pub returns-then-byte-eq10 : goal.returns-then-byte-eq10
returns-then-byte-eq10 c =
    let front : 10 ∷ c.in-Some.after.now ≡ drop c.loop-byte.length c.args.bytes.now = grind arith in
    first_end c.args.bytes.now c.in-Some.after.now c.loop-byte.length front c.loop-byte.invariant.unended ∙ ap (λ (l : List ℕ). l ∷ lines_of c.in-Some.after.now) (sym c.split_at.ensures.front)

pub loop-byte-preserved : goal.loop-byte-preserved
loop-byte-preserved c =
    let parts : c.loop-byte.rest.now ≡ c.in-Some.byte.now ∷ c.in-Some.after.now = grind arith in
    let r = one_more c.args.bytes.now c.loop-byte.rest.now c.in-Some.after.now c.loop-byte.length c.in-Some.byte.now parts c.loop-byte.invariant.rest c.loop-byte.invariant.count c.loop-byte.invariant.unended c.if-byte-eq10.false in
    record { rest = r.left; count = r.count; unended = r.unended }

pub returns : goal.returns
returns c =
    let none : length c.loop-byte.rest.now ≡ 0 = grind arith in
    nothing_ends c.args.bytes.now c.loop-byte.rest.now c.loop-byte.length none c.loop-byte.invariant.count c.loop-byte.invariant.unended
