use Rattle.std.proofs.Common.{refl, sym, ◌∙◌, take}
use Rattle.ras_lexer.specs.Pieces.{blank, comment}
use Rattle.ras_lexer.proofs.Fronts.{blank_front, comment_front}
use Rattle.ras_lexer.proofs.scanning.scan.Goals as goal

pub returns-then-is_blank : goal.returns-then-is_blank
returns-then-is_blank c =
    (blank c.in-Some.first.now, blank_front c.args.bytes.now c.in-Some.first.now c.in-Some.behind.now c.in-Some.ensures.cases.0 (sym c.is_blank.ensures ∙ c.if-is_blank.true), λ place. refl)

pub returns-in-Ok : goal.returns-in-Ok
returns-in-Ok c =
    (comment (take c.in-Ok.length c.in-Some.behind.now), comment_front c.args.bytes.now c.in-Ok.length c.in-Some.first.now c.in-Some.behind.now c.in-Some.ensures.cases.0 c.if-first-eq35.true c.in-Ok.ensures, λ place. refl)
