use Rattle.std.proofs.Common.{◌<◌, nat_eq, ap, arith}
use Rattle.std.specs.Prelude.{not}
use Rattle.std.proofs.lemmas.Bool.{OnTrue_from, OnTrue_at, not-true, eqb-false}
use Rattle.std.proofs.lemmas.List.Elements.{All-contains}
use Rattle.ras_closure.specs.Numbered.{rigid_count}
use Rattle.ras_known.specs.Knowledge.{AreApart, AreKeptApart}
use Rattle.ras_known.proofs.KnownTruth.{rigid-apart, listed-apart, turned-apart}
use Rattle.ras_known.proofs.known.are_apart.Goals as goal

pub returns-then-right-rigid : goal.returns-then-right-rigid
returns-then-right-rigid c =
    let k = c.args.known.now in
    let left : c.args.left < rigid_count k.closure.now.table = omega (arith, c.if-left-rigid.true, c.rigid_count-rigid.ensures, ap rigid_count c.table.ensures) in
    let right : c.args.right < rigid_count k.closure.now.table = omega (arith, c.if-right-rigid.true, c.rigid_count-rigid.ensures, ap rigid_count c.table.ensures) in
    OnTrue_from (not (nat_eq c.args.left c.args.right)) (AreKeptApart k.shape.now k.premise.now k.closure.now (record { left = c.args.left; right = c.args.right }))
    (λ e. rigid-apart k.shape.now k.premise.now k.closure.now c.requires.closure c.known.ensures.table c.known.ensures.closure (record { left = c.args.left; right = c.args.right })
    left right (eqb-false c.args.left c.args.right (not-true (nat_eq c.args.left c.args.right) e)))

pub returns-then-is_listed : goal.returns-then-is_listed
returns-then-is_listed c =
    let k = c.args.known.now in
    OnTrue_from c.is_listed.result (AreKeptApart k.shape.now k.premise.now k.closure.now (record { left = c.args.left; right = c.args.right }))
    (λ e. listed-apart k.shape.now k.premise.now k.closure.now c.requires.closure c.known.ensures.table c.known.ensures.closure (record { left = c.args.left; right = c.args.right })
    (All-contains (AreApart k.shape.now k.premise.now k.closure.now) k.apart.now (record { left = c.args.left; right = c.args.right }) c.requires.apart (OnTrue_at e c.is_listed.ensures)))

pub returns-else-is_listed : goal.returns-else-is_listed
returns-else-is_listed c =
    let k = c.args.known.now in
    OnTrue_from c.is_listed-else-is_listed.result (AreKeptApart k.shape.now k.premise.now k.closure.now (record { left = c.args.left; right = c.args.right }))
    (λ e. turned-apart k.shape.now k.premise.now k.closure.now c.requires.closure c.known.ensures.table c.known.ensures.closure c.args.left c.args.right
    (All-contains (AreApart k.shape.now k.premise.now k.closure.now) k.apart.now (record { left = c.args.right; right = c.args.left }) c.requires.apart (OnTrue_at e c.is_listed-else-is_listed.ensures)))
