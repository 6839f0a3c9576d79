use Rattle.std.proofs.Common.{◌∙◌, ℕ, List, sym, subst, length}
use Rattle.ras_store.specs.declared.named.Named.{Named}
use Rattle.ras_reasons.specs.Naming.{NamesBelow}
use Rattle.ras_reasons.proofs.NamedFormulas.{names-within}
use Rattle.ras_ask.specs.Asking.{ArePlaces}
use Rattle.ras_ask.proofs.KeptNames.{cubes-fit, asked-covered, asked-new, places-within, yes-closes, escape-escapes}
use Rattle.ras_ask.proofs.asking.ask.Goals as goal

pub entails-requires-clause-list : goal.entails-requires-clause-list
entails-requires-clause-list c =
    rw c.shape.ensures
    (cubes-fit c.args.store.now c.known-2.ensures c.args.system.now c.requires.system c.as_slice.result.now (c.as_slice.ensures.value ∙ c.in_ok-names.ensures) c.as_slice-2.result.now
    (c.as_slice-2.ensures.items ∙ c.in_ok-cubes.ensures))

pub named_formulas-requires : goal.named_formulas-requires
named_formulas-requires c =
    let closes = yes-closes c.shape.result.now c.args.system.now.shape c.shape.ensures c.in_ok-premise.premise c.args.cube.now c.in_ok-premise.ensures c.as_slice-2.result.now c.in_ok-tree.field-0 c.in-Yes.tree
    c.in-Yes.is c.in_ok-tree.ensures in
    let within : NamesBelow c.in-Yes.tree.nodes (length c.as_slice-2.result.now) =
    names-within c.args.system.now.shape.schema c.args.cube.now c.as_slice-2.result.now c.in-Yes.tree.nodes closes in
    rw (c.len.ensures.count, ← c.as_slice-2.ensures.items) within

pub names_at-requires : goal.names_at-requires
names_at-requires c =
    let closes = yes-closes c.shape.result.now c.args.system.now.shape c.shape.ensures c.in_ok-premise.premise c.args.cube.now c.in_ok-premise.ensures c.as_slice-2.result.now c.in_ok-tree.field-0 c.in-Yes.tree
    c.in-Yes.is c.in_ok-tree.ensures in
    rw (c.as_slice-in-Yes-2.ensures.value, c.as_slice-in-Yes.ensures.value, ← c.as_slice.ensures.value)
    (places-within c.args.store.now c.known-2.ensures c.args.system.now c.requires.system c.as_slice.result.now (c.as_slice.ensures.value ∙ c.in_ok-names.ensures) c.as_slice-2.result.now
    (c.as_slice-2.ensures.items ∙ c.in_ok-cubes.ensures) c.args.cube.now c.in-Yes.tree.nodes c.in_ok-places-in-Yes.places.items closes c.in_ok-places-in-Yes.ensures)

pub returns-in-Yes : goal.returns-in-Yes
returns-in-Yes c =
    let closes = yes-closes c.shape.result.now c.args.system.now.shape c.shape.ensures c.in_ok-premise.premise c.args.cube.now c.in_ok-premise.ensures c.as_slice-2.result.now c.in_ok-tree.field-0 c.in-Yes.tree
    c.in-Yes.is c.in_ok-tree.ensures in
    let places : ArePlaces c.as_slice.result.now c.in_ok-places-in-Yes.places.items c.in_ok-names_at-in-Yes.field-0.items =
    subst (λ (ks : List ℕ). ArePlaces c.as_slice.result.now ks c.in_ok-names_at-in-Yes.field-0.items) c.as_slice-in-Yes-2.ensures.value
    (subst (λ (ns : List Named). ArePlaces ns c.as_slice-in-Yes-2.result.now c.in_ok-names_at-in-Yes.field-0.items) (c.as_slice-in-Yes.ensures.value ∙ sym c.as_slice.ensures.value) c.in_ok-names_at-in-Yes.ensures) in
    asked-covered c.args.store.now c.known-2.ensures c.args.system.now c.requires.system c.as_slice.result.now (c.as_slice.ensures.value ∙ c.in_ok-names.ensures) c.as_slice-2.result.now
    (c.as_slice-2.ensures.items ∙ c.in_ok-cubes.ensures) c.args.cube.now c.in-Yes.tree.nodes c.in_ok-places-in-Yes.places.items c.in_ok-names_at-in-Yes.field-0.items c.requires.fits closes
    c.in_ok-places-in-Yes.ensures places

pub returns : goal.returns
returns c =
    asked-new c.args.store.now c.known-2.ensures c.args.system.now c.requires.system c.as_slice.result.now (c.as_slice.ensures.value ∙ c.in_ok-names.ensures) c.as_slice-2.result.now
    (c.as_slice-2.ensures.items ∙ c.in_ok-cubes.ensures) c.args.cube.now c.in-Escape.witness
    (escape-escapes c.shape.result.now c.args.system.now.shape c.shape.ensures c.in_ok-premise.premise c.args.cube.now c.in_ok-premise.ensures c.as_slice-2.result.now c.in_ok-tree.field-0 c.in-Escape.witness
    c.in-Escape.is c.in_ok-tree.ensures)
