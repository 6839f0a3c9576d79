use Rattle.std.proofs.Common.{◌≡◌, ℕ, get_or, length, refl}
use Rattle.std.specs.Prelude.{slice_get, Some}
use Rattle.std.proofs.lemmas.Option.{slice_get_read}
use Rattle.ras_store.specs.declared.named.Named.{Named}
use Rattle.ras_ask.proofs.KeptNames.{place-more}
use Rattle.ras_ask.proofs.asking.names_at.Goals as goal

pub loop-place-preserved : goal.loop-place-preserved
loop-place-preserved c =
    let place : ℕ = get_or c.args.places.now c.loop-place.place-index 0 in
    let n : Named = record { number = c.index-names-place.result.number; cube = c.in_ok-another.field-0 } in
    let read : slice_get c.args.names.now place ≡ Some c.index-names-place.result =
    slice_get_read c.args.names.now (length c.args.names.now) place c.index-names-place.result refl (c.requires c.loop-place.place-index 0 c.loop-place-test.true) c.index-names-place.is in
    let at : slice_get c.args.names.now place ≡ Some n = rw c.in_ok-another.ensures read in
    rw c.in_ok-push.ensures.items
    (place-more c.args.names.now c.args.places.now c.loop-place.place-index c.loop-place.picked.items n c.loop-place-test.true at c.loop-place.invariant)
