use Rattle.std.proofs.Common.{◌≡◌, length, refl, sym, ap, ◌∙◌, arith}
use Rattle.ras_store.specs.Stores.{StoreParts}
use Rattle.ras_store.proofs.Chained.{entry_read, follow_on, follow_end, origin_before, chain_there}
use Rattle.ras_store.proofs.store.Store.chain.Goals as goal

pub loop-next-init : goal.loop-next-init
loop-next-init c =
    let here : c.entries-entries.result.now ≡ c.args.self.now.state.entries = c.entries-entries.ensures.entries ∙ ap (λ (s : StoreParts). s.state.entries) c.self.view_is in
    let lt = c.requires in (
      rw c.new-links.ensures.items refl,
      (let n = ap length here in omega (arith, n, lt)),
    )

pub loop-next-preserved : goal.loop-next-preserved
loop-next-preserved c =
    let s = c.args.self.now in
    let here : c.entries-entries.result.now ≡ s.state.entries = c.entries-entries.ensures.entries ∙ ap (λ (x : StoreParts). x.state.entries) c.self.view_is in
    let lt = c.loop-next.invariant.1 in
    let e = c.index-entries-at.result in
    let at = entry_read s.state c.entries-entries.result.now c.loop-next.at e here lt c.index-entries-at.is in
    let origin = sym c.origin.ensures ∙ c.in-Step.is in
    let less = origin_before s c.known.ensures c.loop-next.at c.in-Step.next c.in-Step.transition e at origin in (
      follow_on s.state c.args.number c.loop-next.at c.loop-next.links.items c.push.new.self.items c.in_ok-link-in-Step.field-0 e c.in-Step.next c.in-Step.transition
          c.loop-next.invariant.0 at origin c.in_ok-link-in-Step.ensures c.in_ok-push-in-Step.ensures.items,
      omega (arith, lt, less),
    )

pub loop-next-smaller : goal.loop-next-smaller
loop-next-smaller c =
    let s = c.args.self.now in
    let here : c.entries-entries.result.now ≡ s.state.entries = c.entries-entries.ensures.entries ∙ ap (λ (x : StoreParts). x.state.entries) c.self.view_is in
    let e = c.index-entries-at.result in
    let at = entry_read s.state c.entries-entries.result.now c.loop-next.at e here c.loop-next.invariant.1 c.index-entries-at.is in
    origin_before s c.known.ensures c.loop-next.at c.in-Step.next c.in-Step.transition e at (sym c.origin.ensures ∙ c.in-Step.is)

pub returns-in-Goal-clause-origins : goal.returns-in-Goal-clause-origins
returns-in-Goal-clause-origins c =
    let s = c.args.self.now in
    let here : c.entries-entries.result.now ≡ s.state.entries = c.entries-entries.ensures.entries ∙ ap (λ (x : StoreParts). x.state.entries) c.self.view_is in
    let e = c.index-entries-at.result in
    follow_end s.state c.args.number c.loop-next.at c.loop-next.links.items c.push-in-Goal.new.self.items c.in_ok-link-in-Goal.field-0 e c.in-Goal.disjunct c.loop-next.invariant.0
    (entry_read s.state c.entries-entries.result.now c.loop-next.at e here c.loop-next.invariant.1 c.index-entries-at.is) (sym c.origin.ensures ∙ c.in-Goal.is)
    c.in_ok-link-in-Goal.ensures c.in_ok-push-in-Goal.ensures.items

pub returns-in-Goal-clause-leads : goal.returns-in-Goal-clause-leads
returns-in-Goal-clause-leads c = chain_there c.args.self.now c.known.ensures c.args.number c.push-in-Goal.new.self.items c.requires (returns-in-Goal-clause-origins c)
