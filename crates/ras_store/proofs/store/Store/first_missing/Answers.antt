use Rattle.std.proofs.Common.{ap, ◌∙◌}
use Rattle.ras_store.specs.Stores.{StoreParts}
use Rattle.ras_store.proofs.Compared.{none_missing}
use Rattle.ras_store.proofs.store.Store.first_missing.Goals as goal

pub returns-clause-none : goal.returns-clause-none
returns-clause-none c =
    none_missing c.args.self.now.state c.entries.result.now c.args.entry c.index-entries-entry.result c.submissions.result.now c.args.all.now c.first_missing.result
    (c.entries.ensures.entries ∙ ap (λ (s : StoreParts). s.state.entries) c.self.view_is) c.requires.within c.index-entries-entry.is c.submissions.ensures c.first_missing.ensures.none
