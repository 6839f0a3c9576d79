use Rattle.std.proofs.Common.{[], ◌∷◌, refl, sym}
use Rattle.ras_vectors.specs.Words.{state}
use Rattle.ras_vectors.specs.Small.{two, three_elements}
use Rattle.ras_core.specs.Journals.{Replays}
use Rattle.ras_core_vectors.specs.Searches.{two_journal, two_last, everything}
use Rattle.ras_core_vectors.proofs.Cubes.{state_of}
use Rattle.ras_core_vectors.proofs.Leading.{a-not-covered}
use Rattle.ras_core_vectors.proofs.leads.a_state_that_cannot_reach_the_goal.Goals as goal

pub returns : goal.returns
returns c =
    let search = c.a_search_of_two_entries.ensures in
    let replays : Replays two 2 [] two_journal two_last = record { is_base = c.an_empty_base_is_one.ensures two; lawful = search.lawful; state = sym search.state } in
    let here = state_of two three_elements 1 everything refl refl refl in
    λ reaches. a-not-covered
    (c.at_quiet_the_kept_entries_are_what_can_reach.ensures.covered two 2 [] two_journal two_last c.good_systems.ensures.two replays search.quiet three_elements (state (1 ∷ []) []) here.state reaches)
