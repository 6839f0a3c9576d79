use Rattle.std.specs.Prelude.{take}
use Rattle.ras_core.specs.CoreStates.{cubes_of, EntryParts}
use Rattle.ras_core.proofs.Lists.{to-map}
use Rattle.ras_core.proofs.Journals.{journal-sound}
use Rattle.ras_core.proofs.Reaching.{comes-formula, cube-reaches, found-reaches}
use Rattle.ras_core.proofs.law.each_cube_can_reach_a_goal.Goals as goal

pub returns-clause-entry : goal.returns-clause-entry
returns-clause-entry c = λ system budget base journal s good r i e known. let sound = (journal-sound system budget base journal s r) in (
  comes-formula system good (take i (cubes_of s)) e.origin e.cube (sound.entries i e known).comes,
  cube-reaches system good budget s sound i e.cube (to-map (λ (x : EntryParts). x.cube) s.entries i e known),
)

pub returns-clause-hit : goal.returns-clause-hit
returns-clause-hit c = λ system budget base journal s good r f h. let sound = (journal-sound system budget base journal s r) in
    (comes-formula system good (cubes_of s) f.origin f.cube (sound.hit f h).0, found-reaches system good budget s sound f.origin f.cube (sound.hit f h).0)

pub returns-clause-spill : goal.returns-clause-spill
returns-clause-spill c = λ system budget base journal s good r f h. let sound = (journal-sound system budget base journal s r) in
    (comes-formula system good (cubes_of s) f.origin f.cube (sound.spill f h).0.comes, found-reaches system good budget s sound f.origin f.cube (sound.spill f h).0.comes)
