-- A bound on how many steps a search still takes.
use Rattle.std.specs.Prelude.{ℕ, zero, suc, ◌+◌, ◌-◌, ◌*◌, List, [], ◌∷◌, length, reverse}
use Rattle.ras_sat.specs.declared.task.Task.{Task}
use Rattle.ras_sat.specs.declared.open_split.OpenSplit.{OpenSplit}
use Rattle.ras_sat.specs.declared.search.Search.{Search}
use Rattle.ras_sat.specs.declared.step.Step.{Step}
use Rattle.ras_sat.specs.declared.step.Step.TheVariants as step
use Rattle.ras_sat.specs.Tasks.{opposites_at}

-- for a case with so many instances that no split above it is by, where no instance has more literals than the first number
unfoldable pub effort : ℕ → ℕ → ℕ
effort most zero = 2
effort most (suc n) = most * effort most n + 3

-- for a case with so many splits above it
abbrev pub effort_at : Task → ℕ → ℕ
effort_at t depth = effort 4294967295 (length t.instances.now - depth)

-- for the children of these splits, the last of them first, behind those at hand
abbrev pub effort_behind : Task → List OpenSplit → ℕ
effort_behind t [] = 0
effort_behind t (split ∷ above) =
    (length (opposites_at t split.instance) - length split.done - 1) * effort_at t (length above + 1) + 1 + effort_behind t above

-- for the step that is next alone
abbrev pub effort_for : Task → Search → Step → ℕ
effort_for t s step.Enter = effort_at t (length s.open.items)
effort_for t s _ = 1

abbrev pub effort_of : Task → Search → Step → ℕ
effort_of t s next = effort_for t s next + effort_behind t (reverse s.open.items)
