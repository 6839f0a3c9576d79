-- Counts of calls and of faults. A count is a u64 that stands still at its greatest value.
use Rattle.std.specs.Prelude.{ℕ, ◌+◌, ◌-◌, ◌^◌, ◌≤◌, min}

-- one more than a count
abbrev pub next_count : ℕ → ℕ
next_count count = min (count + 1) (2 ^ 64 - 1)

-- the count went up, if it could
abbrev pub Rose : ℕ → ℕ → Type 0
Rose before now = next_count before ≤ now
