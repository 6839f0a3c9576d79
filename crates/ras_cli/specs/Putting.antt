-- How a text is put to a sink.
use Rattle.std.specs.Prelude.{◌≡◌, ℕ, ◌≤◌, List, length, take, Option}
use Rattle.std.specs.Io.KnownBytes.{append_known}

-- a front of the text was put, where the sink tells what was written
abbrev pub PutsFront : Option (List ℕ) → Option (List ℕ) → List ℕ → Type 0
PutsFront before after text = (n : ℕ) × (n ≤ length text) × (after ≡ append_known before (take n text))
