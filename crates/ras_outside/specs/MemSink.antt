-- A sink in memory, and what its next put does.
use Rattle.std.specs.Prelude.{ℕ, ◌-◌, min, List, length, take, ◌++◌, Option, Bool, ◌||◌, ◌==◌, nat_lt, is_some, unwrap_or, find, option_map, cond}
use Rattle.ras_outside.specs.Count.{next_count}

-- the bytes written and the room left, the calls that fail with the bytes that each takes, and how many calls there were and how many failed
pub record SinkState : Type 0 where
  pub written : List ℕ
  pub room : ℕ
  pub failing : List (ℕ × ℕ)
  pub calls : ℕ
  pub faults : ℕ

-- the bytes that the next put is listed to take, if it is listed
abbrev pub listed_of : SinkState → Option ℕ
listed_of sink = option_map (λ entry. entry.1) (find (λ entry. entry.0 == next_count sink.calls) sink.failing)

-- how many bytes the next put takes of a piece of this length
abbrev pub accepted_of : SinkState → ℕ → ℕ
accepted_of sink len = min (unwrap_or (listed_of sink) len) (min len sink.room)

-- whether the next put, of a piece of this length, fails: its call is listed, or the piece finds less room
abbrev pub put_fails : SinkState → ℕ → Bool
put_fails sink len = is_some (listed_of sink) || nat_lt sink.room len

-- the sink after a put of these bytes
abbrev pub after_put : SinkState → List ℕ → SinkState
after_put sink bytes =
    let accepted = accepted_of sink (length bytes) in
    record {
      written = sink.written ++ take accepted bytes;
      room = sink.room - accepted;
      failing = sink.failing;
      calls = next_count sink.calls;
      faults = cond (put_fails sink (length bytes)) (next_count sink.faults) sink.faults;
    }
