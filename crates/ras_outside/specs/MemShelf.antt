-- A shelf in memory, and what its next load does.
use Rattle.std.specs.Prelude.{ℕ, List, map, Option, Bool, ◌||◌, ◌==◌, is_none, find, option_map, cond, string_bytes}
use Rattle.std.specs.List.{list_any}
use Rattle.std.specs.Str.{bytes_eq}
use Rattle.std.specs.Prelude.{String, Vec}
use Rattle.ras_outside.specs.Count.{next_count}

-- the names and the bytes of files
abbrev pub entries_of : {A B : Type 0} → List (String A × Vec ℕ B) → List (List ℕ × List ℕ)
entries_of files = map (λ file. (string_bytes file.0, file.1.items)) files

-- the bytes of the first file of a name
abbrev pub content_under : List (List ℕ × List ℕ) → List ℕ → Option (List ℕ)
content_under files name = option_map (λ file. file.1) (find (λ file. bytes_eq file.0 name) files)

-- the files, the calls that fail, and how many calls there were and how many failed
pub record ShelfState : Type 0 where
  pub files : List (List ℕ × List ℕ)
  pub failing : List ℕ
  pub calls : ℕ
  pub faults : ℕ

-- whether the next load, of this name, fails: its call is listed, or no file has the name
abbrev pub load_fails : ShelfState → List ℕ → Bool
load_fails shelf name = list_any (λ call. call == next_count shelf.calls) shelf.failing || is_none (content_under shelf.files name)

-- the shelf after a load of this name
abbrev pub after_load : ShelfState → List ℕ → ShelfState
after_load shelf name = record shelf {
  calls = next_count shelf.calls;
  faults = cond (load_fails shelf name) (next_count shelf.faults) shelf.faults;
}
