-- Functions that lead, one after the other, from a sort to a sort.
use Rattle.std.specs.Prelude.{ℕ, zero, suc, Bool, ◌&&◌, ◌||◌, List}
use Rattle.std.specs.List.{list_any}

-- Sorts may be numbers or names: a test says which of them are the same, and a function has a source and a target.
module _ {F S : Type 0} (same : S → S → Bool) (source target : F → S) where
  -- none or more of the functions, at most n, lead one after the other from a sort to a sort
  abbrev pub leads : List F → ℕ → S → S → Bool
  leads functions zero from to = same from to
  leads functions (suc n) from to = same from to || list_any (λ (f : F). same (source f) from && leads functions n (target f) to) functions
