-- What comes first in a list, of bytes or of lines.
use Rattle.std.specs.Prelude.{◌≡◌, ℕ, zero, suc, List, [], ◌∷◌, ◌++◌, Result, Ok, Err}
use Rattle.ras_lines.specs.declared.stop.Stop.{Stop}
use Rattle.ras_lines.specs.declared.stop.Stop.TheVariants.{Memory, Misfit}

-- a value, and what is left behind it; or what is left where it does not go on
abbrev pub Front : Type 0 → Type 0 → Type 0
Front T X = Result (X × List T) (List T)

-- one thing, and then another
abbrev pub follow : {T X Y : Type 0} → Front T X → (X → List T → Front T Y) → Front T Y
follow (Ok p) f = f p.0 p.1
follow (Err left) f = Err left

-- two things, one after the other, that make one value
abbrev pub chain : {T X Y Z : Type 0} → (X → Y → Z) → (List T → Front T X) → (List T → Front T Y) → List T → Front T Z
chain make f g ts = follow (f ts) (λ x more. follow (g more) (λ y rest. Ok (make x y, rest)))

-- a value made of the one that comes first
abbrev pub made : {T X Y : Type 0} → (X → Y) → Front T X → Front T Y
made make (Ok p) = Ok (make p.0, p.1)
made make (Err left) = Err left

-- these values first
abbrev pub prepend : {T X : Type 0} → List X → Front T (List X) → Front T (List X)
prepend xs (Ok p) = Ok (xs ++ p.0, p.1)
prepend xs (Err left) = Err left

-- so many, one after the other
abbrev pub times : {T X : Type 0} → (List T → Front T X) → ℕ → List T → Front T (List X)
times f zero ts = Ok ([], ts)
times f (suc n) ts = follow (f ts) (λ x rest. prepend (x ∷ []) (times f n rest))

-- What a reader owes: the value and what is left, or where it does not go on.
abbrev pub Reads : {T X : Type 0} → (List T → Front T X) → List T → List T → Result X Stop → Type 0
Reads f before after (Ok x) = f before ≡ Ok (x, after)
Reads f before after (Err Memory) = Unit {0}
Reads f before after (Err Misfit) = f before ≡ Err after

-- what decides exactly where a list begins with a value's text, where only what may follow comes behind it
pub record IsExact {T X : Type 0} (May : List T → Type 0) (text : X → List T) (Valid : X → Type 0) (f : List T → Front T X) : Type 0 where
  pub sound : (ts : List T) (x : X) (rest : List T) → f ts ≡ Ok (x, rest) → (ts ≡ text x ++ rest) × Valid x
  pub again : (x : X) (rest : List T) → Valid x → May rest → f (text x ++ rest) ≡ Ok (x, rest)
