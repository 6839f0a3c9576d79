-- What is so of each element that goes together with another.
use Rattle.std.proofs.Common.{List, [], ◌∷◌, All}
use Rattle.std.specs.List.{AllZip}
use Rattle.std.proofs.lemmas.List.Elements.{All-nil, All-cons, All-head, All-tail}

-- what is so of each element that fits and has a partner
pub all_with_partner : {X Y : Type 0} (Fit : X → Type 0) (R : X → Y → Type 0) (P : X → Type 0) → ((x : X) (y : Y) → Fit x → R x y → P x)
    → (xs : List X) (ys : List Y) → All Fit xs → AllZip R xs ys → All P xs
all_with_partner Fit R P each [] ys fit zip = All-nil P
all_with_partner Fit R P each (x ∷ xs) [] fit zip = absurd zip
all_with_partner Fit R P each (x ∷ xs) (y ∷ ys) fit zip =
    All-cons P x xs (each x y (All-head Fit x xs fit) zip.0) (all_with_partner Fit R P each xs ys (All-tail Fit x xs fit) zip.1)
