-- Lists that go together, element by element.
use Rattle.std.proofs.Common.{List, [], ◌∷◌, ◌++◌}
use Rattle.std.specs.List.{AllZip}

pub AllZip-append : {A B : Type 0} (R : A → B → Type 0) (xs more_xs : List A) (ys more_ys : List B) → AllZip R xs ys → AllZip R more_xs more_ys
    → AllZip R (xs ++ more_xs) (ys ++ more_ys)
AllZip-append R [] more_xs [] more_ys z more = more
AllZip-append R [] more_xs (y ∷ ys) more_ys z more = absurd z
AllZip-append R (x ∷ xs) more_xs [] more_ys z more = absurd z
AllZip-append R (x ∷ xs) more_xs (y ∷ ys) more_ys z more = (z.0, AllZip-append R xs more_xs ys more_ys z.1 more)
