-- Bytes that are taken in turns.
use Rattle.std.proofs.Common.{◌≡◌, ℕ, ◌+◌, ◌-◌, List, ◌++◌, Option, None, Some, length, take, drop, refl, ap, append_assoc, arith}
use Rattle.std.specs.Io.KnownBytes.{Appends, append_known}
use Rattle.std.proofs.KnownBytes.{Appends-trans}
use Rattle.std.proofs.Math.Seq.{take-add}
use Rattle.std.proofs.lemmas.List.{take_all, length-drop}

-- two pieces put in a row are put as one
pub append_known-append : (known : Option (List ℕ)) (xs ys : List ℕ) → append_known (append_known known xs) ys ≡ append_known known (xs ++ ys)
append_known-append None xs ys = refl
append_known-append (Some zs) xs ys = ap Some (append_assoc zs xs ys)

-- a list after its first i
rest_of : (i : ℕ) (xs : List ℕ) → take (length xs - i) (drop i xs) ≡ drop i xs
rest_of i xs = take_all _ _ (omega (arith, length-drop i xs))

-- two writes in a row of the front of a list write its front
pub Appends-take : (a b c : Option (List ℕ)) (i n : ℕ) (xs : List ℕ)
    → Appends a b (take i xs) → Appends b c (take n (take (length xs - i) (drop i xs))) → Appends a c (take (i + n) xs)
Appends-take a b c i n xs p q = rw take-add (Appends-trans a b c _ _ p (rw rest_of at q))
