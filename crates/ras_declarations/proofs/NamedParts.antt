-- Names with what stands behind their colons, in the words of what was read above them.
use Rattle.std.proofs.Common.{◌≡◌, ℕ, suc, ◌+◌, ◌<◌, List, [], ◌∷◌, ◌++◌, length, map, take, sym, ◌∙◌, ap, arith}
use Rattle.std.proofs.lemmas.List.{map-append, take-map, length-append, length-map, length-take-le}
use Rattle.ras_syntax.specs.Grammar.{Text}
use Rattle.ras_names.specs.Placed.{Declared as Item}
use Rattle.ras_names.specs.Checks.{declared_texts, declared_checks, used_check}
use Rattle.ras_declarations.specs.Naming.{named_checks}

take_behind : {A : Type 0} (xs ys : List A) (n : ℕ) → take (length xs + n) (xs ++ ys) ≡ xs ++ take n ys
take_behind [] ys n = ap (λ (k : ℕ). take k ys) (let e : 0 + n ≡ n = omega arith in e)
take_behind {A} (x ∷ xs) ys n =
    let e : suc (length xs) + n ≡ suc (length xs + n) = omega arith in
    ap (λ (k : ℕ). take k (x ∷ xs ++ ys)) e ∙ ap (λ (zs : List A). x ∷ zs) (take_behind xs ys n)

abbrev pub key : Item → Text
key d = d.name.text

-- the checks of an item behind those before and those that are read
pub same_named : {T : Type 0} (limit : ℕ) (above others : List Text) (place : T → Item) (before : List Item) (xs : List T) (i : ℕ) (names : List Text) (d : Item) → i < length xs
    → names ≡ declared_texts before ++ declared_texts (map place (take i xs))
    → declared_checks limit (length names) (above ++ names) d.name ++ used_check others d.of ∷ [] ≡ named_checks limit above others (before ++ map place xs) (length before + i) d
same_named limit above others place before xs i names d lt made =
    let whole : names ≡ declared_texts (take (length before + i) (before ++ map place xs)) =
    made ∙ sym (map-append key before (map place (take i xs)))
    ∙ ap declared_texts (sym (take_behind before (map place xs) i ∙ ap (λ (ds : List Item). before ++ ds) (take-map place i xs))) in
    let some : length (declared_texts (map place (take i xs))) ≡ i = length-map (map place (take i xs)) key ∙ length-map (take i xs) place ∙ length-take-le i xs (omega (arith, lt)) in
    let sum : length (declared_texts before ++ declared_texts (map place (take i xs))) ≡ length (declared_texts before) + length (declared_texts (map place (take i xs))) =
    length-append (declared_texts before) (declared_texts (map place (take i xs))) in
    let front : length (declared_texts before) ≡ length before = length-map before key in
    let counted : length names ≡ length before + i = ap length made ∙ (let e : length (declared_texts before ++ declared_texts (map place (take i xs))) ≡ length before + i = omega (arith, some, sum, front) in e) in
    λ j. declared_checks limit (counted j) (above ++ whole j) d.name ++ used_check others d.of ∷ []
