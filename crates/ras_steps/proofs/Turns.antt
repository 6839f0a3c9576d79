-- A walk over the choices ends: each turn leaves fewer.
use Rattle.std.proofs.Common.{◌≡◌, ℕ, zero, suc, ◌+◌, ◌-◌, ◌*◌, ◌<◌, ◌≤◌, List, [], ◌∷◌, length, get_or, set, refl, sym, ◌∙◌, ap, subst, arith}
use Rattle.ras_steps.specs.Searching.{turns, turns_left}

one_less : (w x m : ℕ) → x < w → (w - (x + 1)) * m + m ≡ (w - x) * m
one_less w x m lt = go (w - (x + 1)) (w - x) (omega arith)
  where
    go : (a b : ℕ) → b ≡ a + 1 → a * m + m ≡ b * m
    go a b e = rw e (omega arith)

no_more : (w x m : ℕ) → w ≤ x → (w - x) * m ≡ 0
no_more w x m le = let none : w - x ≡ 0 = omega arith in rw none (omega arith)

-- the next number
pub left_next : (ws numbers : List ℕ) (k : ℕ) → k < length ws → k < length numbers → get_or numbers k 0 < get_or ws k 0
    → turns_left ws (set numbers k (get_or numbers k 0 + 1)) k < turns_left ws numbers k
left_next [] numbers k lt room below = absurd (omega arith)
left_next (w ∷ ws) [] k lt room below = absurd (omega arith)
left_next (w ∷ ws) (x ∷ numbers) zero lt room below = let e = one_less w x (turns ws + 1) below in omega (arith, e)
left_next (w ∷ ws) (x ∷ numbers) (suc k) lt room below = let rest = left_next ws numbers k (omega arith) (omega arith) below in omega (arith, rest)

-- the first number of the next row
pub left_down : (ws numbers : List ℕ) (k : ℕ) → suc k < length ws → suc k < length numbers → get_or numbers k 0 < get_or ws k 0
    → turns_left ws (set numbers (suc k) 0) (suc k) + 2 ≡ turns_left ws numbers k
left_down [] numbers k lt room below = absurd (omega arith)
left_down (w ∷ []) numbers zero lt room below = absurd (omega arith)
left_down (w ∷ u ∷ ws) [] zero lt room below = absurd (omega arith)
left_down (w ∷ u ∷ ws) (x ∷ []) zero lt room below = absurd (omega arith)
left_down (w ∷ u ∷ ws) (x ∷ y ∷ numbers) zero lt room below =
    let e = one_less w x (turns (u ∷ ws) + 1) below in
    let all : u - 0 ≡ u = omega arith in
    rw all (omega (arith, e))
left_down (w ∷ ws) [] (suc k) lt room below = absurd (omega arith)
left_down (w ∷ ws) (x ∷ numbers) (suc k) lt room below = let rest = left_down ws numbers k (omega arith) (omega arith) below in omega (arith, rest)

-- the last row is chosen
pub left_done : (ws numbers : List ℕ) (k : ℕ) → suc k ≡ length ws → k < length numbers → get_or numbers k 0 < get_or ws k 0
    → turns_left ws numbers (suc k) + 2 ≡ turns_left ws numbers k
left_done [] numbers k lt room below = absurd (omega arith)
left_done (w ∷ ws) [] k lt room below = absurd (omega arith)
left_done (w ∷ []) (x ∷ numbers) zero lt room below = let e = one_less w x 2 below in omega (arith, e)
left_done (w ∷ u ∷ ws) (x ∷ numbers) zero lt room below = absurd (omega arith)
left_done (w ∷ ws) (x ∷ numbers) (suc k) lt room below = let rest = left_done ws numbers k (omega arith) (omega arith) below in omega (arith, rest)

-- the row before, once the rows of this one are used up
pub left_up : (ws numbers : List ℕ) (k : ℕ) → suc k < length ws → suc k < length numbers → get_or ws (suc k) 0 ≤ get_or numbers (suc k) 0
    → turns_left ws (set numbers k (get_or numbers k 0 + 1)) k ≡ turns_left ws numbers (suc k)
left_up [] numbers k lt room past = absurd (omega arith)
left_up (w ∷ []) numbers zero lt room past = absurd (omega arith)
left_up (w ∷ u ∷ ws) [] zero lt room past = absurd (omega arith)
left_up (w ∷ u ∷ ws) (x ∷ []) zero lt room past = absurd (omega arith)
left_up (w ∷ u ∷ ws) (x ∷ y ∷ numbers) zero lt room past = let e = no_more u y (turns ws + 1) past in omega (arith, e)
left_up (w ∷ ws) [] (suc k) lt room past = absurd (omega arith)
left_up (w ∷ ws) (x ∷ numbers) (suc k) lt room past = let rest = left_up ws numbers k (omega arith) (omega arith) past in omega (arith, rest)
