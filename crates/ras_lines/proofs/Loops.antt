-- What loops read, one thing after the other.
use Rattle.std.proofs.Common.{◌≡◌, ℕ, suc, ◌+◌, ◌-◌, ◌<◌, ◌≤◌, List, [], ◌∷◌, ◌++◌, refl, sym, ap, arith, append_assoc, append-nil}
use Rattle.std.specs.Prelude.{Ok, Err}
use Rattle.ras_lines.specs.Fronts.{Front, prepend, times}

pub prepend-nil : {T X : Type 0} (o : Front T (List X)) → prepend [] o ≡ o
prepend-nil (Ok p) = refl
prepend-nil (Err left) = refl

pub prepend_push : {T X : Type 0} (xs : List X) (x : X) (o : Front T (List X)) → prepend xs (prepend (x ∷ []) o) ≡ prepend (xs ++ x ∷ []) o
prepend_push {T} {X} xs x (Ok p) = ap (λ (ys : List X). let q : Front T (List X) = Ok (ys, p.1) in q) (sym (append_assoc xs (x ∷ []) p.0))
prepend_push xs x (Err left) = refl

pub prepend_done : {T X : Type 0} (xs : List X) (ts : List T) → prepend xs (let q : Front T (List X) = Ok ([], ts) in q) ≡ Ok (xs, ts)
prepend_done {T} {X} xs ts = ap (λ (ys : List X). let q : Front T (List X) = Ok (ys, ts) in q) (append-nil xs)

times_suc : {T X : Type 0} (f : List T → Front T X) (n i : ℕ) (ts : List T) → i < n → times f (n - i) ts ≡ times f (suc (n - (i + 1))) ts
times_suc f n i ts lt = let e : n - i ≡ suc (n - (i + 1)) = omega arith in ap (λ (k : ℕ). times f k ts) e

pub times_next : {T X : Type 0} (f : List T → Front T X) (xs : List X) (n i : ℕ) (x : X) (ts rest : List T) → i < n → f ts ≡ Ok (x, rest)
    → prepend xs (times f (n - i) ts) ≡ prepend (xs ++ x ∷ []) (times f (n - (i + 1)) rest)
times_next f xs n i x ts rest lt e = rw (times_suc f n i ts lt, e) (prepend_push xs x (times f (n - (i + 1)) rest))

pub times_stop : {T X : Type 0} (f : List T → Front T X) (xs : List X) (n i : ℕ) (ts left : List T) → i < n → f ts ≡ Err left → prepend xs (times f (n - i) ts) ≡ Err left
times_stop f xs n i ts left lt e = rw (times_suc f n i ts lt, e) refl

pub times_done : {T X : Type 0} (f : List T → Front T X) (xs : List X) (n i : ℕ) (ts : List T) → n ≤ i → prepend xs (times f (n - i) ts) ≡ Ok (xs, ts)
times_done f xs n i ts le = let e : n - i ≡ 0 = omega arith in rw e (prepend_done xs ts)

pub times_start : {T X : Type 0} (f : List T → Front T X) (n : ℕ) (ts : List T) → times f n ts ≡ prepend [] (times f (n - 0) ts)
times_start f n ts = let e : n - 0 ≡ n = omega arith in rw e (sym (prepend-nil (times f n ts)))

pub ruleset times_laws = (times_start, times_next, times_stop, times_done)
