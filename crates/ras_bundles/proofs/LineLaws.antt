-- Lines that are judged one after the other.
use Rattle.std.proofs.Common.{◌≡◌, ℕ, zero, suc, ◌+◌, ◌<◌, ◌≤◌, Bool, true, false, List, [], ◌∷◌, ◌++◌, length, map, get_or, drop, refl, sym, ◌∙◌, ap, subst, arith, add-one, drop-cons, append_assoc}
use Rattle.std.specs.Prelude.{Option, Some, None, Result, Ok, Err, IsErrAnd, slice_get, cond, flat_map}
use Rattle.std.specs.List.{enumerate_from, AllByRecursion}
use Rattle.std.proofs.lemmas.List.{drop_all}
use Rattle.ras_logic.specs.declared.ids.RelId.{RelId}
use Rattle.ras_logic.specs.declared.literal.Literal.{Literal}
use Rattle.ras_logic.specs.declared.problem.Problem.{Problem}
use Rattle.ras_logic.specs.Shapes.{ShapeParts}
use Rattle.ras_bundles.specs.declared.fault.BundleKind.{BundleKind}
use Rattle.ras_bundles.specs.declared.fault.BundleError.{BundleError}
use Rattle.ras_bundles.specs.declared.fault.BundleError.TheVariants.{System, Evidence, Memory}
use Rattle.ras_bundles.specs.Checks.{Check, first_of, count_checks, cube_checks, first_or_later, first_from, each}
use Rattle.ras_bundles.specs.Judging.{Judges}

-- One line.

pub passes-line : (n : ℕ) (c : List Check) (ls : List (List Check)) → first_of c ≡ None → first_from n (c ∷ ls) ≡ first_from (suc n) ls
passes-line n c ls h = ap (λ (o : Option BundleKind). first_or_later n o (first_from (suc n) ls)) h

pub fails-line : (n : ℕ) (c : List Check) (ls : List (List Check)) (k : BundleKind) → first_of c ≡ Some k → first_from n (c ∷ ls) ≡ Some (n, k)
fails-line n c ls k h = ap (λ (o : Option BundleKind). first_or_later n o (first_from (suc n) ls)) h

pub judged_ok : (n : ℕ) (c : List Check) (m : ℕ) → m ≡ n + 1 → first_of c ≡ None → Judges (c ∷ []) n (Ok m)
judged_ok n c m is h = λ more. passes-line n c more h ∙ ap (λ (k : ℕ). first_from k more) (let e : suc n ≡ m = omega (arith, is) in e)

pub judged_err : (n : ℕ) (c : List Check) (k : BundleKind) → first_of c ≡ Some k → Judges (c ∷ []) n (Err (System n k))
judged_err n c k h = λ more. fails-line n c more k h

-- Lines behind lines.

pub judges-then : (a b : List (List Check)) (n m : ℕ) (r : Result ℕ BundleError) → Judges a n (Ok m) → Judges b m r → Judges (a ++ b) n r
judges-then a b n m (Ok k) h g = λ more. ap (first_from n) (append_assoc a b more) ∙ h (b ++ more) ∙ g more
judges-then a b n m (Err (System l k)) h g = λ more. ap (first_from n) (append_assoc a b more) ∙ h (b ++ more) ∙ g more
judges-then a b n m (Err (Evidence f)) h g = g
judges-then a b n m (Err (Memory e)) h g = tt

pub stopped : (a b : List (List Check)) (n : ℕ) (e : BundleError) → Judges a n (Err e) → Judges (a ++ b) n (Err e)
stopped a b n (System l k) h = λ more. ap (first_from n) (append_assoc a b more) ∙ h (b ++ more)
stopped a b n (Evidence f) h = h
stopped a b n (Memory e) h = tt

pub same_error : (P : Result ℕ BundleError → Type 0) (e : BundleError) (r : Result ℕ BundleError) → P (Err e) → IsErrAnd r (λ k. k ≡ e) → P r
same_error P e (Ok n) h is = absurd is
same_error P e (Err k) h is = subst (λ (x : BundleError). P (Err x)) (sym is) h

-- the error of the first lines is handed on
pub judges-stop : (a b : List (List Check)) (n : ℕ) (e : BundleError) (r : Result ℕ BundleError) → Judges a n (Err e) → IsErrAnd r (λ k. k ≡ e) → Judges (a ++ b) n r
judges-stop a b n e r h is = same_error (Judges (a ++ b) n) e r (stopped a b n e h) is

-- that of the lines behind them is
pub judges-later : (a b : List (List Check)) (n m : ℕ) (e : BundleError) (r : Result ℕ BundleError) → Judges a n (Ok m) → Judges b m (Err e) → IsErrAnd r (λ k. k ≡ e) → Judges (a ++ b) n r
judges-later a b n m e r h g is = same_error (Judges (a ++ b) n) e r (judges-then a b n m (Err e) h g) is

-- The lines of values.

module _ {A : Type 0} (f : ℕ → A → List Check) (xs : List A) where
  abbrev pub Left : ℕ → List (List Check)
  Left k = map (λ (p : ℕ × A). f p.0 p.1) (enumerate_from k (drop k xs))

  -- nothing is wrong in the first k lines
  abbrev pub Passed : ℕ → ℕ → Type 0
  Passed n k = (more : List (List Check)) → first_from n (each f xs ++ more) ≡ first_from (n + k) (Left k ++ more)

  pub passed_none : (n : ℕ) → Passed n 0
  passed_none n = λ more. ap (λ (m : ℕ). first_from m (each f xs ++ more)) (let e : n ≡ n + 0 = omega arith in e)

  left_one : (k : ℕ) (d : A) → k < length xs → Left k ≡ f k (get_or xs k d) ∷ Left (k + 1)
  left_one k d lt = rw (drop-cons xs k d lt, add-one) refl

  pub passed_more : (n k m : ℕ) (d x : A) → k < length xs → x ≡ get_or xs k d → Passed n k → Judges (f k x ∷ []) (n + k) (Ok m) → m ≡ n + k + 1 → Passed n (k + 1)
  passed_more n k m d x lt is passed judged next = λ more.
      let at : first_from (n + k) (Left k ++ more) ≡ first_from (n + k) ((f k (get_or xs k d) ∷ Left (k + 1)) ++ more) = ap (λ (ls : List (List Check)). first_from (n + k) (ls ++ more)) (left_one k d lt) in
      let one : first_from (n + k) (f k (get_or xs k d) ∷ (Left (k + 1) ++ more)) ≡ first_from m (Left (k + 1) ++ more) =
      subst (λ (y : A). first_from (n + k) (f k y ∷ (Left (k + 1) ++ more)) ≡ first_from m (Left (k + 1) ++ more)) is (judged (Left (k + 1) ++ more)) in
      passed more ∙ at ∙ one ∙ ap (λ (i : ℕ). first_from i (Left (k + 1) ++ more)) (let e : m ≡ n + (k + 1) = omega (arith, next) in e)

  passed_err : (n k : ℕ) (d x : A) (e : BundleError) → k < length xs → x ≡ get_or xs k d → Passed n k → Judges (f k x ∷ []) (n + k) (Err e) → Judges (each f xs) n (Err e)
  passed_err n k d x (System l kind) lt is passed judged = λ more.
      passed more ∙ ap (λ (ls : List (List Check)). first_from (n + k) (ls ++ more)) (left_one k d lt)
      ∙ subst (λ (y : A). first_from (n + k) (f k y ∷ (Left (k + 1) ++ more)) ≡ Some (l, kind)) is (judged (Left (k + 1) ++ more))
  passed_err n k d x (Evidence g) lt is passed judged = judged
  passed_err n k d x (Memory e) lt is passed judged = tt

  pub passed_stop : (n k : ℕ) (d x : A) (e : BundleError) (r : Result ℕ BundleError) → k < length xs → x ≡ get_or xs k d → Passed n k → Judges (f k x ∷ []) (n + k) (Err e) → IsErrAnd r (λ z. z ≡ e)
      → Judges (each f xs) n r
  passed_stop n k d x e r lt is passed judged same = same_error (Judges (each f xs) n) e r (passed_err n k d x e lt is passed judged) same

  pub passed_all : (n k m : ℕ) → length xs ≤ k → k ≤ length xs → m ≡ n + length xs → Passed n k → Judges (each f xs) n (Ok m)
  passed_all n k m le ge next passed = λ more.
      passed more ∙ ap (λ (ys : List A). first_from (n + k) (map (λ (p : ℕ × A). f p.0 p.1) (enumerate_from k ys) ++ more)) (drop_all k xs le)
      ∙ ap (λ (i : ℕ). first_from i more) (let e : n + k ≡ m = omega (arith, le, ge, next) in e)

-- the lines of values one list after the other
module _ {A : Type 0} (f : A → List (List Check)) (xs : List A) where
  abbrev pub Went : ℕ → ℕ → ℕ → Type 0
  Went n m k = (more : List (List Check)) → first_from n (flat_map f xs ++ more) ≡ first_from m (flat_map f (drop k xs) ++ more)

  pub went_none : (n : ℕ) → Went n n 0
  went_none n = λ more. refl

  left_list : (k : ℕ) (d : A) → k < length xs → flat_map f (drop k xs) ≡ f (get_or xs k d) ++ flat_map f (drop (k + 1) xs)
  left_list k d lt = rw (drop-cons xs k d lt, add-one) refl

  pub went_more : (n m l k : ℕ) (d x : A) → k < length xs → x ≡ get_or xs k d → Went n m k → Judges (f x) m (Ok l) → Went n l (k + 1)
  went_more n m l k d x lt is went judged = λ more.
      went more ∙ ap (λ (ls : List (List Check)). first_from m (ls ++ more)) (left_list k d lt ∙ ap (λ (y : A). f y ++ flat_map f (drop (k + 1) xs)) (sym is))
      ∙ ap (first_from m) (append_assoc (f x) (flat_map f (drop (k + 1) xs)) more) ∙ judged (flat_map f (drop (k + 1) xs) ++ more)

  went_err : (n m k : ℕ) (d x : A) (e : BundleError) → k < length xs → x ≡ get_or xs k d → Went n m k → Judges (f x) m (Err e) → Judges (flat_map f xs) n (Err e)
  went_err n m k d x (System l kind) lt is went judged = λ more.
      went more ∙ ap (λ (ls : List (List Check)). first_from m (ls ++ more)) (left_list k d lt ∙ ap (λ (y : A). f y ++ flat_map f (drop (k + 1) xs)) (sym is))
      ∙ ap (first_from m) (append_assoc (f x) (flat_map f (drop (k + 1) xs)) more) ∙ judged (flat_map f (drop (k + 1) xs) ++ more)
  went_err n m k d x (Evidence g) lt is went judged = judged
  went_err n m k d x (Memory e) lt is went judged = tt

  pub went_stop : (n m k : ℕ) (d x : A) (e : BundleError) (r : Result ℕ BundleError) → k < length xs → x ≡ get_or xs k d → Went n m k → Judges (f x) m (Err e) → IsErrAnd r (λ z. z ≡ e) → Judges (flat_map f xs) n r
  went_stop n m k d x e r lt is went judged same = same_error (Judges (flat_map f xs) n) e r (went_err n m k d x e lt is went judged) same

  pub went_all : (n m k : ℕ) → length xs ≤ k → Went n m k → Judges (flat_map f xs) n (Ok m)
  went_all n m k le went = λ more. went more ∙ ap (λ (ys : List A). first_from m (flat_map f ys ++ more)) (drop_all k xs le)

-- what is wrong with a count
pub counted : (limit n m : ℕ) (o : Option BundleKind) → m ≡ n → o ≡ first_of (count_checks limit m) → first_of (count_checks limit n) ≡ o
counted limit n m o e h = sym (h ∙ ap (λ (k : ℕ). first_of (count_checks limit k)) e)

-- what is wrong in a cube is seen on its rows and literals
pub cube_same : (shape : ShapeParts) (c : Problem) (rows : List RelId) (literals : List Literal) (o : Option BundleKind) → rows ≡ c.rows → literals ≡ c.literals
    → o ≡ first_of (cube_checks shape (record { rows = rows; params = []; literals = literals })) → first_of (cube_checks shape c) ≡ o
cube_same shape c rows literals o a b h =
    let fault : List RelId → List Literal → Option BundleKind = λ rs ls. first_of (cube_checks shape (record { rows = rs; params = []; literals = ls })) in
    sym (h ∙ ap (λ (rs : List RelId). fault rs literals) a ∙ ap (fault c.rows) b)

-- Lines without a fault.

abbrev pub AllPass : List (List Check) → Type 0
AllPass ls = AllByRecursion (λ (c : List Check). first_of c ≡ None) ls

passes_first : (n : ℕ) (o : Option BundleKind) (later : Option (ℕ × BundleKind)) → first_or_later n o later ≡ None → (o ≡ None) × (later ≡ None)
passes_first n (Some k) later h = absurd cc
passes_first n None later h = (refl, h)

pub none_fails : (n : ℕ) (ls : List (List Check)) → first_from n ls ≡ None → AllPass ls
none_fails n [] h = tt
none_fails n (c ∷ ls) h = let p = passes_first n (first_of c) (first_from (suc n) ls) h in (p.0, none_fails (suc n) ls p.1)

pub none_first : (n : ℕ) (ls : List (List Check)) → AllPass ls → first_from n ls ≡ None
none_first n [] h = refl
none_first n (c ∷ ls) h = passes-line n c ls h.0 ∙ none_first (suc n) ls h.1

pub passes_both : (a b : List (List Check)) → AllPass (a ++ b) → AllPass a × AllPass b
passes_both [] b h = (tt, h)
passes_both (c ∷ a) b h = let p = passes_both a b h.1 in ((h.0, p.0), p.1)

pub both_pass : (a b : List (List Check)) → AllPass a → AllPass b → AllPass (a ++ b)
both_pass [] b h g = g
both_pass (c ∷ a) b h g = (h.0, both_pass a b h.1 g)

module _ {A : Type 0} (f : ℕ → A → List Check) where
  each_passes_from : (xs : List A) (n k : ℕ) (x : A) → AllPass (map (λ (p : ℕ × A). f p.0 p.1) (enumerate_from n xs)) → slice_get xs k ≡ Some x → first_of (f (n + k) x) ≡ None
  each_passes_from [] n k x h at = absurd cc
  each_passes_from (y ∷ xs) n zero x h at =
      let same : y ≡ x = cc in
      let e : n ≡ n + 0 = omega arith in
      subst (λ (m : ℕ). first_of (f m x) ≡ None) e (subst (λ (z : A). first_of (f n z) ≡ None) same h.0)
  each_passes_from (y ∷ xs) n (suc k) x h at =
      let same : n + 1 + k ≡ n + suc k = omega arith in subst (λ (m : ℕ). first_of (f m x) ≡ None) same (each_passes_from xs (n + 1) k x h.1 at)

  pub each_passes : (xs : List A) → AllPass (each f xs) → (k : ℕ) (x : A) → slice_get xs k ≡ Some x → first_of (f k x) ≡ None
  each_passes xs h k x at = let same : 0 + k ≡ k = omega arith in subst (λ (m : ℕ). first_of (f m x) ≡ None) same (each_passes_from xs 0 k x h at)

  all_pass_from : (xs : List A) (n : ℕ) → ((k : ℕ) (x : A) → slice_get xs k ≡ Some x → first_of (f (n + k) x) ≡ None) → AllPass (map (λ (p : ℕ × A). f p.0 p.1) (enumerate_from n xs))
  all_pass_from [] n h = tt
  all_pass_from (x ∷ xs) n h =
      let e : n + 0 ≡ n = omega arith in (
        subst (λ (m : ℕ). first_of (f m x) ≡ None) e (h 0 x refl),
        all_pass_from xs (n + 1) (λ k y at. let same : n + suc k ≡ n + 1 + k = omega arith in subst (λ (m : ℕ). first_of (f m y) ≡ None) same (h (suc k) y at)),
      )

  pub all_pass : (xs : List A) → ((k : ℕ) (x : A) → slice_get xs k ≡ Some x → first_of (f k x) ≡ None) → AllPass (each f xs)
  all_pass xs h = all_pass_from xs 0 (λ k x at. let same : k ≡ 0 + k = omega arith in subst (λ (m : ℕ). first_of (f m x) ≡ None) same (h k x at))

module _ {A : Type 0} (f : A → List (List Check)) where
  pub lists_pass : (xs : List A) → AllPass (flat_map f xs) → (k : ℕ) (x : A) → slice_get xs k ≡ Some x → AllPass (f x)
  lists_pass [] h k x at = absurd cc
  lists_pass (y ∷ xs) h zero x at = let same : y ≡ x = cc in subst (λ (z : A). AllPass (f z)) same (passes_both (f y) (flat_map f xs) h).0
  lists_pass (y ∷ xs) h (suc k) x at = lists_pass xs (passes_both (f y) (flat_map f xs) h).1 k x at

  pub pass_lists : (xs : List A) → ((k : ℕ) (x : A) → slice_get xs k ≡ Some x → AllPass (f x)) → AllPass (flat_map f xs)
  pass_lists [] h = tt
  pass_lists (x ∷ xs) h = both_pass (f x) (flat_map f xs) (h 0 x refl) (pass_lists xs (λ k y at. h (suc k) y at))

-- the checks of one line
check_passes : (c : Check) (later : List Check) → first_of (c ∷ later) ≡ None → (c.fails ≡ false) × (first_of later ≡ None)
check_passes c later h = go c.fails refl h
  where
    go : (b : Bool) → c.fails ≡ b → cond b (Some c.kind) (first_of later) ≡ None → (c.fails ≡ false) × (first_of later ≡ None)
    go true e k = absurd cc
    go false e k = (e, k)

pub checks_pass : (cs : List Check) → first_of cs ≡ None → AllByRecursion (λ (c : Check). c.fails ≡ false) cs
checks_pass [] h = tt
checks_pass (c ∷ cs) h = let p = check_passes c cs h in (p.0, checks_pass cs p.1)

pub pass_checks : (cs : List Check) → AllByRecursion (λ (c : Check). c.fails ≡ false) cs → first_of cs ≡ None
pass_checks [] h = refl
pass_checks (c ∷ cs) h = rw h.0 (pass_checks cs h.1)
