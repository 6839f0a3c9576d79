-- What is so of all elements of a list is so of those in front.
use Rattle.std.proofs.Common.{List, [], ◌∷◌, ◌++◌, All}
use Rattle.std.proofs.lemmas.List.Elements.{All-nil, All-cons, All-head, All-tail}

module _ {X : Type 0} (P : X → Type 0) where
  all_front : (xs more : List X) → All P (xs ++ more) → All P xs
  all_front [] more all = All-nil P
  all_front (x ∷ xs) more all = All-cons P x xs (All-head P x (xs ++ more) all) (all_front xs more (All-tail P x (xs ++ more) all))

  -- so where it is not of all, it is not of more
  pub not_all_with_more : (xs more : List X) → ¬ All P xs → ¬ All P (xs ++ more)
  not_all_with_more xs more fails all = fails (all_front xs more all)

  pub last_fails : (xs : List X) (x : X) → ¬ P x → ¬ All P (xs ++ x ∷ [])
  last_fails [] x fails all = fails (All-head P x [] all)
  last_fails (y ∷ xs) x fails all = last_fails xs x fails (All-tail P y (xs ++ x ∷ []) all)
