-- The case that an unnamed row takes is the first whose condition holds.
use Rattle.std.proofs.Common.{◌≡◌, ℕ, Bool, true, false, not, ◌&&◌, List, [], ◌∷◌, ◌++◌, map, refl, sym, ◌∙◌, ap, subst, cond, inl, inr, ⊎_elim, Some, None, find, filter, append_assoc}
use Rattle.std.specs.List.{AllByRecursion, list_all}
use Rattle.std.proofs.lemmas.Bool.{and_parts, and_from}
use Rattle.ras_logic.specs.declared.literal.Literal.{Literal}
use Rattle.ras_logic.specs.Formulas.{negated}
use Rattle.ras_system.specs.declared.bulk.Bulk.{Bulk}
use Rattle.ras_system.specs.Preimages.{CaseChoice, refusals, case_choices_from}
use Rattle.ras_backwards.proofs.Lists.{In, all-append, all-parts, map_in, in_map, flat_map_in, in_flat_map, append_in, in_append_left, in_append_right}

all_hold : {A : Type 0} (H : A → Bool) (xs : List A) → list_all H xs ≡ true → AllByRecursion (λ x. H x ≡ true) xs
all_hold H [] h = tt
all_hold H (x ∷ xs) h = let b = and_parts (H x) (list_all H xs) h in (b.0, all_hold H xs b.1)

hold_all : {A : Type 0} (H : A → Bool) (xs : List A) → AllByRecursion (λ x. H x ≡ true) xs → list_all H xs ≡ true
hold_all H [] h = refl
hold_all H (x ∷ xs) h = and_from (H x) (list_all H xs) h.0 (hold_all H xs h.1)

one_fails : {A : Type 0} (H : A → Bool) (x : A) (xs : List A) → In x xs → H x ≡ false → list_all H xs ≡ false
one_fails H x [] h f = absurd h
one_fails H x (y ∷ xs) h f = ⊎_elim (λ e. here (H y) (ap H e ∙ f)) (λ r. later (H y) (one_fails H x xs r f)) h
  where
    here : (b : Bool) → b ≡ false → (b && list_all H xs) ≡ false
    here b e = rw e

    later : (b : Bool) → list_all H xs ≡ false → (b && list_all H xs) ≡ false
    later true e = e
    later false e = refl

which_fails : {A : Type 0} (H : A → Bool) (xs : List A) → list_all H xs ≡ false → (x : A) × In x xs × (H x ≡ false)
which_fails H [] h = absurd (cc)
which_fails {A} H (x ∷ xs) h = go (H x) refl h (which_fails H xs)
  where
    go : (b : Bool) → H x ≡ b → (b && list_all H xs) ≡ false → (list_all H xs ≡ false → (y : A) × In y xs × (H y ≡ false)) → (y : A) × In y (x ∷ xs) × (H y ≡ false)
    go true e k later = let r = later k in (r.0, inr r.1, r.2)
    go false e k later = (x, inl refl, e)

find_past : {A : Type 0} (p : A → Bool) (xs ys : List A) → AllByRecursion (λ x. p x ≡ false) xs → find p (xs ++ ys) ≡ find p ys
find_past p [] ys h = refl
find_past p (x ∷ xs) ys h = rw h.0 (find_past p xs ys h.1)

-- the elements that pass one test, searched by another
pub find_both : {A : Type 0} (p q : A → Bool) (xs : List A) → find (λ x. p x && q x) xs ≡ find q (filter p xs)
find_both p q [] = refl
find_both p q (x ∷ xs) = go (p x) (q x) (find_both p q xs)
  where
    go : (b c : Bool) → find (λ y. p y && q y) xs ≡ find q (filter p xs)
        → cond (b && q x) (Some x) (find (λ y. p y && q y) xs) ≡ find q (cond b (x ∷ filter p xs) (filter p xs))
    go true c e = ap (cond (q x) (Some x)) e
    go false c e = e

module _ (H : Literal → Bool) where
  -- each literal is true
  abbrev pub AllTrue : List Literal → Type 0
  AllTrue literals = AllByRecursion (λ l. H l ≡ true) literals

  abbrev pub passes : Bulk → Bool
  passes b = list_all H b.condition

  abbrev AllFail : List Bulk → Type 0
  AllFail bs = AllByRecursion (λ b. passes b ≡ false) bs

  module _ (opposite : (l : Literal) → H (negated l) ≡ not (H l)) where
    fails : (l : Literal) → H (negated l) ≡ true → H l ≡ false
    fails l h = go (H l) (sym (opposite l) ∙ h)
      where
        go : (b : Bool) → not b ≡ true → b ≡ false
        go true e = absurd (cc)
        go false e = refl

    refused-fail : (bs : List Bulk) (ls : List Literal) → In ls (refusals bs) → AllTrue ls → AllFail bs
    refused-fail [] ls i h = tt
    refused-fail (b ∷ bs) ls i h =
        let m = flat_map_in (λ (l : Literal). map (λ (r : List Literal). negated l ∷ r) (refusals bs)) ls b.condition i in
        let n = map_in (λ (r : List Literal). negated m.0 ∷ r) ls (refusals bs) m.2 in
        let t : AllTrue (negated m.0 ∷ n.0) = subst AllTrue (sym n.2) h in
        (one_fails H m.0 b.condition m.1 (fails m.0 t.0), refused-fail bs n.0 n.1 t.1)

    fail-refused : (bs : List Bulk) → AllFail bs → (ls : List Literal) × In ls (refusals bs) × AllTrue ls
    fail-refused [] h = ([], inl refl, tt)
    fail-refused (b ∷ bs) h =
        let m = which_fails H b.condition h.0 in
        let r = fail-refused bs h.1 in (
          negated m.0 ∷ r.0,
          in_flat_map (λ (l : Literal). map (λ (x : List Literal). negated l ∷ x) (refusals bs)) m.0 (negated m.0 ∷ r.0) b.condition m.1
              (in_map (λ (x : List Literal). negated m.0 ∷ x) r.0 (refusals bs) r.1),
          (opposite m.0 ∙ ap not m.2, r.2),
        )

    -- where its literals hold, a choice takes the first case whose condition holds, or none
    pub taken-first : (n : ℕ) (before later : List Bulk) (w : CaseChoice) → In w (case_choices_from n before later) → AllTrue w.literals
        → find passes (before ++ later) ≡ w.takes
    taken-first n before [] w i h =
        let m = map_in (λ (ls : List Literal). record { number = n; takes = None; literals = ls }) w (refusals before) i in
        let f = refused-fail before m.0 m.1 (subst AllTrue (sym (ap (λ (x : CaseChoice). x.literals) m.2)) h) in
        find_past passes before [] f ∙ ap (λ (x : CaseChoice). x.takes) m.2
    taken-first n before (b ∷ later) w i h = ⊎_elim here (λ j. ap (find passes) (sym (append_assoc before (b ∷ []) later)) ∙ taken-first n (before ++ b ∷ []) later w j h)
        (append_in w (map (λ (ls : List Literal). record { number = n; takes = Some b; literals = ls ++ b.condition }) (refusals before)) (case_choices_from n (before ++ b ∷ []) later) i)
      where
        here : In w (map (λ (ls : List Literal). record { number = n; takes = Some b; literals = ls ++ b.condition }) (refusals before)) → find passes (before ++ b ∷ later) ≡ w.takes
        here j =
            let m = map_in (λ (ls : List Literal). record { number = n; takes = Some b; literals = ls ++ b.condition }) w (refusals before) j in
            let t = all-parts (λ l. H l ≡ true) m.0 b.condition (subst AllTrue (sym (ap (λ (x : CaseChoice). x.literals) m.2)) h) in
            let yes_b : passes b ≡ true = hold_all H b.condition t.1 in
            find_past passes before (b ∷ later) (refused-fail before m.0 m.1 t.0) ∙ ap (λ c. cond c (Some b) (find passes later)) yes_b ∙ ap (λ (x : CaseChoice). x.takes) m.2

    pub record IsChoice (n : ℕ) (before later : List Bulk) : Type 0 where
      pub way : CaseChoice
      pub listed : In way (case_choices_from n before later)
      pub hold : AllTrue way.literals
      pub taken : find passes (before ++ later) ≡ way.takes

    -- and there is a choice whose literals hold
    pub first-taken : (n : ℕ) (before later : List Bulk) → AllFail before → IsChoice n before later
    first-taken n before [] f =
        let r = fail-refused before f in
        record {
          way = record { number = n; takes = None; literals = r.0 };
          listed = in_map (λ (ls : List Literal). record { number = n; takes = None; literals = ls }) r.0 (refusals before) r.1;
          hold = r.2;
          taken = find_past passes before [] f;
        }
    first-taken n before (b ∷ later) f = go (passes b) refl (λ e. first-taken n (before ++ b ∷ []) later (all-append (λ x. passes x ≡ false) before (b ∷ []) f (e, tt)))
      where
        go : (c : Bool) → passes b ≡ c → (passes b ≡ false → IsChoice n (before ++ b ∷ []) later) → IsChoice n before (b ∷ later)
        go true e k =
            let r = fail-refused before f in
            let make : List Literal → CaseChoice = λ ls. record { number = n; takes = Some b; literals = ls ++ b.condition } in
            record {
              way = make r.0;
              listed = in_append_left (make r.0) (map make (refusals before)) (case_choices_from n (before ++ b ∷ []) later) (in_map make r.0 (refusals before) r.1);
              hold = all-append (λ l. H l ≡ true) r.0 b.condition r.2 (all_hold H b.condition e);
              taken = find_past passes before (b ∷ later) f ∙ ap (λ x. cond x (Some b) (find passes later)) e;
            }
        go false e k =
            let r = k e in
            let make : List Literal → CaseChoice = λ ls. record { number = n; takes = Some b; literals = ls ++ b.condition } in
            record {
              way = r.way;
              listed = in_append_right r.way (map make (refusals before)) (case_choices_from n (before ++ b ∷ []) later) r.listed;
              hold = r.hold;
              taken = ap (find passes) (sym (append_assoc before (b ∷ []) later)) ∙ r.taken;
            }

pub choice-number : (n : ℕ) (before later : List Bulk) (w : CaseChoice) → In w (case_choices_from n before later) → w.number ≡ n
choice-number n before [] w i = let m = map_in (λ (ls : List Literal). record { number = n; takes = None; literals = ls }) w (refusals before) i in sym (ap (λ (x : CaseChoice). x.number) m.2)
choice-number n before (b ∷ later) w i =
    ⊎_elim (λ j. let m = map_in (λ (ls : List Literal). record { number = n; takes = Some b; literals = ls ++ b.condition }) w (refusals before) j in sym (ap (λ (x : CaseChoice). x.number) m.2))
    (choice-number n (before ++ b ∷ []) later w)
    (append_in w (map (λ (ls : List Literal). record { number = n; takes = Some b; literals = ls ++ b.condition }) (refusals before)) (case_choices_from n (before ++ b ∷ []) later) i)

-- a case that is taken is one of the cases
pub choice-case : (n : ℕ) (before later : List Bulk) (w : CaseChoice) → In w (case_choices_from n before later) → (c : Bulk) → w.takes ≡ Some c → In c later
choice-case n before [] w i c e =
    let m = map_in (λ (ls : List Literal). record { number = n; takes = None; literals = ls }) w (refusals before) i in
    let none : None ≡ w.takes = ap (λ (x : CaseChoice). x.takes) m.2 in absurd (cc)
choice-case n before (b ∷ later) w i c e =
    ⊎_elim
    (λ j. let m = map_in (λ (ls : List Literal). record { number = n; takes = Some b; literals = ls ++ b.condition }) w (refusals before) j in
    let is : Some b ≡ w.takes = ap (λ (x : CaseChoice). x.takes) m.2 in inl (cc))
    (λ j. inr (choice-case n (before ++ b ∷ []) later w j c e))
    (append_in w (map (λ (ls : List Literal). record { number = n; takes = Some b; literals = ls ++ b.condition }) (refusals before)) (case_choices_from n (before ++ b ∷ []) later) i)

-- what holds of each literal of the conditions, and of their negations, holds of each literal of a choice
module _ (Fit : Literal → Type 0) (negated_fits : (l : Literal) → Fit l → Fit (negated l)) where
  in_fit : (ls : List Literal) → AllByRecursion Fit ls → (l : Literal) → In l ls → Fit l
  in_fit [] h l i = absurd i
  in_fit (k ∷ ls) h l i = ⊎_elim (λ e. subst Fit e h.0) (λ r. in_fit ls h.1 l r) i

  refused-fit : (bs : List Bulk) → AllByRecursion (λ (b : Bulk). AllByRecursion Fit b.condition) bs → (ls : List Literal) → In ls (refusals bs) → AllByRecursion Fit ls
  refused-fit [] h ls i = ⊎_elim (λ e. subst (AllByRecursion Fit) e tt) (λ r. absurd r) i
  refused-fit (b ∷ bs) h ls i =
      let m = flat_map_in (λ (l : Literal). map (λ (r : List Literal). negated l ∷ r) (refusals bs)) ls b.condition i in
      let n = map_in (λ (r : List Literal). negated m.0 ∷ r) ls (refusals bs) m.2 in
      subst (AllByRecursion Fit) n.2 (negated_fits m.0 (in_fit b.condition h.0 m.0 m.1), refused-fit bs h.1 n.0 n.1)

  pub choice-fit : (n : ℕ) (before later : List Bulk) → AllByRecursion (λ (b : Bulk). AllByRecursion Fit b.condition) before
      → AllByRecursion (λ (b : Bulk). AllByRecursion Fit b.condition) later → (w : CaseChoice) → In w (case_choices_from n before later) → AllByRecursion Fit w.literals
  choice-fit n before [] fb fl w i =
      let m = map_in (λ (ls : List Literal). record { number = n; takes = None; literals = ls }) w (refusals before) i in
      subst (λ (x : CaseChoice). AllByRecursion Fit x.literals) m.2 (refused-fit before fb m.0 m.1)
  choice-fit n before (b ∷ later) fb fl w i =
      ⊎_elim
      (λ j. let m = map_in (λ (ls : List Literal). record { number = n; takes = Some b; literals = ls ++ b.condition }) w (refusals before) j in
      subst (λ (x : CaseChoice). AllByRecursion Fit x.literals) m.2 (all-append Fit m.0 b.condition (refused-fit before fb m.0 m.1) fl.0))
      (λ j. choice-fit n (before ++ b ∷ []) later (all-append (λ (x : Bulk). AllByRecursion Fit x.condition) before (b ∷ []) fb (fl.0, tt)) fl.1 w j)
      (append_in w (map (λ (ls : List Literal). record { number = n; takes = Some b; literals = ls ++ b.condition }) (refusals before)) (case_choices_from n (before ++ b ∷ []) later) i)
