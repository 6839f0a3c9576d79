-- How the formulas that are named are marked, and the marks read.
use Rattle.std.proofs.Common.{◌≡◌, ℕ, zero, suc, ◌+◌, ◌<◌, Bool, true, false, List, [], ◌∷◌, ◌++◌, length, get_or, set, take, replicate, refl, sym, ◌∙◌, ap, subst, arith, ◌⊎◌, inl, inr, ⊎_elim}
use Rattle.std.specs.Prelude.{slice_get, Some, All, Contains}
use Rattle.std.proofs.lemmas.List.{get_or-replicate, get_or-set_same, get_or-set_other, length-set, length-replicate, take_more, get_or_default}
use Rattle.std.proofs.lemmas.List.Elements.{All-nil, All-push, All-weaker, Contains-push, Contains-append_left}
use Rattle.std.proofs.lemmas.List.Quantifiers.{all_pairs_push}
use Rattle.std.proofs.lemmas.Bool.{cases_eq}
use Rattle.std.proofs.lemmas.Option.{slice_get_read}
use Rattle.ras_logic.specs.declared.tree.Node.{Node}
use Rattle.ras_logic.specs.declared.tree.Node.TheVariants.{Leaf, Split}
use Rattle.ras_reasons.specs.Naming.{Names, NamesBelow, AreNamed}
use Rattle.ras_reasons.specs.Marking.{IsMarking, AreMarked}
use Rattle.ras_reasons.proofs.NamedFormulas.{names-later}

-- what one node more names

names-push : (nodes : List Node) (node : Node) (number : ℕ) (place : ℕ) (rows : List ℕ) (children : ℕ) → slice_get nodes place ≡ Some (Split number rows children)
    → Names (nodes ++ node ∷ []) number
names-push [] node number place rows children at = absurd (cc)
names-push (first ∷ nodes) node number zero rows children at = record { place = 0; rows = rows; children = children; at = at }
names-push (first ∷ nodes) node number (suc place) rows children at = names-later first (nodes ++ node ∷ []) number (names-push nodes node number place rows children at)

names-last : (nodes : List Node) (number : ℕ) (rows : List ℕ) (children : ℕ) → Names (nodes ++ Split number rows children ∷ []) number
names-last [] number rows children = record { place = 0; rows = rows; children = children; at = refl }
names-last (first ∷ nodes) number rows children = names-later first (nodes ++ Split number rows children ∷ []) number (names-last nodes number rows children)

abbrev IsSplitBy : Node → ℕ → Type 0
IsSplitBy node number = (rows : List ℕ) × (children : ℕ) × (node ≡ Split number rows children)

names-either : (nodes : List Node) (node : Node) (number : ℕ) (place : ℕ) (rows : List ℕ) (children : ℕ) → slice_get (nodes ++ node ∷ []) place ≡ Some (Split number rows children)
    → Names nodes number ⊎ IsSplitBy node number
names-either [] node number zero rows children at = inr (rows, children, cc)
names-either [] node number (suc place) rows children at = absurd (cc)
names-either (first ∷ nodes) node number zero rows children at = inl (record { place = 0; rows = rows; children = children; at = at })
names-either (first ∷ nodes) node number (suc place) rows children at =
    ⊎_elim (λ (n : Names nodes number). inl (names-later first nodes number n)) (λ (s : IsSplitBy node number). inr s) (names-either nodes node number place rows children at)

-- the marks

pub marks-start : (count : ℕ) → IsMarking [] count (replicate count false)
marks-start count = record {
  as_many = length-replicate count false;
  exact = λ number lt. (λ h. absurd (let no : get_or (replicate count false) number false ≡ false = get_or-replicate count number false false lt in cc), λ n. absurd (let at = n.at in cc));
}

pub marks-leaf : (nodes : List Node) (count : ℕ) (marks : List Bool) → IsMarking nodes count marks → IsMarking (nodes ++ Leaf ∷ []) count marks
marks-leaf nodes count marks are = record {
  as_many = are.as_many;
  exact = λ number lt. (
    λ h. let n = (are.exact number lt).0 h in names-push nodes Leaf number n.place n.rows n.children n.at,
    λ n. ⊎_elim (λ (before : Names nodes number). (are.exact number lt).1 before) (λ (s : IsSplitBy Leaf number). absurd (let e = s.2 in cc))
        (names-either nodes Leaf number n.place n.rows n.children n.at),
  );
}

module _ (nodes : List Node) (count : ℕ) (marks : List Bool) (are : IsMarking nodes count marks) (formula : ℕ) (rows : List ℕ) (children : ℕ) (lt : formula < count) where
  abbrev pub node : Node
  node = Split formula rows children

  same-mark : (number : ℕ) → number < count → (number ≡ formula) ⊎ (number ≡ formula → ⊥) → (get_or (set marks formula true) number false ≡ true → Names (nodes ++ node ∷ []) number)
      × (Names (nodes ++ node ∷ []) number → get_or (set marks formula true) number false ≡ true)
  same-mark number within (inl same) = (
    λ h. subst (Names (nodes ++ node ∷ [])) (sym same) (names-last nodes formula rows children),
    λ n. subst (λ k. get_or (set marks formula true) k false ≡ true) (sym same) (get_or-set_same marks formula true false (omega (arith, lt, are.as_many))),
  )
  same-mark number within (inr other) =
      let kept : get_or (set marks formula true) number false ≡ get_or marks number false = get_or-set_other marks formula number true false other in (
        λ h. let n = (are.exact number within).0 (sym kept ∙ h) in names-push nodes node number n.place n.rows n.children n.at,
        λ n. kept ∙ ⊎_elim (λ (before : Names nodes number). (are.exact number within).1 before) (λ (s : IsSplitBy node number). absurd (other (let e = s.2 in cc)))
            (names-either nodes node number n.place n.rows n.children n.at),
      )

  pub marks-split : IsMarking (nodes ++ node ∷ []) count (set marks formula true)
  marks-split = record {
    as_many = length-set marks formula true ∙ are.as_many;
    exact = λ number within. same-mark number within (cases_eq number formula);
  }

-- the numbers of the marks that are set

pub marked-none : (marks : List Bool) → AreMarked marks 0 []
marked-none marks = record {
  in_order = λ i j d lt within. absurd (omega (arith, within));
  each = All-nil (λ (k : ℕ). (k < 0) × (get_or marks k false ≡ true));
  every = λ k lt h. absurd (omega (arith, lt));
}

module _ (marks : List Bool) (below : ℕ) (numbers : List ℕ) (are : AreMarked marks below numbers) where
  last_or_before : (k : ℕ) → k < below + 1 → (k < below) ⊎ (k ≡ below)
  last_or_before k lt = grind arith

  still : All (λ (k : ℕ). (k < below + 1) × (get_or marks k false ≡ true)) numbers
  still = All-weaker (λ (k : ℕ). (k < below) × (get_or marks k false ≡ true)) (λ (k : ℕ). (k < below + 1) × (get_or marks k false ≡ true)) (λ k h. (omega (arith, h.0), h.1)) numbers are.each

  pub marked-here : get_or marks below false ≡ true → AreMarked marks (below + 1) (numbers ++ below ∷ [])
  marked-here here = record {
    in_order = all_pairs_push (λ (j k : ℕ). j < k) numbers below are.in_order (λ k d lt. (are.each k d lt).0);
    each = All-push (λ (k : ℕ). (k < below + 1) × (get_or marks k false ≡ true)) numbers below still (omega arith, here);
    every = λ k lt h.
        ⊎_elim (λ (before : k < below). Contains-append_left numbers (below ∷ []) k (are.every k before h))
        (λ (last : k ≡ below). subst (Contains (numbers ++ below ∷ [])) (sym last) (Contains-push numbers below)) (last_or_before k lt);
  }

  pub marked-other : get_or marks below false ≡ false → AreMarked marks (below + 1) numbers
  marked-other unset = record {
    in_order = are.in_order;
    each = still;
    every = λ k lt h.
        ⊎_elim (λ (before : k < below). are.every k before h)
        (λ (last : k ≡ below). absurd (let set : get_or marks below false ≡ true = subst (λ j. get_or marks j false ≡ true) last h in cc)) (last_or_before k lt);
  }

pub marked-named : (nodes : List Node) (count : ℕ) (marks : List Bool) (numbers : List ℕ) → NamesBelow nodes count → IsMarking nodes count marks → AreMarked marks count numbers → AreNamed nodes numbers
marked-named nodes count marks numbers within marking are = record {
  in_order = are.in_order;
  each = All-weaker (λ (k : ℕ). (k < count) × (get_or marks k false ≡ true)) (Names nodes) (λ k h. (marking.exact k h.0).0 h.1) numbers are.each;
  every = λ number n. are.every number (within number n) ((marking.exact number (within number n)).1 n);
}

-- one node more is looked at

names-at : (nodes : List Node) (i : ℕ) (node : Node) → i < length nodes → node ≡ get_or nodes i node → (formula : ℕ) (rows : List ℕ) (children : ℕ) → node ≡ Split formula rows children
    → Names nodes formula
names-at nodes i node lt at formula rows children is =
    record { place = i; rows = rows; children = children; at = slice_get_read nodes (length nodes) i node refl lt at ∙ ap (λ (n : Node). Some n) is }

pub split-below : (nodes : List Node) (count : ℕ) → NamesBelow nodes count → (i : ℕ) (node : Node) → i < length nodes → node ≡ get_or nodes i node
    → (formula : ℕ) (rows : List ℕ) (children : ℕ) → node ≡ Split formula rows children → formula < count
split-below nodes count below i node lt at formula rows children is = below formula (names-at nodes i node lt at formula rows children is)

module _ (nodes : List Node) (count : ℕ) (below : NamesBelow nodes count) (i : ℕ) (node : Node) (lt : i < length nodes) (at : node ≡ get_or nodes i node) (marks : List Bool) (are : IsMarking (take i nodes) count marks) where
  one_more : take (i + 1) nodes ≡ take i nodes ++ node ∷ []
  one_more = take_more nodes i node lt ∙ ap (λ (n : Node). take i nodes ++ n ∷ []) (sym at)

  pub marks-past-leaf : node ≡ Leaf → IsMarking (take (i + 1) nodes) count marks
  marks-past-leaf is =
      subst (λ ns. IsMarking ns count marks) (sym (one_more ∙ ap (λ (n : Node). take i nodes ++ n ∷ []) is)) (marks-leaf (take i nodes) count marks are)

  pub marks-past-split : (formula : ℕ) (rows : List ℕ) (children : ℕ) → node ≡ Split formula rows children → IsMarking (take (i + 1) nodes) count (set marks formula true)
  marks-past-split formula rows children is =
      subst (λ ns. IsMarking ns count (set marks formula true)) (sym (one_more ∙ ap (λ (n : Node). take i nodes ++ n ∷ []) is))
      (marks-split (take i nodes) count marks are formula rows children (split-below nodes count below i node lt at formula rows children is))

-- a mark that was read
pub mark-read : (nodes : List Node) (count : ℕ) (marks : List Bool) → IsMarking nodes count marks → (number : ℕ) (read value : Bool) → number < count → read ≡ get_or marks number read → read ≡ value
    → get_or marks number false ≡ value
mark-read nodes count marks are number read value lt at is = get_or_default marks number false read (omega (arith, lt, are.as_many)) ∙ sym at ∙ is
