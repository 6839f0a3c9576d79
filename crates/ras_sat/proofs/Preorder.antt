-- Trees in preorder are told apart in one way only.
use Rattle.std.proofs.Common.{◌≡◌, ℕ, zero, suc, ◌+◌, ◌<◌, List, [], ◌∷◌, ◌++◌, length, refl, sym, ◌∙◌, ap, subst, arith, append_assoc}
use Rattle.std.specs.Prelude.{slice_get, Some, All}
use Rattle.std.specs.List.{flat_map}
use Rattle.std.proofs.lemmas.List.Elements.{All-head, All-tail}
use Rattle.ras_logic.specs.declared.ids.RelId.{RelId}
use Rattle.ras_logic.specs.declared.literal.Literal.{Literal}
use Rattle.ras_logic.specs.declared.problem.Problem.{Problem}
use Rattle.ras_logic.specs.declared.tree.Node.{Node}
use Rattle.ras_logic.specs.Schemas.{SchemaParts}
use Rattle.ras_logic.specs.Trees.{children_of, AreTrees}
use Rattle.ras_logic.specs.Refutations.{CloseAll}
use Rattle.ras_logic.proofs.Elements.{from_known}
use Rattle.ras_sat.specs.Needed.{AreChildrenNeeded}

-- as many trees at the front are the same nodes
trees-same : (n : ℕ) (a b x y : List Node) → AreTrees n a → AreTrees n b → a ++ x ≡ b ++ y → (a ≡ b) × (x ≡ y)
trees-same zero [] [] x y h k e = (refl, e)
trees-same zero [] (q ∷ b) x y h k e = absurd k
trees-same zero (p ∷ a) b x y h k e = absurd h
trees-same (suc n) [] b x y h k e = absurd h
trees-same (suc n) (p ∷ a) [] x y h k e = absurd k
trees-same (suc n) (p ∷ a) (q ∷ b) x y h k e =
    let head : p ≡ q = cc in
    let tail : a ++ x ≡ b ++ y = cc in
    let rest = trees-same (children_of p + n) a b x y h (subst (λ (r : Node). AreTrees (children_of r + n) b) (sym head) k) tail in
    (cc (head, rest.0), rest.1)

-- so many trees and some more
record AreParted (m n : ℕ) (nodes : List Node) : Type 0 where
  front : List Node
  back : List Node
  whole : nodes ≡ front ++ back
  first : AreTrees m front
  others : AreTrees n back

parted : (m n : ℕ) (nodes : List Node) → AreTrees (m + n) nodes → AreParted m n nodes
parted zero n nodes h = record { front = []; back = nodes; whole = refl; first = tt; others = subst (λ (k : ℕ). AreTrees k nodes) (omega arith) h }
parted (suc m) n [] h = absurd (subst (λ (k : ℕ). AreTrees k []) (nonzero m n) h)
  where
    nonzero : (i j : ℕ) → suc i + j ≡ suc (i + j)
    nonzero i j = omega arith
parted (suc m) n (node ∷ nodes) h =
    let below : AreTrees (children_of node + (m + n)) nodes = subst (λ (k : ℕ). AreTrees k (node ∷ nodes)) (next m n) h in
    let r = parted (children_of node + m) n nodes (subst (λ (k : ℕ). AreTrees k nodes) (grouped (children_of node) m n) below) in
    record { front = node ∷ r.front; back = r.back; whole = ap (λ (ns : List Node). node ∷ ns) r.whole; first = r.first; others = r.others }
  where
    next : (i j : ℕ) → suc i + j ≡ suc (i + j)
    next i j = omega arith

    grouped : (c i j : ℕ) → c + (i + j) ≡ (c + i) + j
    grouped c i j = omega arith

-- the tree behind the first trees is the one of that number
tree-at : (trees : List (List Node)) (rest : List Node) (k : ℕ) (before tree after : List Node) → All (AreTrees 1) trees → k < length trees → AreTrees k before → AreTrees 1 tree
    → flat_map (λ (t : List Node). t) trees ++ rest ≡ before ++ tree ++ after → slice_get trees k ≡ Some tree
tree-at [] rest k before tree after all lt first one e = absurd (omega arith)
tree-at (t ∷ trees) rest zero [] tree after all lt first one e =
    let same = trees-same 1 t tree (flat_map (λ (u : List Node). u) trees ++ rest) after (All-head (AreTrees 1) t trees all) one (sym (append_assoc t (flat_map (λ (u : List Node). u) trees) rest) ∙ e) in
    ap (λ (u : List Node). Some u) same.0
tree-at (t ∷ trees) rest zero (p ∷ before) tree after all lt first one e = absurd first
tree-at (t ∷ trees) rest (suc k) before tree after all lt first one e =
    let parts = parted 1 k before (subst (λ (n : ℕ). AreTrees n before) (one_more k) first) in
    let grouped : before ++ tree ++ after ≡ parts.front ++ (parts.back ++ tree ++ after) =
    ap (λ (b : List Node). b ++ tree ++ after) parts.whole ∙ ap (λ (b : List Node). b ++ after) (append_assoc parts.front parts.back tree) ∙ append_assoc parts.front (parts.back ++ tree) after in
    let same = trees-same 1 t parts.front (flat_map (λ (u : List Node). u) trees ++ rest) (parts.back ++ tree ++ after) (All-head (AreTrees 1) t trees all) parts.first
    (sym (append_assoc t (flat_map (λ (u : List Node). u) trees) rest) ∙ e ∙ grouped) in
    tree-at trees rest k parts.back tree after (All-tail (AreTrees 1) t trees all) (omega (arith, lt)) parts.others one same.1
  where
    one_more : (i : ℕ) → suc i ≡ 1 + i
    one_more i = omega arith

pub child-needed : (schema : SchemaParts) (formulas : List Problem) (rows : List RelId) (facts : List Literal) (children : ℕ) (nodes : List Node) → AreChildrenNeeded schema formulas rows facts children nodes
    → (before tree after : List Node) (k : ℕ) → k < children → AreTrees k before → AreTrees 1 tree → nodes ≡ before ++ tree ++ after → ¬ CloseAll schema formulas rows (facts ∷ []) tree
child-needed schema formulas rows facts children nodes needed before tree after k lt first one e closes =
    let at = tree-at needed.trees needed.rest k before tree after needed.whole (rw needed.as_many lt) first one (sym needed.first ∙ e) in
    from_known (λ (t : List Node). ¬ CloseAll schema formulas rows (facts ∷ []) t) needed.trees needed.needed k tree at closes
