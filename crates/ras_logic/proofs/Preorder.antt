-- One node of a list of trees in preorder.
use Rattle.std.proofs.Common.{◌≡◌, ℕ, suc, ◌+◌, ◌-◌, ◌<◌, List, ◌∷◌, length, get_or, drop, sym, ◌∙◌, ap, subst, arith}
use Rattle.std.proofs.lemmas.List.{drop_more}
use Rattle.ras_logic.specs.declared.tree.Node.{Node}
use Rattle.ras_logic.specs.Trees.{children_of, AreTrees}

-- the node that is read, and those after it
pub node-first : (nodes items : List Node) (k : ℕ) (node : Node) → items ≡ nodes → k < length items → node ≡ get_or items k node → drop k nodes ≡ node ∷ drop (k + 1) nodes
node-first nodes items k node e lt is =
    let within : k < length nodes = omega (arith, lt, ap length e) in
    drop_more nodes k node within ∙ ap (λ (x : Node). x ∷ drop (k + 1) nodes) (sym (is ∙ ap (λ (ns : List Node). get_or ns k node) e))

-- one node of the trees that are pending
pub trees-next : (nodes rest : List Node) (node : Node) (pending below next : ℕ) → 0 < pending → below ≡ children_of node → next ≡ pending - 1 + below → nodes ≡ node ∷ rest
    → (AreTrees next rest → AreTrees pending nodes) × (AreTrees pending nodes → AreTrees next rest)
trees-next nodes rest node pending below next some down e is =
    let first : pending ≡ suc (pending - 1) = omega arith in
    let many : children_of node + (pending - 1) ≡ next = omega (arith, down, e) in (
      λ h. subst (AreTrees pending) (sym is) (subst (λ (n : ℕ). AreTrees n (node ∷ rest)) (sym first) (subst (λ (n : ℕ). AreTrees n rest) (sym many) h)),
      λ h. subst (λ (n : ℕ). AreTrees n rest) many (subst (λ (n : ℕ). AreTrees n (node ∷ rest)) first (subst (AreTrees pending) is h)),
    )
