-- Trees at the front of bytes are read exactly.
use Rattle.std.proofs.Common.{◌≡◌, ℕ, zero, suc, ◌+◌, ◌-◌, ◌<◌, ◌≤◌, List, [], ◌∷◌, ◌++◌, length, map, refl, sym, ap, subst, ◌∙◌, arith, append_assoc, append-nil, length-append}
use Rattle.std.specs.Prelude.{Ok, Err, codes}
use Rattle.std.specs.List.{flat_map, AllByRecursion}
use Rattle.std.specs.Fmt.{decimal}
use Rattle.std.proofs.lemmas.Grind.{flat_map-append}
use Rattle.ras_logic.specs.declared.tree.Node.{Node}
use Rattle.ras_logic.specs.declared.tree.Node.TheVariants.{Leaf, Split}
use Rattle.ras_logic.specs.declared.tree.Tree.{Tree}
use Rattle.ras_logic.specs.Trees.{children_of, AreTrees}
use Rattle.ras_lines.specs.Lines.{spaced, counted, AreWritten}
use Rattle.ras_lines.specs.Trees.{node_words, tree_line, IsWrittenNumber, IsWrittenNode, IsWrittenTree}
use Rattle.ras_lines.specs.Fronts.{Front, follow, prepend, IsExact}
use Rattle.ras_lines.specs.Numbers.{behind, fixed, number, behind_blank, announced}
use Rattle.ras_lines.specs.Nodes as first
use Rattle.ras_lines.proofs.Behind.{behind_sound}
use Rattle.ras_lines.proofs.Loops.{prepend-nil, prepend_push, prepend_done}
use Rattle.ras_lines.proofs.Exact.{followed, moved, either_case, joined, prepended, fixed_sound, EndsWord, number_exact, blank_word, blank_exact, may_follow, announced_text, announced_exact}
use Rattle.ras_lines.proofs.FormulaLaws.{spaced-counted}

-- The words of a node, the first without its blank.

abbrev split_text : ℕ → List ℕ → ℕ → List ℕ
split_text formula rows children = blank_word decimal formula ++ (announced_text decimal rows ++ blank_word decimal children)

abbrev node_text : Node → List ℕ
node_text Leaf = codes "leaf"
node_text (Split formula rows children) = codes "split" ++ split_text formula rows children

node_spaced : (x : Node) → spaced (node_words x) ≡ blank_word node_text x
node_spaced Leaf = refl
node_spaced (Split formula rows children) =
    let tail : spaced (counted (map decimal rows) ++ decimal children ∷ []) ≡ announced_text decimal rows ++ blank_word decimal children =
    flat_map-append (λ (w : List ℕ). 32 ∷ w) (counted (map decimal rows)) (decimal children ∷ [])
    ∙ ap (λ (w : List ℕ). w ++ spaced (decimal children ∷ [])) (spaced-counted decimal rows)
    ∙ ap (λ (w : List ℕ). announced_text decimal rows ++ w) (append-nil (blank_word decimal children)) in
    ap (λ (w : List ℕ). (32 ∷ codes "split") ++ (blank_word decimal formula ++ w)) tail

-- Nodes.

abbrev next_number : List ℕ → Front ℕ ℕ
next_number bytes = behind_blank number bytes

next_exact : IsExact EndsWord (blank_word decimal) IsWrittenNumber next_number
next_exact = blank_exact decimal IsWrittenNumber number number_exact

rows_exact : IsExact EndsWord (announced_text decimal) (AreWritten IsWrittenNumber) (announced number)
rows_exact = announced_exact decimal IsWrittenNumber number number_exact

abbrev behind_rows : ℕ → List ℕ → List ℕ → Front ℕ Node
behind_rows formula rows more = follow (next_number more) (λ children r. Ok (Split formula rows children, r))

abbrev behind_formula : ℕ → List ℕ → Front ℕ Node
behind_formula formula more = follow (announced number more) (λ rows r. behind_rows formula rows r)

abbrev NodeIs : List ℕ → Node → List ℕ → Type 0
NodeIs bytes x rest = (bytes ≡ node_text x ++ rest) × IsWrittenNode x

split_sound : (bytes more : List ℕ) (x : Node) (rest : List ℕ) → bytes ≡ codes "split" ++ more → first.split more ≡ Ok (x, rest) → NodeIs bytes x rest
split_sound bytes more x rest parts e =
    let s = followed (next_number more) behind_formula x rest e in
    let t = followed (announced number s.1) (behind_rows s.0) x rest s.3 in
    let u = followed (next_number t.1) (λ children r. let o : Front ℕ Node = Ok (Split s.0 t.0 children, r) in o) x rest t.3 in
    let formula = next_exact.sound more s.0 s.1 s.2 in
    let rows = rows_exact.sound s.1 t.0 t.1 t.2 in
    let children = next_exact.sound t.1 u.0 u.1 u.2 in
    moved node_text IsWrittenNode bytes (Split s.0 t.0 u.0) x u.1 rest u.3
    (joined (codes "split") (split_text s.0 t.0 u.0) bytes more u.1 parts
    (joined (blank_word decimal s.0) (announced_text decimal t.0 ++ blank_word decimal u.0) more s.1 u.1 formula.0
    (joined (announced_text decimal t.0) (blank_word decimal u.0) s.1 t.1 u.1 rows.0 children.0)))
    (formula.1, rows.1, children.1)

node_sound : (bytes : List ℕ) (x : Node) (rest : List ℕ) → first.node bytes ≡ Ok (x, rest) → NodeIs bytes x rest
node_sound bytes x rest =
    let P : Front ℕ Node → Type 0 = λ o. o ≡ Ok (x, rest) → NodeIs bytes x rest in
    either_case (behind (codes "leaf") bytes) _ _ P
    (λ r is e. moved node_text IsWrittenNode bytes Leaf x r rest e (behind_sound (codes "leaf") bytes r is) tt)
    (either_case (behind (codes "split") bytes) first.split _ P (λ more is e. split_sound bytes more x rest (behind_sound (codes "split") bytes more is) e) (λ e. absurd cc))

node_again : (x : Node) (rest : List ℕ) → IsWrittenNode x → EndsWord rest → first.node (node_text x ++ rest) ≡ Ok (x, rest)
node_again Leaf rest small ends = refl
node_again (Split formula rows children) rest small ends =
    let C : List ℕ = blank_word decimal children in
    let R : List ℕ = announced_text decimal rows in
    let text : split_text formula rows children ++ rest ≡ blank_word decimal formula ++ (R ++ (C ++ rest)) =
    append_assoc (blank_word decimal formula) (R ++ C) rest ∙ ap (λ (w : List ℕ). blank_word decimal formula ++ w) (append_assoc R C rest) in
    ap first.split text
    ∙ ap (λ (o : Front ℕ ℕ). follow o behind_formula) (next_exact.again formula (R ++ (C ++ rest)) small.0 refl)
    ∙ ap (λ (o : Front ℕ (List ℕ)). follow o (behind_rows formula)) (rows_exact.again rows (C ++ rest) small.1 refl)
    ∙ ap (λ (o : Front ℕ ℕ). follow o (λ children r. let o : Front ℕ Node = Ok (Split formula rows children, r) in o)) (next_exact.again children rest small.2 ends)

node_exact : IsExact EndsWord node_text IsWrittenNode first.node
node_exact = record { sound = node_sound; again = node_again }

-- a node behind a blank
abbrev next_node : List ℕ → Front ℕ Node
next_node bytes = behind_blank first.node bytes

blank_node_exact : IsExact EndsWord (blank_word node_text) IsWrittenNode next_node
blank_node_exact = blank_exact node_text IsWrittenNode first.node node_exact

-- Trees.

pub node_shorter : (bytes : List ℕ) (x : Node) (rest : List ℕ) → next_node bytes ≡ Ok (x, rest) → suc (length rest) ≤ length bytes
node_shorter bytes x rest e = let s = blank_node_exact.sound bytes x rest e in omega (arith, ap length s.0, length-append (blank_word node_text x) rest)

enough_node : (k j trees : ℕ) (o : Front ℕ Node) → ((x : Node) (rest : List ℕ) → o ≡ Ok (x, rest) → first.nodes_up_to k (children_of x + trees) rest ≡ first.nodes_up_to j (children_of x + trees) rest)
    → follow o (λ x rest. prepend (x ∷ []) (first.nodes_up_to k (children_of x + trees) rest)) ≡ follow o (λ x rest. prepend (x ∷ []) (first.nodes_up_to j (children_of x + trees) rest))
enough_node k j trees (Ok p) on = ap (prepend (p.0 ∷ [])) (on p.0 p.1 refl)
enough_node k j trees (Err left) on = refl

nodes_enough : (k j trees : ℕ) (bytes : List ℕ) → length bytes ≤ k → length bytes ≤ j → first.nodes_up_to k trees bytes ≡ first.nodes_up_to j trees bytes
nodes_enough k j zero bytes h i = refl
nodes_enough zero zero (suc trees) bytes h i = refl
nodes_enough zero (suc j) (suc trees) [] h i = refl
nodes_enough zero (suc j) (suc trees) (b ∷ bytes) h i = absurd (omega arith)
nodes_enough (suc k) zero (suc trees) [] h i = refl
nodes_enough (suc k) zero (suc trees) (b ∷ bytes) h i = absurd (omega arith)
nodes_enough (suc k) (suc j) (suc trees) bytes h i =
    enough_node k j trees (next_node bytes)
    (λ x rest e. let lt = node_shorter bytes x rest e in nodes_enough k j (children_of x + trees) rest (omega (arith, lt, h)) (omega (arith, lt, i)))

nodes_first : (trees : ℕ) (bytes : List ℕ) → first.nodes (suc trees) bytes ≡ first.nodes_up_to (suc (length bytes)) (suc trees) bytes
nodes_first trees bytes = nodes_enough (length bytes) (suc (length bytes)) (suc trees) bytes (omega arith) (omega arith)

-- one node, and then the others
nodes_more : (xs : List Node) (trees : ℕ) (bytes rest : List ℕ) (x : Node) → next_node bytes ≡ Ok (x, rest) → prepend xs (first.nodes (suc trees) bytes) ≡ prepend (xs ++ x ∷ []) (first.nodes (children_of x + trees) rest)
nodes_more xs trees bytes rest x e =
    let lt = node_shorter bytes x rest e in
    let one : first.nodes_up_to (suc (length bytes)) (suc trees) bytes ≡ prepend (x ∷ []) (first.nodes_up_to (length bytes) (children_of x + trees) rest) = rw e refl in
    ap (prepend xs) (nodes_first trees bytes ∙ one ∙ ap (prepend (x ∷ [])) (nodes_enough (length bytes) (length rest) (children_of x + trees) rest (omega (arith, lt)) (omega arith)))
    ∙ prepend_push xs x (first.nodes (children_of x + trees) rest)

nodes_err : (trees : ℕ) (bytes left : List ℕ) → next_node bytes ≡ Err left → first.nodes (suc trees) bytes ≡ Err left
nodes_err trees bytes left e = nodes_first trees bytes ∙ rw e refl

blank_is : (bytes mid : List ℕ) (o : Front ℕ Node) → fixed (32 ∷ []) bytes ≡ Ok (tt, mid) → first.node mid ≡ o → next_node bytes ≡ o
blank_is bytes mid o e n = rw e n

pub nodes_next : (xs : List Node) (trees more : ℕ) (bytes mid rest : List ℕ) (x : Node) → 0 < trees → more ≡ trees - 1 + children_of x → fixed (32 ∷ []) bytes ≡ Ok (tt, mid) → first.node mid ≡ Ok (x, rest)
    → prepend xs (first.nodes trees bytes) ≡ prepend (xs ++ x ∷ []) (first.nodes more rest)
nodes_next xs trees more bytes mid rest x lt m e n =
    let k : trees ≡ suc (trees - 1) = omega arith in
    let j : children_of x + (trees - 1) ≡ more = omega arith in
    ap (λ (i : ℕ). prepend xs (first.nodes i bytes)) k ∙ nodes_more xs (trees - 1) bytes rest x (blank_is bytes mid (Ok (x, rest)) e n) ∙ ap (λ (i : ℕ). prepend (xs ++ x ∷ []) (first.nodes i rest)) j

pub nodes_stop : (xs : List Node) (trees : ℕ) (bytes mid left : List ℕ) → 0 < trees → fixed (32 ∷ []) bytes ≡ Ok (tt, mid) → first.node mid ≡ Err left → prepend xs (first.nodes trees bytes) ≡ Err left
nodes_stop xs trees bytes mid left lt e n =
    let k : trees ≡ suc (trees - 1) = omega arith in
    ap (λ (i : ℕ). prepend xs (first.nodes i bytes)) k ∙ ap (prepend xs) (nodes_err (trees - 1) bytes left (blank_is bytes mid (Err left) e n))

pub nodes_no_blank : (xs : List Node) (trees : ℕ) (bytes left : List ℕ) → 0 < trees → fixed (32 ∷ []) bytes ≡ Err left → prepend xs (first.nodes trees bytes) ≡ Err left
nodes_no_blank xs trees bytes left lt e =
    let k : trees ≡ suc (trees - 1) = omega arith in
    let none : next_node bytes ≡ Err left = rw e refl in
    ap (λ (i : ℕ). prepend xs (first.nodes i bytes)) k ∙ ap (prepend xs) (nodes_err (trees - 1) bytes left none)

pub nodes_done : (xs : List Node) (trees : ℕ) (bytes : List ℕ) → trees ≤ 0 → prepend xs (first.nodes trees bytes) ≡ Ok (xs, bytes)
nodes_done xs trees bytes le = let e : trees ≡ 0 = omega arith in ap (λ (i : ℕ). prepend xs (first.nodes i bytes)) e ∙ prepend_done xs bytes

pub nodes_start : (bytes : List ℕ) → first.nodes 1 bytes ≡ prepend [] (first.nodes 1 bytes)
nodes_start bytes = sym (prepend-nil (first.nodes 1 bytes))

pub node_takes : (bytes mid rest : List ℕ) (x : Node) → fixed (32 ∷ []) bytes ≡ Ok (tt, mid) → first.node mid ≡ Ok (x, rest) → length rest < length bytes
node_takes bytes mid rest x e n = let lt = node_shorter bytes x rest (blank_is bytes mid (Ok (x, rest)) e n) in omega (arith, lt)

pub ruleset nodes_laws = (nodes_start, nodes_next, nodes_stop, nodes_no_blank, nodes_done, node_takes)

pub record AreNodes (trees : ℕ) (bytes : List ℕ) (xs : List Node) (rest : List ℕ) : Type 0 where
  pub parts : bytes ≡ flat_map (blank_word node_text) xs ++ rest
  pub whole : AreTrees trees xs
  pub small : AllByRecursion IsWrittenNode xs

none_left : (bytes : List ℕ) (xs : List Node) (rest : List ℕ) → ◌≡◌ {A = Front ℕ (List Node)} (Ok ([], bytes)) (Ok (xs, rest)) → AreNodes 0 bytes xs rest
none_left bytes xs rest e =
    let a : [] ≡ xs = ap (λ (o : Front ℕ (List Node)). elim o [ Ok q ↦ q.0 | Err left ↦ [] ]) e in
    let b : bytes ≡ rest = ap (λ (o : Front ℕ (List Node)). elim o [ Ok q ↦ q.1 | Err left ↦ bytes ]) e in
    subst (λ (ys : List Node). AreNodes 0 bytes ys rest) a (record { parts = b; whole = tt; small = tt })

nodes_sound : (k trees : ℕ) (bytes : List ℕ) (xs : List Node) (rest : List ℕ) → first.nodes_up_to k trees bytes ≡ Ok (xs, rest) → AreNodes trees bytes xs rest
nodes_sound k zero bytes xs rest e = none_left bytes xs rest e
nodes_sound zero (suc trees) bytes xs rest e = absurd cc
nodes_sound (suc k) (suc trees) bytes xs rest e =
    let s = followed (next_node bytes) (λ x more. prepend (x ∷ []) (first.nodes_up_to k (children_of x + trees) more)) xs rest e in
    let p = prepended (s.0 ∷ []) (first.nodes_up_to k (children_of s.0 + trees) s.1) xs rest s.3 in
    let one = blank_node_exact.sound bytes s.0 s.1 s.2 in
    let on = nodes_sound k (children_of s.0 + trees) s.1 p.0 rest p.1 in
    subst (λ (ys : List Node). AreNodes (suc trees) bytes ys rest) (sym p.2)
    (record { parts = joined (blank_word node_text s.0) (flat_map (blank_word node_text) p.0) bytes s.1 rest one.0 on.parts; whole = on.whole; small = (one.1, on.small) })

nodes_again : (k trees : ℕ) (xs : List Node) (rest : List ℕ) → length (flat_map (blank_word node_text) xs ++ rest) ≤ k → AreTrees trees xs → AllByRecursion IsWrittenNode xs → EndsWord rest
    → first.nodes_up_to k trees (flat_map (blank_word node_text) xs ++ rest) ≡ Ok (xs, rest)
nodes_again k zero [] rest le whole small ends = refl
nodes_again k zero (x ∷ xs) rest le whole small ends = absurd whole
nodes_again k (suc trees) [] rest le whole small ends = absurd whole
nodes_again zero (suc trees) (x ∷ xs) rest le whole small ends = absurd (omega (arith, le))
nodes_again (suc k) (suc trees) (x ∷ xs) rest le whole small ends =
    let others : List ℕ = flat_map (blank_word node_text) xs in
    let room : length (others ++ rest) ≤ k = omega (arith, le, length-append (blank_word node_text x ++ others) rest, length-append (blank_word node_text x) others, length-append others rest) in
    ap (λ (l : List ℕ). first.nodes_up_to (suc k) (suc trees) l) (append_assoc (blank_word node_text x) others rest)
    ∙ ap (λ (o : Front ℕ Node). follow o (λ y more. prepend (y ∷ []) (first.nodes_up_to k (children_of y + trees) more)))
    (blank_node_exact.again x (others ++ rest) small.0 (may_follow EndsWord (blank_word node_text) (λ y more. refl) xs rest ends))
    ∙ ap (prepend (x ∷ [])) (nodes_again k (children_of x + trees) xs rest room whole small.1 ends)

nodes_spaced : (xs : List Node) → spaced (flat_map node_words xs) ≡ flat_map (blank_word node_text) xs
nodes_spaced [] = refl
nodes_spaced (x ∷ xs) =
    flat_map-append (λ (w : List ℕ). 32 ∷ w) (node_words x) (flat_map node_words xs)
    ∙ ap (λ (w : List ℕ). w ++ spaced (flat_map node_words xs)) (node_spaced x)
    ∙ ap (λ (w : List ℕ). blank_word node_text x ++ w) (nodes_spaced xs)

abbrev tree_of : List Node → Tree
tree_of ns = record { nodes = ns }

abbrev behind_tree : List ℕ → Front ℕ Tree
behind_tree more = follow (first.nodes 1 more) (λ ns r. Ok (tree_of ns, r))

tree_sound : (bytes : List ℕ) (t : Tree) (rest : List ℕ) → first.tree bytes ≡ Ok (t, rest) → (bytes ≡ tree_line t ++ rest) × IsWrittenTree t
tree_sound bytes t rest e =
    let s = followed (fixed (codes "tree") bytes) (λ _ more. behind_tree more) t rest e in
    let u = followed (first.nodes 1 s.1) (λ ns r. let o : Front ℕ Tree = Ok (tree_of ns, r) in o) t rest s.3 in
    let ns = nodes_sound (length s.1) 1 s.1 u.0 u.1 u.2 in
    let text : s.1 ≡ spaced (flat_map node_words u.0) ++ u.1 = ns.parts ∙ ap (λ (w : List ℕ). w ++ u.1) (sym (nodes_spaced u.0)) in
    moved tree_line IsWrittenTree bytes (tree_of u.0) t u.1 rest u.3 (joined (codes "tree") (spaced (flat_map node_words u.0)) bytes s.1 u.1 (fixed_sound (codes "tree") bytes s.1 s.0 s.2) text)
    (record { whole = ns.whole; small = ns.small })

tree_again : (t : Tree) (rest : List ℕ) → IsWrittenTree t → EndsWord rest → first.tree (tree_line t ++ rest) ≡ Ok (t, rest)
tree_again t rest h ends =
    let others : List ℕ = flat_map (blank_word node_text) t.nodes in
    let text : spaced (flat_map node_words t.nodes) ++ rest ≡ others ++ rest = ap (λ (w : List ℕ). w ++ rest) (nodes_spaced t.nodes) in
    ap behind_tree text
    ∙ ap (λ (o : Front ℕ (List Node)). follow o (λ ns r. let o : Front ℕ Tree = Ok (tree_of ns, r) in o)) (nodes_again (length (others ++ rest)) 1 t.nodes rest (omega arith) h.whole h.small ends)

pub tree_exact : IsExact EndsWord tree_line IsWrittenTree first.tree
tree_exact = record { sound = tree_sound; again = tree_again }
