-- The tree of a split, from those of its children.
use Rattle.std.proofs.Common.{◌≡◌, ℕ, suc, ◌<◌, List, [], ◌∷◌, ◌++◌, map, length, get_or, refl, sym, ◌∙◌, ap, subst, arith, append_assoc}
use Rattle.std.specs.Prelude.{slice_get, Some, All}
use Rattle.std.specs.List.{flat_map}
use Rattle.std.proofs.lemmas.List.{append-nil, length-map}
use Rattle.std.proofs.lemmas.List.Elements.{All-nil, All-cons, All-append, All-map}
use Rattle.std.proofs.lemmas.Option.{same_Some, slice_get-get_or, slice_get_within, get_or_from_slice_get}
use Rattle.ras_logic.specs.declared.ids.RelId.{RelId}
use Rattle.ras_logic.specs.declared.literal.Literal.{Literal}
use Rattle.ras_logic.specs.declared.problem.Problem.{Problem}
use Rattle.ras_logic.specs.declared.tree.Node.{Node}
use Rattle.ras_logic.specs.declared.tree.Node.TheVariants.{Leaf, Split}
use Rattle.ras_logic.specs.declared.tree.Tree.{Tree}
use Rattle.ras_logic.specs.Schemas.{SchemaParts}
use Rattle.ras_logic.specs.Formulas.{negated, replace}
use Rattle.ras_logic.specs.Trees.{AreTrees, IsWhole}
use Rattle.ras_logic.specs.Refutations.{chosen_row, children_facts, CloseAll, Closes}
use Rattle.ras_sat.specs.declared.instance.Instance.{Instance}
use Rattle.ras_sat.specs.declared.task.Task.{Task}
use Rattle.ras_sat.specs.declared.open_split.OpenSplit.{OpenSplit}
use Rattle.ras_sat.specs.Instances.{IsByInstance}
use Rattle.ras_sat.specs.Needed.{AllNeeded}
use Rattle.ras_sat.specs.Tasks.{IsTask, AreOpposites, opposites_of_literals, opposites_at, schema_of}
use Rattle.ras_sat.specs.Splits.{IsRefutation, AreRefuted, IsEachOpen, IsIdle}
use Rattle.ras_logic.proofs.Elements.{contains-later}
use Rattle.ras_sat.proofs.Wider.{closes-whole, needed-narrower}

module _ (schema : SchemaParts) (formulas : List Problem) (rows : List RelId) where
  closes-append : (xs ys : List Node) (ps qs : List (List Literal)) → CloseAll schema formulas rows ps xs → CloseAll schema formulas rows qs ys → CloseAll schema formulas rows (ps ++ qs) (xs ++ ys)
  closes-append [] ys [] qs h k = k
  closes-append (x ∷ xs) ys [] qs h k = absurd h
  closes-append [] ys (p ∷ ps) qs h k = absurd h
  closes-append (Leaf ∷ xs) ys (p ∷ ps) qs h k = (h.0, closes-append xs ys ps qs h.1 k)
  closes-append (Split formula chosen children ∷ xs) ys (p ∷ ps) qs h k =
      let f : Problem = h.0 in
      (f, h.1, h.2, h.3, subst (λ (rs : List (List Literal)). CloseAll schema formulas rows rs (xs ++ ys)) (append_assoc (children_facts p chosen f.literals) ps qs) (closes-append xs ys (children_facts p chosen f.literals ++ ps) qs h.4 k))

  needed-append : (xs ys : List Node) (ps qs : List (List Literal)) → CloseAll schema formulas rows ps xs → AllNeeded schema formulas rows ps xs → AllNeeded schema formulas rows qs ys → AllNeeded schema formulas rows (ps ++ qs) (xs ++ ys)
  needed-append [] ys [] qs h n k = k
  needed-append (x ∷ xs) ys [] qs h n k = absurd h
  needed-append [] ys (p ∷ ps) qs h n k = absurd h
  needed-append (Leaf ∷ xs) ys (p ∷ ps) qs h n k = needed-append xs ys ps qs h.1 n k
  needed-append (Split formula chosen children ∷ xs) ys (p ∷ ps) qs h n k =
      let f : Problem = n.0 in
      let g : Problem = h.0 in
      let same : g ≡ f = same_Some g f (sym h.1 ∙ n.1) in
      let c = n.2 in
      let closes : CloseAll schema formulas rows (children_facts p chosen f.literals ++ ps) xs =
      subst (λ (q : Problem). CloseAll schema formulas rows (children_facts p chosen q.literals ++ ps) xs) same h.4 in (
        f,
        n.1,
        record {
          trees = c.trees;
          rest = c.rest ++ ys;
          first = ap (λ (ns : List Node). ns ++ ys) c.first ∙ append_assoc (flat_map (λ (tree : List Node). tree) c.trees) c.rest ys;
          as_many = c.as_many;
          whole = c.whole;
          needed = c.needed;
        },
        subst (λ (rs : List (List Literal)). AllNeeded schema formulas rows rs (xs ++ ys)) (append_assoc (children_facts p chosen f.literals) ps qs)
            (needed-append xs ys (children_facts p chosen f.literals ++ ps) qs closes n.3 k),
      )

some_literal : (ls : List Literal) (k : ℕ) → k < length ls → Literal
some_literal [] k lt = absurd (omega arith)
some_literal (x ∷ ls) k lt = x

-- the facts of the children, from the opposites
children-are : (facts : List Literal) (chosen : List ℕ) (literals : List Literal) → map (λ (o : Literal). o ∷ facts) (opposites_of_literals chosen literals) ≡ children_facts facts chosen literals
children-are facts chosen [] = refl
children-are facts chosen (l ∷ literals) = ap (λ (rest : List (List Literal)). (negated (replace (chosen_row chosen) l) ∷ facts) ∷ rest) (children-are facts chosen literals)

module _ (t : Task) (facts : List Literal) where
  -- the tree of that number refutes the child of that number
  abbrev AreEach : List Literal → List Tree → Type 0
  AreEach opposites trees = (k : ℕ) (l : Literal) (tree : Tree) → slice_get opposites k ≡ Some l → slice_get trees k ≡ Some tree → IsRefutation t (l ∷ facts) tree

  record AreJoined (pending : List (List Literal)) (trees : List Tree) : Type 0 where
    closes : CloseAll (schema_of t) t.formulas.now t.premise.now.rows pending (flat_map (λ (tree : Tree). tree.nodes) trees)
    needed : AllNeeded (schema_of t) t.formulas.now t.premise.now.rows pending (flat_map (λ (tree : Tree). tree.nodes) trees)
    by_instances : All (IsByInstance t.instances.now) (flat_map (λ (tree : Tree). tree.nodes) trees)
    whole : All IsWhole trees

  joined : (opposites : List Literal) (trees : List Tree) → length trees ≡ length opposites → AreEach opposites trees → AreJoined (map (λ (o : Literal). o ∷ facts) opposites) trees
  joined [] [] e each = record { closes = tt; needed = tt; by_instances = All-nil (IsByInstance t.instances.now); whole = All-nil IsWhole }
  joined [] (tree ∷ trees) e each = absurd (omega arith)
  joined (l ∷ opposites) [] e each = absurd (omega arith)
  joined (l ∷ opposites) (tree ∷ trees) e each =
      let here : IsRefutation t (l ∷ facts) tree = each 0 l tree refl refl in
      let rest : AreJoined (map (λ (o : Literal). o ∷ facts) opposites) trees = joined opposites trees (omega arith) (λ k m other. each (suc k) m other) in
      let nodes : List Node = flat_map (λ (other : Tree). other.nodes) trees in
      record {
        closes = closes-append (schema_of t) t.formulas.now t.premise.now.rows tree.nodes nodes ((l ∷ facts) ∷ []) (map (λ (o : Literal). o ∷ facts) opposites) here.closes rest.closes;
        needed = needed-append (schema_of t) t.formulas.now t.premise.now.rows tree.nodes nodes ((l ∷ facts) ∷ []) (map (λ (o : Literal). o ∷ facts) opposites) here.closes here.needed rest.needed;
        by_instances = All-append (IsByInstance t.instances.now) tree.nodes nodes here.by_instances rest.by_instances;
        whole = All-cons IsWhole tree trees (closes-whole (schema_of t) t.formulas.now t.premise.now.rows tree.nodes ((l ∷ facts) ∷ []) here.closes) rest.whole;
      }

nodes-joined : (trees : List Tree) → flat_map (λ (tree : Tree). tree.nodes) trees ≡ flat_map (λ (nodes : List Node). nodes) (map (λ (tree : Tree). tree.nodes) trees) ++ []
nodes-joined trees = go trees ∙ sym (append-nil (flat_map (λ (nodes : List Node). nodes) (map (λ (tree : Tree). tree.nodes) trees)))
  where
    go : (ts : List Tree) → flat_map (λ (tree : Tree). tree.nodes) ts ≡ flat_map (λ (nodes : List Node). nodes) (map (λ (tree : Tree). tree.nodes) ts)
    go [] = refl
    go (x ∷ ts) = ap (λ (ns : List Node). x.nodes ++ ns) (go ts)

module _ (t : Task) (task : IsTask t) (facts : Problem) (same_rows : facts.rows ≡ t.premise.now.rows) (split : OpenSplit)
    (refuted : AreRefuted t facts.literals split) (all : length split.done ≡ length (opposites_at t split.instance)) where
  parts : AreJoined t facts.literals (map (λ (o : Literal). o ∷ facts.literals) (opposites_at t split.instance)) split.done
  parts = joined t facts.literals (opposites_at t split.instance) split.done all refuted.each

  pub trees-whole : All IsWhole split.done
  trees-whole = parts.whole

  -- the tree of a child that does not need the split
  pub idle-refutation : (place : ℕ) (tree : Tree) → IsIdle t facts split.done place → slice_get split.done place ≡ Some tree → IsRefutation t facts.literals tree
  idle-refutation place tree idle at =
      let other : Tree = idle.0 in
      let same : other ≡ tree = same_Some other tree (sym idle.1 ∙ at) in
      let lt : place < length (opposites_at t split.instance) = rw (← all) (slice_get_within split.done place tree at) in
      let l : Literal = get_or (opposites_at t split.instance) place (some_literal (opposites_at t split.instance) place lt) in
      let below = refuted.each place l tree (slice_get-get_or (opposites_at t split.instance) place (some_literal (opposites_at t split.instance) place lt) lt) at in
      record {
        closes = subst (λ (rs : List RelId). CloseAll (schema_of t) t.formulas.now rs (facts.literals ∷ []) tree.nodes) same_rows (subst (λ (o : Tree). Closes (schema_of t) facts t.formulas.now o.nodes) same idle.2);
        by_instances = below.by_instances;
        needed = needed-narrower (schema_of t) t.formulas.now t.premise.now.rows tree.nodes (facts.literals ∷ []) ((l ∷ facts.literals) ∷ []) ((λ m h. contains-later l m facts.literals h), tt) below.needed;
      }

  -- the trees of all children, below the split
  pub joined-refutation : (instance : Instance) → slice_get t.instances.now split.instance ≡ Some instance → IsEachOpen t facts split.done
      → (tree : Tree) → tree.nodes ≡ Split instance.formula instance.rows (length split.done) ∷ flat_map (λ (other : Tree). other.nodes) split.done → IsRefutation t facts.literals tree
  joined-refutation instance at each tree is =
      let o : AreOpposites t.shape.now t.premise.now t.formulas.now instance (opposites_at t split.instance) = task.opposites.each split.instance instance (rw task.as_many refuted.within) at in
      let f : Problem = o.formula in
      let nodes : List Node = flat_map (λ (other : Tree). other.nodes) split.done in
      let pending : map (λ (m : Literal). m ∷ facts.literals) (opposites_at t split.instance) ≡ children_facts facts.literals instance.rows f.literals ++ [] =
      ap (map (λ (m : Literal). m ∷ facts.literals)) o.opposites_are ∙ children-are facts.literals instance.rows f.literals ∙ sym (append-nil (children_facts facts.literals instance.rows f.literals)) in
      let as_many : length split.done ≡ length f.literals =
      all ∙ ap length o.opposites_are ∙ length-map f.literals (λ (l : Literal). negated (replace (chosen_row instance.rows) l)) in
      record {
        closes = subst (CloseAll (schema_of t) t.formulas.now t.premise.now.rows (facts.literals ∷ [])) (sym is)
            (f, o.known, o.rows_of, as_many, subst (λ (ps : List (List Literal)). CloseAll (schema_of t) t.formulas.now t.premise.now.rows ps nodes) pending parts.closes);
        by_instances = subst (All (IsByInstance t.instances.now)) (sym is)
            (All-cons (IsByInstance t.instances.now) (Split instance.formula instance.rows (length split.done)) nodes
            (split.instance, slice_get_within t.instances.now split.instance instance at, get_or_from_slice_get t.instances.now split.instance instance instance at) parts.by_instances);
        needed = subst (AllNeeded (schema_of t) t.formulas.now t.premise.now.rows (facts.literals ∷ [])) (sym is) (
          f,
          o.known,
          record {
            trees = map (λ (other : Tree). other.nodes) split.done;
            rest = [];
            first = nodes-joined split.done;
            as_many = length-map split.done (λ (other : Tree). other.nodes);
            whole = All-map (AreTrees 1) (λ (other : Tree). other.nodes) split.done parts.whole;
            needed = All-map (λ (ns : List Node). ¬ CloseAll (schema_of t) t.formulas.now t.premise.now.rows (facts.literals ∷ []) ns) (λ (other : Tree). other.nodes) split.done
                (subst (λ (rs : List RelId). All (λ (other : Tree). ¬ CloseAll (schema_of t) t.formulas.now rs (facts.literals ∷ []) other.nodes) split.done) same_rows each);
          },
          subst (λ (ps : List (List Literal)). AllNeeded (schema_of t) t.formulas.now t.premise.now.rows ps nodes) pending parts.needed,
        );
      }
