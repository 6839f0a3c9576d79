-- How a walk over the nodes of a tree begins, goes on and ends.
use Rattle.std.proofs.Common.{◌≡◌, ℕ, ◌+◌, List, [], ◌∷◌, ◌++◌, length, drop, reverse, refl, sym, ◌∙◌, ap, subst, arith, inl, inr}
use Rattle.std.specs.Prelude.{slice_get, Some, Result, Ok, Err, IfErr, IsErrAnd}
use Rattle.std.proofs.lemmas.Option.{none-some, same_Some}
use Rattle.std.proofs.lemmas.List.{length-append, length-map, reverse-reverse}
use Rattle.ras_logic.specs.declared.ids.RelId.{RelId}
use Rattle.ras_logic.specs.declared.literal.Literal.{Literal}
use Rattle.ras_logic.specs.declared.problem.Problem.{Problem}
use Rattle.ras_logic.specs.declared.tree.Node.{Node}
use Rattle.ras_logic.specs.declared.tree.Node.TheVariants.{Leaf, Split}
use Rattle.ras_logic.specs.Schemas.{SchemaParts}
use Rattle.ras_logic.specs.Formulas.{negated, replace}
use Rattle.ras_logic.specs.Refutations.{AreRowsOf, chosen_row, children_facts, CloseAll}
use Rattle.ras_logic.specs.Trees.{children_of, AreTrees}
use Rattle.ras_refute.specs.declared.cases.Cases.{Cases}
use Rattle.ras_refute.specs.declared.tree_fault.TreeFault.{TreeFault}
use Rattle.ras_refute.specs.declared.tree_fault.TreeKind.{TreeKind}
use Rattle.ras_refute.specs.declared.tree_fault.TreeKind.TheVariants as kind
use Rattle.ras_refute.specs.declared.tree_fault.CloseError.{CloseError}
use Rattle.ras_refute.specs.declared.tree_fault.CloseError.TheVariants.{Fault, Memory}
use Rattle.ras_refute.specs.Faults.{IsSplitBy, IsSplitFault, IsNodeFault, IsGood, IsFirstFault, OnFault}
use Rattle.ras_refute.specs.Walks.{waiting, AreOpen, StandsBefore, Passes}

-- what the error says of a fault, handed on
pub err-handed : {T : Type 0} (P : TreeFault → Type 0) (r : Result T CloseError) (e : CloseError) → IsErrAnd r (λ x. x ≡ e) → OnFault e P → IfErr r (λ x. OnFault x P)
err-handed P (Ok x) e is h = absurd is
err-handed P (Err x) e is h = subst (λ (y : CloseError). OnFault y P) (sym is) h

pub on_fault : (P Q : TreeFault → Type 0) → ((f : TreeFault) → P f → Q f) → (e : CloseError) → OnFault e P → OnFault e Q
on_fault P Q weaker (Fault f) h = weaker f h
on_fault P Q weaker (Memory m) h = h

module _ (schema : SchemaParts) (formulas : List Problem) (rows : List RelId) where
  split_known : (number : ℕ) (f g : Problem) → slice_get formulas number ≡ Some f → slice_get formulas number ≡ Some g → f ≡ g
  split_known number f g a b = same_Some f g (sym a ∙ b)

  -- a good node in front of what closes
  good-closes : (facts : List Literal) (node : Node) (more pending : List (List Literal)) (nodes : List Node) → IsGood schema formulas rows facts node more
      → CloseAll schema formulas rows (more ++ pending) nodes → CloseAll schema formulas rows (facts ∷ pending) (node ∷ nodes)
  good-closes facts Leaf more pending nodes good h = (good.0, subst (λ (m : List (List Literal)). CloseAll schema formulas rows (m ++ pending) nodes) good.1 h)
  good-closes facts (Split number chosen children) more pending nodes good h =
      (good.0, good.1.known, good.1.rows_of, good.1.one_each, subst (λ (m : List (List Literal)). CloseAll schema formulas rows (m ++ pending) nodes) good.2 h)

  closes-good : (facts : List Literal) (node : Node) (more pending : List (List Literal)) (nodes : List Node) → IsGood schema formulas rows facts node more
      → CloseAll schema formulas rows (facts ∷ pending) (node ∷ nodes) → CloseAll schema formulas rows (more ++ pending) nodes
  closes-good facts Leaf more pending nodes good h = subst (λ (m : List (List Literal)). CloseAll schema formulas rows (m ++ pending) nodes) (sym good.1) h.1
  closes-good facts (Split number chosen children) more pending nodes good h =
      let same : h.0 ≡ good.0 = split_known number h.0 good.0 h.1 good.1.known in
      subst (λ (m : List (List Literal)). CloseAll schema formulas rows (m ++ pending) nodes) (ap (λ (f : Problem). children_facts facts chosen f.literals) same ∙ sym good.2) h.4

  good-children : (facts : List Literal) (node : Node) (more : List (List Literal)) → IsGood schema formulas rows facts node more → length more ≡ children_of node
  good-children facts Leaf more good = ap length good.1
  good-children facts (Split number chosen children) more good =
      ap length good.2 ∙ length-map good.0.literals (λ (l : Literal). negated (replace (chosen_row chosen) l) ∷ facts) ∙ sym good.1.one_each

  good-same : (facts : List Literal) (node : Node) (more other : List (List Literal)) → IsGood schema formulas rows facts node more → IsGood schema formulas rows facts node other → more ≡ other
  good-same facts Leaf more other a b = a.1 ∙ sym b.1
  good-same facts (Split number chosen children) more other a b =
      a.2 ∙ ap (λ (f : Problem). children_facts facts chosen f.literals) (split_known number a.0 b.0 a.1.known b.1.known) ∙ sym b.2

  split_fault-not_good : (number : ℕ) (chosen : List ℕ) (children : ℕ) (f : Problem) → IsSplitBy formulas rows number chosen children f → (k : TreeKind)
      → IsSplitFault formulas rows number chosen children k → ⊥
  split_fault-not_good number chosen children f by kind.NoFormula h = none-some f (sym h ∙ by.known)
  split_fault-not_good number chosen children f by kind.Rows h =
      h.2 (subst (λ (g : Problem). AreRowsOf rows g.rows chosen) (split_known number f h.0 by.known h.1) by.rows_of)
  split_fault-not_good number chosen children f by kind.Children h =
      h.3 (subst (λ (g : Problem). children ≡ length g.literals) (split_known number f h.0 by.known h.1) by.one_each)
  split_fault-not_good number chosen children f by kind.NoClash h = h

  fault-not_good : (facts : List Literal) (node : Node) (k : TreeKind) (more : List (List Literal)) → IsNodeFault schema formulas rows facts node k → IsGood schema formulas rows facts node more → ⊥
  fault-not_good facts Leaf kind.NoClash more h good = h good.0
  fault-not_good facts Leaf kind.NoFormula more h good = h
  fault-not_good facts Leaf kind.Rows more h good = h
  fault-not_good facts Leaf kind.Children more h good = h
  fault-not_good facts (Split number chosen children) k more h good = split_fault-not_good number chosen children good.0 good.1 k h

  closes-good_node : (facts : List Literal) (node : Node) (pending : List (List Literal)) (nodes : List Node) → CloseAll schema formulas rows (facts ∷ pending) (node ∷ nodes)
      → (more : List (List Literal)) × IsGood schema formulas rows facts node more
  closes-good_node facts Leaf pending nodes h = ([], (h.0, refl))
  closes-good_node facts (Split number chosen children) pending nodes h =
      (children_facts facts chosen h.0.literals, (h.0, record { known = h.1; rows_of = h.2; one_each = h.3 }, refl))

  -- a tree with a fault does not close
  pub fault-no_closing : (nodes : List Node) (number : ℕ) (pending : List (List Literal)) (f : TreeFault) → IsFirstFault schema formulas rows number pending nodes f
      → CloseAll schema formulas rows pending nodes → ⊥
  fault-no_closing [] number [] f fault h = fault
  fault-no_closing [] number (facts ∷ pending) f fault h = fault
  fault-no_closing (node ∷ nodes) number [] f fault h = fault
  fault-no_closing (node ∷ nodes) number (facts ∷ pending) f (inl here) h =
      let good = closes-good_node facts node pending nodes h in
      fault-not_good facts node f.kind good.0 here.1 good.1
  fault-no_closing (node ∷ nodes) number (facts ∷ pending) f (inr later) h =
      fault-no_closing nodes (number + 1) (later.0 ++ pending) f later.2 (closes-good facts node later.0 pending nodes later.1 h)

  split_fault-same : (number : ℕ) (chosen : List ℕ) (children : ℕ) (k l : TreeKind) → IsSplitFault formulas rows number chosen children k → IsSplitFault formulas rows number chosen children l → k ≡ l
  split_fault-same number chosen children kind.NoFormula kind.NoFormula a b = refl
  split_fault-same number chosen children kind.NoFormula kind.Rows a b = absurd (none-some b.0 (sym a ∙ b.1))
  split_fault-same number chosen children kind.NoFormula kind.Children a b = absurd (none-some b.0 (sym a ∙ b.1))
  split_fault-same number chosen children kind.NoFormula kind.NoClash a b = absurd b
  split_fault-same number chosen children kind.Rows kind.NoFormula a b = absurd (none-some a.0 (sym b ∙ a.1))
  split_fault-same number chosen children kind.Rows kind.Rows a b = refl
  split_fault-same number chosen children kind.Rows kind.Children a b = absurd (a.2 (subst (λ (g : Problem). AreRowsOf rows g.rows chosen) (split_known number b.0 a.0 b.1 a.1) b.2))
  split_fault-same number chosen children kind.Rows kind.NoClash a b = absurd b
  split_fault-same number chosen children kind.Children kind.NoFormula a b = absurd (none-some a.0 (sym b ∙ a.1))
  split_fault-same number chosen children kind.Children kind.Rows a b = absurd (b.2 (subst (λ (g : Problem). AreRowsOf rows g.rows chosen) (split_known number a.0 b.0 a.1 b.1) a.2))
  split_fault-same number chosen children kind.Children kind.Children a b = refl
  split_fault-same number chosen children kind.Children kind.NoClash a b = absurd b
  split_fault-same number chosen children kind.NoClash l a b = absurd a

  node_fault-same : (facts : List Literal) (node : Node) (k l : TreeKind) → IsNodeFault schema formulas rows facts node k → IsNodeFault schema formulas rows facts node l → k ≡ l
  node_fault-same facts Leaf kind.NoClash kind.NoClash a b = refl
  node_fault-same facts Leaf kind.NoClash kind.NoFormula a b = absurd b
  node_fault-same facts Leaf kind.NoClash kind.Rows a b = absurd b
  node_fault-same facts Leaf kind.NoClash kind.Children a b = absurd b
  node_fault-same facts Leaf kind.NoFormula l a b = absurd a
  node_fault-same facts Leaf kind.Rows l a b = absurd a
  node_fault-same facts Leaf kind.Children l a b = absurd a
  node_fault-same facts (Split number chosen children) k l a b = split_fault-same number chosen children k l a b

  fault_is : (f g : TreeFault) → f.node ≡ g.node → f.kind ≡ g.kind → f ≡ g
  fault_is f g n k =
      let one : record { node = f.node; kind = f.kind } ≡ g =
      ap (λ (x : ℕ). let u : TreeFault = record { node = x; kind = f.kind } in u) n ∙ ap (λ (x : TreeKind). let u : TreeFault = record { node = g.node; kind = x } in u) k in one

  -- a tree has one first fault at most
  pub first_fault-same : (nodes : List Node) (number : ℕ) (pending : List (List Literal)) (f g : TreeFault) → IsFirstFault schema formulas rows number pending nodes f
      → IsFirstFault schema formulas rows number pending nodes g → f ≡ g
  first_fault-same [] number [] f g a b = absurd a
  first_fault-same [] number (facts ∷ pending) f g a b = absurd a
  first_fault-same (node ∷ nodes) number [] f g a b = absurd a
  first_fault-same (node ∷ nodes) number (facts ∷ pending) f g (inl a) (inl b) = fault_is f g (a.0 ∙ sym b.0) (node_fault-same facts node f.kind g.kind a.1 b.1)
  first_fault-same (node ∷ nodes) number (facts ∷ pending) f g (inl a) (inr b) = absurd (fault-not_good facts node f.kind b.0 a.1 b.1)
  first_fault-same (node ∷ nodes) number (facts ∷ pending) f g (inr a) (inl b) = absurd (fault-not_good facts node g.kind a.0 b.1 a.1)
  first_fault-same (node ∷ nodes) number (facts ∷ pending) f g (inr a) (inr b) =
      first_fault-same nodes (number + 1) (a.0 ++ pending) f g a.2
      (subst (λ (m : List (List Literal)). IsFirstFault schema formulas rows (number + 1) (m ++ pending) nodes g) (good-same facts node b.0 a.0 b.1 a.1) b.2)

  module _ (literals : List Literal) (nodes : List Node) where
    -- The walk has come to the node of that number: what it stands before tells of the rest as the premise does of the whole.
    pub record HasCome (k : ℕ) (facts : List Literal) (splits : List Cases) : Type 0 where
      pub pending : List (List Literal)
      pub stands : StandsBefore pending facts splits
      pub trees : AreTrees (length pending) (drop k nodes)
      pub closes : CloseAll schema formulas rows pending (drop k nodes) → CloseAll schema formulas rows (literals ∷ []) nodes
      pub fault : (f : TreeFault) → IsFirstFault schema formulas rows k pending (drop k nodes) f → IsFirstFault schema formulas rows 0 (literals ∷ []) nodes f

    pub walk-begins : (facts : List Literal) (splits : List Cases) → facts ≡ reverse literals → splits ≡ [] → AreTrees 1 nodes → HasCome 0 facts splits
    walk-begins facts splits first none trees = record {
      pending = literals ∷ [];
      stands = (sym (reverse-reverse literals) ∙ ap reverse (sym first), sym (ap (λ (s : List Cases). waiting facts (reverse s)) none), subst (λ (s : List Cases). AreOpen facts (reverse s)) (sym none) tt);
      trees = trees;
      closes = λ h. h;
      fault = λ f h. h;
    }

    open_at : (pending : List (List Literal)) (facts : List Literal) (splits : List Cases) (node : Node) (rest : List Node) → StandsBefore pending facts splits
        → AreTrees (length pending) (node ∷ rest) → AreOpen facts (reverse splits)
    open_at [] facts splits node rest stands trees = absurd trees
    open_at (here ∷ pending) facts splits node rest stands trees = stands.2

    pub walk-open : (k : ℕ) (facts : List Literal) (splits : List Cases) (node : Node) (rest : List Node) → HasCome k facts splits → drop k nodes ≡ node ∷ rest → AreOpen facts (reverse splits)
    walk-open k facts splits node rest come is = open_at come.pending facts splits node rest come.stands (subst (AreTrees (length come.pending)) is come.trees)

    go_on : (k : ℕ) (pending : List (List Literal)) (facts after : List Literal) (splits left : List Cases) (node : Node) (rest : List Node) → rest ≡ drop (k + 1) nodes
        → StandsBefore pending facts splits → AreTrees (length pending) (node ∷ rest)
        → (CloseAll schema formulas rows pending (node ∷ rest) → CloseAll schema formulas rows (literals ∷ []) nodes)
        → ((f : TreeFault) → IsFirstFault schema formulas rows k pending (node ∷ rest) f → IsFirstFault schema formulas rows 0 (literals ∷ []) nodes f)
        → Passes schema formulas rows node facts splits after left → HasCome (k + 1) after left
    go_on k [] facts after splits left node rest is stands trees closes fault passes = absurd trees
    go_on k (here ∷ pending) facts after splits left node rest is stands trees closes fault passes =
        let good : IsGood schema formulas rows here node passes.more = subst (λ (h : List Literal). IsGood schema formulas rows h node passes.more) (sym stands.0) passes.good in
        let moved : StandsBefore (passes.more ++ pending) after left = subst (λ (p : List (List Literal)). StandsBefore (passes.more ++ p) after left) (sym stands.1) passes.stands in
        let many : children_of node + length pending ≡ length (passes.more ++ pending) = omega (arith, length-append passes.more pending, good-children here node passes.more good) in
        record {
          pending = passes.more ++ pending;
          stands = moved;
          trees = subst (λ (n : ℕ). AreTrees n (drop (k + 1) nodes)) many (subst (AreTrees (children_of node + length pending)) is trees);
          closes = λ h. closes (good-closes here node passes.more pending rest good (subst (CloseAll schema formulas rows (passes.more ++ pending)) (sym is) h));
          fault = λ f h. fault f (inr (passes.more, good, subst (λ (ns : List Node). IsFirstFault schema formulas rows (k + 1) (passes.more ++ pending) ns f) (sym is) h));
        }

    pub walk-goes_on : (k : ℕ) (facts after : List Literal) (splits left : List Cases) (node : Node) → HasCome k facts splits → drop k nodes ≡ node ∷ drop (k + 1) nodes
        → Passes schema formulas rows node facts splits after left → HasCome (k + 1) after left
    walk-goes_on k facts after splits left node come is passes =
        go_on k come.pending facts after splits left node (drop (k + 1) nodes) refl come.stands (subst (AreTrees (length come.pending)) is come.trees)
        (λ h. come.closes (subst (CloseAll schema formulas rows come.pending) (sym is) h))
        (λ f h. come.fault f (subst (λ (ns : List Node). IsFirstFault schema formulas rows k come.pending ns f) (sym is) h)) passes

    stop : (k : ℕ) (pending : List (List Literal)) (facts : List Literal) (splits : List Cases) (node : Node) (rest : List Node) (f : TreeFault) → StandsBefore pending facts splits
        → AreTrees (length pending) (node ∷ rest) → (f.node ≡ k) × IsNodeFault schema formulas rows (reverse facts) node f.kind → IsFirstFault schema formulas rows k pending (node ∷ rest) f
    stop k [] facts splits node rest f stands trees h = absurd trees
    stop k (here ∷ pending) facts splits node rest f stands trees h = inl (h.0, subst (λ (fs : List Literal). IsNodeFault schema formulas rows fs node f.kind) (sym stands.0) h.1)

    pub walk-stops : (k : ℕ) (facts : List Literal) (splits : List Cases) (node : Node) (rest : List Node) (f : TreeFault) → HasCome k facts splits → drop k nodes ≡ node ∷ rest
        → (f.node ≡ k) × IsNodeFault schema formulas rows (reverse facts) node f.kind → IsFirstFault schema formulas rows 0 (literals ∷ []) nodes f
    walk-stops k facts splits node rest f come is h =
        come.fault f (subst (λ (ns : List Node). IsFirstFault schema formulas rows k come.pending ns f) (sym is)
        (stop k come.pending facts splits node rest f come.stands (subst (AreTrees (length come.pending)) is come.trees) h))

    ended : (pending : List (List Literal)) → AreTrees (length pending) [] → CloseAll schema formulas rows pending []
    ended [] trees = tt
    ended (here ∷ pending) trees = absurd trees

    pub walk-ends : (k : ℕ) (facts : List Literal) (splits : List Cases) → HasCome k facts splits → drop k nodes ≡ [] → CloseAll schema formulas rows (literals ∷ []) nodes
    walk-ends k facts splits come is =
        come.closes (subst (CloseAll schema formulas rows come.pending) (sym is) (ended come.pending (subst (AreTrees (length come.pending)) is come.trees)))
