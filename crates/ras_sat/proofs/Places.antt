-- Where a search comes to.
use Rattle.std.proofs.Common.{◌≡◌, ℕ, ◌+◌, ◌-◌, ◌*◌, ◌<◌, ◌≤◌, List, [], ◌∷◌, ◌++◌, length, get_or, reverse, sym, ◌∙◌, subst, arith, ⊎_elim}
use Rattle.std.specs.Prelude.{slice_get, Some, All, Contains}
use Rattle.std.proofs.lemmas.List.{length-append}
use Rattle.std.proofs.lemmas.List.Elements.{All-nil, All-cons, All-head, All-tail, All-push, Contains-append_left, Contains-push, Contains-push_cases}
use Rattle.std.proofs.lemmas.Option.{none-some, same_Some, slice_get-get_or, slice_get_within}
use Rattle.ras_logic.specs.declared.literal.Literal.{Literal}
use Rattle.ras_logic.specs.declared.problem.Problem.{Problem}
use Rattle.ras_logic.specs.declared.tree.Tree.{Tree}
use Rattle.ras_logic.specs.declared.tree.Node.TheVariants.{Leaf}
use Rattle.ras_logic.specs.Formulas.{LiteralFits}
use Rattle.ras_logic.specs.Clashes.{FactsClash}
use Rattle.ras_logic.specs.Refutations.{CloseAll}
use Rattle.ras_logic.proofs.Elements.{from_known}
use Rattle.ras_refute.proofs.Walking.{reverse-push}
use Rattle.ras_refute.proofs.Wider.{clash-wider}
use Rattle.ras_refute.proofs.Lists.{at-push}
use Rattle.ras_sat.specs.declared.instance.Instance.{Instance}
use Rattle.ras_sat.specs.declared.task.Task.{Task}
use Rattle.ras_sat.specs.declared.open_split.OpenSplit.{OpenSplit}
use Rattle.ras_sat.specs.Tasks.{IsTask, schema_of, opposites_at}
use Rattle.ras_sat.specs.Facts.{AddsLast, DropsLast}
use Rattle.ras_sat.specs.Verdicts.{IsCase, IsUnsplit}
use Rattle.ras_sat.specs.Splits.{IsRefutation, AreRefuted, AreOpen, instances_of}
use Rattle.ras_sat.specs.Needed.{AllNeeded}
use Rattle.ras_logic.proofs.Elements.{contains_cases, contains-here, contains-later}
use Rattle.ras_sat.specs.Instances.{IsByInstance}
use Rattle.ras_sat.specs.Efforts.{effort_at}
use Rattle.ras_sat.proofs.Wider.{AreWithin, closes-wider, needed-narrower}
use Rattle.ras_sat.proofs.Depths.{open-few, open-met, open-premise, effort-split}

an_instance : {k : ℕ} (is : List Instance) → k < length is → Instance
an_instance [] lt = absurd (omega arith)
an_instance (x ∷ is) lt = x

module _ (t : Task) (task : IsTask t) where
  -- an opposite of an instance fits the premise
  opposite-fits : (k : ℕ) (l : Literal) (n : ℕ) → k < length t.instances.now → slice_get (opposites_at t k) n ≡ Some l → LiteralFits t.shape.now t.premise.now.rows t.premise.now.params l
  opposite-fits k l n lt at =
      let i : Instance = get_or t.instances.now k (an_instance t.instances.now lt) in
      let o = task.opposites.each k i (rw task.as_many lt) (slice_get-get_or t.instances.now k (an_instance t.instances.now lt) lt) in
      from_known (LiteralFits t.shape.now t.premise.now.rows t.premise.now.params) (opposites_at t k) o.fit n l at

  -- the case of a child
  pub case-added : (old new : Problem) (split : OpenSplit) (fact : Literal) → IsCase t old → AreRefuted t old.literals split → slice_get (opposites_at t split.instance) (length split.done) ≡ Some fact
      → AddsLast old new fact → IsCase t new
  case-added old new split fact at refuted known adds = record {
    rows = adds.rows ∙ at.rows;
    params = adds.params ∙ at.params;
    fit = rw adds.literals (All-push (LiteralFits t.shape.now t.premise.now.rows t.premise.now.params) old.literals fact at.fit (opposite-fits split.instance fact (length split.done) refuted.within known));
    premise = λ l h. rw adds.literals (Contains-append_left old.literals (fact ∷ []) l (at.premise l h));
  }

  -- the splits above a child
  pub open-pushed : (old new : Problem) (above items : List OpenSplit) (split : OpenSplit) (fact : Literal) → AreRefuted t old.literals split → (Contains (instances_of (reverse above)) split.instance → ⊥)
      → AreOpen t old.literals (reverse above) → slice_get (opposites_at t split.instance) (length split.done) ≡ Some fact → AddsLast old new fact → items ≡ above ++ split ∷ []
      → AreOpen t new.literals (reverse items)
  open-pushed old new above items split fact refuted other below known adds pushed =
      rw (pushed, reverse-push above split)
      (old.literals, record { refuted = refuted; literal = fact; known = known; facts_are = adds.literals; other = other }, below)

  -- the case of a split, from that of its child
  pub case-dropped : (old new : Problem) (split : OpenSplit) (above : List OpenSplit) → IsCase t old → AreOpen t old.literals (split ∷ above) → DropsLast old new → IsCase t new
  case-dropped old new split above at below drops =
      let n = below.1 in
      let same : new.literals ≡ below.0 = drops.literals below.0 n.literal n.facts_are in
      record {
        rows = drops.rows ∙ at.rows;
        params = drops.params ∙ at.params;
        fit = rw same (front-all (LiteralFits t.shape.now t.premise.now.rows t.premise.now.params) below.0 (n.literal ∷ []) (rw n.facts_are at at.fit));
        premise = λ l h. rw same (open-premise t below.0 above below.2 l h);
      }
    where
      front-all : (P : Literal → Type 0) (xs ys : List Literal) → All P (xs ++ ys) → All P xs
      front-all P [] ys all = All-nil P
      front-all P (x ∷ xs) ys all = All-cons P x xs (All-head P x (xs ++ ys) all) (front-all P xs ys (All-tail P x (xs ++ ys) all))

  -- the splits above a split, from those above its child
  pub open-dropped : (old new : Problem) (split : OpenSplit) (above : List OpenSplit) → AreOpen t old.literals (split ∷ above) → DropsLast old new → AreOpen t new.literals above
  open-dropped old new split above below drops =
      let n = below.1 in
      subst (λ (fs : List Literal). AreOpen t fs above) (sym (drops.literals below.0 n.literal n.facts_are)) below.2

  reordered : (xs ys : List Literal) (tree : Tree) → AreWithin xs ys → AreWithin ys xs → IsRefutation t xs tree → IsRefutation t ys tree
  reordered xs ys tree forth back r = record {
    closes = closes-wider (schema_of t) t.formulas.now t.premise.now.rows tree.nodes (xs ∷ []) (ys ∷ []) (forth, tt) r.closes;
    by_instances = r.by_instances;
    needed = needed-narrower (schema_of t) t.formulas.now t.premise.now.rows tree.nodes (ys ∷ []) (xs ∷ []) (back, tt) r.needed;
  }

  last-first : (own : List Literal) (l : Literal) → AreWithin (own ++ l ∷ []) (l ∷ own)
  last-first own l m h =
      ⊎_elim (λ (e : Contains own m). contains-later l m own e)
      (λ (e : l ≡ m). subst (λ (x : Literal). Contains (l ∷ own) x) e (contains-here l own)) (Contains-push_cases own l m h)

  first-last : (own : List Literal) (l : Literal) → AreWithin (l ∷ own) (own ++ l ∷ [])
  first-last own l m h =
      ⊎_elim (λ (e : l ≡ m). subst (λ (x : Literal). Contains (own ++ l ∷ []) x) e (Contains-push own l))
      (λ (e : Contains own m). Contains-append_left own (l ∷ []) m e) (contains_cases l m own h)

  -- one child more is refuted
  pub refuted-more : (old new : Problem) (split : OpenSplit) (above : List OpenSplit) (tree : Tree) (done : List Tree) → AreOpen t old.literals (split ∷ above) → DropsLast old new
      → IsRefutation t old.literals tree → done ≡ split.done ++ tree ∷ [] → AreRefuted t new.literals (record split { done = done })
  refuted-more old new split above tree done below drops refutes pushed =
      let n = below.1 in
      let own : List Literal = below.0 in
      let same : new.literals ≡ own = drops.literals own n.literal n.facts_are in
      let lt = slice_get_within (opposites_at t split.instance) (length split.done) n.literal n.known in
      record {
        within = n.refuted.within;
        few = rw (pushed, length-append split.done (tree ∷ [])) (omega (arith, lt));
        each = λ k l other at_l at_other.
            ⊎_elim (λ (h : slice_get split.done k ≡ Some other). rw same (n.refuted.each k l other at_l h))
            (λ (h : (k ≡ length split.done) × (tree ≡ other)).
            let literal : n.literal ≡ l = same_Some n.literal l (sym n.known ∙ subst (λ (m : ℕ). slice_get (opposites_at t split.instance) m ≡ Some l) h.0 at_l) in
            let here : IsRefutation t (own ++ n.literal ∷ []) tree = subst (λ (fs : List Literal). IsRefutation t fs tree) n.facts_are refutes in
            let there : IsRefutation t (n.literal ∷ own) tree = reordered (own ++ n.literal ∷ []) (n.literal ∷ own) tree (last-first own n.literal) (first-last own n.literal) here in
            rw same (subst (λ (m : Literal). IsRefutation t (m ∷ own) other) literal (subst (λ (o : Tree). IsRefutation t (n.literal ∷ own) o) h.1 there)))
            (at-push split.done tree other k (subst (λ (ts : List Tree). slice_get ts k ≡ Some other) pushed at_other));
      }

  -- a split none of whose children is refuted yet
  pub fresh-refuted : (facts : List Literal) (instance : ℕ) (done : List Tree) → IsUnsplit t facts instance → done ≡ [] → AreRefuted t facts (record { instance = instance; done = done })
  fresh-refuted facts instance done unsplit none = record {
    within = unsplit.within;
    few = rw none (omega arith);
    each = λ k l tree at_l at_tree. absurd (none-some tree (subst (λ (ts : List Tree). slice_get ts k ≡ Some tree) none at_tree));
  }

  -- it is by another instance than the splits above
  pub fresh-other : (facts : List Literal) (above : List OpenSplit) (instance : ℕ) → AreOpen t facts above → IsUnsplit t facts instance → Contains (instances_of above) instance → ⊥
  fresh-other facts above instance below unsplit among = let m = open-met t facts above below instance among in unsplit.fresh m.0 m.1 m.2

  -- a leaf refutes facts that clash
  pub leaf-refutation : (facts : List Literal) (tree : Tree) → FactsClash (schema_of t) facts → tree.nodes ≡ Leaf ∷ [] → IsRefutation t facts tree
  leaf-refutation facts tree clash is = record {
    closes = subst (CloseAll (schema_of t) t.formulas.now t.premise.now.rows (facts ∷ [])) (sym is) (clash, tt);
    by_instances = subst (All (IsByInstance t.instances.now)) (sym is) (All-cons (IsByInstance t.instances.now) Leaf [] tt (All-nil (IsByInstance t.instances.now)));
    needed = subst (AllNeeded (schema_of t) t.formulas.now t.premise.now.rows (facts ∷ [])) (sym is) tt;
  }

  -- a premise that clashes does so in each case
  pub premise-clash : (facts : Problem) → IsCase t facts → FactsClash (schema_of t) t.premise.now.literals → FactsClash (schema_of t) facts.literals
  premise-clash facts at clash = clash-wider (schema_of t) t.premise.now.literals facts.literals at.premise clash

  few-opposites : (k : ℕ) → k < length t.instances.now → length (opposites_at t k) ≤ 4294967295
  few-opposites k lt =
      let i : Instance = get_or t.instances.now k (an_instance t.instances.now lt) in
      (task.opposites.each k i (rw task.as_many lt) (slice_get-get_or t.instances.now k (an_instance t.instances.now lt) lt)).few

  -- a case that is split is behind
  pub split-falls : (facts : List Literal) (above : List OpenSplit) (depth instance now behind : ℕ) (done : List Tree) → AreOpen t facts above → IsUnsplit t facts instance → depth ≡ length above → done ≡ []
      → now ≤ (length (opposites_at t instance) - length done) * effort_at t (depth + 1) + 1 + behind → now < effort_at t depth + behind
  split-falls facts above depth instance now behind done below unsplit long none le =
      let few = open-few t facts above instance below unsplit.within (fresh-other facts above instance below unsplit) in
      let split = effort-split 4294967295 (length (opposites_at t instance)) (length t.instances.now) depth (few-opposites instance unsplit.within) (omega (arith, few, long)) in
      let count : length (opposites_at t instance) - length done ≡ length (opposites_at t instance) = rw none (omega arith) in
      let less : now ≤ length (opposites_at t instance) * effort_at t (depth + 1) + 1 + behind =
      subst (λ (n : ℕ). now ≤ n * effort_at t (depth + 1) + 1 + behind) count le in
      omega (arith, less, split)

-- one child less is left
pub child-falls : (count done now behind each : ℕ) → now ≤ (count - (done + 1)) * each + 1 + behind → now < 1 + ((count - done - 1) * each + 1 + behind)
child-falls count done now behind each le =
    let e : count - (done + 1) ≡ count - done - 1 = omega arith in
    let less : now ≤ (count - done - 1) * each + 1 + behind = subst (λ (n : ℕ). now ≤ n * each + 1 + behind) e le in
    omega (arith, less)
