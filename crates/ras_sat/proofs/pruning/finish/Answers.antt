use Rattle.std.proofs.Common.{◌≡◌, ◌∷◌, List, length, get_or, sym, subst}
use Rattle.std.specs.Prelude.{All}
use Rattle.std.specs.List.{flat_map}
use Rattle.std.proofs.lemmas.Result.{IfOk-weaker}
use Rattle.std.proofs.lemmas.Option.{slice_get_within, slice_get-get_or}
use Rattle.ras_logic.specs.declared.tree.Tree.{Tree}
use Rattle.ras_logic.specs.declared.tree.Node.TheVariants.{Split}
use Rattle.ras_logic.specs.Trees.{IsWhole}
use Rattle.ras_sat.specs.declared.instance.Instance.{Instance}
use Rattle.ras_sat.specs.Splits.{IsIdle, IsEachOpen, IsRefutation}
use Rattle.ras_sat.proofs.Joining.{trees-whole, idle-refutation, joined-refutation}
use Rattle.ras_sat.proofs.pruning.finish.Goals as goal

pub first_closing-requires : goal.first_closing-requires
first_closing-requires c =
    subst (All IsWhole) (sym c.as_slice.ensures.items) (trees-whole c.args.task.now c.requires.task c.args.facts.now c.requires.rows c.args.split c.requires.refuted c.requires.all)

pub tree_at-requires : goal.tree_at-requires
tree_at-requires c =
    let idle = subst (λ (ts : List Tree). IsIdle c.args.task.now c.args.facts.now ts c.in-Some.place) c.as_slice.ensures.items (rw c.in-Some.is at c.in_ok-place.ensures) in
    slice_get_within c.args.split.done c.in-Some.place idle.0 idle.1

pub returns-in-Some : goal.returns-in-Some
returns-in-Some c =
    let idle = subst (λ (ts : List Tree). IsIdle c.args.task.now c.args.facts.now ts c.in-Some.place) c.as_slice.ensures.items (rw c.in-Some.is at c.in_ok-place.ensures) in
    idle-refutation c.args.task.now c.requires.task c.args.facts.now c.requires.rows c.args.split c.requires.refuted c.requires.all c.in-Some.place c.tree_at.result idle c.tree_at.ensures

pub returns-in-None : goal.returns-in-None
returns-in-None c =
    let each = subst (λ (ts : List Tree). IsEachOpen c.args.task.now c.args.facts.now ts) c.as_slice.ensures.items (rw c.in-None.is at c.in_ok-place.ensures) in
    let i : Instance = get_or c.args.task.now.instances.now c.args.split.instance c.index-task-split.result in
    IfOk-weaker c.split_tree.result (λ (t : Tree). t.nodes ≡ Split i.formula i.rows (length c.args.split.done) ∷ flat_map (λ (other : Tree). other.nodes) c.args.split.done)
    (IsRefutation c.args.task.now c.args.facts.now.literals)
    (λ tree is. joined-refutation c.args.task.now c.requires.task c.args.facts.now c.requires.rows c.args.split c.requires.refuted c.requires.all i
    (slice_get-get_or c.args.task.now.instances.now c.args.split.instance c.index-task-split.result c.requires.refuted.within) each tree is)
    c.split_tree.ensures
