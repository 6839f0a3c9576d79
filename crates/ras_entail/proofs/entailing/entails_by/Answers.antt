use Rattle.std.proofs.Common.{List, subst}
use Rattle.ras_logic.specs.Refutations.{Closes}
use Rattle.ras_sat.specs.declared.instance.Instance.{Instance}
use Rattle.ras_sat.specs.Answers.{IsEscape}
use Rattle.ras_entail.proofs.Among.{closed-among, model-escapes, escape-not_among}
use Rattle.ras_entail.proofs.entailing.entails_by.Goals as goal

pub returns-in-Refuted : goal.returns-in-Refuted
returns-in-Refuted c =
    let k = c.args.known.now in
    let closes : Closes k.shape.now.schema k.premise.now c.args.list.now c.in-Refuted.tree.nodes = rw c.in-Refuted.is at c.in_ok-tree.ensures.refuted in
    record {
      yes = closes;
      escape = tt;
      exact = (λ _. closed-among k.shape.now k.premise.now c.args.list.now c.in-Refuted.tree.nodes c.known.ensures.shape.schema c.requires.known.fits c.requires.list c.are_cubes.ensures closes, λ _. tt);
    }

pub returns : goal.returns
returns c =
    let k = c.args.known.now in
    let m = c.in-Model.model in
    let escape = subst (λ (instances : List Instance). IsEscape k.shape.now k.premise.now c.args.list.now instances m.db m.values) c.as_slice.ensures.value
    (rw c.in-Model.is at c.in_ok-tree.ensures.model) in
    let escapes = model-escapes k.shape.now k.premise.now c.args.list.now c.in_ok-instances.instances.items m.db m.values c.requires.list c.are_cubes.ensures c.in_ok-instances.ensures escape
    c.in_ok-witness-in-Model.witness c.in_ok-witness-in-Model.ensures.database c.in_ok-witness-in-Model.ensures.state in
    record {
      yes = tt;
      escape = escapes;
      exact = (λ no. absurd no, λ among. escape-not_among k.shape.now k.premise.now c.args.list.now c.in_ok-witness-in-Model.witness escapes among);
    }
