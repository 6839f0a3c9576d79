use Rattle.std.proofs.Common.{sym, subst}
use Rattle.std.specs.Prelude.{All}
use Rattle.ras_logic.specs.Clashes.{FactsClash}
use Rattle.ras_logic.specs.Refutations.{Closes}
use Rattle.ras_known.specs.Knowledge.{AreApart}
use Rattle.ras_entail.proofs.Among.{closed-among}
use Rattle.ras_entail.proofs.entailing.entails.Goals as goal

pub entails_by-requires-clause-known : goal.entails_by-requires-clause-known
entails_by-requires-clause-known c = record {
  fits = c.requires.premise;
  closure = rw c.in-Some.is at c.in_ok-of.ensures;
  apart = subst (All (AreApart c.args.shape.now c.args.premise.now c.in-Some.closure)) (sym c.deref.ensures.value) c.in_ok-apart-in-Some.ensures;
}

pub returns-in_ok-leaf-in-None : goal.returns-in_ok-leaf-in-None
returns-in_ok-leaf-in-None c =
    let clash : FactsClash c.args.shape.now.schema c.args.premise.now.literals = rw c.in-None.is at c.in_ok-of.ensures in
    let closes : Closes c.args.shape.now.schema c.args.premise.now c.args.list.now c.in_ok-leaf-in-None.field-0.nodes =
    subst (Closes c.args.shape.now.schema c.args.premise.now c.args.list.now) (sym c.in_ok-leaf-in-None.ensures) (clash, tt) in
    record {
      yes = closes;
      escape = tt;
      exact = (
        λ _. closed-among c.args.shape.now c.args.premise.now c.args.list.now c.in_ok-leaf-in-None.field-0.nodes c.known.ensures.shape.schema c.requires.premise c.requires.list c.are_cubes.ensures closes,
        λ _. tt,
      );
    }
