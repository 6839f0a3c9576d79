use Rattle.std.proofs.Common.{◌≡◌, List, [], ◌∷◌, ◌++◌, refl, sym, subst, All, ◌↔◌}
use Rattle.std.specs.List.{AllZip}
use Rattle.ras_logic.specs.declared.tree.Tree.{Tree}
use Rattle.ras_logic.specs.Shapes.{ShapeParts}
use Rattle.ras_logic.specs.Formulas.{Fits}
use Rattle.ras_logic.specs.Refutations.{Closes}
use Rattle.ras_system.specs.Obligations.{Obligation, with_formulas}
use Rattle.ras_system.specs.Evidence.{ClosesObligation}
use Rattle.ras_obligations.proofs.Zipped.{AllZip-append}
use Rattle.ras_obligations.proofs.Fronts.{last_fails}
use Rattle.ras_entail.specs.declared.entail.Entail.TheVariants.{Escape}
use Rattle.ras_entail.specs.Entailment.{IsAmong}
use Rattle.ras_entail.specs.Entails.{IsYes}
use Rattle.ras_certify.specs.Holding.{ObligationHolds}
use Rattle.ras_certify.proofs.certifying.CertifierVisitor.visit.Goals as goal

pub entails-requires-clause-list : goal.entails-requires-clause-list
entails-requires-clause-list c = subst (λ (s : ShapeParts). All (Fits s) c.args.formulas.now) (sym c.shape.ensures) c.requires.formulas

pub returns-in-Yes-clause-visited : goal.returns-in-Yes-clause-visited
returns-in-Yes-clause-visited c =
    let o : Obligation = with_formulas c.args.formulas.now c.args.premise.now in
    let R : Obligation → Tree → Type 0 = ClosesObligation c.args.system.now in
    let closes : Closes c.shape.result.now.schema c.args.premise.now c.args.formulas.now c.in-Yes.tree.nodes = rw c.in-Yes.is at c.in_ok-tree.ensures.yes in
    let here : R o c.in-Yes.tree = subst (λ (s : ShapeParts). Closes s.schema c.args.premise.now c.args.formulas.now c.in-Yes.tree.nodes) c.shape.ensures closes in
    record {
      same = refl;
      longer = λ os had. subst (AllZip R (os ++ o ∷ [])) (sym c.in_ok-push-in-Yes.ensures.ok) (AllZip-append R os (o ∷ []) c.args.self.now.trees (c.in-Yes.tree ∷ []) had (here, tt));
    }

pub returns-clause-barred : goal.returns-clause-barred
returns-clause-barred c =
    let o : Obligation = with_formulas c.args.formulas.now c.args.premise.now in
    let exact : IsYes (Escape c.in-Escape.field-0) ↔ IsAmong c.shape.result.now c.args.premise.now c.args.formulas.now = rw c.in-Escape.is at c.in_ok-tree.ensures.exact in
    let fails : ¬ ObligationHolds c.args.system.now.shape o =
    subst (λ (s : ShapeParts). ¬ IsAmong s c.args.premise.now c.args.formulas.now) c.shape.ensures exact.1 in
    record { same = refl; stops = λ os had. last_fails (ObligationHolds c.args.system.now.shape) os o fails }
