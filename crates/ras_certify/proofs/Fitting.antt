-- The premises of the obligations fit, and so do their formulas, which are cubes: so an obligation that a tree closes holds.
use Rattle.std.proofs.Common.{ℕ, ◌<◌, List, [], ◌++◌, map, length, get_or, All}
use Rattle.std.specs.Prelude.{flat_map}
use Rattle.std.proofs.lemmas.List.Elements.{All-nil, All-map, All-append, All-weaker}
use Rattle.ras_logic.specs.declared.problem.Problem.{Problem}
use Rattle.ras_logic.specs.declared.tree.Tree.{Tree}
use Rattle.ras_logic.specs.Formulas.{Fits, IsCube}
use Rattle.ras_logic.specs.Shapes.{ShapeParts}
use Rattle.ras_system.specs.declared.transition.Transition.{Transition}
use Rattle.ras_system.specs.Systems.{SystemParts, IsSystem, IsTransition}
use Rattle.ras_system.specs.Obligations.{Obligation, with_formulas, at_start, preimages, start_obligations, obligations}
use Rattle.ras_system.specs.Evidence.{ClosesObligation, IsGoodSafe}
use Rattle.ras_system.specs.Preimages.{preimage}
use Rattle.ras_obligations.proofs.StartFits.{start-fits}
use Rattle.ras_obligations.proofs.Numbered.{All-lists}
use Rattle.ras_entail.proofs.Among.{closed-among}
use Rattle.ras_certify.specs.Holding.{ObligationHolds}
use Rattle.ras_certify.proofs.Partners.{all_with_partner}

module _ (preimage_fits : (shape : ShapeParts) (t : Transition) (cube : Problem) → IsTransition shape t → Fits shape cube → IsCube cube → All (Fits shape) (preimage t cube))
    (system : SystemParts) (is : IsSystem system) where
  record IsFit (o : Obligation) : Type 0 where
    premise : Fits system.shape o.premise
    formulas : All (Fits system.shape) o.formulas
    cubes : All IsCube o.formulas

  held : (o : Obligation) (t : Tree) → IsFit o → ClosesObligation system o t → ObligationHolds system.shape o
  held o t fit closes = closed-among system.shape o.premise o.formulas t.nodes is.shape.schema fit.premise fit.formulas fit.cubes closes

  module _ (formulas : List Problem) (fit : All (Fits system.shape) formulas) (cubes : All IsCube formulas) where
    abbrev IsFitPremise : Problem → Type 0
    IsFitPremise p = IsFit (with_formulas formulas p)

    by_formulas : (p : Problem) → Fits system.shape p → IsFitPremise p
    by_formulas p fits = record { premise = fits; formulas = fit; cubes = cubes }

    at_the_start : (f : Problem) → Fits system.shape f → IsFit (with_formulas [] (at_start system f))
    at_the_start f fits = record { premise = start-fits system is f fits; formulas = All-nil (Fits system.shape); cubes = All-nil IsCube }

    of_preimages : (f : Problem) → Fits system.shape f → IsCube f → All IsFitPremise (preimages system f)
    of_preimages f fits cube =
        All-lists IsFitPremise (λ (t : Transition). preimage t f) system.transitions
        (λ k t lt.
        let at : Transition = get_or system.transitions k t in
        All-weaker (Fits system.shape) IsFitPremise by_formulas (preimage at f) (preimage_fits system.shape at f (is.transitions k t lt) fits cube))

    starts : All IsFit (start_obligations system formulas)
    starts =
        All-map IsFit (λ (f : Problem). with_formulas [] (at_start system f)) formulas
        (All-weaker (Fits system.shape) (λ (f : Problem). IsFit (with_formulas [] (at_start system f))) at_the_start formulas fit)

    goals : All IsFit (map (with_formulas formulas) system.goals)
    goals = All-map IsFit (with_formulas formulas) system.goals (All-weaker (Fits system.shape) IsFitPremise by_formulas system.goals is.goals)

    steps : All IsFit (map (with_formulas formulas) (flat_map (preimages system) formulas))
    steps =
        All-map IsFit (with_formulas formulas) (flat_map (preimages system) formulas)
        (All-lists IsFitPremise (preimages system) formulas (λ k f lt. of_preimages (get_or formulas k f) (fit k f lt) (cubes k f lt)))

    all_fit : All IsFit (obligations system formulas)
    all_fit =
        All-append IsFit (start_obligations system formulas ++ map (with_formulas formulas) system.goals) (map (with_formulas formulas) (flat_map (preimages system) formulas))
        (All-append IsFit (start_obligations system formulas) (map (with_formulas formulas) system.goals) starts goals) steps

  pub all_held : (formulas : List Problem) (trees : List Tree) → IsGoodSafe system formulas trees → All (ObligationHolds system.shape) (obligations system formulas)
  all_held formulas trees good =
      all_with_partner IsFit (ClosesObligation system) (ObligationHolds system.shape) held (obligations system formulas) trees (all_fit formulas good.fit good.cubes) good.closed
