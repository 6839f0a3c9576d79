use Rattle.std.proofs.Common.{◌≡◌, ℕ, sym, ap, ◌∙◌, subst}
use Rattle.ras_closure.specs.Classes.{class}
use Rattle.ras_closure.specs.Closures.{ClosureParts, AreTogetherIn}
use Rattle.std.specs.Prelude.{◌↔◌}
use Rattle.ras_closure.proofs.Laws.{classes-together}
use Rattle.ras_closure.proofs.closure.Closure.class_of.Goals as goal

pub returns-clause-exact : goal.returns-clause-exact
returns-clause-exact c = λ j s t at_s at_t.
    let here : c.of.result ≡ class c.args.self.now.classes c.args.term.n = c.of.ensures ∙ ap (λ (o : ClosureParts). class o.classes c.args.term.n) c.self.view_is in
    subst (λ (k : ℕ). (k ≡ class c.args.self.now.classes j) ↔ AreTogetherIn c.args.self.now s t) (sym here)
    (classes-together c.args.self.now c.known.ensures.table c.known.ensures.closure c.args.term.n j s t at_s at_t)
