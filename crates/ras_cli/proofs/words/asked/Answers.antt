use Rattle.std.proofs.Common.{ℕ, List, [], ◌∷◌, sym, ◌∙◌, ap, subst}
use Rattle.ras_cli.specs.Words.{Request, texts, named_by, NamesFiles, IsCommand, IsNoCommand}
use Rattle.ras_cli.specs.declared.words.OneOrTwo.{OneOrTwo}
use Rattle.ras_cli.proofs.Naming.{asked_behind, if_none}
use Rattle.ras_cli.proofs.words.asked.Goals as goal

pub returns-in-One-clause-none : goal.returns-in-One-clause-none
returns-in-One-clause-none c =
    let parts = ap texts c.in_ok-command.ensures.cases.0 ∙ ap (λ (w : List ℕ). w ∷ texts c.in_ok-command.behind.now) (sym c.as_str.ensures.value) in
    if_none c.of_one.result ((r : Request) → ¬ IsCommand c.as_str.result.now (c.in-One.file.now ∷ []) r) (IsNoCommand (texts c.args.words.now))
    (λ none request asks. none request (asked_behind (texts c.args.words.now) c.as_str.result.now (texts c.in_ok-command.behind.now) (c.in-One.file.now ∷ []) request parts
    (subst (λ (f : OneOrTwo). NamesFiles (texts c.in_ok-command.behind.now) (named_by f)) c.in-One.is c.in_ok-file.ensures.some) asks))
    c.of_one.ensures.none

pub returns-in-Two-clause-none : goal.returns-in-Two-clause-none
returns-in-Two-clause-none c =
    let parts = ap texts c.in_ok-command.ensures.cases.0 ∙ ap (λ (w : List ℕ). w ∷ texts c.in_ok-command.behind.now) (sym c.as_str-in-Two.ensures.value) in
    if_none c.of_two.result ((r : Request) → ¬ IsCommand c.as_str-in-Two.result.now (c.in-Two.file.now ∷ c.in-Two.evidence.now ∷ []) r) (IsNoCommand (texts c.args.words.now))
    (λ none request asks.
    none request (asked_behind (texts c.args.words.now) c.as_str-in-Two.result.now (texts c.in_ok-command.behind.now) (c.in-Two.file.now ∷ c.in-Two.evidence.now ∷ []) request parts
    (subst (λ (f : OneOrTwo). NamesFiles (texts c.in_ok-command.behind.now) (named_by f)) c.in-Two.is c.in_ok-file.ensures.some) asks))
    c.of_two.ensures.none
