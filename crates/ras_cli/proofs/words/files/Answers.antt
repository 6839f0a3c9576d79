use Rattle.std.proofs.Common.{ℕ, List, ◌∙◌, ap, subst}
use Rattle.std.specs.Prelude.{slice_get}
use Rattle.ras_cli.specs.Words.{Request, texts, files_of, names_of, NamesFiles}
use Rattle.ras_cli.proofs.Naming.{one_naming, one_of, two_of, not_none, not_three}
use Rattle.ras_cli.proofs.words.files.Goals as goal

pub returns-in_err-names-clause-none : goal.returns-in_err-names-clause-none
returns-in_err-names-clause-none c = rw c.from_residual.ensures (λ (request : Request) h. c.in_err-names.ensures.none (files_of request) h)

pub returns-in_err-first-clause-none : goal.returns-in_err-first-clause-none
returns-in_err-first-clause-none c =
    rw c.from_residual-in_err-first.ensures
    (λ (request : Request) h.
    not_none request (ap (λ (ns : List (List ℕ)). slice_get ns 0) (one_naming (texts c.args.words.now) (files_of request) (names_of c.in_ok-names.names) h c.in_ok-names.ensures.some) ∙ c.in_err-first.ensures.none))

pub returns-in_default-clause-some : goal.returns-in_default-clause-some
returns-in_default-clause-some c =
    subst (NamesFiles (texts c.args.words.now)) (one_of (names_of c.in_ok-names.names) c.in_ok-first.first.now c.in_ok-first.ensures.some c.in_default.ensures.none)
    c.in_ok-names.ensures.some

pub returns-in-None-clause-some : goal.returns-in-None-clause-some
returns-in-None-clause-some c =
    subst (NamesFiles (texts c.args.words.now))
    (two_of (names_of c.in_ok-names.names) c.in_ok-first.first.now c.in-Some.second.now c.in_ok-first.ensures.some c.in-Some.ensures.some c.in-None.ensures.none)
    c.in_ok-names.ensures.some

pub returns-in-Some-get-clause-none : goal.returns-in-Some-get-clause-none
returns-in-Some-get-clause-none c = λ (request : Request) h.
    not_three request c.in-Some-get.field-0.now
    (ap (λ (ns : List (List ℕ)). slice_get ns 2) (one_naming (texts c.args.words.now) (files_of request) (names_of c.in_ok-names.names) h c.in_ok-names.ensures.some) ∙ c.in-Some-get.ensures.some)
