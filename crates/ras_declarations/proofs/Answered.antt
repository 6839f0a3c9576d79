-- What is known of an answer, with or without an error.
use Rattle.std.proofs.Common.{◌≡◌, List, subst}
use Rattle.std.specs.Prelude.{Result, Ok, Err, IfOk, OnOk}
use Rattle.ras_names.specs.Checks.{Check}
use Rattle.ras_names.proofs.Passing.{Passes}
use Rattle.ras_scope.specs.declared.fault.SpecError.{SpecError}
use Rattle.ras_scope.specs.Answering.{Answers}

pub if_ok-to : {A E : Type 0} {P : A → Type 0} (Q : A → Type 0) (r : Result A E) → ((a : A) → P a → Q a) → IfOk r P → IfOk r Q
if_ok-to Q (Ok a) f h = f a h
if_ok-to Q (Err e) f h = tt

pub on_ok : {A E : Type 0} (P : Type 0) (r : Result A E) → P → OnOk r P
on_ok P (Ok a) h = h
on_ok P (Err e) h = tt

pub passes-if_ok : {A : Type 0} (P : Type 0) (checks : List Check) (r : Result A SpecError) → (Passes checks → P) → Answers checks r → OnOk r P
passes-if_ok P checks (Ok a) f h = f h
passes-if_ok P checks (Err e) f h = tt

pub answers_same : {A : Type 0} (checks more : List Check) (r : Result A SpecError) → checks ≡ more → Answers checks r → Answers more r
answers_same checks more r same h = subst (λ (cs : List Check). Answers cs r) same h
