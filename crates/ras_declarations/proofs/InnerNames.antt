-- A name that is judged among some names first, and then among more.
use Rattle.std.proofs.Common.{◌≡◌, ℕ, Bool, true, false, ◌||◌, List, [], ◌∷◌, ◌++◌, refl, sym, ap, subst}
use Rattle.std.specs.Prelude.{nat_le, Some, None}
use Rattle.ras_syntax.specs.Grammar.{Text}
use Rattle.ras_names.specs.declared.spec_fault.SpecKind.TheVariants.{TooMany, DuplicateName}
use Rattle.ras_names.specs.Placed.{Name}
use Rattle.ras_names.specs.Checks.{Check, check, first_of, is_among, declared_checks}
use Rattle.ras_names.proofs.Passing.{Passes}
use Rattle.ras_scope.specs.declared.fault.SpecError.{SpecError}
use Rattle.ras_scope.specs.declared.fault.SpecError.TheVariants.{Fault, Memory}
use Rattle.ras_scope.specs.Answering.{Faults}
use Rattle.ras_scope.proofs.Places.{among_append}

module _ (limit n : ℕ) (names more : List Text) (name : Name) where
  abbrev behind : Bool → Bool → List Check
  behind l b = check name.at TooMany l ∷ check name.at DuplicateName b ∷ []

  behind_same : behind (nat_le limit n) (is_among names name.text || is_among more name.text) ≡ declared_checks limit n (names ++ more) name
  behind_same = ap (behind (nat_le limit n)) (sym (among_append names more name.text))

  pub behind_fails : (e : SpecError) → Faults (declared_checks limit n names name) e → Faults (declared_checks limit n (names ++ more) name) e
  behind_fails (Memory m) h = tt
  behind_fails (Fault f) h = subst (λ (cs : List Check). first_of cs ≡ Some f) behind_same (go (nat_le limit n) (is_among names name.text) h)
    where
      go : (l b : Bool) → first_of (behind l b) ≡ Some f → first_of (behind l (b || is_among more name.text)) ≡ Some f
      go true b k = k
      go false true k = k
      go false false k = absurd (cc)

  pub behind_repeats : Passes (declared_checks limit n names name) → is_among more name.text ≡ true → Faults (declared_checks limit n (names ++ more) name) (Fault (record { at = name.at; kind = DuplicateName }))
  behind_repeats pass h =
      subst (λ (cs : List Check). first_of cs ≡ Some (record { at = name.at; kind = DuplicateName })) behind_same (go (nat_le limit n) (is_among names name.text) (is_among more name.text) pass h)
    where
      go : (l b m : Bool) → first_of (behind l b) ≡ None → m ≡ true → first_of (behind l (b || m)) ≡ Some (record { at = name.at; kind = DuplicateName })
      go true b m k i = absurd (cc)
      go false true m k i = absurd (cc)
      go false false m k i = rw i refl

  pub behind_new : Passes (declared_checks limit n names name) → is_among more name.text ≡ false → Passes (declared_checks limit n (names ++ more) name)
  behind_new pass h = subst Passes behind_same (go (nat_le limit n) (is_among names name.text) (is_among more name.text) pass h)
    where
      go : (l b m : Bool) → first_of (behind l b) ≡ None → m ≡ false → first_of (behind l (b || m)) ≡ None
      go true b m k i = absurd (cc)
      go false true m k i = absurd (cc)
      go false false m k i = rw i refl
