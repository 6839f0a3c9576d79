-- The checks of an initial constant, in the words of what was read above it.
use Rattle.std.proofs.Common.{◌≡◌, ℕ, Bool, true, false, not, List, refl, sym, ◌∙◌, ap, nat_eq}
use Rattle.std.specs.Prelude.{Option, Some, None}
use Rattle.std.proofs.lemmas.Bool.Decides.{Decides-eqb}
use Rattle.ras_syntax.specs.Grammar.{Text}
use Rattle.ras_logic.specs.declared.ids.SortId.{SortId}
use Rattle.ras_names.specs.declared.spec_fault.SpecKind.TheVariants.{UnknownName, WrongSort}
use Rattle.ras_names.specs.Placed as placed
use Rattle.ras_names.specs.Placed.{Name}
use Rattle.ras_names.specs.Checks.{is_among, texts, declared_texts, declared_of}
use Rattle.ras_names.specs.TermChecks.{agree}
use Rattle.ras_names.specs.FileChecks.{initial_checks}
use Rattle.ras_names.proofs.Passing.{Passes}
use Rattle.ras_numbering.specs.Numbers.{sort_named}
use Rattle.ras_scope.specs.declared.table.Table.{Table}
use Rattle.ras_scope.specs.declared.fault.SpecError.TheVariants.{Fault}
use Rattle.ras_scope.specs.Answering.{Faults}
use Rattle.ras_scope.specs.Finding.{Finds}
use Rattle.ras_scope.specs.Agreeing.{IsSortText}
use Rattle.ras_scope.specs.Sorting.{IsSortOf}
use Rattle.ras_declarations.specs.Declaring.{AreConstants}
use Rattle.ras_scope.proofs.Places.{one_test, same_number}
use Rattle.ras_scope.proofs.SeenNames.{sort_found}

equal_back : (a b : ℕ) → nat_eq a b ≡ nat_eq b a
equal_back a b = one_test (nat_eq a b) (nat_eq b a) (λ h. (Decides-eqb b a).1 (sym ((Decides-eqb a b).0 h))) (λ h. (Decides-eqb a b).1 (sym ((Decides-eqb b a).0 h)))

pub differs : (b : Bool) → not b ≡ true → b ≡ false
differs true h = absurd (cc)
differs false h = refl

-- a sort by its name agrees with another just where the numbers are the same
agree_same : (p : placed.File) (a : Text) (o : Option Text) (own : SortId) → IsSortText p a → IsSortOf p o (Some own) → agree (Some a) o ≡ nat_eq (sort_named p a).n own.n
agree_same p a None own known h = absurd h
agree_same p a (Some t) own known h = same_number (texts p.sorts) a t known h.0 ∙ ap (λ (s : SortId). nat_eq (sort_named p a).n s.n) h.1

module _ (p : placed.File) (of : Name) (constants : Table SortId) (a : AreConstants p constants) (i : placed.Initial) where
  pub initial_unknown : false ≡ is_among constants.names i.constant.text → Faults (initial_checks p of (Some i)) (Fault (record { at = i.constant.at; kind = UnknownName }))
  initial_unknown h =
      let none : is_among (declared_texts p.constants) i.constant.text ≡ false = ap (λ (ts : List Text). is_among ts i.constant.text) (sym a.names) ∙ sym h in rw none refl

  known_constant : (n : ℕ) (own : SortId) → true ≡ is_among constants.names i.constant.text → is_among (declared_texts p.constants) i.constant.text ≡ true
  known_constant n own h = ap (λ (ts : List Text). is_among ts i.constant.text) (sym a.names) ∙ sym h

  agrees_by_number : (n : ℕ) (own sort : SortId) → Finds constants.names constants.values.items i.constant.text (n, own) → IsSortText p of.text → sort ≡ sort_named p of.text
      → agree (Some of.text) (declared_of p.constants i.constant.text) ≡ nat_eq own.n sort.n
  agrees_by_number n own sort found known same =
      let sorted = sort_found p p.constants constants.names constants.values.items i.constant.text n own a.names a.values a.sort_texts found in
      agree_same p of.text (declared_of p.constants i.constant.text) own known sorted ∙ ap (λ (s : SortId). nat_eq s.n own.n) (sym same) ∙ equal_back sort.n own.n

  pub initial_wrong : (n : ℕ) (own sort : SortId) → true ≡ is_among constants.names i.constant.text → Finds constants.names constants.values.items i.constant.text (n, own) → IsSortText p of.text → sort ≡ sort_named p of.text
      → nat_eq own.n sort.n ≡ false → Faults (initial_checks p of (Some i)) (Fault (record { at = i.at; kind = WrongSort }))
  initial_wrong n own sort known_name found known same differ =
      let one : is_among (declared_texts p.constants) i.constant.text ≡ true = known_constant n own known_name in
      let two : agree (Some of.text) (declared_of p.constants i.constant.text) ≡ false = agrees_by_number n own sort found known same ∙ differ in
      rw (one, two) refl

  pub initial_right : (n : ℕ) (own sort : SortId) → true ≡ is_among constants.names i.constant.text → Finds constants.names constants.values.items i.constant.text (n, own) → IsSortText p of.text → sort ≡ sort_named p of.text
      → nat_eq own.n sort.n ≡ true → Passes (initial_checks p of (Some i))
  initial_right n own sort known_name found known same equal =
      let one : is_among (declared_texts p.constants) i.constant.text ≡ true = known_constant n own known_name in
      let two : agree (Some of.text) (declared_of p.constants i.constant.text) ≡ true = agrees_by_number n own sort found known same ∙ equal in
      rw (one, two) refl
