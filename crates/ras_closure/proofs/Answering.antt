-- What an assertion's answer says.
use Rattle.std.proofs.Common.{◌≡◌, refl, sym}
use Rattle.std.specs.Prelude.{Some, None, Result, Ok, Err, IsErr, OnOk, IfErr, ◌↔◌}
use Rattle.ras_closure.specs.declared.clash.Clash.{Clash}
use Rattle.ras_closure.specs.Numbered.{IsTable}
use Rattle.ras_closure.specs.Closures.{ClosureParts, IsClosure, HasNoModel, FactsClashIn, NamesConflict}
use Rattle.ras_closure.proofs.Laws.{clash-conflict, clash-facts, facts-no_model}
use Rattle.ras_closure.proofs.Existence.{not_without}
use Rattle.ras_closure.proofs.Cases.{true_false}

module _ (c : ClosureParts) (table : IsTable c.table) (closure : IsClosure c) where
  pub err-no_model : {T : Type 0} (r : Result T Clash) → OnOk r (c.clash ≡ None) → IfErr r (λ q. c.clash ≡ Some q) → IsErr r ↔ HasNoModel c
  err-no_model (Ok x) ok err = (λ h. absurd (true_false (sym h)), λ h. absurd (not_without c table closure ok h))
  err-no_model (Err q) ok err = (λ h. facts-no_model c table closure (clash-facts c table closure q err), λ h. refl)

  pub err-facts_clash : {T : Type 0} (r : Result T Clash) → OnOk r (c.clash ≡ None) → IfErr r (λ q. c.clash ≡ Some q) → IsErr r ↔ FactsClashIn c
  err-facts_clash (Ok x) ok err = (λ h. absurd (true_false (sym h)), λ h. absurd (not_without c table closure ok (facts-no_model c table closure h)))
  err-facts_clash (Err q) ok err = (λ h. clash-facts c table closure q err, λ h. refl)

  pub err-conflict : {T : Type 0} (r : Result T Clash) → IfErr r (λ q. c.clash ≡ Some q) → IfErr r (NamesConflict c)
  err-conflict (Ok x) err = err
  err-conflict (Err q) err = clash-conflict c table closure q err
