use Rattle.std.proofs.Common.{◌≡◌, None, sym, ◌∙◌}
use Rattle.std.specs.Prelude.{Some}
use Rattle.ras_system.specs.declared.system_fault.SystemFault.{SystemFault}
use Rattle.ras_system.specs.Systems.{SystemParts}
use Rattle.ras_system.specs.SystemFaults.{first_fault}
use Rattle.ras_system.proofs.NoFaults.{no_fault_of_system}
use Rattle.ras_elab.proofs.NoFault.{is_ok}
use Rattle.ras_elab.proofs.elaborating.new_system.Goals as goal

none_some : (f : SystemFault) → None ≡ Some f → ⊥
none_some f h = absurd (cc)

pub unwrap-requires : goal.unwrap-requires
unwrap-requires c =
    let parts : SystemParts = record { shape = c.args.shape; initial = c.args.initial; transitions = c.args.transitions; goals = c.args.goals } in
    is_ok (λ f. first_fault parts ≡ Some f) c.new.result (λ f h. none_some f (sym (no_fault_of_system parts c.requires.system c.requires.limits) ∙ h)) c.new.ensures.fault
