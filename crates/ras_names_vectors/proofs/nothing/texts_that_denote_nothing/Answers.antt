use Rattle.std.proofs.Common.{refl}
use Rattle.ras_names.specs.declared.spec_fault.SpecKind.TheVariants.{DuplicateName, WrongSort, Cycle, RepeatedTarget}
use Rattle.ras_names_vectors.specs.Words.{fault}
use Rattle.ras_names_vectors.specs.Wrong.{sort_twice, cycle_of_two, undef_on_both_sides, variable_twice}
use Rattle.ras_names_vectors.proofs.nothing.texts_that_denote_nothing.Goals as goal

pub returns-clause-duplicate : goal.returns-clause-duplicate
returns-clause-duplicate c = c.a_file_with_a_fault_denotes_nothing.ensures sort_twice (fault 23 DuplicateName) refl

pub returns-clause-cycle : goal.returns-clause-cycle
returns-clause-cycle c = c.a_file_with_a_fault_denotes_nothing.ensures cycle_of_two (fault 50 (Cycle (record { n = 1 }))) refl

pub returns-clause-undef : goal.returns-clause-undef
returns-clause-undef c = c.a_file_with_a_fault_denotes_nothing.ensures undef_on_both_sides (fault 30 WrongSort) refl

pub returns-clause-target : goal.returns-clause-target
returns-clause-target c = c.a_file_with_a_fault_denotes_nothing.ensures variable_twice (fault 58 RepeatedTarget) refl
