-- A run is read exactly, up to the first line that does not fit.
use Rattle.std.proofs.Common.{◌≡◌, ℕ, ◌^◌, ◌<◌, List, [], ◌∷◌, ◌++◌, length, map, refl, sym, ap, ◌∙◌, arith}
use Rattle.std.specs.Prelude.{Ok, Err, ◌↔◌, codes}
use Rattle.std.specs.List.{flat_map}
use Rattle.std.specs.Fmt.{decimal}
use Rattle.std.proofs.lemmas.Grind.{flat_map-append}
use Rattle.ras_system.specs.declared.choice.Choice.{Choice}
use Rattle.ras_steps.specs.declared.run.Run.{Run}
use Rattle.ras_runs.specs.declared.step_line.StepLine.{StepLine}
use Rattle.ras_lines.specs.Lines.{spaced, counted, count_line, numbers_line, section, AreWritten}
use Rattle.ras_lines.specs.Trees.{IsWrittenNumber}
use Rattle.ras_lines.specs.Faults.{IsMisfit}
use Rattle.ras_lines.specs.Fronts.{chain, IsExact}
use Rattle.ras_lines.specs.Numbers.{number, small_number, announced}
use Rattle.ras_lines.specs.Sections as lines
use Rattle.ras_lines.proofs.Exact.{EndsWord, no_digit, number_exact, small_sound, small_again, announced_text, announced_exact, chain_reads, said_otherwise, fixed_first}
use Rattle.ras_lines.proofs.FormulaLaws.{spaced-counted}
use Rattle.ras_lines.proofs.SectionLaws.{IsExactText, line_exact, chain_exact, section_exact, each_line, numbers_line_exact, numbers_section_exact, text_otherwise, IsFront, front_fault, misfit_otherwise}
use Rattle.ras_lines.proofs.Leading.{made_exact}
use Rattle.ras_runs.specs.DatabaseTexts.{AreWrittenNumbers}
use Rattle.ras_runs.specs.RunTexts.{rows_lines, step_line, run_lines, IsWrittenChoice, IsWrittenRun, IsRunFront, BeginsWithRun}
use Rattle.ras_runs.specs.Reading as first
use Rattle.ras_runs.proofs.DatabaseLaws.{none_written}

-- Steps.

small_exact : IsExact EndsWord decimal (λ n. n < 2 ^ 16) small_number
small_exact = record { sound = λ bytes n rest e. small_sound bytes rest n e; again = λ n rest lt ends. small_again n rest lt (no_digit rest ends) }

numbers_exact : IsExact EndsWord (announced_text decimal) AreWrittenNumbers (announced number)
numbers_exact = announced_exact decimal IsWrittenNumber number number_exact

abbrev chosen_text : first.Chosen → List ℕ
chosen_text p = announced_text decimal p.0 ++ announced_text decimal p.1

abbrev ChosenValid : first.Chosen → Type 0
ChosenValid p = AreWrittenNumbers p.0 × AreWrittenNumbers p.1

chosen_exact : IsExact EndsWord chosen_text ChosenValid first.chosen
chosen_exact =
    chain_reads (λ (rows values : List ℕ). (rows, values)) (λ p. p.0) (λ p. p.1) (λ a b. refl) (λ a b. refl) (λ p. refl) EndsWord EndsWord (announced_text decimal) AreWrittenNumbers (announced number) numbers_exact
    (announced_text decimal) AreWrittenNumbers (announced number) numbers_exact (λ y rest ends. refl)

abbrev chosen_of : StepLine → first.Chosen
chosen_of s = (s.choice.rows, s.choice.values)

abbrev number_of : StepLine → ℕ
number_of s = s.choice.transition

abbrev words_of : StepLine → List ℕ
words_of s = decimal (number_of s) ++ chosen_text (chosen_of s)

abbrev WordsValid : StepLine → Type 0
WordsValid s = (number_of s < 2 ^ 16) × ChosenValid (chosen_of s)

abbrev line_of : StepLine → List ℕ
line_of s = step_line s.choice

abbrev IsWrittenStep : StepLine → Type 0
IsWrittenStep s = IsWrittenChoice s.choice

step_text : (s : StepLine) → codes "step " ++ words_of s ≡ line_of s
step_text s =
    let c = s.choice in
    ap (λ (w : List ℕ). codes "step " ++ (decimal c.transition ++ w))
    (ap (λ (w : List ℕ). w ++ announced_text decimal c.values) (sym (spaced-counted decimal c.rows)) ∙ ap (λ (w : List ℕ). spaced (counted (map decimal c.rows)) ++ w) (sym (spaced-counted decimal c.values))
    ∙ sym (flat_map-append (λ (w : List ℕ). 32 ∷ w) (counted (map decimal c.rows)) (counted (map decimal c.values))))

step_line_exact : IsExact EndsWord line_of IsWrittenStep first.step_line
step_line_exact =
    said_otherwise EndsWord (λ s. codes "step " ++ words_of s) line_of WordsValid IsWrittenStep first.step_line step_text
    (λ s v. record { transition = v.0; rows = v.1.0; values = v.1.1 }) (λ s w. (w.transition, (w.rows, w.values)))
    (fixed_first (codes "step ") EndsWord words_of WordsValid (chain first.step_of small_number first.chosen)
    (chain_reads first.step_of number_of chosen_of (λ n p. refl) (λ n p. refl) (λ s. refl) EndsWord EndsWord decimal (λ n. n < 2 ^ 16) small_number small_exact chosen_text ChosenValid first.chosen chosen_exact
    (λ y rest ends. refl)))

abbrev no_choice : Choice
no_choice = record { transition = 0; rows = []; values = [] }

none_chosen : IsWrittenChoice no_choice
none_chosen = record { transition = omega arith; rows = none_written _; values = none_written _ }

step_exact : IsExactText (λ c. step_line c ∷ []) IsWrittenChoice first.step
step_exact =
    made_exact first.choice_of (λ s. line_of s ∷ []) IsWrittenStep (lines.at_line first.step_line) (line_exact line_of IsWrittenStep first.step_line step_line_exact (record { choice = no_choice }) none_chosen)
    (λ c. step_line c ∷ []) IsWrittenChoice (λ s. refl) (λ s v. v) (λ c w. (record { choice = c }, (refl, w)))

steps_exact : IsExactText (section (codes "steps") step_line) (AreWritten IsWrittenChoice) (lines.section (codes "steps") first.step)
steps_exact =
    text_otherwise (λ cs. count_line (codes "steps") (length cs) ∷ flat_map (λ c. step_line c ∷ []) cs) (section (codes "steps") step_line) (AreWritten IsWrittenChoice) (AreWritten IsWrittenChoice)
    (lines.section (codes "steps") first.step) (λ cs. ap (λ (ls : List (List ℕ)). count_line (codes "steps") (length cs) ∷ ls) (each_line step_line cs)) (λ cs v. v) (λ cs v. v)
    (section_exact (codes "steps") (λ c. step_line c ∷ []) IsWrittenChoice first.step step_exact no_choice none_chosen)

-- The rows of the relations.

abbrev RelationsValid : List (List (List ℕ)) → Type 0
RelationsValid relations = AreWritten (AreWritten AreWrittenNumbers) relations

abbrev relations_text : List (List (List ℕ)) → List (List ℕ)
relations_text relations = count_line (codes "relations") (length relations) ∷ flat_map rows_lines relations

relations_exact : IsExactText relations_text RelationsValid (lines.section (codes "relations") first.rows)
relations_exact = section_exact (codes "relations") rows_lines (AreWritten AreWrittenNumbers) first.rows (numbers_section_exact (codes "rows") (codes "row")) [] (none_written _)

-- From the back to the front.

abbrev relations_lines : first.Relations → List (List ℕ)
relations_lines p = relations_text p.0 ++ section (codes "steps") step_line p.1

abbrev BehindVariables : first.Relations → Type 0
BehindVariables p = RelationsValid p.0 × AreWritten IsWrittenChoice p.1

behind_exact : IsExactText relations_lines BehindVariables first.from_relations
behind_exact =
    chain_exact (λ (rs : List (List (List ℕ))) (cs : List Choice). (rs, cs)) (λ p. p.0) (λ p. p.1) (λ a b. refl) (λ a b. refl) (λ p. refl) relations_text RelationsValid (lines.section (codes "relations") first.rows)
    relations_exact (section (codes "steps") step_line) (AreWritten IsWrittenChoice) (lines.section (codes "steps") first.step) steps_exact [] (none_written _)

abbrev behind_variables : Run → first.Relations
behind_variables r = (r.start.relations, r.choices)

abbrev run_text : Run → List (List ℕ)
run_text r = (numbers_line (codes "vars") r.start.vars ∷ []) ++ relations_lines (behind_variables r)

abbrev RunValid : Run → Type 0
RunValid r = AreWrittenNumbers r.start.vars × BehindVariables (behind_variables r)

pub run_exact : IsExactText run_lines IsWrittenRun first.run
run_exact =
    text_otherwise run_text run_lines RunValid IsWrittenRun first.run (λ r. refl) (λ r v. record { vars = v.0; relations = v.1.0; choices = v.1.1 }) (λ r w. (w.vars, (w.relations, w.choices)))
    (chain_exact first.run_of (λ r. r.start.vars) behind_variables (λ vs p. refl) (λ vs p. refl) (λ r. refl) (λ ns. numbers_line (codes "vars") ns ∷ []) AreWrittenNumbers
    (lines.at_line (lines.numbers (codes "vars"))) (numbers_line_exact (codes "vars")) relations_lines BehindVariables first.from_relations behind_exact ([], []) (none_written _, none_written _))

-- What is read.

pub run_found : (lines behind : List (List ℕ)) (r : Run) → (first.run lines ≡ Ok (r, behind)) ↔ IsRunFront lines r behind
run_found lines behind r = (run_exact.reads.sound lines r behind, λ f. ap first.run f.0 ∙ run_exact.reads.again r behind f.1 tt)

to_front : (ls : List (List ℕ)) → IsFront run_lines IsWrittenRun first.run run_exact ls → BeginsWithRun ls
to_front ls t = (t.0, t.1.0, (t.1.1, t.1.2))

from_front : (ls : List (List ℕ)) → BeginsWithRun ls → IsFront run_lines IsWrittenRun first.run run_exact ls
from_front ls t = (t.0, (t.1, t.2.0, t.2.1))

pub run_misfit : (lines left : List (List ℕ)) → first.run lines ≡ Err left → IsMisfit BeginsWithRun lines left
run_misfit lines left e =
    misfit_otherwise (IsFront run_lines IsWrittenRun first.run run_exact) BeginsWithRun to_front from_front lines left (front_fault run_lines IsWrittenRun first.run run_exact lines left e)
