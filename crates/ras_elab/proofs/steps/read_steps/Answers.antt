use Rattle.std.proofs.Common.{◌≡◌, ◌∷◌, ◌++◌, [], ℕ, ◌+◌, ◌<◌, List, length, map, take, refl, sym, ◌∙◌, ap, subst, arith, append-nil}
use Rattle.std.proofs.lemmas.List.{take_all}
use Rattle.ras_syntax.specs.declared.tree.Step.{Step}
use Rattle.ras_syntax.specs.Grammar.{Text}
use Rattle.ras_names.specs.declared.names.StepNames.{StepNames}
use Rattle.ras_names.specs.Placed as placed
use Rattle.ras_names.specs.Unplaced.{step_of}
use Rattle.ras_names.specs.FileNames.{names_of_step}
use Rattle.ras_names.specs.Checks.{Check, for_each, declared_checks}
use Rattle.ras_names.specs.StepChecks.{inside_checks}
use Rattle.ras_names.specs.FileChecks.{above_steps, above_step, step_checks}
use Rattle.ras_names.proofs.Among.{map-map}
use Rattle.ras_names.proofs.Passing.{Passes}
use Rattle.ras_numbering.specs.FileValues.{step_value}
use Rattle.ras_scope.specs.declared.declared.Declared.{Declared}
use Rattle.ras_scope.specs.Answering.{Faults}
use Rattle.ras_scope.specs.Agreeing.{Agrees}
use Rattle.ras_scope.specs.Placing.{placed_step, placed_file}
use Rattle.ras_scope.proofs.Following.{handed}
use Rattle.ras_declarations.proofs.Turns.{turn_within, turn_item, turns_end, turns_none, turn_passed, turn_failed, turns_passed}
use Rattle.ras_declarations.proofs.NewNames.{keys_more, taken, whole, pushed_as, pushed_behind}
use Rattle.ras_elab.proofs.SharedNames.{agrees_shared}
use Rattle.ras_elab.proofs.steps.read_steps.Goals as goal

abbrev key : placed.Step → Text
key s = s.name.text

abbrev own_names : placed.Step → StepNames
own_names s = names_of_step (step_of s)

-- the checks of a step, by what was read
same_checks : (p : placed.File) (xs : List Step) (i count : ℕ) (shared : List Text) (names : List StepNames) (item : Step) → p.steps ≡ map placed_step xs → i < length xs
    → map key (take (i + 1) (map placed_step xs)) ≡ map key (take i (map placed_step xs)) ++ item.name.text ∷ [] → count ≡ length names
    → names ≡ map own_names (take i (map placed_step xs)) → shared ≡ above_steps p ++ map key (take i (map placed_step xs))
    → declared_checks 256 count shared (placed_step item).name ++ inside_checks p (shared ++ item.name.text ∷ []) (placed_step item) ≡ step_checks p i (placed_step item)
same_checks p xs i count shared names item own lt more n made above =
    let counted : count ≡ i = n ∙ ap length made ∙ taken placed_step own_names xs i (omega (arith, lt)) in
    let now : shared ≡ above_step p i = above ∙ ap (λ (ss : List placed.Step). above_steps p ++ map key (take i ss)) (sym own) in
    let next : shared ++ item.name.text ∷ [] ≡ above_step p (i + 1) =
    pushed_behind _ shared (above_steps p) _ _ item.name.text refl above (sym more) ∙ ap (λ (ss : List placed.Step). above_steps p ++ map key (take (i + 1) ss)) (sym own) in
    λ j. declared_checks 256 (counted j) (now j) (placed_step item).name ++ inside_checks p (next j) (placed_step item)

pub loop-step-init : goal.loop-step-init
loop-step-init c = record {
  agrees = c.requires.agrees;
  transitions = c.new-transitions.ensures;
  names = c.new-names.ensures;
  shared = c.requires.shared ∙ sym (append-nil (above_steps (placed_file c.args.file.now)));
  passed = turns_none (step_checks (placed_file c.args.file.now)) placed_step c.args.file.now.steps.items;
}

pub returns-in_err-read-clause-checks : goal.returns-in_err-read-clause-checks
returns-in_err-read-clause-checks c =
    let p = placed_file c.args.file.now in
    let xs = c.args.file.now.steps.items in
    let i = c.loop-step.step-index in
    let item = c.step-item.result in
    let e = c.in_err-read.field-0.0 in
    let lt = turn_within c.deref-step-items.result.now xs i c.deref-step-items.ensures.value c.loop-step-test.true in
    let is = turn_item c.deref-step-items.result.now xs i item c.deref-step-items.ensures.value c.step-item.is in
    let v = c.loop-step.invariant in
    let same = same_checks p xs i c.len.result c.loop-step.declared.shared c.loop-step.names item refl lt (keys_more placed_step xs i item lt is key) c.len.ensures.count v.names v.shared in
    handed (for_each (step_checks p) (map placed_step xs)) c.from_residual.result e c.from_residual.ensures.1
    (turn_failed (step_checks p) placed_step xs i item e lt is v.passed (subst (λ (cs : List Check). Faults cs e) same (c.in_err-read.ensures.checks p v.agrees)))

pub loop-step-preserved : goal.loop-step-preserved
loop-step-preserved c =
    let p = placed_file c.args.file.now in
    let xs = c.args.file.now.steps.items in
    let i = c.loop-step.step-index in
    let item = c.step-item.result in
    let lt = turn_within c.deref-step-items.result.now xs i c.deref-step-items.ensures.value c.loop-step-test.true in
    let is = turn_item c.deref-step-items.result.now xs i item c.deref-step-items.ensures.value c.step-item.is in
    let v = c.loop-step.invariant in
    let more = keys_more placed_step xs i item lt is key in
    let same = same_checks p xs i c.len.result c.loop-step.declared.shared c.loop-step.names item refl lt more c.len.ensures.count v.names v.shared in
    let changed = c.in_ok-read.ensures.shared in
    record {
      agrees = subst (λ (d : Declared). Agrees p d) (sym changed) (agrees_shared p c.loop-step.declared (c.loop-step.declared.shared ++ item.name.text ∷ []) v.agrees);
      transitions = pushed_as _ _ _ _ _ (step_value p (placed_step item)) c.in_ok-push.ensures.ok (c.in_ok-read.ensures.value p v.agrees) v.transitions (sym (keys_more placed_step xs i item lt is (step_value p)));
      names = pushed_as _ _ _ _ _ (own_names (placed_step item)) c.in_ok-push-2.ensures.ok c.in_ok-read.ensures.names v.names (sym (keys_more placed_step xs i item lt is own_names));
      shared = ap (λ (d : Declared). d.shared) changed ∙ pushed_behind _ c.loop-step.declared.shared (above_steps p) _ _ item.name.text refl v.shared (sym more);
      passed = turn_passed (step_checks p) placed_step xs i item lt is v.passed (subst Passes same (c.in_ok-read.ensures.checks p v.agrees));
    }

pub returns : goal.returns
returns c =
    let p = placed_file c.args.file.now in
    let xs = c.args.file.now.steps.items in
    let i = c.loop-step.step-index in
    let le = turns_end c.deref-step-items.result.now xs i c.deref-step-items.ensures.value c.loop-step-test.false in
    let all : take i (map placed_step xs) ≡ map placed_step xs = whole placed_step xs i le in
    let every : take (length p.steps) p.steps ≡ p.steps = take_all (length p.steps) p.steps (omega arith) in
    let v = c.loop-step.invariant in
    record {
      checks = turns_passed (step_checks p) placed_step xs i le v.passed;
      transitions = v.transitions ∙ ap (map (step_value p)) all;
      names = v.names ∙ ap (map own_names) all ∙ sym (map-map names_of_step step_of p.steps);
      shared = v.shared ∙ ap (λ (ss : List placed.Step). above_steps p ++ map key ss) (all ∙ sym every);
      agrees = v.agrees;
    }
