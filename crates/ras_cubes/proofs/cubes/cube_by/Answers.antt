use Rattle.std.proofs.Common.{◌≡◌, ℕ, List, [], sym, ◌∙◌, ap, subst, length, refl}
use Rattle.ras_logic.specs.declared.problem.Problem.{Problem}
use Rattle.ras_cubes.specs.Dues.{AddsDue, IsDueTo, IsTermDue, IsFactDue}
use Rattle.ras_cubes.proofs.Adding.{cube-is_of}
use Rattle.ras_cubes.proofs.cubes.cube_by.Goals as goal

pub returns : goal.returns
returns c =
    let p : Problem = record { rows = c.in_ok-rows.rows; params = c.new-params.result; literals = c.add_facts.new.literals } in
    let rows : p.rows ≡ c.args.closure.now.table.problem.rows = c.in_ok-rows.ensures ∙ ap (λ (q : Problem). q.rows) (sym c.requires.problem) in
    let first : AddsDue (IsDueTo (IsTermDue c.args.closure.now c.args.terms.now) (length c.args.closure.now.table.terms)) [] c.add_terms.new.literals = rw (← c.new-literals.ensures) c.in_ok-add_terms.ensures in
    let third : AddsDue (IsDueTo (IsFactDue c.args.closure.now c.args.terms.now) (length c.args.closure.now.table.problem.literals)) c.add_images.new.literals c.add_facts.new.literals =
    subst (λ (q : Problem). AddsDue (IsDueTo (IsFactDue c.args.closure.now c.args.terms.now) (length q.literals)) c.add_images.new.literals c.add_facts.new.literals) (sym c.requires.problem) c.in_ok-add_facts.ensures in
    cube-is_of c.args.closure.now c.known.ensures.table c.args.terms.now c.add_terms.new.literals c.add_images.new.literals c.add_facts.new.literals p rows c.new-params.ensures refl first
    c.in_ok-add_images.ensures third
