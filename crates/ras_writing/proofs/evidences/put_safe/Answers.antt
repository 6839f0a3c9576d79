use Rattle.std.proofs.Common.{◌≡◌, List, ◌++◌, ap, ◌∙◌, codes}
use Rattle.ras_logic.specs.declared.problem.Problem.{Problem}
use Rattle.ras_logic.specs.declared.tree.Tree.{Tree}
use Rattle.ras_text.specs.Pieces.{end_of_line}
use Rattle.ras_writing.specs.Pieces as piece
use Rattle.ras_text.proofs.Behind.{on_ok}
use Rattle.ras_writing.proofs.PieceLaws.{four}
use Rattle.ras_writing.proofs.evidences.put_safe.Goals as goal

pub returns : goal.returns
returns c =
    let formulas : c.put_section.new.out.items ≡ c.put.new.out.items ++ piece.section (codes "formulas") piece.cube c.args.formulas.now =
    c.in_ok-put_section.ensures ∙ ap (λ (ps : List Problem). c.put.new.out.items ++ piece.section (codes "formulas") piece.cube ps) c.as_slice.ensures.items in
    let trees : c.put_section-2.new.out.items ≡ c.put_section.new.out.items ++ piece.section (codes "trees") piece.tree c.args.trees.now =
    c.in_ok-put_section-2.ensures ∙ ap (λ (ts : List Tree). c.put_section.new.out.items ++ piece.section (codes "trees") piece.tree ts) c.as_slice-2.ensures.items in
    on_ok c.put-2.result (c.put-2.new.out.items ≡ c.put_section-2.new.out.items ++ piece.last_line) (c.put-2.new.out.items ≡ c.args.out.now.items ++ piece.safe c.args.formulas.now c.args.trees.now)
    (λ last. four c.args.out.now.items c.put.new.out.items c.put_section.new.out.items c.put_section-2.new.out.items c.put-2.new.out.items (codes "evidence 1 safe" ++ end_of_line)
    (piece.section (codes "formulas") piece.cube c.args.formulas.now) (piece.section (codes "trees") piece.tree c.args.trees.now) piece.last_line c.in_ok-put.ensures formulas trees last) c.put-2.ensures
