-- How an evidence of safety is read behind its first line.
use Rattle.std.specs.Prelude.{ℕ, List, codes}
use Rattle.ras_lines.specs.Fronts.{Front, chain}
use Rattle.ras_lines.specs.Numbers.{fixed}
use Rattle.ras_lines.specs.Formulas.{cube}
use Rattle.ras_lines.specs.Nodes.{tree}
use Rattle.ras_lines.specs.Sections as first
use Rattle.ras_evidence.specs.declared.safe.SafeEvidence.{SafeEvidence}

-- a value, and the line `end`
abbrev pub to_end : {X : Type 0} → (List (List ℕ) → Front (List ℕ) X) → List (List ℕ) → Front (List ℕ) X
to_end f lines = chain (λ x _. x) f (first.at_line (fixed (codes "end"))) lines

-- what stands behind the first line
abbrev pub safe_parts : List (List ℕ) → Front (List ℕ) SafeEvidence
safe_parts lines =
    to_end (chain (λ fs ts. record { formulas = fs; trees = ts }) (first.section (codes "formulas") (first.at_line cube)) (first.section (codes "trees") (first.at_line tree))) lines
