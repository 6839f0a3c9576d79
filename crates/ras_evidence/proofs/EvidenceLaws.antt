-- An evidence of safety is read exactly, up to the first line that does not fit.
use Rattle.std.proofs.Common.{◌≡◌, ℕ, ◌^◌, ◌<◌, List, [], ◌∷◌, ◌++◌, refl, sym, ap, arith, append-nil}
use Rattle.std.specs.Prelude.{Ok, codes}
use Rattle.std.specs.Fmt.{decimal}
use Rattle.ras_logic.specs.declared.problem.Problem.{Problem}
use Rattle.ras_logic.specs.declared.tree.Node.TheVariants.{Leaf}
use Rattle.ras_logic.specs.declared.tree.Tree.{Tree}
use Rattle.ras_lines.specs.Lines.{section, AreWritten}
use Rattle.ras_lines.specs.Words.{cube_line, IsSmallCube}
use Rattle.ras_lines.specs.Trees.{tree_line, IsWrittenTree}
use Rattle.ras_lines.specs.Fronts.{Front, chain, IsExact}
use Rattle.ras_lines.specs.Numbers.{behind, fixed, number, behind_blank}
use Rattle.ras_lines.specs.Formulas.{cube}
use Rattle.ras_lines.specs.Nodes.{tree}
use Rattle.ras_lines.specs.Sections as lines
use Rattle.ras_lines.proofs.Behind.{behind_sound}
use Rattle.ras_lines.proofs.Exact.{moved, either_case, EndsWord, number_exact, blank_word, blank_exact, chain_reads, said_otherwise, fixed_first}
use Rattle.ras_lines.proofs.FormulaLaws.{cube_exact}
use Rattle.ras_lines.proofs.NodeLaws.{tree_exact}
use Rattle.ras_lines.proofs.SectionLaws.{IsExactText, chain_exact, fixed_line, section_lines, text_otherwise}
use Rattle.ras_evidence.specs.declared.header.Verdict.{Verdict}
use Rattle.ras_evidence.specs.declared.header.Verdict.TheVariants.{Safe, Unsafe, Unknown}
use Rattle.ras_evidence.specs.declared.header.Header.{Header}
use Rattle.ras_evidence.specs.declared.safe.SafeEvidence.{SafeEvidence}
use Rattle.ras_evidence.specs.Headers as headers
use Rattle.ras_evidence.specs.Headers.{verdict_word, header_line, IsWrittenHeader}
use Rattle.ras_evidence.specs.SafeReading.{to_end, safe_parts}

-- The first line.

verdict_sound : (bytes : List ℕ) (v : Verdict) (rest : List ℕ) → headers.verdict bytes ≡ Ok (v, rest) → (bytes ≡ verdict_word v ++ rest) × Unit {0}
verdict_sound bytes v rest =
    let P : Front ℕ Verdict → Type 0 = λ o. o ≡ Ok (v, rest) → (bytes ≡ verdict_word v ++ rest) × Unit {0} in
    either_case (behind (codes "safe") bytes) _ _ P
    (λ r is e. moved verdict_word (λ _. Unit {0}) bytes Safe v r rest e (behind_sound (codes "safe") bytes r is) tt)
    (either_case (behind (codes "unsafe") bytes) _ _ P
    (λ r is e. moved verdict_word (λ _. Unit {0}) bytes Unsafe v r rest e (behind_sound (codes "unsafe") bytes r is) tt)
    (either_case (behind (codes "unknown") bytes) _ _ P
    (λ r is e. moved verdict_word (λ _. Unit {0}) bytes Unknown v r rest e (behind_sound (codes "unknown") bytes r is) tt)
    (λ e. absurd cc)))

verdict_again : (v : Verdict) (rest : List ℕ) → headers.verdict (verdict_word v ++ rest) ≡ Ok (v, rest)
verdict_again Safe rest = refl
verdict_again Unsafe rest = refl
verdict_again Unknown rest = refl

pub verdict_exact : IsExact EndsWord verdict_word (λ _. Unit {0}) headers.verdict
verdict_exact = record { sound = verdict_sound; again = λ v rest valid ends. verdict_again v rest }

abbrev make_header : ℕ → Verdict → Header
make_header v k = record { version = v; verdict = k }

header_text : (h : Header) → codes "evidence" ++ (blank_word decimal h.version ++ blank_word verdict_word h.verdict) ≡ header_line h
header_text h = ap (λ (w : List ℕ). codes "evidence" ++ (blank_word decimal h.version ++ w)) (sym (append-nil (blank_word verdict_word h.verdict)))

pub header_exact : IsExact EndsWord header_line IsWrittenHeader headers.header
header_exact =
    said_otherwise EndsWord (λ h. codes "evidence" ++ (blank_word decimal h.version ++ blank_word verdict_word h.verdict)) header_line (λ h. IsWrittenHeader h × Unit {0}) IsWrittenHeader headers.header
    header_text (λ h v. v.0) (λ h v. (v, tt))
    (fixed_first (codes "evidence") EndsWord (λ h. blank_word decimal h.version ++ blank_word verdict_word h.verdict) (λ h. IsWrittenHeader h × Unit {0}) (chain make_header (behind_blank number) (behind_blank headers.verdict))
    (chain_reads make_header (λ h. h.version) (λ h. h.verdict) (λ v k. refl) (λ v k. refl) (λ h. refl) EndsWord EndsWord (blank_word decimal) (λ n. n < 2 ^ 32) (behind_blank number)
    (blank_exact decimal (λ n. n < 2 ^ 32) number number_exact) (blank_word verdict_word) (λ _. Unit {0}) (behind_blank headers.verdict) (blank_exact verdict_word (λ _. Unit {0}) headers.verdict verdict_exact)
    (λ y rest ends. refl)))

-- The text.

small_number : 0 < 2 ^ 32
small_number = omega arith

pub empty_cube : IsSmallCube (record { rows = []; params = []; literals = [] })
empty_cube = record { params = refl; rows = record { count = small_number; each = tt }; literals = record { count = small_number; each = tt } }

leaf_tree : IsWrittenTree (record { nodes = Leaf ∷ [] })
leaf_tree = record { whole = tt; small = (tt, tt) }

formulas_exact : IsExactText (section (codes "formulas") cube_line) (AreWritten IsSmallCube) (lines.section (codes "formulas") (lines.at_line cube))
formulas_exact = section_lines (codes "formulas") cube_line IsSmallCube cube cube_exact (record { rows = []; params = []; literals = [] }) empty_cube

trees_exact : IsExactText (section (codes "trees") tree_line) (AreWritten IsWrittenTree) (lines.section (codes "trees") (lines.at_line tree))
trees_exact = section_lines (codes "trees") tree_line IsWrittenTree tree tree_exact (record { nodes = Leaf ∷ [] }) leaf_tree

abbrev make_safe : List Problem → List Tree → SafeEvidence
make_safe formulas trees = record { formulas = formulas; trees = trees }

abbrev pub parts_text : SafeEvidence → List (List ℕ)
parts_text s = section (codes "formulas") cube_line s.formulas ++ section (codes "trees") tree_line s.trees

abbrev pub IsWrittenSafe : SafeEvidence → Type 0
IsWrittenSafe s = AreWritten IsSmallCube s.formulas × AreWritten IsWrittenTree s.trees

none_written : {X : Type 0} (Valid : X → Type 0) → AreWritten Valid []
none_written Valid = record { count = omega arith; each = tt }

parts_exact : IsExactText parts_text IsWrittenSafe (chain make_safe (lines.section (codes "formulas") (lines.at_line cube)) (lines.section (codes "trees") (lines.at_line tree)))
parts_exact =
    chain_exact make_safe (λ s. s.formulas) (λ s. s.trees) (λ f t. refl) (λ f t. refl) (λ s. refl) (section (codes "formulas") cube_line) (AreWritten IsSmallCube) (lines.section (codes "formulas") (lines.at_line cube))
    formulas_exact (section (codes "trees") tree_line) (AreWritten IsWrittenTree) (lines.section (codes "trees") (lines.at_line tree)) trees_exact [] (none_written IsWrittenTree)

-- what stands before `end`
pub ended_exact : {X : Type 0} (text : X → List (List ℕ)) (V : X → Type 0) (f : List (List ℕ) → Front (List ℕ) X) → IsExactText text V f → IsExactText (λ x. text x ++ codes "end" ∷ []) V (to_end f)
ended_exact {X} text V f exact =
    text_otherwise (λ x. text x ++ codes "end" ∷ []) (λ x. text x ++ codes "end" ∷ []) (λ x. V x × Unit {0}) V (to_end f) (λ x. refl) (λ x v. v.0) (λ x v. (v, tt))
    (chain_exact (λ x _. x) (λ x. x) (λ x. tt) (λ x u. refl) (λ x u. refl) (λ x. refl) text V f exact (λ _. codes "end" ∷ []) (λ _. Unit {0}) (lines.at_line (fixed (codes "end"))) (fixed_line (codes "end")) tt tt)

pub safe_parts_exact : IsExactText (λ s. parts_text s ++ codes "end" ∷ []) IsWrittenSafe safe_parts
safe_parts_exact = ended_exact parts_text IsWrittenSafe (chain make_safe (lines.section (codes "formulas") (lines.at_line cube)) (lines.section (codes "trees") (lines.at_line tree))) parts_exact
