-- The first line of an evidence, and what stands behind the last.
use Rattle.std.proofs.Common.{◌≡◌, ℕ, ◌<◌, ◌≤◌, List, [], ◌∷◌, length, sym, ap, ◌∙◌, refl, arith}
use Rattle.std.specs.Prelude.{Ok, Err}
use Rattle.ras_lines.specs.Fronts.{Front}
use Rattle.ras_lines.specs.Sections.{at_line, nothing}
use Rattle.ras_lines.proofs.SectionLaws.{IsExactText, line_exact}
use Rattle.ras_evidence.specs.declared.header.Verdict.TheVariants.{Safe}
use Rattle.ras_evidence.specs.declared.header.Header.{Header}
use Rattle.ras_evidence.specs.Headers.{header, header_line, IsWrittenHeader}
use Rattle.ras_evidence.specs.EvidenceFaults.{IsHeaderOf}
use Rattle.ras_evidence.proofs.EvidenceLaws.{header_exact}

first_line : IsExactText (λ h. header_line h ∷ []) IsWrittenHeader (at_line header)
first_line = line_exact header_line IsWrittenHeader header header_exact (record { version = 1; verdict = Safe }) (omega arith)

pub header_found : (lines rest : List (List ℕ)) (h : Header) → at_line header lines ≡ Ok (h, rest) → IsHeaderOf lines h
header_found lines rest h e = let s = first_line.reads.sound lines h rest e in (rest, s.0, s.1)

pub read_again : (lines : List (List ℕ)) (h : Header) (is : IsHeaderOf lines h) → at_line header lines ≡ Ok (h, is.0)
read_again lines h is = ap (at_line header) is.1 ∙ first_line.reads.again h is.0 is.2 tt

pub never_both : (o : Front (List ℕ) Header) (left : List (List ℕ)) (h : Header) (rest : List (List ℕ)) → o ≡ Err left → o ≡ Ok (h, rest) → ⊥
never_both o left h rest e f = cc

-- what is read of a list is one
pub same_read : {T X : Type 0} (x y : X) (a b : List T) → ◌≡◌ {A = Front T X} (Ok (x, a)) (Ok (y, b)) → (x ≡ y) × (a ≡ b)
same_read {T} {X} x y a b e = (ap (λ (o : Front T X). elim o [ Ok p ↦ p.0 | Err l ↦ x ]) e, ap (λ (o : Front T X). elim o [ Ok p ↦ p.1 | Err l ↦ a ]) e)

pub one_header : (lines : List (List ℕ)) (g h : Header) → IsHeaderOf lines g → IsHeaderOf lines h → g ≡ h
one_header lines g h a b = (same_read g h a.0 b.0 (sym (read_again lines g a) ∙ read_again lines h b)).0

pub nothing_left : {X : Type 0} (x : X) (lines : List (List ℕ)) → length lines ≤ 0 → nothing x lines ≡ Ok (x, lines)
nothing_left x [] le = refl
nothing_left x (l ∷ lines) le = absurd (omega (arith, le))

pub something_left : {X : Type 0} (x : X) (lines : List (List ℕ)) → 0 < length lines → nothing x lines ≡ Err lines
something_left x [] lt = absurd (omega (arith, lt))
something_left x (l ∷ lines) lt = refl

pub ruleset nothing_laws = (nothing_left, something_left)
