-- Lines have one first line that does not fit.
use Rattle.std.proofs.Common.{◌≡◌, ℕ, suc, ◌+◌, ◌-◌, ◌<◌, List, [], ◌∷◌, ◌++◌, length, refl, sym, ap, subst, ◌∙◌, arith, append_assoc, inl, inr}
use Rattle.std.proofs.lemmas.Bool.{cases_lt}
use Rattle.ras_lines.specs.Faults.{Begins, IsMisfit}

abbrev Line : Type 0
Line = List ℕ

-- the longer of two fronts of a list goes on where the shorter ends
pub record GoesOn (shorter left longer : List Line) : Type 0 where
  pub line : Line
  pub behind : List Line
  pub more : List Line
  pub left_is : left ≡ line ∷ behind
  pub longer_is : longer ≡ shorter ++ line ∷ more

goes_on : (a left b rest : List Line) (n : ℕ) → a ++ left ≡ b ++ rest → length b ≡ length a + suc n → GoesOn a left b
goes_on [] left [] rest n e len = absurd (omega (arith, len))
goes_on [] left (l ∷ b) rest n e len = record { line = l; behind = b ++ rest; more = b; left_is = e; longer_is = refl }
goes_on (x ∷ a) left [] rest n e len = absurd (omega (arith, len))
goes_on (x ∷ a) left (y ∷ b) rest n e len =
    let tails : a ++ left ≡ b ++ rest = cc in
    let heads : y ≡ x = cc in
    let g = goes_on a left b rest n tails (omega (arith, len)) in
    record { line = g.line; behind = g.behind; more = g.more; left_is = g.left_is; longer_is = ap (λ (l : Line). l ∷ b) heads ∙ ap (λ (ls : List Line). x ∷ ls) g.longer_is }

same_left : (a left b rest : List Line) → a ++ left ≡ b ++ rest → length a ≡ length b → left ≡ rest
same_left [] left [] rest e len = e
same_left [] left (l ∷ b) rest e len = absurd (omega (arith, len))
same_left (x ∷ a) left [] rest e len = absurd (omega (arith, len))
same_left (x ∷ a) left (y ∷ b) rest e len =
    let tails : a ++ left ≡ b ++ rest = cc in
    let same : length a ≡ length b = omega (arith, len) in
    same_left a left b rest tails same

module _ (IsText : List Line → Type 0) (lines : List Line) where
  not_earlier : (left rest : List Line) (m : IsMisfit IsText lines left) (n : IsMisfit IsText lines rest) → length m.front < length n.front → ⊥
  not_earlier left rest m n lt =
      let g = goes_on m.front left n.front rest (length n.front - length m.front - 1) (sym m.parts ∙ n.parts) (omega (arith, lt)) in
      let parts : n.front ++ n.begins.0 ≡ (m.front ++ g.line ∷ []) ++ (g.more ++ n.begins.0) =
      ap (λ (f : List Line). f ++ n.begins.0) g.longer_is ∙ append_assoc m.front (g.line ∷ g.more) n.begins.0 ∙ sym (append_assoc m.front (g.line ∷ []) (g.more ++ n.begins.0)) in
      m.here g.line g.behind g.left_is (g.more ++ n.begins.0, subst IsText parts n.begins.1)

  -- where a line does not fit, not all lines do
  pub not_all_fit : (left : List Line) → IsMisfit IsText lines left → 0 < length left → Begins IsText lines → ⊥
  not_all_fit [] m lt b = absurd (omega (arith, lt))
  not_all_fit (line ∷ behind) m lt b =
      let parts : lines ++ b.0 ≡ (m.front ++ line ∷ []) ++ (behind ++ b.0) =
      ap (λ (f : List Line). f ++ b.0) m.parts ∙ append_assoc m.front (line ∷ behind) b.0 ∙ sym (append_assoc m.front (line ∷ []) (behind ++ b.0)) in
      m.here line behind refl (behind ++ b.0, subst IsText parts b.1)

  pub one_misfit : (left rest : List Line) → IsMisfit IsText lines left → IsMisfit IsText lines rest → left ≡ rest
  one_misfit left rest m n =
      elim (cases_lt (length m.front) (length n.front)) [
        | inl less ↦ absurd (not_earlier left rest m n less)
        | inr le ↦ elim (cases_lt (length n.front) (length m.front)) [
          | inl less ↦ absurd (not_earlier rest left n m less)
          | inr more ↦ same_left m.front left n.front rest (sym m.parts ∙ n.parts) (omega (arith, le, more))
        ]
      ]
