-- What speaks against one class of two, whichever is looked at first.
use Rattle.std.proofs.Common.{◌≡◌, ℕ, ◌≤◌, List, inl, inr, ⊎_elim, refl, subst, sym}
use Rattle.std.specs.Option.{option_or}
use Rattle.std.specs.Prelude.{Option, Some, None, MatchOption}
use Rattle.ras_closure.specs.declared.clash.Clash.{Clash}
use Rattle.ras_closure.specs.Numbered.{TableParts, rigid_count}
use Rattle.ras_closure.specs.Assertions.{MarkParts}
use Rattle.ras_closure.specs.Classes.{class}
use Rattle.ras_closure.specs.Merging.{AreDisequal, HaveNoDisequality, MayMerge, AreConflicting}
use Rattle.ras_closure.specs.Verdicts.{AreUnbroken, AreClashing, IsVerdict}
use Rattle.ras_closure.proofs.Cases.{some_same, none_some}

turned : (marks : MarkParts) (classes : List ℕ) (a b : ℕ) → HaveNoDisequality marks classes a b marks.width → HaveNoDisequality marks classes b a marks.width
turned marks classes a b h i lt_i e_i j lt_j e_j = let u = h j lt_j e_j i lt_i e_i in record { forth = u.back; back = u.forth }

disequal-turned : (marks : MarkParts) (classes : List ℕ) (a b i j : ℕ) → AreDisequal marks classes a b i j → AreDisequal marks classes b a i j
disequal-turned marks classes a b i j h = record {
  marked = h.marked;
  left = h.left;
  right = h.right;
  ends = ⊎_elim (λ (e : (class classes i ≡ a) × (class classes j ≡ b)). inr e) (λ (e : (class classes i ≡ b) × (class classes j ≡ a)). inl e) h.ends;
}

pub looked_forth : (t : TableParts) (marks : MarkParts) (classes : List ℕ) (to from : ℕ) → rigid_count t ≤ from → (o : Option Clash)
    → MatchOption o (HaveNoDisequality marks classes to from marks.width) (λ q. AreDisequal marks classes to from q.left.n q.right.n)
    → MatchOption o (MayMerge t marks classes to from) (AreConflicting t marks classes to from)
looked_forth t marks classes to from above None h = record { above = above; no_disequality = h }
looked_forth t marks classes to from above (Some q) h = inr h

pub looked_back : (t : TableParts) (marks : MarkParts) (classes : List ℕ) (to from : ℕ) → rigid_count t ≤ from → (o : Option Clash)
    → MatchOption o (HaveNoDisequality marks classes from to marks.width) (λ q. AreDisequal marks classes from to q.left.n q.right.n)
    → MatchOption o (MayMerge t marks classes to from) (AreConflicting t marks classes to from)
looked_back t marks classes to from above None h = record { above = above; no_disequality = turned marks classes from to h }
looked_back t marks classes to from above (Some q) h = inr (disequal-turned marks classes from to q.left.n q.right.n h)

pub verdict-or : (t : TableParts) (marks : MarkParts) (old new : List ℕ) (before found : Option Clash) → IsVerdict t marks old before
    → MatchOption found (AreUnbroken t marks old → AreUnbroken t marks new) (λ q. AreClashing t marks q.left.n q.right.n)
    → (after : Option Clash) → after ≡ option_or before found → IsVerdict t marks new after
verdict-or t marks old new None None verdict found after e = rw e (record { unbroken = λ _. found (verdict.unbroken refl); clashing = λ q h. absurd (none_some h) })
verdict-or t marks old new None (Some p) verdict found after e = rw e (record { unbroken = λ h. absurd (none_some (sym h)); clashing = λ q h. subst (λ (w : Clash). AreClashing t marks w.left.n w.right.n) (some_same h) found })
verdict-or t marks old new (Some p) found verdict found_is after e = rw e (record { unbroken = λ h. absurd (none_some (sym h)); clashing = verdict.clashing })

pub verdict-of : (t : TableParts) (marks : MarkParts) (old new : List ℕ) (found : Option Clash) → AreUnbroken t marks old
    → MatchOption found (AreUnbroken t marks old → AreUnbroken t marks new) (λ q. AreClashing t marks q.left.n q.right.n) → IsVerdict t marks new found
verdict-of t marks old new found unbroken h =
    verdict-or t marks old new None found (record { unbroken = λ _. unbroken; clashing = λ q e. absurd (none_some e) }) h found refl
