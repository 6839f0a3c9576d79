-- A text with another behind it, or with nothing, is read exactly, up to the first line that does not fit.
use Rattle.std.proofs.Common.{◌≡◌, ◌<◌, ◌≤◌, List, [], ◌∷◌, ◌++◌, length, arith, refl, sym, ap, subst, ◌∙◌, append_assoc, append-nil}
use Rattle.std.specs.Prelude.{Option, Some, None, IfSome, Ok, Err}
use Rattle.ras_lines.specs.Faults.{IsMisfit}
use Rattle.ras_lines.specs.Fronts.{Front, follow}
use Rattle.ras_lines.specs.Sections.{nothing}
use Rattle.ras_lines.proofs.Exact.{followed}
use Rattle.ras_lines.proofs.SectionLaws.{Line, IsExactText}
use Rattle.ras_evidence.specs.EvidenceTexts.{optional_lines}
use Rattle.ras_evidence.specs.EvidenceReading.{tail_of, with_tail}

not_empty : (front : List Line) (line : Line) (other : List Line) → front ++ line ∷ other ≡ [] → ⊥
not_empty [] line other e = absurd cc
not_empty (l ∷ front) line other e = absurd cc

module _ {X Y : Type 0} (text : X → List Line) (V : X → Type 0) (f : List Line → Front Line X) (f_exact : IsExactText text V f) (tail : Y → List Line) (W : Y → Type 0)
    (g : List Line → Front Line Y) (g_exact : IsExactText tail W g) (some_line : (y : Y) → tail y ≡ [] → ⊥) where
  abbrev Pair : Type 0
  Pair = X × Option Y

  abbrev pub IsWholeOf : Pair → List Line → Type 0
  IsWholeOf p lines = (lines ≡ text p.0 ++ optional_lines tail p.1) × (V p.0 × IfSome p.1 W)

  abbrev pub IsWhole : List Line → Type 0
  IsWhole lines = (p : Pair) × IsWholeOf p lines

  abbrev read : List Line → Front Line Pair
  read lines = with_tail f g lines

  -- What is read.

  same_pair : (p q : Pair) (a b : List Line) → ◌≡◌ {A = Front Line Pair} (Ok (p, a)) (Ok (q, b)) → (p ≡ q) × (a ≡ b)
  same_pair p q a b e = (ap (λ (o : Front Line Pair). elim o [ Ok r ↦ r.0 | Err l ↦ p ]) e, ap (λ (o : Front Line Pair). elim o [ Ok r ↦ r.1 | Err l ↦ a ]) e)

  same_left : (a b : List Line) → ◌≡◌ {A = Front Line Pair} (Err a) (Err b) → a ≡ b
  same_left a b e = ap (λ (o : Front Line Pair). elim o [ Ok r ↦ a | Err l ↦ l ]) e

  never_both : (o : Front Line Pair) (p : Pair) (rest left : List Line) → o ≡ Ok (p, rest) → o ≡ Err left → ⊥
  never_both o p rest left a b = cc

  nothing_read : (q p : Pair) (mid rest : List Line) → nothing q mid ≡ Ok (p, rest) → (mid ≡ []) × (q ≡ p) × (rest ≡ [])
  nothing_read q p [] rest e = let s = same_pair q p [] rest e in (refl, s.0, sym s.1)
  nothing_read q p (l ∷ ls) rest e = absurd cc

  tail_sound : (x : X) (mid : List Line) (p : Pair) (rest : List Line) → V x → tail_of g x mid ≡ Ok (p, rest) → (rest ≡ []) × IsWholeOf p (text x ++ mid)
  tail_sound x [] p rest v e = let s = same_pair (x, None) p [] rest e in (sym s.1, subst (λ (q : Pair). IsWholeOf q (text x ++ [])) s.0 (refl, (v, tt)))
  tail_sound x (l ∷ ls) p rest v e =
      let s = followed (g (l ∷ ls)) (λ y more. nothing (x, Some y) more) p rest e in
      let n = nothing_read (x, Some s.0) p s.1 rest s.3 in
      let m = g_exact.reads.sound (l ∷ ls) s.0 s.1 s.2 in
      let all : l ∷ ls ≡ tail s.0 = m.0 ∙ ap (λ (k : List Line). tail s.0 ++ k) n.0 ∙ append-nil (tail s.0) in
      (n.2, subst (λ (q : Pair). IsWholeOf q (text x ++ l ∷ ls)) n.1 (ap (λ (k : List Line). text x ++ k) all, (v, m.1)))

  pub whole_sound : (lines : List Line) (p : Pair) (rest : List Line) → read lines ≡ Ok (p, rest) → (rest ≡ []) × IsWholeOf p lines
  whole_sound lines p rest e =
      let s = followed (f lines) (tail_of g) p rest e in
      let m = f_exact.reads.sound lines s.0 s.1 s.2 in
      let t = tail_sound s.0 s.1 p rest m.1 s.3 in
      (t.0, subst (IsWholeOf p) (sym m.0) t.1)

  -- what stands behind the first thing

  behind_read : (lines mid : List Line) (x : X) → f lines ≡ Ok (x, mid) → read lines ≡ tail_of g x mid
  behind_read lines mid x e = ap (λ (o : Front Line X). follow o (tail_of g)) e

  tail_known : (x : X) (ls : List Line) (o : Front Line Y) → (ls ≡ [] → ⊥) → g ls ≡ o → tail_of g x ls ≡ follow o (λ y rest. nothing (x, Some y) rest)
  tail_known x [] o some e = absurd (some refl)
  tail_known x (l ∷ ls) o some e = ap (λ (k : Front Line Y). follow k (λ y rest. nothing (x, Some y) rest)) e

  pub whole_again : (lines : List Line) (p : Pair) → IsWholeOf p lines → read lines ≡ Ok (p, [])
  whole_again lines (x, None) h = behind_read lines [] x (ap f h.0 ∙ f_exact.reads.again x [] h.1.0 tt)
  whole_again lines (x, Some y) h =
      behind_read lines (tail y) x (ap f h.0 ∙ f_exact.reads.again x (tail y) h.1.0 tt)
      ∙ tail_known x (tail y) (Ok (y, [])) (some_line y) (ap g (sym (append-nil (tail y))) ∙ g_exact.reads.again y [] h.1.1 tt)

  -- Where it stops.

  never_whole : (lines left : List Line) → read lines ≡ Err left → IsWhole lines → ⊥
  never_whole lines left e t = never_both (read lines) t.0 [] left (whole_again lines t.0 t.1) e

  -- the first thing does not fit
  first_stops : (lines left : List Line) → f lines ≡ Err left → IsMisfit IsWhole lines left
  first_stops lines left e =
      let s = f_exact.stops lines left e in
      record {
        front = s.front;
        parts = s.parts;
        begins = (s.more, ((s.value, None), (sym s.begins ∙ sym (append-nil (text s.value)), (s.valid, tt))));
        here = λ line behind same b.
            never_whole (s.front ++ line ∷ b.0) (line ∷ b.0) (ap (λ (o : Front Line X). follow o (tail_of g)) (s.dead line behind b.0 same))
            (subst IsWhole (append_assoc s.front (line ∷ []) b.0) b.1);
        no_text = never_whole lines left (ap (λ (o : Front Line X). follow o (tail_of g)) e);
      }

  module _ (lines : List Line) (x : X) (mid : List Line) (is : f lines ≡ Ok (x, mid)) (some : mid ≡ [] → ⊥) where
    first_is : (lines ≡ text x ++ mid) × V x
    first_is = f_exact.reads.sound lines x mid is

    -- how the lines are read where others stand behind the first thing
    read_on : (others : List Line) (o : Front Line Y) → (others ≡ [] → ⊥) → g others ≡ o → read (text x ++ others) ≡ follow o (λ y rest. nothing (x, Some y) rest)
    read_on others o none e = behind_read (text x ++ others) others x (f_exact.reads.again x others first_is.1 tt) ∙ tail_known x others o none e

    -- the second thing does not fit
    second_stops : (left : List Line) → g mid ≡ Err left → IsMisfit IsWhole lines left
    second_stops left e =
        let s = g_exact.stops mid left e in
        record {
          front = text x ++ s.front;
          parts = first_is.0 ∙ ap (λ (k : List Line). text x ++ k) s.parts ∙ sym (append_assoc (text x) s.front left);
          begins = (
            s.more,
            ((x, Some s.value), (append_assoc (text x) s.front s.more ∙ ap (λ (k : List Line). text x ++ k) (sym s.begins), (first_is.1, s.valid))),
          );
          here = λ line behind same b.
              never_whole (text x ++ (s.front ++ line ∷ b.0)) (line ∷ b.0)
              (read_on (s.front ++ line ∷ b.0) (Err (line ∷ b.0)) (not_empty s.front line b.0) (s.dead line behind b.0 same))
              (subst IsWhole (append_assoc (text x ++ s.front) (line ∷ []) b.0 ∙ append_assoc (text x) s.front (line ∷ b.0)) b.1);
          no_text = never_whole lines left (behind_read lines mid x is ∙ tail_known x mid (Err left) some e);
        }

    -- a line stands behind the second thing
    more_stands : (y : Y) (l : Line) (ls : List Line) → g mid ≡ Ok (y, l ∷ ls) → IsMisfit IsWhole lines (l ∷ ls)
    more_stands y l ls e =
        let m = g_exact.reads.sound mid y (l ∷ ls) e in
        record {
          front = text x ++ tail y;
          parts = first_is.0 ∙ ap (λ (k : List Line). text x ++ k) m.0 ∙ sym (append_assoc (text x) (tail y) (l ∷ ls));
          begins = ([], ((x, Some y), (append-nil (text x ++ tail y), (first_is.1, m.1))));
          here = λ line behind same b.
              never_whole (text x ++ (tail y ++ line ∷ b.0)) (line ∷ b.0)
              (read_on (tail y ++ line ∷ b.0) (Ok (y, line ∷ b.0)) (not_empty (tail y) line b.0) (g_exact.reads.again y (line ∷ b.0) m.1 tt))
              (subst IsWhole (append_assoc (text x ++ tail y) (line ∷ []) b.0 ∙ append_assoc (text x) (tail y) (line ∷ b.0)) b.1);
          no_text = never_whole lines (l ∷ ls) (behind_read lines mid x is ∙ tail_known x mid (Ok (y, l ∷ ls)) some e);
        }

    second_case : (o : Front Line Y) (left : List Line) → g mid ≡ o → follow {Y = Pair} o (λ y rest. nothing (x, Some y) rest) ≡ Err left → IsMisfit IsWhole lines left
    second_case (Ok (y, [])) left e stop = absurd cc
    second_case (Ok (y, l ∷ ls)) left e stop = subst (IsMisfit IsWhole lines) (same_left (l ∷ ls) left stop) (more_stands y l ls e)
    second_case (Err k) left e stop = subst (IsMisfit IsWhole lines) (same_left k left stop) (second_stops k e)

  tail_case : (lines left : List Line) (x : X) (mid : List Line) → f lines ≡ Ok (x, mid) → tail_of g x mid ≡ Err left → IsMisfit IsWhole lines left
  tail_case lines left x [] is stop = absurd cc
  tail_case lines left x (l ∷ ls) is stop = second_case lines x (l ∷ ls) is (λ e. cc) (g (l ∷ ls)) left refl stop

  first_case : (lines left : List Line) (o : Front Line X) → f lines ≡ o → follow o (tail_of g) ≡ Err left → IsMisfit IsWhole lines left
  first_case lines left (Ok p) is stop = tail_case lines left p.0 p.1 is stop
  first_case lines left (Err k) is stop = subst (IsMisfit IsWhole lines) (same_left k left stop) (first_stops lines k is)

  pub whole_misfit : (lines left : List Line) → read lines ≡ Err left → IsMisfit IsWhole lines left
  whole_misfit lines left e = first_case lines left (f lines) refl e

-- what a reader answers behind the first thing
pub tail_none : {X Y : Type 0} (g : List Line → Front Line Y) (x : X) (lines : List Line) → length lines ≤ 0 → tail_of g x lines ≡ Ok ((x, None), lines)
tail_none g x [] le = refl
tail_none g x (l ∷ lines) le = absurd (omega (arith, le))

pub tail_some : {X Y : Type 0} (g : List Line → Front Line Y) (x : X) (lines : List Line) → 0 < length lines → tail_of g x lines ≡ follow (g lines) (λ y rest. nothing (x, Some y) rest)
tail_some g x [] lt = absurd (omega (arith, lt))
tail_some g x (l ∷ lines) lt = refl
