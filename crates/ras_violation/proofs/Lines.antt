-- One state more of a run.
use Rattle.std.proofs.Common.{◌≡◌, ℕ, ◌+◌, ◌<◌, ◌≤◌, List, [], ◌∷◌, ◌++◌, length, length-append, take, get_or, zero, suc, refl, sym, ◌∙◌, ap, subst, arith, append_assoc, ◌⊎◌, inl, inr}
use Rattle.std.specs.Prelude.{slice_get, Some}
use Rattle.std.proofs.lemmas.Option.{same_Some, slice_get_within}
use Rattle.std.proofs.lemmas.Bool.{cases_lt}
use Rattle.std.proofs.lemmas.List.{take_all, length-take-le}
use Rattle.ras_logic.specs.declared.raw_db.RawDb.{RawDb}
use Rattle.ras_system.specs.declared.state.State.{State}
use Rattle.ras_system.specs.declared.choice.Choice.{Choice}
use Rattle.ras_system.specs.Systems.{SystemParts}
use Rattle.ras_system.specs.Steps.{IsStep}
use Rattle.ras_system.specs.Runs.{IsRun}
use Rattle.ras_steps.proofs.Replays.{run_more}
use Rattle.ras_violation.specs.ReplayTexts.{state_line, state_lines, AreWritten}
use Rattle.ras_violation.proofs.Paths.{take_twice}

pub append_nil : {A : Type 0} (xs : List A) → xs ++ [] ≡ xs
append_nil [] = refl
append_nil (x ∷ xs) = ap (λ (ys : List _). x ∷ ys) (append_nil xs)

pub state_lines-append : (n : ℕ) (states : List State) (s : State) → state_lines n (states ++ s ∷ []) ≡ state_lines n states ++ state_line (n + length states) s
state_lines-append n [] s = append_nil (state_line n s) ∙ ap (λ (m : ℕ). state_line m s) (let e : n ≡ n + 0 = omega arith in e)
state_lines-append n (t ∷ states) s =
    let e : n + 1 + length states ≡ n + length (t ∷ states) = omega arith in
    ap (λ (z : List ℕ). state_line n t ++ z) (state_lines-append (n + 1) states s ∙ ap (λ (m : ℕ). state_lines (n + 1) states ++ state_line m s) e)
    ∙ sym (append_assoc (state_line n t) (state_lines (n + 1) states) (state_line (n + length (t ∷ states)) s))

read_left : {A : Type 0} (xs ys : List A) (k : ℕ) → k < length xs → slice_get (xs ++ ys) k ≡ slice_get xs k
read_left [] ys k lt = absurd (omega arith)
read_left (x ∷ xs) ys zero lt = refl
read_left (x ∷ xs) ys (suc k) lt = read_left xs ys k (omega (arith, lt))

read_last : {A : Type 0} (xs : List A) (x : A) → slice_get (xs ++ x ∷ []) (length xs) ≡ Some x
read_last [] x = refl
read_last (y ∷ xs) x = read_last xs x

module _ (system : SystemParts) (d : RawDb) (start : State) where
  -- the first state alone
  pub written_first : (before after : List ℕ) → after ≡ before ++ state_line 0 start → AreWritten system d start [] start before after
  written_first before after e = record {
    states = start ∷ [];
    in_order = record { as_many = refl; each = each };
    ends = refl;
    text = e ∙ ap (λ (z : List ℕ). before ++ z) (sym (append_nil (state_line 0 start)));
  }
    where
      each : (k : ℕ) (s : State) → slice_get (start ∷ []) k ≡ Some s → IsRun system d start (take k []) s
      each zero s known = sym (same_Some start s known)
      each (suc k) s known = absurd (cc)

  -- all steps lead to the last state
  pub written_run : (choices : List Choice) (last : State) (before after : List ℕ) → AreWritten system d start choices last before after → IsRun system d start choices last
  written_run choices last before after w =
      subst (λ (cs : List Choice). IsRun system d start cs last) (take_all (length choices) choices (let le : length choices ≤ length choices = omega arith in le)) (w.in_order.each (length choices) last w.ends)

  module _ (choices : List Choice) (i : ℕ) (c : Choice) (mid next : State) (before text after : List ℕ) (lt : i < length choices) (here : c ≡ get_or choices i c)
      (w : AreWritten system d start (take i choices) mid before text) (step : IsStep system d mid c next) (more : after ≡ text ++ state_line (i + 1) next) where
    taken : length (take i choices) ≡ i
    taken = length-take-le i choices (omega arith)

    many : length w.states ≡ i + 1
    many = w.in_order.as_many ∙ ap (λ (n : ℕ). n + 1) taken

    leads : IsRun system d start (take (i + 1) choices) next
    leads = run_more system d start choices i mid c next lt here (written_run (take i choices) mid before text w) step

    each : (k : ℕ) (s : State) → slice_get (w.states ++ next ∷ []) k ≡ Some s → IsRun system d start (take k (take (i + 1) choices)) s
    each k s known = go (cases_lt k (length w.states))
      where
        go : (k < length w.states) ⊎ (length w.states ≤ k) → IsRun system d start (take k (take (i + 1) choices)) s
        go (inl below) =
            let low : k ≤ i = omega (arith, below, many) in
            subst (λ (cs : List Choice). IsRun system d start cs s) (take_twice choices k i low ∙ sym (take_twice choices k (i + 1) (omega (arith, low))))
            (w.in_order.each k s (sym (read_left w.states (next ∷ []) k below) ∙ known))
        go (inr le) =
            let within : k < length (w.states ++ next ∷ []) = slice_get_within (w.states ++ next ∷ []) k s known in
            let one : length (w.states ++ next ∷ []) ≡ length w.states + 1 = length-append w.states (next ∷ []) in
            let at : k ≡ length w.states = omega (arith, within, one, le) in
            let all : k ≡ i + 1 = at ∙ many in
            let same : next ≡ s = same_Some next s (sym (read_last w.states next) ∙ ap (λ (n : ℕ). slice_get (w.states ++ next ∷ []) n) (sym at) ∙ known) in
            subst (λ (t : State). IsRun system d start (take k (take (i + 1) choices)) t) same
            (subst (λ (cs : List Choice). IsRun system d start cs next) (sym (take_twice choices k (i + 1) (omega (arith, all)) ∙ ap (λ (n : ℕ). take n choices) all)) leads)

    -- one step more
    pub written_more : AreWritten system d start (take (i + 1) choices) next before after
    written_more = record {
      states = w.states ++ next ∷ [];
      in_order = record {
        as_many = length-append w.states (next ∷ []) ∙ ap (λ (n : ℕ). n + 1) (many ∙ sym (length-take-le (i + 1) choices (omega arith)));
        each = each;
      };
      ends = ap (λ (n : ℕ). slice_get (w.states ++ next ∷ []) n) (length-take-le (i + 1) choices (omega arith) ∙ sym many) ∙ read_last w.states next;
      text = more
          ∙ ap (λ (z : List ℕ). z ++ state_line (i + 1) next) w.text
          ∙ append_assoc before (state_lines 0 w.states) (state_line (i + 1) next)
          ∙ ap (λ (z : List ℕ). before ++ z)
          (sym (state_lines-append 0 w.states next ∙ ap (λ (n : ℕ). state_lines 0 w.states ++ state_line n next) (let e : 0 + length w.states ≡ i + 1 = omega (arith, many) in e)));
    }
