-- What is found by comparing, one after the other.
use Rattle.std.proofs.Common.{◌≡◌, ℕ, ◌+◌, ◌<◌, ◌≤◌, List, length, get_or, take, refl, sym, ◌∙◌, subst, arith, ◌⊎◌, inl, inr}
use Rattle.std.specs.Prelude.{slice_get, Option, Some, None, All, Contains, IfNone}
use Rattle.std.proofs.lemmas.Bool.{cases_lt}
use Rattle.std.proofs.lemmas.Option.{slice_get_read}
use Rattle.ras_logic.specs.declared.raw_db.RawDb.{RawDb}
use Rattle.ras_logic.specs.declared.problem.Problem.{Problem}
use Rattle.ras_logic.proofs.ByPlace.{one_value, at_take}
use Rattle.ras_system.specs.declared.state.State.{State}
use Rattle.ras_system.specs.States.{Meets}
use Rattle.ras_core.specs.CoreStates.{EntryParts, CoreParts}
use Rattle.ras_core.proofs.Lists.{any-at, number-of, of-take, to-map}
use Rattle.ras_store.specs.Holding.{IsFirstMet, AreSubmitted}
use Rattle.ras_store.specs.Comparing.{MeetsNone, cubes_in}

module _ (d : RawDb) (state : State) (entries : List EntryParts) (number : ℕ) (e : EntryParts) (lt : number < length entries) (read : e ≡ get_or entries number e) where
  pub cube_at : slice_get (cubes_in entries) number ≡ Some e.cube
  cube_at = to-map (λ (x : EntryParts). x.cube) entries number e (slice_get_read entries (length entries) number e refl lt read)

  -- the state meets this entry, and none before it
  pub met_here : (cube : Problem) → cube ≡ e.cube → MeetsNone d state (take number (cubes_in entries)) → Meets d state cube → IsFirstMet d state (cubes_in entries) number
  met_here cube is before meets = record { cube = e.cube; at = cube_at; meets = subst (Meets d state) is meets; first = before.none }

  -- it meets none up to this one
  pub met_none : (cube : Problem) → cube ≡ e.cube → MeetsNone d state (take number (cubes_in entries)) → (Meets d state cube → ⊥) → MeetsNone d state (take (number + 1) (cubes_in entries))
  met_none cube is before not = record {
    none = λ a.
        let m = of-take (number + 1) (cubes_in entries) a.0 a.1 (number-of (Meets d state) (take (number + 1) (cubes_in entries)) a) in
        go a.0 a.1 m.0 m.1 a.4 (cases_lt a.0 number);
  }
    where
      go : (k : ℕ) (c : Problem) → k < number + 1 → slice_get (cubes_in entries) k ≡ Some c → Meets d state c → (k < number) ⊎ (number ≤ k) → ⊥
      go k c below known meets (inl less) = before.none (any-at (Meets d state) (take number (cubes_in entries)) k c (at_take number (cubes_in entries) k c less known) meets)
      go k c below known meets (inr le) =
          let here : k ≡ number = omega (arith, below, le) in
          let same : c ≡ e.cube = one_value (cubes_in entries) number c e.cube (subst (λ (n : ℕ). slice_get (cubes_in entries) n ≡ Some c) here known) cube_at in
          not (subst (Meets d state) (same ∙ sym is) meets)

if_none : {X : Type 0} (o : Option X) (P Q : Type 0) → (P → Q) → IfNone o P → IfNone o Q
if_none (Some x) P Q f p = tt
if_none None P Q f p = f p

-- no cube is missing among the submissions of the entry
pub none_missing : (s : CoreParts) (entries : List EntryParts) (number : ℕ) (e : EntryParts) (submissions all : List Problem) (o : Option ℕ) → entries ≡ s.entries → number < length s.entries
    → e ≡ get_or entries number e → submissions ≡ e.submissions → IfNone o (All (Contains submissions) all) → IfNone o (AreSubmitted s number all)
none_missing s entries number e submissions all o here lt read same none =
    if_none o (All (Contains submissions) all) (AreSubmitted s number all) (λ each. record {
      entry = e;
      is = slice_get_read s.entries (length s.entries) number e refl lt (subst (λ (es : List EntryParts). e ≡ get_or es number e) here read);
      each = subst (λ (xs : List Problem). All (Contains xs) all) same each;
    }) none
