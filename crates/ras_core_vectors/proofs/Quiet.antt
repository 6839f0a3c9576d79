-- A test for quiet that computes.
use Rattle.std.proofs.Common.{◌≡◌, Bool, true, false, refl}
use Rattle.std.specs.Prelude.{Option, Some, None, not, ◌&&◌, ◌||◌}
use Rattle.std.specs.List.{list_all}
use Rattle.std.proofs.lemmas.Bool.{and_parts}
use Rattle.ras_core.specs.declared.work.Work.{Work}
use Rattle.ras_core.specs.declared.work.Work.TheVariants.{Free, Taken, Done}
use Rattle.ras_core.specs.CoreStates.{FoundParts, EntryParts, CoreParts, IsQuiet}
use Rattle.ras_vectors.proofs.ListTests.{each, each-at, list_all-All, unless}

abbrev is_done : Work → Bool
is_done Free = false
is_done Taken = false
is_done Done = true

is_done-passed : (w : Work) → is_done w ≡ true → w ≡ Done
is_done-passed Free h = absurd (cc)
is_done-passed Taken h = absurd (cc)
is_done-passed Done h = refl

abbrev is_none : Option FoundParts → Bool
is_none None = true
is_none (Some f) = false

is_none-passed : (o : Option FoundParts) → is_none o ≡ true → o ≡ None
is_none-passed None h = refl
is_none-passed (Some f) h = absurd (cc)

abbrev pub is_quiet : CoreParts → Bool
is_quiet s = (list_all (λ b. b) s.submitted && (is_none s.hit && is_none s.spill)) && each (λ k (e : EntryParts). not e.kept || is_done e.work) s.entries

pub is_quiet-passed : (s : CoreParts) → is_quiet s ≡ true → IsQuiet s
is_quiet-passed s h =
    let parts = and_parts (list_all (λ b. b) s.submitted && (is_none s.hit && is_none s.spill)) (each (λ k (e : EntryParts). not e.kept || is_done e.work) s.entries) h in
    let front = and_parts (list_all (λ b. b) s.submitted) (is_none s.hit && is_none s.spill) parts.0 in
    let found = and_parts (is_none s.hit) (is_none s.spill) front.1 in
    record {
      goals = list_all-All (λ b. b) (λ b. b ≡ true) (λ b t. t) s.submitted front.0;
      no_hit = is_none-passed s.hit found.0;
      no_spill = is_none-passed s.spill found.1;
      done = λ i e known. is_done-passed e.work (unless e.kept (is_done e.work) (each-at (λ k (x : EntryParts). not x.kept || is_done x.work) s.entries parts.1 i e known.0) known.1);
    }
