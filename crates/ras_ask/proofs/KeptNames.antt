-- What the named kept entries say of a cube.
use Rattle.std.proofs.Common.{◌≡◌, ℕ, zero, suc, ◌+◌, ◌<◌, Bool, true, false, List, [], ◌∷◌, ◌++◌, map, filter, cond, length, take, get_or, refl, sym, ◌∙◌, ap, subst, arith, inl}
use Rattle.std.specs.Prelude.{slice_get, Some, All}
use Rattle.std.specs.List.{AllZip}
use Rattle.std.proofs.lemmas.List.{append-nil, length-map, take_more}
use Rattle.std.proofs.lemmas.List.Elements.{All-nil, All-cons, All-map, All-weaker}
use Rattle.ras_logic.specs.declared.raw_db.RawDb.{RawDb}
use Rattle.ras_logic.specs.declared.problem.Problem.{Problem}
use Rattle.ras_logic.specs.declared.tree.Node.{Node}
use Rattle.ras_logic.specs.declared.tree.Tree.{Tree}
use Rattle.ras_logic.specs.Shapes.{ShapeParts}
use Rattle.ras_logic.specs.Formulas.{Fits, IsCube}
use Rattle.ras_logic.specs.Refutations.{Closes}
use Rattle.ras_logic.proofs.ByPlace.{all-from}
use Rattle.ras_system.specs.declared.state.State.{State}
use Rattle.ras_system.specs.Systems.{SystemParts}
use Rattle.ras_system.specs.States.{Meets, MeetsAny}
use Rattle.ras_extension.specs.Reaching.{IsStateIn}
use Rattle.ras_steps.specs.declared.witness.Witness.{Witness}
use Rattle.ras_core.specs.CoreStates.{EntryParts, IsEntry, cubes_of}
use Rattle.ras_core.specs.Admissible.{IsFormula}
use Rattle.ras_core.specs.Covered.{MeetsEntry, IsCovered, kept_cubes}
use Rattle.ras_core.specs.Sound.{IsSound}
use Rattle.ras_core.proofs.Journals.{journal-sound}
use Rattle.ras_core.proofs.Kept.{covers_entries, covered-listed}
use Rattle.ras_core.proofs.Lists.{any-at, number-of, of-map, to-map}
use Rattle.ras_core.proofs.Reaching.{comes-formula}
use Rattle.ras_entail.specs.declared.entail.Entail.{Entail}
use Rattle.ras_entail.specs.declared.entail.Entail.TheVariants as entail
use Rattle.ras_entail.specs.Entailment.{IsAmong, Escapes}
use Rattle.ras_entail.specs.Entails.{IfYes, IfEscape, IsEntailment}
use Rattle.ras_reasons.specs.Naming.{Names, AreNamed, ArePicked}
use Rattle.ras_reasons.proofs.NamedFormulas.{names-within, named-suffice}
use Rattle.ras_store.specs.declared.named.Named.{Named}
use Rattle.ras_store.specs.Comparing.{MeetsNone}
use Rattle.ras_store.specs.Holding.{IsKept, AreKept, named_cubes, named_if, kept_from}
use Rattle.ras_store.specs.Lawful.{IsLawfulStore}
use Rattle.ras_store.specs.Sites.{AllMeetAny, IsWitness}
use Rattle.ras_store.specs.Stores.{StoreParts}
use Rattle.ras_ask.specs.Asking.{ArePlaces, AreNamedByTree}

-- the entries that are named

-- an entry among these, the first by this number, of which a name tells the truth
record IsNameOf (first : ℕ) (es : List EntryParts) (n : Named) : Type 0 where
  place : ℕ
  entry : EntryParts
  at : slice_get es place ≡ Some entry
  kept : entry.kept ≡ true
  number : n.number ≡ first + place
  cube : entry.cube ≡ n.cube

name-later : (first : ℕ) (e : EntryParts) (es : List EntryParts) (n : Named) → IsNameOf (suc first) es n → IsNameOf first (e ∷ es) n
name-later first e es n is = record {
  place = suc is.place;
  entry = is.entry;
  at = is.at;
  kept = is.kept;
  number = omega (arith, is.number);
  cube = is.cube;
}

-- the first entry's name, if it is kept, or a later one
name-first : (first : ℕ) (e : EntryParts) (es : List EntryParts) (n : Named) → ((k : ℕ) → slice_get (kept_from (suc first) es) k ≡ Some n → IsNameOf (suc first) es n)
    → (b : Bool) → e.kept ≡ b → (k : ℕ) → slice_get (named_if b (record { number = first; cube = e.cube }) ++ kept_from (suc first) es) k ≡ Some n → IsNameOf first (e ∷ es) n
name-first first e es n later true kept zero at =
    let same : record { number = first; cube = e.cube } ≡ n = cc in
    record { place = 0; entry = e; at = refl; kept = kept; number = ap (λ (m : Named). m.number) (sym same) ∙ omega arith; cube = ap (λ (m : Named). m.cube) same }
name-first first e es n later true kept (suc k) at = name-later first e es n (later k at)
name-first first e es n later false kept k at = name-later first e es n (later k at)

names-true : (first : ℕ) (es : List EntryParts) (k : ℕ) (n : Named) → slice_get (kept_from first es) k ≡ Some n → IsNameOf first es n
names-true first [] k n at = absurd (cc)
names-true first (e ∷ es) k n at = name-first first e es n (λ j. names-true (suc first) es j n) e.kept refl k at

cubes-first : (first : ℕ) (e : EntryParts) (es : List EntryParts) → named_cubes (kept_from (suc first) es) ≡ map (λ (e : EntryParts). e.cube) (filter (λ (e : EntryParts). e.kept) es)
    → (b : Bool) → named_cubes (named_if b (record { number = first; cube = e.cube }) ++ kept_from (suc first) es)
    ≡ map (λ (e : EntryParts). e.cube) (cond b (e ∷ filter (λ (e : EntryParts). e.kept) es) (filter (λ (e : EntryParts). e.kept) es))
cubes-first first e es later true = ap (λ (cubes : List Problem). e.cube ∷ cubes) later
cubes-first first e es later false = later

names-cubes : (first : ℕ) (es : List EntryParts) → named_cubes (kept_from first es) ≡ map (λ (e : EntryParts). e.cube) (filter (λ (e : EntryParts). e.kept) es)
names-cubes first [] = refl
names-cubes first (e ∷ es) = cubes-first first e es (names-cubes (suc first) es) e.kept

-- what is picked of a list

picked-cubes : (names : List Named) (places : List ℕ) (picked : List Named) → ArePlaces names places picked → ArePicked (named_cubes names) places (named_cubes picked)
picked-cubes names [] [] z = tt
picked-cubes names [] (n ∷ picked) z = absurd z
picked-cubes names (k ∷ places) [] z = absurd z
picked-cubes names (k ∷ places) (n ∷ picked) z = (to-map (λ (m : Named). m.cube) names k n z.0, picked-cubes names places picked z.1)

picked-all : (P : Named → Type 0) (names : List Named) → ((k : ℕ) (n : Named) → slice_get names k ≡ Some n → P n) → (places : List ℕ) (picked : List Named) → ArePlaces names places picked
    → All P picked
picked-all P names h [] [] z = All-nil P
picked-all P names h [] (n ∷ picked) z = absurd z
picked-all P names h (k ∷ places) [] z = absurd z
picked-all P names h (k ∷ places) (n ∷ picked) z = All-cons P n picked (h k n z.0) (picked-all P names h places picked z.1)

module _ (s : StoreParts) (lawful : IsLawfulStore s) where
  abbrev kept_names : List Named
  kept_names = kept_from 0 s.state.entries

  sound : IsSound s.system s.budget s.state
  sound = journal-sound s.system s.budget s.state.base s.journal s.state lawful.replays

  name-kept : (k : ℕ) (n : Named) → slice_get kept_names k ≡ Some n → IsKept s.state n
  name-kept k n at =
      let is = names-true 0 s.state.entries k n at in
      let number : is.place ≡ n.number = omega (arith, is.number) in
      record { entry = is.entry; kept = (subst (λ (i : ℕ). IsEntry s.state i is.entry) number is.at, is.kept); cube = is.cube }

  name-formula : (k : ℕ) (n : Named) → slice_get kept_names k ≡ Some n → IsFormula s.system n.cube
  name-formula k n at =
      let is = names-true 0 s.state.entries k n at in
      subst (IsFormula s.system) is.cube
      (comes-formula s.system lawful.system (take is.place (cubes_of s.state)) is.entry.origin is.entry.cube (sound.entries is.place is.entry is.at).comes)

  pub names-formulas : All (IsFormula s.system) (named_cubes kept_names)
  names-formulas = All-map (IsFormula s.system) (λ (n : Named). n.cube) kept_names (all-from (λ (n : Named). IsFormula s.system n.cube) kept_names name-formula)

  pub names-fit : All (Fits s.system.shape) (named_cubes kept_names)
  names-fit = All-weaker (IsFormula s.system) (Fits s.system.shape) (λ c f. f.fits) (named_cubes kept_names) names-formulas

  names-are_cubes : All IsCube (named_cubes kept_names)
  names-are_cubes = All-weaker (IsFormula s.system) IsCube (λ c f. f.is_cube) (named_cubes kept_names) names-formulas

  -- a tree closes by the kept entries
  pub covered-asked : (cube : Problem) (nodes : List Node) (places : List ℕ) (picked : List Named) → Fits s.system.shape cube
      → Closes s.system.shape.schema cube (named_cubes kept_names) nodes → AreNamed nodes places → ArePlaces kept_names places picked
      → AreKept s.state picked × AllMeetAny s.system cube (named_cubes picked) × AreNamedByTree s cube picked
  covered-asked cube nodes places picked fits closes named z =
      let among : IsAmong s.system.shape cube (named_cubes picked) =
      named-suffice s.system.shape cube (named_cubes kept_names) nodes places (named_cubes picked) lawful.system.shape.schema fits names-fit names-are_cubes closes named (picked-cubes kept_names places picked z) in (
        record { each = picked-all (IsKept s.state) kept_names name-kept places picked z },
        λ d state is. among d state is.state.database is.state.state is.meets,
        record { nodes = nodes; closes = closes; places = places; named = named; reasons_are = z },
      )

  -- a state of an entry is a state of a kept one
  entry-kept : (d : RawDb) (state : State) → IsStateIn s.system d state → MeetsAny d state (cubes_of s.state) → MeetsAny d state (named_cubes kept_names)
  entry-kept d state is a =
      let e = of-map (λ (x : EntryParts). x.cube) s.state.entries a.0 a.1 (number-of (Meets d state) (cubes_of s.state) a) in
      let met : MeetsEntry s.state d state = any-at (λ (x : EntryParts). Meets d state x.cube) s.state.entries a.0 e.0 e.1 (subst (Meets d state) (sym e.2) a.4) in
      let covered : IsCovered s.state d state = (covers_entries s.system s.budget s.state sound d state is).1 (inl met) in
      let no_base : kept_cubes s.state ++ s.state.base ≡ named_cubes kept_names =
      ap (λ (base : List Problem). kept_cubes s.state ++ base) lawful.no_base ∙ append-nil (kept_cubes s.state) ∙ sym (names-cubes 0 s.state.entries) in
      subst (MeetsAny d state) no_base (covered-listed s.state d state covered)

  -- a state escapes from the kept entries
  pub new-asked : (cube : Problem) (w : Witness) → Escapes s.system.shape cube (named_cubes kept_names) w → IsWitness s.system cube w × MeetsNone w.db w.state (cubes_of s.state)
  new-asked cube w e =
      let is : IsStateIn s.system w.db w.state = record { database = e.database; state = e.state } in
      (record { state = is; meets = e.meets }, record { none = λ meets. e.none (entry-kept w.db w.state is meets) })

-- one name more

zip-push : {X Y : Type 0} (R : X → Y → Type 0) (xs : List X) (ys : List Y) (x : X) (y : Y) → AllZip R xs ys → R x y → AllZip R (xs ++ x ∷ []) (ys ++ y ∷ [])
zip-push R [] [] x y z r = (r, tt)
zip-push R [] (w ∷ ys) x y z r = absurd z
zip-push R (v ∷ xs) [] x y z r = absurd z
zip-push R (v ∷ xs) (w ∷ ys) x y z r = (z.0, zip-push R xs ys x y z.1 r)

pub place-more : (list : List Named) (places : List ℕ) (i : ℕ) (picked : List Named) (n : Named) → i < length places → slice_get list (get_or places i 0) ≡ Some n
    → ArePlaces list (take i places) picked → ArePlaces list (take (i + 1) places) (picked ++ n ∷ [])
place-more list places i picked n lt at are =
    subst (λ (ks : List ℕ). ArePlaces list ks (picked ++ n ∷ [])) (sym (take_more places i 0 lt))
    (zip-push (λ (k : ℕ) (m : Named). slice_get list k ≡ Some m) (take i places) picked (get_or places i 0) n are at)

-- the answers of entailment, of copies

pub yes-closes : (shape own : ShapeParts) → shape ≡ own → (premise cube : Problem) → premise ≡ cube → (list : List Problem) (e : Entail) (tree : Tree) → e ≡ entail.Yes tree
    → IsEntailment shape premise list e → Closes own.schema cube list tree.nodes
yes-closes shape own same premise cube is list e tree is_yes entailment =
    subst (λ (p : Problem). Closes own.schema p list tree.nodes) is
    (subst (λ (s : ShapeParts). Closes s.schema premise list tree.nodes) same
    (subst (λ (a : Entail). IfYes a (λ (t : Tree). Closes shape.schema premise list t.nodes)) is_yes entailment.yes))

pub escape-escapes : (shape own : ShapeParts) → shape ≡ own → (premise cube : Problem) → premise ≡ cube → (list : List Problem) (e : Entail) (w : Witness) → e ≡ entail.Escape w
    → IsEntailment shape premise list e → Escapes own cube list w
escape-escapes shape own same premise cube is list e w is_escape entailment =
    subst (λ (p : Problem). Escapes own p list w) is
    (subst (λ (s : ShapeParts). Escapes s premise list w) same
    (subst (λ (a : Entail). IfEscape a (Escapes shape premise list)) is_escape entailment.escape))

-- the same of copies
module _ (s : StoreParts) (lawful : IsLawfulStore s) (system : SystemParts) (same : s.system ≡ system) (names : List Named) (names_are : names ≡ kept_from 0 s.state.entries)
    (cubes : List Problem) (cubes_are : cubes ≡ named_cubes names) where
  cubes-of : cubes ≡ named_cubes (kept_from 0 s.state.entries)
  cubes-of = cubes_are ∙ ap named_cubes names_are

  pub cubes-fit : All (Fits system.shape) cubes
  cubes-fit = subst (λ (sys : SystemParts). All (Fits sys.shape) cubes) same (subst (All (Fits s.system.shape)) (sym cubes-of) (names-fit s lawful))

  module _ (cube : Problem) where
    pub asked-covered : (nodes : List Node) (places : List ℕ) (picked : List Named) → Fits system.shape cube → Closes system.shape.schema cube cubes nodes → AreNamed nodes places
        → ArePlaces names places picked → AreKept s.state picked × AllMeetAny s.system cube (named_cubes picked) × AreNamedByTree s cube picked
    asked-covered nodes places picked fits closes named z =
        covered-asked s lawful cube nodes places picked (subst (λ (sys : SystemParts). Fits sys.shape cube) (sym same) fits)
        (subst (λ (list : List Problem). Closes s.system.shape.schema cube list nodes) cubes-of (subst (λ (sys : SystemParts). Closes sys.shape.schema cube cubes nodes) (sym same) closes)) named
        (subst (λ (ns : List Named). ArePlaces ns places picked) names_are z)

    pub asked-new : (w : Witness) → Escapes system.shape cube cubes w → IsWitness s.system cube w × MeetsNone w.db w.state (cubes_of s.state)
    asked-new w e =
        new-asked s lawful cube w (subst (λ (list : List Problem). Escapes s.system.shape cube list w) cubes-of (subst (λ (sys : SystemParts). Escapes sys.shape cube cubes w) (sym same) e))

    pub places-within : (nodes : List Node) (places : List ℕ) → Closes system.shape.schema cube cubes nodes → AreNamed nodes places → All (λ (k : ℕ). k < length names) places
    places-within nodes places closes named =
        All-weaker (Names nodes) (λ (k : ℕ). k < length names)
        (λ k n. let lt = names-within system.shape.schema cube cubes nodes closes k n in omega (arith, lt, ap length cubes_are, length-map names (λ (n : Named). n.cube))) places named.each
