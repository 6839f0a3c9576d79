-- Where no function of a file closes a cycle, those that they denote are acyclic.
use Rattle.std.proofs.Common.{◌≡◌, ℕ, zero, suc, ◌+◌, ◌<◌, ◌≤◌, Bool, true, false, List, [], ◌∷◌, length, take, map, get_or, sym, subst, arith}
use Rattle.std.specs.Prelude.{◌&&◌, Option, Some, None, slice_get, All, Contains}
use Rattle.std.specs.List.{list_any}
use Rattle.std.specs.Str.{bytes_eq}
use Rattle.std.proofs.lemmas.Bool.{and_from}
use Rattle.std.proofs.lemmas.List.{take_all}
use Rattle.std.proofs.lemmas.Option.{slice_get_within, slice_get-get_or, get_or_from_slice_get}
use Rattle.std.proofs.lemmas.List.Elements.{All-head, All-cons}
use Rattle.ras_logic.specs.declared.ids.SortId.{SortId}
use Rattle.ras_logic.specs.declared.function.FunDecl.{FunDecl}
use Rattle.ras_logic.specs.Schemas.{HasSorts, IsAcyclic}
use Rattle.ras_logic.specs.SchemaFaults.{HasCycle}
use Rattle.ras_logic.proofs.Walks.{Walk, walked, acyclic_from, way_back}
use Rattle.ras_logic.proofs.ByPlace.{all-from, any_at, at_take, contains-at, map_from, no_true, one_value, or_first, or_second, take_at}
use Rattle.ras_syntax.specs.Grammar.{Text}
use Rattle.ras_names.specs.Lists.{HasNumber, OneByOne}
use Rattle.ras_names.specs.FileNames.{names_of}
use Rattle.ras_names.specs.Files.{FunctionDenotes}
use Rattle.ras_names.specs.Placed as placed
use Rattle.ras_names.specs.Unplaced.{function_of, file_of}
use Rattle.ras_names.specs.FileChecks.{leads, closes_cycle}
use Rattle.ras_names.proofs.Together.{one_by_one-from}
use Rattle.ras_names.proofs.Among.{same_text}

module _ (p : placed.File) (ds : List FunDecl) (denotes : OneByOne (FunctionDenotes (names_of (file_of p))) (map function_of p.functions) ds) (count : ℕ) (good : All (HasSorts count) ds) where
  abbrev names_sorts : List Text
  names_sorts = (names_of (file_of p)).sorts

  one_text : (from to : Text) (a b : SortId) → HasNumber names_sorts from a.n → HasNumber names_sorts to b.n → a ≡ b → from ≡ to
  one_text from to a b h k e = one_value names_sorts b.n from to (subst (λ (s : SortId). HasNumber names_sorts from s.n) e h) k

  -- linked functions among the first k are found
  walk-leads : (k : ℕ) (w : List FunDecl) (n : ℕ) (from to : Text) (a b : SortId) → Walk (take k ds) w a b → length w ≤ n → HasNumber names_sorts from a.n → HasNumber names_sorts to b.n
      → leads (take k p.functions) n from to ≡ true
  walk-leads k [] zero from to a b w le h i = same_text from to (one_text from to a b h i w)
  walk-leads k [] (suc n) from to a b w le h i = or_first (bytes_eq from to) _ (same_text from to (one_text from to a b h i w))
  walk-leads k (x ∷ w) zero from to a b h le f t = absurd (omega (arith, le))
  walk-leads k (x ∷ w) (suc n) from to a b h le f t =
      let j = contains-at (take k ds) x h.0 in
      let j_at = take_at k ds j.0 x j.1 in
      let q = one_by_one-from (FunctionDenotes (names_of (file_of p))) (map function_of p.functions) ds j.0 x denotes j_at.0 in
      let g = map_from function_of p.functions j.0 q.0 q.1 in
      let it : FunctionDenotes (names_of (file_of p)) (function_of g.0) x = subst (λ z. FunctionDenotes (names_of (file_of p)) z x) (sym g.2) q.2 in
      let source : g.0.source.text ≡ from = one_text g.0.source.text from x.source a it.source f h.1 in
      let rest = walk-leads k w n g.0.target.text to x.target b h.2 (omega (arith, le)) it.target t in
      let test : placed.Function → Bool = λ z. bytes_eq z.source.text from && leads (take k p.functions) n z.target.text to in
      or_second (bytes_eq from to) (list_any test (take k p.functions))
      (any_at test (take k p.functions) j.0 g.0 (at_take k p.functions j.0 g.0 j_at.1 g.1) (and_from (bytes_eq g.0.source.text from) (leads (take k p.functions) n g.0.target.text to) (same_text g.0.source.text from source) rest))

  short_walk : (k : ℕ) (w : List FunDecl) (a b : SortId) → (HasCycle (take k ds) → ⊥) → Walk (take k ds) w a b → length w ≤ count
  short_walk k [] a b none h = omega arith
  short_walk k (x ∷ w) a b none h =
      let is = walked (take k ds) x w b h.2 in
      let good_front : All (HasSorts count) (take k ds) = all-from (HasSorts count) (take k ds) (λ i y e. let t = take_at k ds i y e in subst (HasSorts count) (get_or_from_slice_get ds i y y t.0) (good i y (slice_get_within ds i y t.0))) in
      let lt : length (x ∷ w) < count = acyclic_from count (take k ds) good_front none x w (record { known = All-cons (Contains (take k ds)) x w h.0 is.known; linked = is.linked }) in
      omega (arith, lt)

  module _ (count_is : count ≡ length p.sorts) (open_ended : (k : ℕ) (f : placed.Function) → slice_get p.functions k ≡ Some f → closes_cycle p (take k p.functions) f ≡ false) where
    no_cycle : (k : ℕ) → k ≤ length ds → HasCycle (take k ds) → ⊥
    no_cycle zero le c = let i = contains-at [] c.0 (All-head (Contains []) c.0 c.1 c.2.known) in (let e : ◌≡◌ {A = Option FunDecl} None (Some c.0) = i.1 in cc)
    no_cycle (suc k) le c =
        let none : HasCycle (take k ds) → ⊥ = no_cycle k (omega (arith, le)) in
        let d : FunDecl = get_or ds k c.0 in
        let at : slice_get ds k ≡ Some d = slice_get-get_or ds k c.0 (omega (arith, le)) in
        let same : suc k ≡ k + 1 = omega arith in
        let w = way_back ds k d at (subst (λ (n : ℕ). HasCycle (take n ds)) same c) none in
        let q = one_by_one-from (FunctionDenotes (names_of (file_of p))) (map function_of p.functions) ds k d denotes at in
        let g = map_from function_of p.functions k q.0 q.1 in
        let it : FunctionDenotes (names_of (file_of p)) (function_of g.0) d = subst (λ z. FunctionDenotes (names_of (file_of p)) z d) (sym g.2) q.2 in
        let long : length w.0 ≤ length p.sorts = (let l : length w.0 ≤ count = short_walk k w.0 d.target d.source none w.1 in omega (arith, l, count_is)) in
        no_true _ (walk-leads k w.0 (length p.sorts) g.0.target.text g.0.source.text d.target d.source w.1 long it.target it.source) (open_ended k g.0 g.1)

    pub acyclic : IsAcyclic count ds
    acyclic = acyclic_from count ds good (subst (λ (fs : List FunDecl). HasCycle fs → ⊥) (take_all (length ds) ds (omega arith)) (no_cycle (length ds) (omega arith)))
