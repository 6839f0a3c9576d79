use Rattle.std.proofs.Common.{◌≡◌, ◌<◌, ℕ, List, length, map, refl, sym, ◌∙◌, ap, subst}
use Rattle.std.specs.Prelude.{Some, slice_get}
use Rattle.std.proofs.lemmas.List.{length-map}
use Rattle.ras_lexer.specs.declared.token.Token.{Token}
use Rattle.ras_syntax.specs.declared.tree.File as tree
use Rattle.ras_syntax.specs.declared.tree.Function.{Function}
use Rattle.ras_syntax.specs.Grammar.{IsFile}
use Rattle.ras_syntax.specs.Places.{of_file, words}
use Rattle.ras_names.specs.declared.spec_fault.SpecKind.{SpecKind}
use Rattle.ras_names.specs.declared.spec_fault.SpecKind.TheVariants.{DuplicateName, UnknownName, WrongSort, Cycle, TooMany, TooWide, RepeatedTarget}
use Rattle.ras_names.specs.declared.spec_fault.SpecFault.{SpecFault}
use Rattle.ras_names.specs.Placed as placed
use Rattle.ras_names.specs.PlacedTokens.{IsFileOf}
use Rattle.ras_names.specs.FileChecks.{first_fault}
use Rattle.ras_names.specs.Faults.{IsFirstFault}
use Rattle.ras_scope.specs.Placing.{placed_file, placed_function}
use Rattle.ras_file.specs.declared.fault.FileKind.{FileKind}
use Rattle.ras_file.specs.FileFaults.{IsNamesKind}
use Rattle.ras_file.proofs.Cycles.{cycle_within}
use Rattle.ras_file.proofs.OneFault.{OneGrammarFile, one_placed, at_within}
use Rattle.ras_file.proofs.reading.of_names.Goals as goal
use Rattle.ras_file.proofs.reading.of_names.Goals.{in-DuplicateName, in-UnknownName, in-WrongSort, in-Cycle, in-TooMany, in-TooWide, in-RepeatedTarget}

-- the placed file of the tree has the first fault
record IsOfTree (tokens : List Token) (file : tree.File) (first : SpecFault) : Type 0 where
  of : IsFileOf tokens (placed_file file)
  is_first : first_fault (placed_file file) ≡ Some first

of_tree : OneGrammarFile → ((file : tree.File) → IsFile (words (of_file file)) → IsFileOf (of_file file) (placed_file file))
    → (tokens : List Token) (file : tree.File) (first : SpecFault) → of_file file ≡ tokens → IsFile (words (of_file file)) → IsFirstFault tokens first → IsOfTree tokens file first
of_tree one law tokens file first view is h =
    let of : IsFileOf tokens (placed_file file) = subst (λ (ts : List Token). IsFileOf ts (placed_file file)) view (law file is) in
    let same : h.file ≡ placed_file file = one_placed one tokens h.file (placed_file file) h.of of in
    record { of = of; is_first = subst (λ (f : placed.File). first_fault f ≡ Some first) same h.first }

-- the kind is told as that which it is
told : (file : placed.File) (is kind : SpecKind) (result : FileKind) → kind ≡ is → IsNamesKind file is result → IsNamesKind file kind result
told file is kind result same h = subst (λ (k : SpecKind). IsNamesKind file k result) (sym same) h

pub cycle-kind-requires : goal.cycle-kind-requires
cycle-kind-requires c =
    let file : tree.File = c.tree.inside.file in
    let t = of_tree c.words_determine_the_file.ensures c.a_tree_is_a_placed_file.ensures c.args.tree.now file c.args.first c.tree.view_is c.tree.invariant c.requires in
    let within : c.in-Cycle.function.n < length (map placed_function file.functions.items) = cycle_within (placed_file file) c.args.first c.in-Cycle.function t.is_first c.in-Cycle.is in
    let count : length (map placed_function file.functions.items) ≡ length c.as_slice-functions.result.now = length-map file.functions.items placed_function ∙ ap length (sym c.as_slice-functions.ensures.value) in
    subst (λ (n : ℕ). c.in-Cycle.function.n < n) count within

pub returns : goal.returns
returns c =
    let file : tree.File = c.tree.inside.file in
    let t = of_tree c.words_determine_the_file.ensures c.a_tree_is_a_placed_file.ensures c.args.tree.now file c.args.first c.tree.view_is c.tree.invariant c.requires in
    record {
      file = placed_file file;
      of = t.of;
      first = c.args.first;
      is_first = t.is_first;
      at = refl;
      kind = elim c.match-first.branch [
        | in-DuplicateName w ↦ told (placed_file file) DuplicateName c.args.first.kind c.match-first.kind w.in-DuplicateName.is w.kind-is
        | in-UnknownName w ↦ told (placed_file file) UnknownName c.args.first.kind c.match-first.kind w.in-UnknownName.is w.kind-is
        | in-WrongSort w ↦ told (placed_file file) WrongSort c.args.first.kind c.match-first.kind w.in-WrongSort.is w.kind-is
        | in-Cycle w ↦
            let f = at_within (map placed_function file.functions.items) w.in-Cycle.function.n (cycle_within (placed_file file) c.args.first w.in-Cycle.function t.is_first w.in-Cycle.is) in
            told (placed_file file) (Cycle w.in-Cycle.function) c.args.first.kind c.match-first.kind w.in-Cycle.is
            (f.0, f.1, w.kind-is ∙ w.cycle-kind.ensures f.0 (subst (λ (xs : List Function). slice_get (map placed_function xs) w.in-Cycle.function.n ≡ Some f.0) (sym c.as_slice-functions.ensures.value) f.1))
        | in-TooMany w ↦ told (placed_file file) TooMany c.args.first.kind c.match-first.kind w.in-TooMany.is w.kind-is
        | in-TooWide w ↦ told (placed_file file) TooWide c.args.first.kind c.match-first.kind w.in-TooWide.is w.kind-is
        | in-RepeatedTarget w ↦ told (placed_file file) RepeatedTarget c.args.first.kind c.match-first.kind w.in-RepeatedTarget.is w.kind-is
      ];
    }
