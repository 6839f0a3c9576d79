-- Where the functions of a file denote acyclic ones, none of them closes a cycle.
use Rattle.std.proofs.Common.{◌≡◌, ℕ, zero, suc, Bool, true, false, List, [], ◌∷◌, length, take, map, ◌∙◌, ap, subst, ⊎_elim}
use Rattle.std.specs.Prelude.{◌&&◌, Some, slice_get, Contains}
use Rattle.std.specs.List.{list_any}
use Rattle.std.specs.Str.{bytes_eq}
use Rattle.std.proofs.lemmas.Option.{slice_get-get_or}
use Rattle.std.proofs.lemmas.Bool.{and_parts}
use Rattle.std.proofs.lemmas.List.Folds.{Any-from_list_any}
use Rattle.std.proofs.lemmas.List.Elements.{All-cons}
use Rattle.ras_logic.specs.declared.ids.SortId.{SortId}
use Rattle.ras_logic.specs.declared.function.FunDecl.{FunDecl}
use Rattle.ras_logic.specs.Schemas.{IsChain}
use Rattle.ras_logic.proofs.Rounds.{acyclic-no_cycle}
use Rattle.ras_logic.proofs.Walks.{Walk, walked, either_true}
use Rattle.ras_logic.proofs.ByPlace.{at_contains, map-at, not_true, take_at}
use Rattle.ras_system.specs.Systems.{SystemParts}
use Rattle.ras_syntax.specs.Grammar.{Text}
use Rattle.ras_names.specs.declared.names.Names.{Names}
use Rattle.ras_names.specs.Lists.{HasNumber}
use Rattle.ras_names.specs.FileNames.{names_of}
use Rattle.ras_names.specs.Files.{FunctionDenotes, FileDenotes}
use Rattle.ras_names.specs.Placed as placed
use Rattle.ras_names.specs.Unplaced.{function_of, file_of}
use Rattle.ras_names.specs.FileChecks.{leads, closes_cycle}
use Rattle.ras_names.proofs.Together.{one_by_one-to}
use Rattle.ras_names.proofs.ClearNames.{sorts-numbered}
use Rattle.ras_names.proofs.Among.{text_same}
use Rattle.ras_names.proofs.PassTerms.{declared_by, names}

module _ (p : placed.File) (system : SystemParts) (denotes : FileDenotes (file_of p) system (names_of (file_of p))) where
  abbrev functions : List FunDecl
  functions = system.shape.schema.functions

  abbrev all : Names
  all = names p system.shape (declared_by p system denotes)

  one_sort : (name : Text) (a b : SortId) → HasNumber all.sorts name a.n → HasNumber all.sorts name b.n → a ≡ b
  one_sort name a b h k = ap (λ (n : ℕ). record { n = n }) (sorts-numbered all denotes.new_names name a.n b.n h k)

  -- what a function denotes
  record IsDecl (f : placed.Function) : Type 0 where
    decl : FunDecl
    known : Contains functions decl
    denoted_by : FunctionDenotes all (function_of f) decl

  decl_of : (k : ℕ) (f : placed.Function) → slice_get p.functions k ≡ Some f → IsDecl f
  decl_of k f at =
      let d = one_by_one-to (FunctionDenotes all) (map function_of p.functions) functions k (function_of f) denotes.functions (map-at function_of p.functions k f at) in
      record { decl = d.0; known = at_contains functions k d.0 d.1; denoted_by = d.2 }

  leads-walk : (above : List placed.Function) → ((k : ℕ) (f : placed.Function) → slice_get above k ≡ Some f → IsDecl f) → (n : ℕ) (from to : Text) (a b : SortId)
      → HasNumber all.sorts from a.n → HasNumber all.sorts to b.n → leads above n from to ≡ true → (ds : List FunDecl) × Walk functions ds a b
  leads-walk above known zero from to a b h k e = ([], one_sort to a b (subst (λ (t : Text). HasNumber all.sorts t a.n) (text_same from to e) h) k)
  leads-walk above known (suc n) from to a b h k e =
      ⊎_elim (λ same. ([], one_sort to a b (subst (λ (t : Text). HasNumber all.sorts t a.n) (text_same from to same) h) k))
      (λ some. let test : placed.Function → Bool = λ f. bytes_eq f.source.text from && leads above n f.target.text to in
      let any = Any-from_list_any test above some in
      let g : placed.Function = any.1 in
      let parts = and_parts (bytes_eq g.source.text from) (leads above n g.target.text to) any.4 in
      let d : IsDecl g = known any.0 g (slice_get-get_or above any.0 g any.2 ∙ ap (λ (z : placed.Function). Some z) any.3) in
      let source : d.decl.source ≡ a = one_sort from d.decl.source a (subst (λ (t : Text). HasNumber all.sorts t d.decl.source.n) (text_same g.source.text from parts.0) d.denoted_by.source) h in
      let rest = leads-walk above known n g.target.text to d.decl.target b d.denoted_by.target k parts.1 in
      (d.decl ∷ rest.0, (d.known, source, rest.1)))
      (either_true (bytes_eq from to) (list_any (λ (f : placed.Function). bytes_eq f.source.text from && leads above n f.target.text to) above) e)

  pub no-cycle : (k : ℕ) (f : placed.Function) → slice_get p.functions k ≡ Some f → closes_cycle p (take k p.functions) f ≡ false
  no-cycle k f at =
      not_true (closes_cycle p (take k p.functions) f) (λ h.
      let d : IsDecl f = decl_of k f at in
      let above : List placed.Function = take k p.functions in
      let walk = leads-walk above (λ j g e. decl_of j g (take_at k p.functions j g e).0) (length p.sorts) f.target.text f.source.text d.decl.target d.decl.source d.denoted_by.target d.denoted_by.source h in
      let is = walked functions d.decl walk.0 d.decl.source walk.1 in
      let chain : IsChain functions (d.decl ∷ walk.0) = record { known = All-cons (Contains functions) d.decl walk.0 d.known is.known; linked = is.linked } in
      acyclic-no_cycle system.shape.schema.sorts functions denotes.is_system.shape.schema.acyclic (d.decl, walk.0, chain, is.ends))
