-- The checks of a function, in the words of what was read above it.
use Rattle.std.proofs.Common.{◌≡◌, ℕ, Bool, true, false, List, [], ◌∷◌, ◌++◌, length, take, map, refl, ◌∙◌, ap, subst}
use Rattle.std.specs.Prelude.{Some, position}
use Rattle.std.specs.Str.{bytes_eq}
use Rattle.std.proofs.lemmas.List.{length-map}
use Rattle.ras_syntax.specs.Grammar.{Text}
use Rattle.ras_logic.specs.declared.function.FunDecl.{FunDecl}
use Rattle.ras_logic.proofs.Walks.{lead}
use Rattle.ras_names.specs.declared.spec_fault.SpecKind.TheVariants.{Cycle}
use Rattle.ras_names.specs.Placed as placed
use Rattle.ras_names.specs.Placed.{Name}
use Rattle.ras_names.specs.Checks.{Check, check, is_among, texts, declared_checks, used_check}
use Rattle.ras_names.specs.FileChecks.{closes_cycle, function_checks}
use Rattle.ras_names.proofs.Passing.{Passes, pass_both, pass_one}
use Rattle.ras_numbering.specs.Numbers.{number_in}
use Rattle.ras_numbering.specs.FileValues.{function_value}
use Rattle.ras_scope.specs.declared.fault.SpecError.{SpecError}
use Rattle.ras_scope.specs.declared.fault.SpecError.TheVariants.{Fault}
use Rattle.ras_scope.specs.declared.table.Table.{Table}
use Rattle.ras_scope.specs.Answering.{Faults}
use Rattle.ras_declarations.specs.Declaring.{AreAbove}
use Rattle.ras_scope.proofs.Following.{faults_stay, faults_follow}
use Rattle.ras_declarations.proofs.NewNames.{used_known}
use Rattle.ras_scope.proofs.Places.{number_is}
use Rattle.ras_declarations.proofs.NamedLeads.{leads_same}

module _ (p : placed.File) (n : ℕ) (shared sorts : List Text) (above : Table FunDecl) (f : placed.Function) (a : AreAbove p n shared sorts above) where
  abbrev closes : Bool
  closes = closes_cycle p (take n p.functions) f

  -- the checks by what was read
  abbrev first : List Check
  first = declared_checks 256 (length above.names) shared f.name

  abbrev rest : List Check
  rest = used_check sorts f.source ∷ used_check sorts f.target ∷ check f.name.at (Cycle (record { n = length above.names })) closes ∷ []

  pub same_parts : first ++ rest ≡ function_checks p n f
  same_parts = λ i.
      declared_checks 256 (a.count i) (a.shared_names i) f.name
      ++ (used_check (a.all_sorts i) f.source ∷ used_check (a.all_sorts i) f.target ∷ check f.name.at (Cycle (record { n = a.count i })) closes ∷ [])

  pub name_fails : (e : SpecError) → Faults first e → Faults (function_checks p n f) e
  name_fails e h = subst (λ (cs : List Check). Faults cs e) same_parts (faults_stay first rest e h)

  pub source_fails : (e : SpecError) → Passes first → Faults (used_check sorts f.source ∷ []) e → Faults (function_checks p n f) e
  source_fails e pass h = subst (λ (cs : List Check). Faults cs e) same_parts (faults_follow first rest e pass (faults_stay (used_check sorts f.source ∷ []) (used_check sorts f.target ∷ check f.name.at (Cycle (record { n = length above.names })) closes ∷ []) e h))

  pub target_fails : (e : SpecError) → Passes first → Passes (used_check sorts f.source ∷ []) → Faults (used_check sorts f.target ∷ []) e → Faults (function_checks p n f) e
  target_fails e pass source h =
      subst (λ (cs : List Check). Faults cs e) same_parts (faults_follow first rest e pass
      (faults_follow (used_check sorts f.source ∷ []) (used_check sorts f.target ∷ check f.name.at (Cycle (record { n = length above.names })) closes ∷ []) e source
      (faults_stay (used_check sorts f.target ∷ []) (check f.name.at (Cycle (record { n = length above.names })) closes ∷ []) e h)))

  -- the functions lead by numbers just as the check says
  pub closes_is : (s t : ℕ) → position (bytes_eq f.source.text) sorts ≡ Some s → position (bytes_eq f.target.text) sorts ≡ Some t
      → Passes (used_check sorts f.source ∷ []) → Passes (used_check sorts f.target ∷ []) → lead above.values.items (length sorts) t s ≡ closes
  closes_is s t at_source at_target source target =
      let len : length sorts ≡ length p.sorts = ap length a.all_sorts ∙ length-map p.sorts (λ (m : Name). m.text) in
      let one : s ≡ number_in (texts p.sorts) f.source.text = number_is sorts f.source.text s at_source ∙ ap (λ (ss : List Text). number_in ss f.source.text) a.all_sorts in
      let two : t ≡ number_in (texts p.sorts) f.target.text = number_is sorts f.target.text t at_target ∙ ap (λ (ss : List Text). number_in ss f.target.text) a.all_sorts in
      let known_source : is_among (texts p.sorts) f.source.text ≡ true = subst (λ (ss : List Text). is_among ss f.source.text ≡ true) a.all_sorts (used_known sorts f.source source) in
      let known_target : is_among (texts p.sorts) f.target.text ≡ true = subst (λ (ss : List Text). is_among ss f.target.text ≡ true) a.all_sorts (used_known sorts f.target target) in
      let numbers : lead above.values.items (length sorts) t s ≡ lead (map (function_value p) (take n p.functions)) (length p.sorts) (number_in (texts p.sorts) f.target.text) (number_in (texts p.sorts) f.source.text) =
      λ i. lead (a.values i) (len i) (two i) (one i) in
      numbers ∙ leads_same p (take n p.functions) (length p.sorts) f.target.text f.source.text a.sort_texts known_target known_source

  pub cycle_fails : Passes first → Passes (used_check sorts f.source ∷ []) → Passes (used_check sorts f.target ∷ []) → closes ≡ true
      → Faults (function_checks p n f) (Fault (record { at = f.name.at; kind = Cycle (record { n = length above.names }) }))
  cycle_fails pass source target is =
      let e : SpecError = Fault (record { at = f.name.at; kind = Cycle (record { n = length above.names }) }) in
      subst (λ (cs : List Check). Faults cs e) same_parts (faults_follow first rest e pass
      (faults_follow (used_check sorts f.source ∷ []) (used_check sorts f.target ∷ check f.name.at (Cycle (record { n = length above.names })) closes ∷ []) e source
      (faults_follow (used_check sorts f.target ∷ []) (check f.name.at (Cycle (record { n = length above.names })) closes ∷ []) e target (rw is refl))))

  pub all_pass : Passes first → Passes (used_check sorts f.source ∷ []) → Passes (used_check sorts f.target ∷ []) → closes ≡ false → Passes (function_checks p n f)
  all_pass pass source target is =
      subst Passes same_parts (pass_both first rest pass
      (pass_both (used_check sorts f.source ∷ []) (used_check sorts f.target ∷ check f.name.at (Cycle (record { n = length above.names })) closes ∷ []) source
      (pass_both (used_check sorts f.target ∷ []) (check f.name.at (Cycle (record { n = length above.names })) closes ∷ []) target
      (pass_one (check f.name.at (Cycle (record { n = length above.names })) closes) is))))
