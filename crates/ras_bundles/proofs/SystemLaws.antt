-- The system part of a bundle is read exactly, up to the first line that does not fit.
use Rattle.std.proofs.Common.{◌≡◌, ℕ, ◌^◌, ◌<◌, ◌≤◌, List, [], ◌∷◌, ◌++◌, length, Bool, true, false, eqb, refl, sym, ap, arith, rules, tests, append-nil}
use Rattle.std.specs.Prelude.{Option, Some, None, Ok, codes}
use Rattle.std.specs.List.{flat_map}
use Rattle.std.specs.Char.{is_ascii_digit}
use Rattle.std.specs.Str.{all_ascii_digits}
use Rattle.std.specs.Fmt.{decimal}
use Rattle.std.proofs.lemmas.Bool.{ne_eqb, and_parts}
use Rattle.std.proofs.lemmas.Fmt.{digits_decimal, decimal_nonempty}
use Rattle.ras_lines.proofs.Numbers.{own}
use Rattle.ras_logic.specs.declared.problem.Problem.{Problem}
use Rattle.ras_logic.specs.declared.term.Base.TheVariants.{Constant}
use Rattle.ras_logic.specs.declared.term.Term.{Term}
use Rattle.ras_lines.specs.Lines.{count_line, section, AreWritten}
use Rattle.ras_lines.specs.Words.{cube_line, IsSmallCube, term_word, IsSmallTerm}
use Rattle.ras_lines.specs.Trees.{IsWrittenNumber}
use Rattle.ras_lines.specs.Fronts.{Front, follow, chain, IsExact}
use Rattle.ras_lines.specs.Numbers.{behind, number, behind_blank, announced}
use Rattle.ras_lines.specs.Formulas.{term, cube}
use Rattle.ras_lines.specs.Sections as lines
use Rattle.ras_lines.proofs.Behind.{behind_sound}
use Rattle.ras_lines.proofs.Exact.{followed, moved, either_case, EndsWord, no_digit, number_exact, number_again, number_sound, blank_word, blank_exact, announced_text, announced_exact, chain_reads, said_otherwise, fixed_first}
use Rattle.ras_lines.proofs.FormulaLaws.{spaced-counted, word_term_exact, cube_exact}
use Rattle.ras_lines.proofs.SectionLaws.{IsExactText, chain_exact, line_exact, count_line_exact, section_exact, section_lines, under_line, text_otherwise}
use Rattle.ras_bundles.specs.declared.system_lines.FunctionLine.{FunctionLine}
use Rattle.ras_bundles.specs.declared.system_lines.VariableLine.{VariableLine}
use Rattle.ras_bundles.specs.declared.system_lines.UpdateLine.{UpdateLine}
use Rattle.ras_bundles.specs.declared.system_lines.TransitionLines.{TransitionLines}
use Rattle.ras_bundles.specs.declared.system_lines.ConstantLine.{ConstantLine}
use Rattle.ras_bundles.specs.declared.system_lines.SystemLines.{SystemLines}
use Rattle.ras_bundles.specs.SystemTexts.{totality_word, function_line, initial_word, variable_line, update_line, constant_line, transition_lines, system_lines, IsWrittenFunction, IsWrittenInitial, IsWrittenVariable, IsWrittenUpdate, IsWrittenTransition, IsWrittenSystem}
use Rattle.ras_bundles.specs.SystemReading as first
use Rattle.ras_evidence.proofs.EvidenceLaws.{empty_cube}

abbrev next_number : List ℕ → Front ℕ ℕ
next_number bytes = behind_blank number bytes

next_exact : IsExact EndsWord (blank_word decimal) IsWrittenNumber next_number
next_exact = blank_exact decimal IsWrittenNumber number number_exact

-- Functions.

totality_sound : (bytes : List ℕ) (b : Bool) (rest : List ℕ) → first.totality bytes ≡ Ok (b, rest) → (bytes ≡ totality_word b ++ rest) × Unit {0}
totality_sound bytes b rest =
    let P : Front ℕ Bool → Type 0 = λ o. o ≡ Ok (b, rest) → (bytes ≡ totality_word b ++ rest) × Unit {0} in
    either_case (behind (codes "total") bytes) _ _ P
    (λ r is e. moved totality_word (λ _. Unit {0}) bytes true b r rest e (behind_sound (codes "total") bytes r is) tt)
    (either_case (behind (codes "nullable") bytes) _ _ P
    (λ r is e. moved totality_word (λ _. Unit {0}) bytes false b r rest e (behind_sound (codes "nullable") bytes r is) tt)
    (λ e. absurd cc))

totality_again : (b : Bool) (rest : List ℕ) → first.totality (totality_word b ++ rest) ≡ Ok (b, rest)
totality_again true rest = refl
totality_again false rest = refl

totality_exact : IsExact EndsWord totality_word (λ _. Unit {0}) first.totality
totality_exact = record { sound = totality_sound; again = λ b rest valid ends. totality_again b rest }

abbrev TargetValid : ℕ × Bool → Type 0
TargetValid p = IsWrittenNumber p.0 × Unit {0}

abbrev target_text : ℕ × Bool → List ℕ
target_text p = blank_word decimal p.0 ++ blank_word totality_word p.1

abbrev target : List ℕ → Front ℕ (ℕ × Bool)
target bytes = chain (λ n total. (n, total)) next_number (behind_blank first.totality) bytes

target_exact : IsExact EndsWord target_text TargetValid target
target_exact =
    chain_reads (λ (n : ℕ) (total : Bool). (n, total)) (λ p. p.0) (λ p. p.1) (λ n b. refl) (λ n b. refl) (λ p. refl) EndsWord EndsWord (blank_word decimal) IsWrittenNumber next_number next_exact
    (blank_word totality_word) (λ _. Unit {0}) (behind_blank first.totality) (blank_exact totality_word (λ _. Unit {0}) first.totality totality_exact) (λ y rest ends. refl)

abbrev FunctionValid : FunctionLine → Type 0
FunctionValid f = IsWrittenNumber f.source × TargetValid (f.target, f.total)

abbrev function_words : FunctionLine → List ℕ
function_words f = blank_word decimal f.source ++ target_text (f.target, f.total)

function_text : (f : FunctionLine) → codes "function" ++ function_words f ≡ function_line f
function_text f = ap (λ (w : List ℕ). codes "function" ++ (blank_word decimal f.source ++ (blank_word decimal f.target ++ w))) (sym (append-nil (blank_word totality_word f.total)))

function_exact : IsExact EndsWord function_line IsWrittenFunction first.function
function_exact =
    said_otherwise EndsWord (λ f. codes "function" ++ function_words f) function_line FunctionValid IsWrittenFunction first.function function_text
    (λ f v. record { source = v.0; target = v.1.0 }) (λ f w. (w.source, (w.target, tt)))
    (fixed_first (codes "function") EndsWord function_words FunctionValid (chain first.function_of next_number target)
    (chain_reads first.function_of (λ f. f.source) (λ f. (f.target, f.total)) (λ n p. refl) (λ n p. refl) (λ f. refl) EndsWord EndsWord (blank_word decimal) IsWrittenNumber next_number next_exact
    target_text TargetValid target target_exact (λ y rest ends. refl)))

-- Variables.

initial_sound : (bytes : List ℕ) (i : Option ℕ) (rest : List ℕ) → first.initial bytes ≡ Ok (i, rest) → (bytes ≡ initial_word i ++ rest) × IsWrittenInitial i
initial_sound bytes i rest =
    let P : Front ℕ (Option ℕ) → Type 0 = λ o. o ≡ Ok (i, rest) → (bytes ≡ initial_word i ++ rest) × IsWrittenInitial i in
    either_case (behind (codes "none") bytes) _ _ P
    (λ r is e. moved initial_word IsWrittenInitial bytes None i r rest e (behind_sound (codes "none") bytes r is) tt)
    (λ e.
    let s = followed (number bytes) (λ n r. let o : Front ℕ (Option ℕ) = Ok (Some n, r) in o) i rest e in
    let d = number_sound bytes s.1 s.0 s.2 in
    moved initial_word IsWrittenInitial bytes (Some s.0) i s.1 rest s.3 d.0 d.1)

no_letter : (b : ℕ) → is_ascii_digit b ≡ true → eqb b 110 ≡ false
no_letter b e =
    let low : b ≤ 57 = search (rules, tests) in
    ne_eqb b 110 (λ h. omega (arith, low, h))

digits_no_none : (w rest : List ℕ) → all_ascii_digits w ≡ true → 0 < length w → behind (codes "none") (w ++ rest) ≡ None
digits_no_none [] rest h lt = absurd (omega arith)
digits_no_none (d ∷ ds) rest h lt = rw (no_letter d (and_parts (is_ascii_digit d) (all_ascii_digits ds) h).0) refl

none_behind : (n : ℕ) (rest : List ℕ) → n < 2 ^ 32 → behind (codes "none") (decimal n ++ rest) ≡ None
none_behind n rest lt = digits_no_none (decimal n) rest (digits_decimal own n (omega (arith, lt))) (decimal_nonempty n (omega (arith, lt)))

initial_again : (i : Option ℕ) (rest : List ℕ) → IsWrittenInitial i → EndsWord rest → first.initial (initial_word i ++ rest) ≡ Ok (i, rest)
initial_again None rest small ends = refl
initial_again (Some n) rest small ends = rw (none_behind n rest small, number_again n rest small (no_digit rest ends)) refl

initial_exact : IsExact EndsWord initial_word IsWrittenInitial first.initial
initial_exact = record { sound = initial_sound; again = initial_again }

abbrev VariableValid : VariableLine → Type 0
VariableValid v = IsWrittenNumber v.sort × IsWrittenInitial v.initial

abbrev variable_words : VariableLine → List ℕ
variable_words v = blank_word decimal v.sort ++ blank_word initial_word v.initial

variable_text : (v : VariableLine) → codes "variable" ++ variable_words v ≡ variable_line v
variable_text v = ap (λ (w : List ℕ). codes "variable" ++ (blank_word decimal v.sort ++ w)) (sym (append-nil (blank_word initial_word v.initial)))

variable_exact : IsExact EndsWord variable_line IsWrittenVariable first.variable
variable_exact =
    said_otherwise EndsWord (λ v. codes "variable" ++ variable_words v) variable_line VariableValid IsWrittenVariable first.variable variable_text
    (λ v h. record { sort = h.0; initial = h.1 }) (λ v w. (w.sort, w.initial))
    (fixed_first (codes "variable") EndsWord variable_words VariableValid (chain first.variable_of next_number (behind_blank first.initial))
    (chain_reads first.variable_of (λ v. v.sort) (λ v. v.initial) (λ n i. refl) (λ n i. refl) (λ v. refl) EndsWord EndsWord (blank_word decimal) IsWrittenNumber next_number next_exact
    (blank_word initial_word) IsWrittenInitial (behind_blank first.initial) (blank_exact initial_word IsWrittenInitial first.initial initial_exact) (λ y rest ends. refl)))

-- Updates.

abbrev UpdateValid : UpdateLine → Type 0
UpdateValid u = IsWrittenNumber u.target × IsSmallTerm u.term

abbrev update_words : UpdateLine → List ℕ
update_words u = blank_word decimal u.target ++ blank_word term_word u.term

update_text : (u : UpdateLine) → codes "update" ++ update_words u ≡ update_line u
update_text u = ap (λ (w : List ℕ). codes "update" ++ (blank_word decimal u.target ++ w)) (sym (append-nil (blank_word term_word u.term)))

abbrev update_of : ℕ → Term → UpdateLine
update_of n t = record { target = n; term = t }

update_exact : IsExact EndsWord update_line IsWrittenUpdate first.update
update_exact =
    said_otherwise EndsWord (λ u. codes "update" ++ update_words u) update_line UpdateValid IsWrittenUpdate first.update update_text
    (λ u h. record { target = h.0; term = h.1 }) (λ u w. (w.target, w.term))
    (fixed_first (codes "update") EndsWord update_words UpdateValid (chain update_of next_number (behind_blank term))
    (chain_reads update_of (λ u. u.target) (λ u. u.term) (λ n t. refl) (λ n t. refl) (λ u. refl) EndsWord EndsWord (blank_word decimal) IsWrittenNumber next_number next_exact
    (blank_word term_word) IsSmallTerm (behind_blank term) (blank_exact term_word IsSmallTerm term word_term_exact) (λ y rest ends. refl)))

-- Constants.

abbrev ConstantsValid : ConstantLine → Type 0
ConstantsValid c = AreWritten IsWrittenNumber c.sorts

abbrev constant_words : ConstantLine → List ℕ
constant_words c = announced_text decimal c.sorts

abbrev sorts_of : List ℕ → Front ℕ ConstantLine
sorts_of more = follow (announced number more) (λ ns rest. Ok (record { sorts = ns }, rest))

sorts_exact : IsExact EndsWord constant_words ConstantsValid sorts_of
sorts_exact =
    let exact = announced_exact decimal IsWrittenNumber number number_exact in
    record {
      sound = λ bytes c rest e.
          let s = followed (announced number bytes) (λ ns r. let o : Front ℕ ConstantLine = Ok (record { sorts = ns }, r) in o) c rest e in
          let d = exact.sound bytes s.0 s.1 s.2 in
          moved constant_words ConstantsValid bytes (record { sorts = s.0 }) c s.1 rest s.3 d.0 d.1;
      again = λ c rest valid ends. ap (λ (o : Front ℕ (List ℕ)). follow o (λ ns r. let o : Front ℕ ConstantLine = Ok (record { sorts = ns }, r) in o)) (exact.again c.sorts rest valid ends);
    }

constants_exact : IsExact EndsWord constant_line ConstantsValid first.constants
constants_exact =
    said_otherwise EndsWord (λ c. codes "consts" ++ constant_words c) constant_line ConstantsValid ConstantsValid first.constants
    (λ c. ap (λ (w : List ℕ). codes "consts" ++ w) (sym (spaced-counted decimal c.sorts))) (λ c v. v) (λ c v. v)
    (fixed_first (codes "consts") EndsWord constant_words ConstantsValid sorts_of sorts_exact)

-- Transitions.

small_zero : IsWrittenNumber 0
small_zero = omega arith

none_written : {X : Type 0} (Valid : X → Type 0) → AreWritten Valid []
none_written Valid = record { count = small_zero; each = tt }

abbrev cubes_first : List ℕ → List (List ℕ) → Front (List ℕ) (List Problem)
cubes_first word ls = lines.section word (lines.at_line cube) ls

cubes_exact : (word : List ℕ) → IsExactText (section word cube_line) (AreWritten IsSmallCube) (cubes_first word)
cubes_exact word = section_lines word cube_line IsSmallCube cube cube_exact (record { rows = []; params = []; literals = [] }) empty_cube

updates_exact : IsExactText (section (codes "updates") update_line) (AreWritten IsWrittenUpdate) (lines.section (codes "updates") (lines.at_line first.update))
updates_exact =
    section_lines (codes "updates") update_line IsWrittenUpdate first.update update_exact (record { target = 0; term = record { base = Constant (record { n = 0 }); path = [] } })
    (record { target = small_zero; term = record { base = omega arith; path = tt } })

abbrev transition_of : List Problem → List UpdateLine → TransitionLines
transition_of g u = record { guard = g; updates = u }

abbrev TransitionValid : TransitionLines → Type 0
TransitionValid t = AreWritten IsSmallCube t.guard × AreWritten IsWrittenUpdate t.updates

transition_exact : IsExactText transition_lines IsWrittenTransition first.transition
transition_exact =
    text_otherwise transition_lines transition_lines TransitionValid IsWrittenTransition first.transition (λ t. refl) (λ t v. record { guard = v.0; updates = v.1 }) (λ t w. (w.guard, w.updates))
    (chain_exact transition_of (λ t. t.guard) (λ t. t.updates) (λ g u. refl) (λ g u. refl) (λ t. refl) (section (codes "guard") cube_line) (AreWritten IsSmallCube) (cubes_first (codes "guard"))
    (cubes_exact (codes "guard")) (section (codes "updates") update_line) (AreWritten IsWrittenUpdate) (lines.section (codes "updates") (lines.at_line first.update)) updates_exact
    [] (none_written IsWrittenUpdate))

abbrev transitions_text : List TransitionLines → List (List ℕ)
transitions_text ts = count_line (codes "transitions") (length ts) ∷ flat_map transition_lines ts

transitions_exact : IsExactText transitions_text (AreWritten IsWrittenTransition) (lines.section (codes "transitions") first.transition)
transitions_exact =
    section_exact (codes "transitions") transition_lines IsWrittenTransition first.transition transition_exact (record { guard = []; updates = [] })
    (record { guard = none_written IsSmallCube; updates = none_written IsWrittenUpdate })

-- From the back to the front.

abbrev Text1 : first.Transitions → List (List ℕ)
Text1 p = transitions_text p.0 ++ section (codes "unsafe") cube_line p.1

abbrev Valid1 : first.Transitions → Type 0
Valid1 p = AreWritten IsWrittenTransition p.0 × AreWritten IsSmallCube p.1

exact1 : IsExactText Text1 Valid1 first.from_transitions
exact1 =
    chain_exact (λ (ts : List TransitionLines) (gs : List Problem). (ts, gs)) (λ p. p.0) (λ p. p.1) (λ a b. refl) (λ a b. refl) (λ p. refl) transitions_text (AreWritten IsWrittenTransition)
    (lines.section (codes "transitions") first.transition) transitions_exact (section (codes "unsafe") cube_line) (AreWritten IsSmallCube) (cubes_first (codes "unsafe")) (cubes_exact (codes "unsafe"))
    [] (none_written IsSmallCube)

none1 : Valid1 ([], [])
none1 = (none_written IsWrittenTransition, none_written IsSmallCube)

variables_exact : IsExactText (section (codes "variables") variable_line) (AreWritten IsWrittenVariable) (lines.section (codes "variables") (lines.at_line first.variable))
variables_exact = section_lines (codes "variables") variable_line IsWrittenVariable first.variable variable_exact (record { sort = 0; initial = None }) (record { sort = small_zero; initial = tt })

abbrev Text2 : first.Variables → List (List ℕ)
Text2 p = section (codes "variables") variable_line p.0 ++ Text1 p.1

abbrev Valid2 : first.Variables → Type 0
Valid2 p = AreWritten IsWrittenVariable p.0 × Valid1 p.1

exact2 : IsExactText Text2 Valid2 first.from_variables
exact2 =
    chain_exact (λ (vs : List VariableLine) (q : first.Transitions). (vs, q)) (λ p. p.0) (λ p. p.1) (λ a b. refl) (λ a b. refl) (λ p. refl) (section (codes "variables") variable_line)
    (AreWritten IsWrittenVariable) (lines.section (codes "variables") (lines.at_line first.variable)) variables_exact Text1 Valid1 first.from_transitions exact1 ([], []) none1

constant_exact : IsExactText (λ c. constant_line c ∷ []) ConstantsValid (lines.at_line first.constants)
constant_exact = line_exact constant_line ConstantsValid first.constants constants_exact (record { sorts = [] }) (none_written IsWrittenNumber)

abbrev Text3 : first.Constants → List (List ℕ)
Text3 p = (constant_line p.0 ∷ []) ++ Text2 p.1

abbrev Valid3 : first.Constants → Type 0
Valid3 p = ConstantsValid p.0 × Valid2 p.1

exact3 : IsExactText Text3 Valid3 first.from_constants
exact3 =
    chain_exact (λ (c : ConstantLine) (q : first.Variables). (c, q)) (λ p. p.0) (λ p. p.1) (λ a b. refl) (λ a b. refl) (λ p. refl) (λ c. constant_line c ∷ []) ConstantsValid
    (lines.at_line first.constants) constant_exact Text2 Valid2 first.from_variables exact2 ([], ([], [])) (none_written IsWrittenVariable, none1)

functions_exact : IsExactText (section (codes "functions") function_line) (AreWritten IsWrittenFunction) (lines.section (codes "functions") (lines.at_line first.function))
functions_exact =
    section_lines (codes "functions") function_line IsWrittenFunction first.function function_exact (record { source = 0; target = 0; total = true }) (record { source = small_zero; target = small_zero })

abbrev Text4 : first.Functions → List (List ℕ)
Text4 p = section (codes "functions") function_line p.0 ++ Text3 p.1

abbrev Valid4 : first.Functions → Type 0
Valid4 p = AreWritten IsWrittenFunction p.0 × Valid3 p.1

exact4 : IsExactText Text4 Valid4 first.from_functions
exact4 =
    chain_exact (λ (fs : List FunctionLine) (q : first.Constants). (fs, q)) (λ p. p.0) (λ p. p.1) (λ a b. refl) (λ a b. refl) (λ p. refl) (section (codes "functions") function_line)
    (AreWritten IsWrittenFunction) (lines.section (codes "functions") (lines.at_line first.function)) functions_exact Text3 Valid3 first.from_constants exact3
    (record { sorts = [] }, ([], ([], []))) (none_written IsWrittenNumber, (none_written IsWrittenVariable, none1))

abbrev rest_of : SystemLines → first.Functions
rest_of s = (s.functions, (s.constants, (s.variables, (s.transitions, s.goals))))

abbrev Text5 : SystemLines → List (List ℕ)
Text5 s = (count_line (codes "sorts") s.sorts ∷ []) ++ Text4 (rest_of s)

abbrev Valid5 : SystemLines → Type 0
Valid5 s = IsWrittenNumber s.sorts × Valid4 (rest_of s)

none4 : Valid4 ([], (record { sorts = [] }, ([], ([], []))))
none4 = (none_written IsWrittenFunction, (none_written IsWrittenNumber, (none_written IsWrittenVariable, none1)))

exact5 : IsExactText Text5 Valid5 first.from_sorts
exact5 =
    chain_exact first.system_of (λ s. s.sorts) rest_of (λ n p. refl) (λ n p. refl) (λ s. refl) (λ n. count_line (codes "sorts") n ∷ []) IsWrittenNumber (lines.at_line (lines.count (codes "sorts")))
    (count_line_exact (codes "sorts")) Text4 Valid4 first.from_functions exact4 ([], (record { sorts = [] }, ([], ([], [])))) none4

abbrev no_system : SystemLines
no_system = record { sorts = 0; functions = []; constants = record { sorts = [] }; variables = []; transitions = []; goals = [] }

pub system_exact : IsExactText system_lines IsWrittenSystem first.system
system_exact =
    text_otherwise (λ s. codes "bundle 1" ∷ Text5 s) system_lines Valid5 IsWrittenSystem first.system (λ s. refl)
    (λ s v. record { sorts = v.0; functions = v.1.0; constants = v.1.1.0; variables = v.1.1.1.0; transitions = v.1.1.1.1.0; goals = v.1.1.1.1.1 })
    (λ s w. (w.sorts, (w.functions, (w.constants, (w.variables, (w.transitions, w.goals))))))
    (under_line (codes "bundle 1") Text5 Valid5 first.from_sorts exact5 no_system (small_zero, none4))
