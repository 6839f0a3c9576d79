-- No line of an evidence that can be written has a line feed in it.
use Rattle.std.proofs.Common.{◌≡◌, ◌≢◌, ℕ, ◌^◌, ◌<◌, List, [], ◌∷◌, ◌++◌, length, map, flat_map, Bool, true, false, eqb, refl, sym, ap, subst, ◌∙◌, arith, append-nil, codes}
use Rattle.std.specs.Prelude.{not, ◌==◌, ◌&&◌, Option, Some, None, IfSome}
use Rattle.std.specs.List.{AllByRecursion}
use Rattle.std.specs.Fmt.{decimal}
use Rattle.std.specs.Str.{all_ascii_digits}
use Rattle.std.specs.Char.{is_ascii_digit}
use Rattle.std.proofs.lemmas.Bool.{and_parts}
use Rattle.std.proofs.lemmas.Fmt.{digits_decimal}
use Rattle.std.proofs.lemmas.List.{length-map}
use Rattle.ras_logic.specs.declared.ids.FunId.{FunId}
use Rattle.ras_logic.specs.declared.ids.RelId.{RelId}
use Rattle.ras_logic.specs.declared.term.Base.{Base}
use Rattle.ras_logic.specs.declared.term.Base.TheVariants.{Var, Cell, Constant, Undef, Param}
use Rattle.ras_logic.specs.declared.term.Term.{Term}
use Rattle.ras_logic.specs.declared.literal.Literal.{Literal}
use Rattle.ras_logic.specs.declared.literal.Literal.TheVariants.{Equal}
use Rattle.ras_logic.specs.declared.problem.Problem.{Problem}
use Rattle.ras_logic.specs.declared.raw_db.RawDb.{RawDb}
use Rattle.ras_logic.specs.declared.tree.Node.{Node}
use Rattle.ras_logic.specs.declared.tree.Node.TheVariants.{Leaf, Split}
use Rattle.ras_logic.specs.declared.tree.Tree.{Tree}
use Rattle.ras_system.specs.declared.choice.Choice.{Choice}
use Rattle.ras_steps.specs.declared.run.Run.{Run}
use Rattle.ras_lines.specs.Lines.{spaced, line, counted, count_line, numbers_line, section, written, AreWritten}
use Rattle.ras_lines.specs.Words.{base_word, path_word, term_word, literal_word, relation_word, cube_line, IsSmallBase, IsSmallFunction, IsSmallTerm, IsSmallLiteral, IsSmallRelation, IsSmallCube}
use Rattle.ras_lines.specs.Trees.{node_words, tree_line, IsWrittenNumber, IsWrittenNode, IsWrittenTree}
use Rattle.ras_lines.specs.Faults.{HasNoLineFeed}
use Rattle.ras_lines.proofs.Numbers.{own}
use Rattle.ras_runs.specs.DatabaseTexts.{table_line, database_lines, AreWrittenNumbers, IsWrittenDatabase}
use Rattle.ras_runs.specs.RunTexts.{row_line, rows_lines, step_line, run_lines, IsWrittenChoice, IsWrittenRun}
use Rattle.ras_evidence.specs.declared.header.Verdict.{Verdict}
use Rattle.ras_evidence.specs.declared.header.Verdict.TheVariants as says
use Rattle.ras_evidence.specs.declared.value.Entry.{Entry}
use Rattle.ras_evidence.specs.declared.value.Evidence.{Evidence}
use Rattle.ras_evidence.specs.declared.value.Evidence.TheVariants.{Safe, Unsafe, Unknown}
use Rattle.ras_evidence.specs.Headers.{verdict_word}
use Rattle.ras_core.specs.declared.origin.Origin.{Origin}
use Rattle.ras_core.specs.declared.origin.Origin.TheVariants.{Goal, Step}
use Rattle.ras_core.specs.declared.event.Event.{Event}
use Rattle.ras_core.specs.declared.event.Event.TheVariants.{Claim, Admit, Skip, Drop, Done, GiveBack, Hit, Spill, Idle}
use Rattle.ras_journals.specs.JournalTexts.{origin_words, event_line, journal_lines, IsWrittenOrigin, IsWrittenEvent, IsWrittenJournal}
use Rattle.ras_evidence.specs.EvidenceTexts.{verdict_of, entry_lines, parts_lines, evidence_lines, optional_lines, text_lines, Told, IsWrittenEntry, IsWritable, IsWritableText, IsTextOf}

abbrev Line : Type 0
Line = List ℕ

-- a test of each byte
abbrev plain : List ℕ → Bool
plain [] = true
plain (b ∷ bytes) = not (b == 10) && plain bytes

plain_is : (bytes : List ℕ) → plain bytes ≡ true → HasNoLineFeed bytes
plain_is [] h = tt
plain_is (b ∷ bytes) h =
    let p = and_parts (not (eqb b 10)) (plain bytes) h in
    (λ e. let k : eqb b 10 ≡ true = rw e refl in cc, plain_is bytes p.1)

joined : (a b : List ℕ) → HasNoLineFeed a → HasNoLineFeed b → HasNoLineFeed (a ++ b)
joined [] b h k = k
joined (x ∷ a) b h k = (h.0, joined a b h.1 k)

-- Numbers.

digit_is : (b : ℕ) → is_ascii_digit b ≡ true → b ≢ 10
digit_is b e = λ h. let k : is_ascii_digit 10 ≡ true = ap is_ascii_digit (sym h) ∙ e in cc

digits_are : (ds : List ℕ) → all_ascii_digits ds ≡ true → HasNoLineFeed ds
digits_are [] h = tt
digits_are (d ∷ ds) h = let p = and_parts (is_ascii_digit d) (all_ascii_digits ds) h in (digit_is d p.0, digits_are ds p.1)

number_is : (n : ℕ) → n < 2 ^ 32 → HasNoLineFeed (decimal n)
number_is n lt = digits_are (decimal n) (digits_decimal own n (omega (arith, lt)))

small_is : (n : ℕ) → n < 2 ^ 16 → HasNoLineFeed (decimal n)
small_is n lt = number_is n (omega (arith, lt))

-- Words.

abbrev AreClean : List Line → Type 0
AreClean words = AllByRecursion HasNoLineFeed words

spaced_is : (words : List Line) → AreClean words → HasNoLineFeed (spaced words)
spaced_is [] h = tt
spaced_is (w ∷ words) h = ((plain_is (codes " ") refl).0, joined w (spaced words) h.0 (spaced_is words h.1))

line_is : (first : List ℕ) (more : List Line) → HasNoLineFeed first → AreClean more → HasNoLineFeed (line first more)
line_is first more h k = joined first (spaced more) h (spaced_is more k)

mapped : {X : Type 0} (word : X → List ℕ) (Valid : X → Type 0) → ((x : X) → Valid x → HasNoLineFeed (word x)) → (xs : List X) → AllByRecursion Valid xs → AreClean (map word xs)
mapped word Valid each [] h = tt
mapped word Valid each (x ∷ xs) h = (each x h.0, mapped word Valid each xs h.1)

counted_is : {X : Type 0} (word : X → List ℕ) (Valid : X → Type 0) → ((x : X) → Valid x → HasNoLineFeed (word x)) → (xs : List X) → AreWritten Valid xs → AreClean (counted (map word xs))
counted_is word Valid each xs h = (number_is (length (map word xs)) (omega (arith, h.count, length-map xs word)), mapped word Valid each xs h.each)

both : (a b : List Line) → AreClean a → AreClean b → AreClean (a ++ b)
both [] b h k = k
both (x ∷ a) b h k = (h.0, both a b h.1 k)

each_of : {X : Type 0} (text : X → List Line) (Valid : X → Type 0) → ((x : X) → Valid x → AreClean (text x)) → (xs : List X) → AllByRecursion Valid xs → AreClean (flat_map text xs)
each_of text Valid each [] h = tt
each_of text Valid each (x ∷ xs) h = both (text x) (flat_map text xs) (each x h.0) (each_of text Valid each xs h.1)

-- Terms, literals, cubes and trees.

base_is : (b : Base) → IsSmallBase b → HasNoLineFeed (base_word b)
base_is (Var v) h = joined (codes "v") (decimal v.n) (plain_is (codes "v") refl) (small_is v.n h)
base_is (Cell row column) h =
    joined (codes "r") (decimal row ++ (codes "." ++ decimal column)) (plain_is (codes "r") refl)
    (joined (decimal row) (codes "." ++ decimal column) (small_is row h.0) (joined (codes ".") (decimal column) (plain_is (codes ".") refl) (small_is column h.1)))
base_is (Constant c) h = joined (codes "c") (decimal c.n) (plain_is (codes "c") refl) (small_is c.n h)
base_is (Undef s) h = joined (codes "u") (decimal s.n) (plain_is (codes "u") refl) (small_is s.n h)
base_is (Param p) h = tt

path_is : (path : List FunId) → AllByRecursion IsSmallFunction path → HasNoLineFeed (path_word path)
path_is [] h = tt
path_is (f ∷ path) h =
    joined (codes "/" ++ decimal f.n) (path_word path) (joined (codes "/") (decimal f.n) (plain_is (codes "/") refl) (small_is f.n h.0)) (path_is path h.1)

term_is : (t : Term) → IsSmallTerm t → HasNoLineFeed (term_word t)
term_is t h = joined (base_word t.base) (path_word t.path) (base_is t.base h.base) (path_is t.path h.path)

literal_is : (l : Literal) → IsSmallLiteral l → HasNoLineFeed (literal_word l)
literal_is (Equal left right true) h =
    joined (term_word left) (codes "=" ++ term_word right) (term_is left h.0) (joined (codes "=") (term_word right) (plain_is (codes "=") refl) (term_is right h.1))
literal_is (Equal left right false) h =
    joined (term_word left) (codes "!=" ++ term_word right) (term_is left h.0) (joined (codes "!=") (term_word right) (plain_is (codes "!=") refl) (term_is right h.1))

relation_is : (r : RelId) → IsSmallRelation r → HasNoLineFeed (relation_word r)
relation_is r h = small_is r.n h

cube_is : (p : Problem) → IsSmallCube p → HasNoLineFeed (cube_line p)
cube_is p h =
    line_is (codes "cube") (counted (map relation_word p.rows) ++ counted (map literal_word p.literals)) (plain_is (codes "cube") refl)
    (both (counted (map relation_word p.rows)) (counted (map literal_word p.literals)) (counted_is relation_word IsSmallRelation relation_is p.rows h.rows)
    (counted_is literal_word IsSmallLiteral literal_is p.literals h.literals))

numbers_are : (ns : List ℕ) → AreWrittenNumbers ns → AreClean (counted (map decimal ns))
numbers_are ns h = counted_is decimal IsWrittenNumber number_is ns h

node_is : (n : Node) → IsWrittenNode n → AreClean (node_words n)
node_is Leaf h = (plain_is (codes "leaf") refl, tt)
node_is (Split formula rows children) h = (
  plain_is (codes "split") refl,
  (number_is formula h.0, both (counted (map decimal rows)) (decimal children ∷ []) (numbers_are rows h.1) (number_is children h.2, tt)),
)

tree_is : (t : Tree) → IsWrittenTree t → HasNoLineFeed (tree_line t)
tree_is t h = line_is (codes "tree") (flat_map node_words t.nodes) (plain_is (codes "tree") refl) (each_of node_words IsWrittenNode node_is t.nodes h.small)

-- Lines.

count_is : (word : List ℕ) (n : ℕ) → HasNoLineFeed word → n < 2 ^ 32 → HasNoLineFeed (count_line word n)
count_is word n h lt = line_is word (decimal n ∷ []) h (number_is n lt, tt)

numbers_line_is : (word : List ℕ) → HasNoLineFeed word → (ns : List ℕ) → AreWrittenNumbers ns → HasNoLineFeed (numbers_line word ns)
numbers_line_is word h ns w = line_is word (counted (map decimal ns)) h (numbers_are ns w)

section_is : {X : Type 0} (word : List ℕ) (text : X → Line) (Valid : X → Type 0) → HasNoLineFeed word → ((x : X) → Valid x → HasNoLineFeed (text x)) → (xs : List X) → AreWritten Valid xs → AreClean (section word text xs)
section_is word text Valid h each xs w = (count_is word (length xs) h w.count, mapped text Valid each xs w.each)

listed_is : {X : Type 0} (word : List ℕ) (text : X → List Line) (Valid : X → Type 0) → HasNoLineFeed word → ((x : X) → Valid x → AreClean (text x)) → (xs : List X) → AreWritten Valid xs
    → AreClean (count_line word (length xs) ∷ flat_map text xs)
listed_is word text Valid h each xs w = (count_is word (length xs) h w.count, each_of text Valid each xs w.each)

database_is : (d : RawDb) → IsWrittenDatabase d → AreClean (database_lines d)
database_is d w = (
  numbers_line_is (codes "sizes") (plain_is (codes "sizes") refl) d.sizes w.sizes,
  both (section (codes "tables") table_line d.tables) (numbers_line (codes "constants") d.constants ∷ [])
      (section_is (codes "tables") table_line AreWrittenNumbers (plain_is (codes "tables") refl) (numbers_line_is (codes "table") (plain_is (codes "table") refl)) d.tables w.tables)
      (numbers_line_is (codes "constants") (plain_is (codes "constants") refl) d.constants w.constants, tt),
)

rows_are : (rows : List (List ℕ)) → AreWritten AreWrittenNumbers rows → AreClean (rows_lines rows)
rows_are rows w = section_is (codes "rows") row_line AreWrittenNumbers (plain_is (codes "rows") refl) (numbers_line_is (codes "row") (plain_is (codes "row") refl)) rows w

step_is : (c : Choice) → IsWrittenChoice c → HasNoLineFeed (step_line c)
step_is c w =
    line_is (codes "step") (decimal c.transition ∷ (counted (map decimal c.rows) ++ counted (map decimal c.values))) (plain_is (codes "step") refl)
    (small_is c.transition w.transition, both (counted (map decimal c.rows)) (counted (map decimal c.values)) (numbers_are c.rows w.rows) (numbers_are c.values w.values))

run_is : (r : Run) → IsWrittenRun r → AreClean (run_lines r)
run_is r w = (
  numbers_line_is (codes "vars") (plain_is (codes "vars") refl) r.start.vars w.vars,
  both (count_line (codes "relations") (length r.start.relations) ∷ flat_map rows_lines r.start.relations) (section (codes "steps") step_line r.choices)
      (listed_is (codes "relations") rows_lines (AreWritten AreWrittenNumbers) (plain_is (codes "relations") refl) rows_are r.start.relations w.relations)
      (section_is (codes "steps") step_line IsWrittenChoice (plain_is (codes "steps") refl) step_is r.choices w.choices),
)

reached_are : (d : RawDb) (r : Run) → IsWrittenDatabase d → IsWrittenRun r → AreClean (database_lines d ++ run_lines r)
reached_are d r v w = both (database_lines d) (run_lines r) (database_is d v) (run_is r w)

entry_is : (e : Entry) → IsWrittenEntry e → AreClean (entry_lines e)
entry_is e w = (cube_is e.cube w.cube, reached_are e.db e.run w.db w.run)

parts_are : (e : Evidence) → IsWritable e → AreClean (parts_lines e)
parts_are (Safe formulas trees) w =
    both (section (codes "formulas") cube_line formulas) (section (codes "trees") tree_line trees) (section_is (codes "formulas") cube_line IsSmallCube (plain_is (codes "formulas") refl) cube_is formulas w.0)
    (section_is (codes "trees") tree_line IsWrittenTree (plain_is (codes "trees") refl) tree_is trees w.1)
parts_are (Unsafe db r) w = reached_are db r w.0 w.1
parts_are (Unknown entries spill) w =
    both (count_line (codes "budget") (length entries) ∷ flat_map entry_lines entries) (entry_lines spill)
    (listed_is (codes "budget") entry_lines IsWrittenEntry (plain_is (codes "budget") refl) entry_is entries w.0.1) (entry_is spill w.1)

verdict_is : (v : Verdict) → HasNoLineFeed (verdict_word v)
verdict_is says.Safe = plain_is (codes "safe") refl
verdict_is says.Unsafe = plain_is (codes "unsafe") refl
verdict_is says.Unknown = plain_is (codes "unknown") refl

lines_are : (e : Evidence) → IsWritable e → AreClean (evidence_lines e)
lines_are e w = (
  line_is (codes "evidence") (codes "1" ∷ verdict_word (verdict_of e) ∷ []) (plain_is (codes "evidence") refl) (plain_is (codes "1") refl, (verdict_is (verdict_of e), tt)),
  both (parts_lines e) (codes "end" ∷ []) (parts_are e w) (plain_is (codes "end") refl, tt),
)

-- Journals.

origin_is : (o : Origin) → IsWrittenOrigin o → AllByRecursion HasNoLineFeed (origin_words o)
origin_is (Goal disjunct) w = (plain_is (codes "goal") refl, (number_is disjunct (omega (arith, w)), tt))
origin_is (Step entry transition) w = (plain_is (codes "step") refl, (number_is entry w.0, (number_is transition (let small = w.1 in omega (arith, small)), tt)))

sought_is : (word : List ℕ) → HasNoLineFeed word → (o : Origin) (c : Problem) → IsWrittenOrigin o → IsSmallCube c → HasNoLineFeed (line word (origin_words o ++ cube_line c ∷ []))
sought_is word plain o c origin cube = line_is word (origin_words o ++ cube_line c ∷ []) plain (both (origin_words o) (cube_line c ∷ []) (origin_is o origin) (cube_is c cube, tt))

event_is : (e : Event) → IsWrittenEvent e → HasNoLineFeed (event_line e)
event_is (Claim entry) w = line_is (codes "claim") (decimal entry ∷ []) (plain_is (codes "claim") refl) (number_is entry w, tt)
event_is (Admit o c) w = sought_is (codes "admit") (plain_is (codes "admit") refl) o c w.0 w.1
event_is (Skip o c reasons) w =
    line_is (codes "skip") (origin_words o ++ cube_line c ∷ codes "reasons" ∷ counted (map decimal reasons)) (plain_is (codes "skip") refl)
    (both (origin_words o) (cube_line c ∷ codes "reasons" ∷ counted (map decimal reasons)) (origin_is o w.0.0)
    (cube_is c w.0.1, (plain_is (codes "reasons") refl, numbers_are reasons w.1)))
event_is (Drop entry by) w = line_is (codes "drop") (decimal entry ∷ decimal by ∷ []) (plain_is (codes "drop") refl) (number_is entry w.0, (number_is by w.1, tt))
event_is (Done entry) w = line_is (codes "done") (decimal entry ∷ []) (plain_is (codes "done") refl) (number_is entry w, tt)
event_is (GiveBack entry) w = line_is (codes "back") (decimal entry ∷ []) (plain_is (codes "back") refl) (number_is entry w, tt)
event_is (Hit o c) w = sought_is (codes "hit") (plain_is (codes "hit") refl) o c w.0 w.1
event_is (Spill o c) w = sought_is (codes "spill") (plain_is (codes "spill") refl) o c w.0 w.1
event_is Idle w = plain_is (codes "idle") refl

journal_is : (o : Option (List Event)) → IfSome o IsWrittenJournal → AreClean (optional_lines journal_lines o)
journal_is None w = tt
journal_is (Some events) w = section_is (codes "journal") event_line IsWrittenEvent (plain_is (codes "journal") refl) event_is events w

text_clean : (t : Told) → IsWritableText t → AreClean (text_lines t)
text_clean t w = both (evidence_lines t.0) (optional_lines journal_lines t.1) (lines_are t.0 w.0) (journal_is t.1 w.1)

pub text_is : (t : Told) → IsWritableText t → IsTextOf (written (text_lines t)) t
text_is t w = record { lines = record { parts = sym (append-nil (written (text_lines t))); single = text_clean t w; unended = tt }; writable = w }

-- what is written is the text
pub text_of : (bytes : List ℕ) (t : Told) → bytes ≡ written (text_lines t) → IsWritableText t → IsTextOf bytes t
text_of bytes t is w = subst (λ (bs : List ℕ). IsTextOf bs t) (sym is) (text_is t w)
