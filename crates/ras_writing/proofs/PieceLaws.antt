-- The pieces are the lines of the evidence, each with its end.
use Rattle.std.proofs.Common.{◌≡◌, ℕ, List, [], ◌∷◌, ◌++◌, length, map, flat_map, refl, sym, ap, ◌∙◌, append_assoc, append-nil, codes}
use Rattle.std.specs.Fmt.{decimal}
use Rattle.std.proofs.lemmas.Grind.{flat_map-append}
use Rattle.ras_logic.specs.declared.problem.Problem.{Problem}
use Rattle.ras_logic.specs.declared.raw_db.RawDb.{RawDb}
use Rattle.ras_logic.specs.declared.tree.Node.{Node}
use Rattle.ras_logic.specs.declared.tree.Node.TheVariants.{Leaf, Split}
use Rattle.ras_logic.specs.declared.tree.Tree.{Tree}
use Rattle.ras_system.specs.declared.choice.Choice.{Choice}
use Rattle.ras_steps.specs.declared.run.Run.{Run}
use Rattle.ras_lines.specs.Lines as lines
use Rattle.ras_lines.specs.Lines.{written, count_line, numbers_line, spaced}
use Rattle.ras_lines.specs.Words.{relation_word, literal_word, cube_line}
use Rattle.ras_lines.specs.Trees.{node_words, tree_line}
use Rattle.ras_lines.proofs.FormulaLaws.{spaced-counted}
use Rattle.ras_lines.proofs.SectionLaws.{each_line}
use Rattle.ras_runs.specs.DatabaseTexts.{table_line, database_lines}
use Rattle.ras_runs.specs.RunTexts.{row_line, rows_lines, step_line, run_lines}
use Rattle.ras_evidence.specs.declared.value.Entry.{Entry}
use Rattle.ras_evidence.specs.declared.value.Evidence.{Evidence}
use Rattle.ras_evidence.specs.declared.value.Evidence.TheVariants.{Safe, Unsafe, Unknown}
use Rattle.ras_evidence.specs.EvidenceTexts.{entry_lines, evidence_lines}
use Rattle.ras_text.specs.Pieces.{counted, end_of_line, word as word_of}
use Rattle.ras_writing.specs.Pieces as piece

abbrev Line : Type 0
Line = List ℕ

abbrev ended : Line → List ℕ
ended l = l ++ end_of_line

one_line : (l : Line) → written (l ∷ []) ≡ ended l
one_line l = append-nil (ended l)

pub both : (a b : List Line) → written (a ++ b) ≡ written a ++ written b
both a b = flat_map-append ended a b

-- Sections.

each : {X : Type 0} (text : X → List Line) (p : X → List ℕ) → ((x : X) → p x ≡ written (text x)) → (xs : List X) → flat_map p xs ≡ written (flat_map text xs)
each text p same [] = refl
each text p same (x ∷ xs) =
    ap (λ (w : List ℕ). w ++ flat_map p xs) (same x) ∙ ap (λ (w : List ℕ). written (text x) ++ w) (each text p same xs) ∙ sym (both (text x) (flat_map text xs))

count_is : (word : List ℕ) (n : ℕ) (more : List ℕ) → word ++ (32 ∷ (decimal n ++ (10 ∷ more))) ≡ ended (count_line word n) ++ more
count_is word n more =
    let digits : spaced (decimal n ∷ []) ≡ 32 ∷ decimal n = append-nil (32 ∷ decimal n) in
    ap (λ (w : List ℕ). word ++ (32 ∷ w)) (sym (append_assoc (decimal n) (10 ∷ []) more))
    ∙ sym (append_assoc word (32 ∷ (decimal n ++ 10 ∷ [])) more)
    ∙ ap (λ (w : List ℕ). w ++ more) (sym (append_assoc word (32 ∷ decimal n) (10 ∷ [])))
    ∙ ap (λ (w : List ℕ). ((word ++ w) ++ 10 ∷ []) ++ more) (sym digits)

section_same : {X : Type 0} (word : List ℕ) (text : X → List Line) (p : X → List ℕ) → ((x : X) → p x ≡ written (text x)) → (xs : List X)
    → piece.section word p xs ≡ written (count_line word (length xs) ∷ flat_map text xs)
section_same word text p same xs = count_is word (length xs) (flat_map p xs) ∙ ap (λ (w : List ℕ). ended (count_line word (length xs)) ++ w) (each text p same xs)

pub section_of_lines : {X : Type 0} (word : List ℕ) (line : X → Line) (p : X → List ℕ) → ((x : X) → p x ≡ ended (line x)) → (xs : List X) → piece.section word p xs ≡ written (lines.section word line xs)
section_of_lines word line p same xs =
    section_same word (λ x. line x ∷ []) p (λ x. same x ∙ sym (one_line (line x))) xs ∙ ap (λ (ls : List Line). written (count_line word (length xs) ∷ ls)) (each_line line xs)

-- Lines.

behind : (word a b : List ℕ) → word ++ (a ++ b) ≡ (word ++ a) ++ b
behind word a b = sym (append_assoc word a b)

numbers_same : (word : List ℕ) (ns : List ℕ) → piece.numbers word ns ≡ ended (numbers_line word ns)
numbers_same word ns = behind word (counted word_of ns) end_of_line ∙ ap (λ (w : List ℕ). ended (word ++ w)) (sym (spaced-counted decimal ns))

two_words : {X Y : Type 0} (f : X → List ℕ) (g : Y → List ℕ) (xs : List X) (ys : List Y)
    → counted (λ x. 32 ∷ f x) xs ++ counted (λ y. 32 ∷ g y) ys ≡ spaced (lines.counted (map f xs) ++ lines.counted (map g ys))
two_words f g xs ys =
    ap (λ (w : List ℕ). w ++ counted (λ y. 32 ∷ g y) ys) (sym (spaced-counted f xs)) ∙ ap (λ (w : List ℕ). spaced (lines.counted (map f xs)) ++ w) (sym (spaced-counted g ys))
    ∙ sym (flat_map-append (λ (w : List ℕ). 32 ∷ w) (lines.counted (map f xs)) (lines.counted (map g ys)))

two_counts : {X Y : Type 0} (word : List ℕ) (f : X → List ℕ) (g : Y → List ℕ) (xs : List X) (ys : List Y)
    → word ++ (counted (λ x. 32 ∷ f x) xs ++ (counted (λ y. 32 ∷ g y) ys ++ end_of_line)) ≡ ended (word ++ spaced (lines.counted (map f xs) ++ lines.counted (map g ys)))
two_counts word f g xs ys =
    let A = counted (λ x. 32 ∷ f x) xs in
    let B = counted (λ y. 32 ∷ g y) ys in
    ap (λ (w : List ℕ). word ++ w) (behind A B end_of_line) ∙ behind word (A ++ B) end_of_line ∙ ap (λ (w : List ℕ). ended (word ++ w)) (two_words f g xs ys)

pub cube_words_same : (p : Problem) → piece.cube_words p ≡ cube_line p
cube_words_same p = ap (λ (w : List ℕ). codes "cube" ++ w) (two_words relation_word literal_word p.rows p.literals)

cube_same : (p : Problem) → piece.cube p ≡ ended (cube_line p)
cube_same p = ap ended (cube_words_same p)

choice_same : (c : Choice) → piece.choice c ≡ ended (step_line c)
choice_same c =
    ap (λ (w : List ℕ). codes "step " ++ w) (two_counts (decimal c.transition) decimal decimal c.rows c.values)
    ∙ ap (λ (w : List ℕ). codes "step " ++ w) (append_assoc (decimal c.transition) (spaced (lines.counted (map decimal c.rows) ++ lines.counted (map decimal c.values))) end_of_line)
    ∙ ap (λ (w : List ℕ). codes "step " ++ w) (behind (decimal c.transition) (spaced (lines.counted (map decimal c.rows) ++ lines.counted (map decimal c.values))) end_of_line)

node_same : (n : Node) → piece.node n ≡ spaced (node_words n)
node_same Leaf = refl
node_same (Split formula rows children) =
    let last : spaced (decimal children ∷ []) ≡ 32 ∷ decimal children = append-nil (32 ∷ decimal children) in
    ap (λ (w : List ℕ). codes " split " ++ (decimal formula ++ w))
    (ap (λ (w : List ℕ). w ++ (32 ∷ decimal children)) (sym (spaced-counted decimal rows)) ∙ ap (λ (w : List ℕ). spaced (lines.counted (map decimal rows)) ++ w) (sym last)
    ∙ sym (flat_map-append (λ (w : List ℕ). 32 ∷ w) (lines.counted (map decimal rows)) (decimal children ∷ [])))

nodes_same : (ns : List Node) → flat_map piece.node ns ≡ spaced (flat_map node_words ns)
nodes_same [] = refl
nodes_same (n ∷ ns) =
    ap (λ (w : List ℕ). w ++ flat_map piece.node ns) (node_same n) ∙ ap (λ (w : List ℕ). spaced (node_words n) ++ w) (nodes_same ns)
    ∙ sym (flat_map-append (λ (w : List ℕ). 32 ∷ w) (node_words n) (flat_map node_words ns))

tree_same : (t : Tree) → piece.tree t ≡ ended (tree_line t)
tree_same t = behind (codes "tree") (flat_map piece.node t.nodes) end_of_line ∙ ap (λ (w : List ℕ). ended (codes "tree" ++ w)) (nodes_same t.nodes)

-- Databases and runs.

table_same : (ns : List ℕ) → piece.numbers (codes "table") ns ≡ ended (table_line ns)
table_same ns = numbers_same (codes "table") ns

row_same : (ns : List ℕ) → piece.numbers (codes "row") ns ≡ ended (row_line ns)
row_same ns = numbers_same (codes "row") ns

database_same : (d : RawDb) → piece.database d ≡ written (database_lines d)
database_same d =
    let tables = lines.section (codes "tables") table_line d.tables in
    let constants : List Line = numbers_line (codes "constants") d.constants ∷ [] in
    ap (λ (w : List ℕ). w ++ (piece.section (codes "tables") (piece.numbers (codes "table")) d.tables ++ piece.numbers (codes "constants") d.constants)) (numbers_same (codes "sizes") d.sizes)
    ∙ ap (λ (w : List ℕ). ended (numbers_line (codes "sizes") d.sizes) ++ w)
    (ap (λ (w : List ℕ). w ++ piece.numbers (codes "constants") d.constants) (section_of_lines (codes "tables") table_line (piece.numbers (codes "table")) table_same d.tables)
    ∙ ap (λ (w : List ℕ). written tables ++ w) (numbers_same (codes "constants") d.constants ∙ sym (one_line (numbers_line (codes "constants") d.constants))) ∙ sym (both tables constants))

rows_same : (rs : List (List ℕ)) → piece.rows rs ≡ written (rows_lines rs)
rows_same rs = section_of_lines (codes "rows") row_line (piece.numbers (codes "row")) row_same rs

run_same : (r : Run) → piece.run r ≡ written (run_lines r)
run_same r =
    let relations : List Line = count_line (codes "relations") (length r.start.relations) ∷ flat_map rows_lines r.start.relations in
    let steps = lines.section (codes "steps") step_line r.choices in
    ap (λ (w : List ℕ). w ++ (piece.section (codes "relations") piece.rows r.start.relations ++ piece.section (codes "steps") piece.choice r.choices)) (numbers_same (codes "vars") r.start.vars)
    ∙ ap (λ (w : List ℕ). ended (numbers_line (codes "vars") r.start.vars) ++ w)
    (ap (λ (w : List ℕ). w ++ piece.section (codes "steps") piece.choice r.choices) (section_same (codes "relations") rows_lines piece.rows rows_same r.start.relations)
    ∙ ap (λ (w : List ℕ). written relations ++ w) (section_of_lines (codes "steps") step_line piece.choice choice_same r.choices) ∙ sym (both relations steps))

reached_same : (d : RawDb) (r : Run) → piece.database d ++ piece.run r ≡ written (database_lines d ++ run_lines r)
reached_same d r =
    ap (λ (w : List ℕ). w ++ piece.run r) (database_same d) ∙ ap (λ (w : List ℕ). written (database_lines d) ++ w) (run_same r) ∙ sym (both (database_lines d) (run_lines r))

entry_same : (e : Entry) → piece.entry e ≡ written (entry_lines e)
entry_same e = ap (λ (w : List ℕ). w ++ (piece.database e.db ++ piece.run e.run)) (cube_same e.cube) ∙ ap (λ (w : List ℕ). ended (cube_line e.cube) ++ w) (reached_same e.db e.run)

-- Evidences.

-- two parts and the last line
to_end : (p q : List ℕ) (a b : List Line) → p ≡ written a → q ≡ written b → p ++ (q ++ piece.last_line) ≡ written ((a ++ b) ++ codes "end" ∷ [])
to_end p q a b one two =
    ap (λ (w : List ℕ). w ++ (q ++ piece.last_line)) one ∙ ap (λ (w : List ℕ). written a ++ (w ++ piece.last_line)) two ∙ behind (written a) (written b) piece.last_line
    ∙ ap (λ (w : List ℕ). w ++ piece.last_line) (sym (both a b)) ∙ sym (both (a ++ b) (codes "end" ∷ []))

pub evidence_same : (e : Evidence) → piece.evidence e ≡ written (evidence_lines e)
evidence_same (Safe formulas trees) =
    ap (λ (w : List ℕ). ended (codes "evidence 1 safe") ++ w)
    (to_end (piece.section (codes "formulas") piece.cube formulas) (piece.section (codes "trees") piece.tree trees) (lines.section (codes "formulas") cube_line formulas) (lines.section (codes "trees") tree_line trees)
    (section_of_lines (codes "formulas") cube_line piece.cube cube_same formulas) (section_of_lines (codes "trees") tree_line piece.tree tree_same trees))
evidence_same (Unsafe db r) =
    ap (λ (w : List ℕ). ended (codes "evidence 1 unsafe") ++ w) (to_end (piece.database db) (piece.run r) (database_lines db) (run_lines r) (database_same db) (run_same r))
evidence_same (Unknown entries spill) =
    ap (λ (w : List ℕ). ended (codes "evidence 1 unknown") ++ w)
    (to_end (piece.section (codes "budget") piece.entry entries) (piece.entry spill) (count_line (codes "budget") (length entries) ∷ flat_map entry_lines entries) (entry_lines spill)
    (section_same (codes "budget") entry_lines piece.entry entry_same entries) (entry_same spill))

-- What is written one after the other.

pub four : (a b c d e w x y z : List ℕ) → b ≡ a ++ w → c ≡ b ++ x → d ≡ c ++ y → e ≡ d ++ z → e ≡ a ++ (w ++ (x ++ (y ++ z)))
four a b c d e w x y z one two three last =
    last ∙ ap (λ (l : List ℕ). l ++ z) three ∙ append_assoc c y z ∙ ap (λ (l : List ℕ). l ++ (y ++ z)) two ∙ append_assoc b x (y ++ z) ∙ ap (λ (l : List ℕ). l ++ (x ++ (y ++ z))) one ∙ append_assoc a w (x ++ (y ++ z))
