-- What is written, one piece after the other.
use Rattle.std.specs.Prelude.{ℕ, List, ◌++◌, length, flat_map, codes}
use Rattle.std.specs.Fmt.{decimal}
use Rattle.ras_text.specs.Pieces.{word, counted, end_of_line}
use Rattle.ras_logic.specs.declared.ids.FunId.{FunId}
use Rattle.ras_logic.specs.declared.ids.RelId.{RelId}
use Rattle.ras_logic.specs.declared.term.Term.{Term}
use Rattle.ras_logic.specs.declared.literal.Literal.{Literal}
use Rattle.ras_logic.specs.declared.problem.Problem.{Problem}
use Rattle.ras_logic.specs.declared.raw_db.RawDb.{RawDb}
use Rattle.ras_logic.specs.declared.tree.Node.{Node}
use Rattle.ras_logic.specs.declared.tree.Node.TheVariants.{Leaf, Split}
use Rattle.ras_logic.specs.declared.tree.Tree.{Tree}
use Rattle.ras_system.specs.declared.choice.Choice.{Choice}
use Rattle.ras_steps.specs.declared.run.Run.{Run}
use Rattle.ras_lines.specs.Words.{base_word, literal_word}
use Rattle.ras_evidence.specs.declared.value.Entry.{Entry}
use Rattle.ras_evidence.specs.declared.value.Evidence.{Evidence}
use Rattle.ras_evidence.specs.declared.value.Evidence.TheVariants.{Safe, Unsafe, Unknown}

-- a line with a word and how many there are, and the lines of each
abbrev pub section : {X : Type 0} → List ℕ → (X → List ℕ) → List X → List ℕ
section head text xs = head ++ (word (length xs) ++ (end_of_line ++ flat_map text xs))

-- a line of a word, a count and as many numbers
abbrev pub numbers : List ℕ → List ℕ → List ℕ
numbers head ns = head ++ (counted word ns ++ end_of_line)

abbrev pub function : FunId → List ℕ
function f = codes "/" ++ decimal f.n

abbrev pub relation : RelId → List ℕ
relation r = word r.n

abbrev pub term : Term → List ℕ
term t = base_word t.base ++ flat_map function t.path

abbrev pub literal : Literal → List ℕ
literal l = codes " " ++ literal_word l

-- a cube, without the end of the line
abbrev pub cube_words : Problem → List ℕ
cube_words p = codes "cube" ++ (counted relation p.rows ++ counted literal p.literals)

abbrev pub cube : Problem → List ℕ
cube p = cube_words p ++ end_of_line

abbrev pub node : Node → List ℕ
node Leaf = codes " leaf"
node (Split formula rows children) = codes " split " ++ (decimal formula ++ (counted word rows ++ word children))

abbrev pub tree : Tree → List ℕ
tree t = codes "tree" ++ (flat_map node t.nodes ++ end_of_line)

abbrev pub database : RawDb → List ℕ
database d = numbers (codes "sizes") d.sizes ++ (section (codes "tables") (numbers (codes "table")) d.tables ++ numbers (codes "constants") d.constants)

abbrev pub rows : List (List ℕ) → List ℕ
rows rs = section (codes "rows") (numbers (codes "row")) rs

abbrev pub choice : Choice → List ℕ
choice c = codes "step " ++ (decimal c.transition ++ (counted word c.rows ++ (counted word c.values ++ end_of_line)))

abbrev pub run : Run → List ℕ
run r = numbers (codes "vars") r.start.vars ++ (section (codes "relations") rows r.start.relations ++ section (codes "steps") choice r.choices)

abbrev pub entry : Entry → List ℕ
entry e = cube e.cube ++ (database e.db ++ run e.run)

abbrev pub last_line : List ℕ
last_line = codes "end" ++ end_of_line

abbrev pub safe : List Problem → List Tree → List ℕ
safe formulas trees = (codes "evidence 1 safe" ++ end_of_line) ++ (section (codes "formulas") cube formulas ++ (section (codes "trees") tree trees ++ last_line))

abbrev pub unsafe_run : RawDb → Run → List ℕ
unsafe_run d r = (codes "evidence 1 unsafe" ++ end_of_line) ++ (database d ++ (run r ++ last_line))

abbrev pub unknown : List Entry → Entry → List ℕ
unknown entries spill = (codes "evidence 1 unknown" ++ end_of_line) ++ (section (codes "budget") entry entries ++ (entry spill ++ last_line))

abbrev pub evidence : Evidence → List ℕ
evidence (Safe formulas trees) = safe formulas trees
evidence (Unsafe db r) = unsafe_run db r
evidence (Unknown entries spill) = unknown entries spill
