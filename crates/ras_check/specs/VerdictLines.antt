-- The lines that tell of an evidence that it is good, or what is wrong with it.
use Rattle.std.specs.Prelude.{ℕ, List, ◌++◌, codes}
use Rattle.ras_evidence.specs.declared.value.Evidence.{Evidence}
use Rattle.ras_evidence.specs.declared.value.Evidence.TheVariants.{Safe, Unsafe, Unknown}
use Rattle.ras_refute.specs.declared.tree_fault.TreeKind.{TreeKind}
use Rattle.ras_refute.specs.declared.tree_fault.TreeKind.TheVariants as kind
use Rattle.ras_refute.specs.declared.tree_fault.TreeFault.{TreeFault}
use Rattle.ras_text.specs.Pieces.{word}
use Rattle.ras_violation.specs.InvalidLines as violation
use Rattle.ras_spent.specs.InvalidLines as spent
use Rattle.ras_safety.specs.declared.safe_fault.SafeFault.{SafeFault}
use Rattle.ras_safety.specs.declared.safe_fault.SafeFault.TheVariants as fault
use Rattle.ras_check.specs.declared.verdict.Invalid.{Invalid}
use Rattle.ras_check.specs.declared.verdict.Invalid.TheVariants as invalid

abbrev pub valid_text : Evidence → List ℕ
valid_text (Safe formulas trees) = codes "VALID SAFE\n"
valid_text (Unsafe db run) = codes "VALID UNSAFE\n"
valid_text (Unknown entries spill) = codes "VALID UNKNOWN\n"

abbrev pub tree_kind : TreeKind → List ℕ
tree_kind kind.NoFormula = codes "NO_FORMULA"
tree_kind kind.Rows = codes "ROWS"
tree_kind kind.Children = codes "CHILDREN"
tree_kind kind.NoClash = codes "NO_CLASH"

-- `INVALID formula I NOT_FITTING`
abbrev pub formula_text : ℕ → List ℕ
formula_text number = codes "INVALID formula" ++ (word number ++ codes " NOT_FITTING\n")

-- ` node K KIND`
abbrev pub node_text : TreeFault → List ℕ
node_text f = codes " node" ++ (word f.node ++ (codes " " ++ (tree_kind f.kind ++ codes "\n")))

-- `INVALID obligation I node K KIND`
abbrev pub obligation_text : ℕ → TreeFault → List ℕ
obligation_text number f = codes "INVALID obligation" ++ (word number ++ node_text f)

abbrev pub safe_text : SafeFault → List ℕ
safe_text (fault.Formula number) = formula_text number
safe_text fault.Count = codes "INVALID trees COUNT\n"
safe_text (fault.Obligation number f) = obligation_text number f

abbrev pub invalid_text : Invalid → List ℕ
invalid_text (invalid.Safe f) = safe_text f
invalid_text (invalid.Violation f) = violation.invalid_text f
invalid_text (invalid.Spent f) = spent.invalid_text f
