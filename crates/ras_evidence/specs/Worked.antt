-- Worked texts.
use Rattle.std.specs.Prelude.{ℕ, List, [], ◌∷◌, ◌++◌, true, codes}
use Rattle.ras_logic.specs.declared.literal.Literal.{Literal}
use Rattle.ras_logic.specs.declared.literal.Literal.TheVariants.{Equal}
use Rattle.ras_logic.specs.declared.term.Base.TheVariants.{Var, Constant}
use Rattle.ras_logic.specs.declared.raw_db.RawDb.{RawDb}
use Rattle.ras_system.specs.declared.choice.Choice.{Choice}
use Rattle.ras_lines.specs.Lines.{written}
use Rattle.ras_evidence.specs.declared.value.Entry.{Entry}
use Rattle.ras_evidence.specs.declared.value.Evidence.{Evidence}
use Rattle.ras_evidence.specs.declared.value.Evidence.TheVariants.{Unsafe, Unknown}
use Rattle.ras_evidence.specs.declared.fault.EvidenceKind.{EvidenceKind}
use Rattle.ras_evidence.specs.declared.fault.EvidenceFault.{EvidenceFault}

-- one job and two users, and a step that gives the job to the wrong one
abbrev pub wrong_owner_text : List ℕ
wrong_owner_text =
    written
    (codes "evidence 1 unsafe" ∷ codes "sizes 2 2 1" ∷ codes "tables 1" ∷ codes "table 1 1" ∷ codes "constants 0" ∷ codes "vars 0" ∷ codes "relations 1" ∷ codes "rows 1" ∷ codes "row 2 0 0"
    ∷ codes "steps 1" ∷ codes "step 0 1 0 2 1 2" ∷ codes "end" ∷ [])

abbrev pub owners : RawDb
owners = record { sizes = 2 ∷ 1 ∷ []; tables = (1 ∷ []) ∷ []; constants = [] }

abbrev pub wrong_choice : Choice
wrong_choice = record { transition = 0; rows = 0 ∷ []; values = 1 ∷ 2 ∷ [] }

abbrev pub wrong_owner : Evidence
wrong_owner = Unsafe owners (record { start = record { vars = []; relations = ((0 ∷ 0 ∷ []) ∷ []) ∷ [] }; choices = wrong_choice ∷ [] })

-- a budget of one formula
abbrev pub spent_text : List ℕ
spent_text =
    written
    (codes "evidence 1 unknown" ∷ codes "budget 1" ∷ codes "cube 0 1 v0=c2" ∷ codes "sizes 1 3" ∷ codes "tables 0" ∷ codes "constants 3 1 2 3" ∷ codes "vars 1 3" ∷ codes "relations 0" ∷ codes "steps 0"
    ∷ codes "cube 0 1 v0=c1" ∷ codes "sizes 1 3" ∷ codes "tables 0" ∷ codes "constants 3 1 2 3" ∷ codes "vars 1 2" ∷ codes "relations 0" ∷ codes "steps 1" ∷ codes "step 0 0 0" ∷ codes "end" ∷ [])

abbrev pub variable_is : ℕ → Literal
variable_is c = Equal (record { base = Var (record { n = 0 }); path = [] }) (record { base = Constant (record { n = c }); path = [] }) true

abbrev pub three_constants : RawDb
three_constants = record { sizes = 3 ∷ []; tables = []; constants = 1 ∷ 2 ∷ 3 ∷ [] }

abbrev pub kept : ℕ → ℕ → List Choice → Entry
kept c element choices = record {
  cube = record { rows = []; params = []; literals = variable_is c ∷ [] };
  db = three_constants;
  run = record { start = record { vars = element ∷ []; relations = [] }; choices = choices };
}

abbrev pub spent : Evidence
spent = Unknown (kept 2 3 [] ∷ []) (kept 1 2 (record { transition = 0; rows = []; values = [] } ∷ []))

-- a cube line that is not ended
abbrev pub cut_text : List ℕ
cut_text = written (codes "evidence 1 safe" ∷ codes "formulas 1" ∷ []) ++ codes "cube 0 1 v0"

-- the budget is at least one
abbrev pub no_budget_text : List ℕ
no_budget_text = written (codes "evidence 1 unknown" ∷ codes "budget 0" ∷ codes "end" ∷ [])

abbrev pub fault_at : ℕ → EvidenceKind → EvidenceFault
fault_at n kind = record { line = n; kind = kind }
