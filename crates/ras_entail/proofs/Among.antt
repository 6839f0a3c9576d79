-- Entailment: what closes is among the list, and what escapes is not.
use Rattle.std.proofs.Common.{◌≡◌, List, map, get_or, sym, ◌∙◌, ap, subst, arith}
use Rattle.std.specs.Prelude.{All, Contains, IsTrue}
use Rattle.std.proofs.lemmas.List.{get_or-map, length-map}
use Rattle.std.proofs.lemmas.Option.{same_Some}
use Rattle.ras_logic.specs.declared.raw_db.RawDb.{RawDb}
use Rattle.ras_logic.specs.declared.values.Values.{Values}
use Rattle.ras_logic.specs.declared.literal.Literal.{Literal}
use Rattle.ras_logic.specs.declared.problem.Problem.{Problem}
use Rattle.ras_logic.specs.declared.tree.Node.{Node}
use Rattle.ras_logic.specs.Shapes.{ShapeParts}
use Rattle.ras_logic.specs.Schemas.{IsSchema}
use Rattle.ras_logic.specs.Formulas.{Fits, IsCube, replace}
use Rattle.ras_logic.specs.Truth.{holds}
use Rattle.ras_logic.specs.Refutations.{chosen_row, Closes, HoldsOfSome}
use Rattle.ras_logic.proofs.Closing.{closed-sound}
use Rattle.ras_system.specs.States.{values_at}
use Rattle.ras_extension.proofs.Steps.{state-values}
use Rattle.ras_steps.specs.declared.witness.Witness.{Witness}
use Rattle.ras_sat.specs.declared.instance.Instance.{Instance}
use Rattle.ras_sat.specs.Instances.{IsFalsified}
use Rattle.ras_sat.specs.Answers.{IsEscape}
use Rattle.ras_entail.specs.EscapeStates.{IsStateOfRows}
use Rattle.ras_entail.specs.Entailment.{IsAmong, Escapes}
use Rattle.ras_entail.specs.Scans.{AreEnough}
use Rattle.ras_entail.proofs.EscapeStates.{rows-state, rows-meet, meets-rows, chosen-meet}
use Rattle.ras_logic.proofs.ByPlace.{no_true}

-- a premise that a tree closes is among the list
pub closed-among : (shape : ShapeParts) (premise : Problem) (list : List Problem) (nodes : List Node) → IsSchema shape.schema → Fits shape premise → All (Fits shape) list → All IsCube list
    → Closes shape.schema premise list nodes → IsAmong shape premise list
closed-among shape premise list nodes ok fits fit cubes closes d s db st (chosen, params, rows, elements, literals) =
    chosen-meet shape d s premise.rows chosen params rows list fit cubes
    (closed-sound shape premise list nodes ok fits fit cubes closes d (values_at s premise.rows chosen params) db
    (record { values = state-values shape d s premise.rows premise.params chosen params st fits.rows rows elements; literals = literals }))

-- a formula that holds of some rows is no instance that is falsified
holds-unfalsified : (d : RawDb) (v : Values) (premise : Problem) (list : List Problem) (some : HoldsOfSome d v premise.rows list)
    → ¬ IsFalsified d v list (record { formula = some.number; rows = some.chosen })
holds-unfalsified d v premise list some fails =
    let same : fails.formula ≡ some.formula = same_Some fails.formula some.formula (sym fails.known ∙ some.known) in
    let among : Contains some.formula.literals fails.literal = subst (λ (p : Problem). Contains p.literals fails.literal) same fails.among in
    let f : Literal → Literal = replace (chosen_row some.chosen) in
    let here : IsTrue (holds d v (get_or (map f some.formula.literals) among.0 (f fails.literal))) =
    some.literals among.0 (f fails.literal) (omega (arith, among.1, length-map some.formula.literals f)) in
    let at : get_or (map f some.formula.literals) among.0 (f fails.literal) ≡ f fails.literal =
    get_or-map f some.formula.literals among.0 fails.literal (f fails.literal) among.1 ∙ ap f among.2 in
    no_true (holds d v (f fails.literal)) (subst (λ (l : Literal). IsTrue (holds d v l)) at here) fails.fails

-- where the instances are enough, and all of them are falsified, no cube of the list holds of rows of the premise
none-hold : (shape : ShapeParts) (premise : Problem) (list : List Problem) (instances : List Instance) (d : RawDb) (v : Values) → AreEnough shape premise list instances
    → IsEscape shape premise list instances d v → ¬ HoldsOfSome d v premise.rows list
none-hold shape premise list instances d v enough escape some =
    let i : Instance = record { formula = some.number; rows = some.chosen } in
    holds-unfalsified d v premise list some
    (enough.every d v escape.database escape.satisfies escape.falsified i (record { formula = some.formula; known = some.known; rows_of = some.rows_of }))

pub model-escapes : (shape : ShapeParts) (premise : Problem) (list : List Problem) (instances : List Instance) (d : RawDb) (v : Values) → All (Fits shape) list → All IsCube list
    → AreEnough shape premise list instances → IsEscape shape premise list instances d v → (w : Witness) → w.db ≡ d → IsStateOfRows shape premise.rows v w.state → Escapes shape premise list w
model-escapes shape premise list instances d v fit cubes enough escape w is of =
    let s = w.state in
    let values = escape.satisfies.values in
    subst (λ (e : RawDb). Escapes shape premise list (record { db = e; state = s })) (sym is)
    (record {
      database = escape.database;
      state = rows-state shape d premise.rows premise.params v values s of;
      values = v;
      satisfies = escape.satisfies;
      rows = of;
      meets = rows-meet shape d premise.rows premise.params v values s of premise.literals escape.satisfies.literals;
      none = λ meets. none-hold shape premise list instances d v enough escape (meets-rows shape d premise.rows premise.params v values s of list fit cubes meets);
    })

-- what escapes is not among the list
pub escape-not_among : (shape : ShapeParts) (premise : Problem) (list : List Problem) (w : Witness) → Escapes shape premise list w → ¬ IsAmong shape premise list
escape-not_among shape premise list w e among = e.none (among w.db w.state e.database e.state e.meets)
