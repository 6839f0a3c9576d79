-- Steps, unsafe items and whole files are read as they are written.
use Rattle.std.proofs.Common.{◌≡◌, List, ◌∷◌, ◌++◌, Some, flat_map, codes, refl, ap, append_assoc}
use Rattle.ras_lexer.specs.declared.fixed.Fixed.TheVariants as fixed
use Rattle.ras_lexer.specs.declared.token.Word.{Word}
use Rattle.ras_lexer.specs.declared.token.Word.TheVariants as declared
use Rattle.ras_syntax.specs.Grammar as grammar
use Rattle.ras_syntax.specs.Grammar.{one, guard_words, sort_words, function_words, constant_words, variable_words, relation_words, row_words, param_words, update_words, assignment_words, case_words, each_words, step_words, goal_words, file_words}
use Rattle.ras_names.specs.FileParts.{cases}
use Rattle.ras_names.specs.Canonical.{guard_line, sort_line, function_line, constant_line, variable_line, relation_line, row_line, param_line, update_line, assignment_text, whole_case, each_lines, step_lines, goal_lines, canonical_text}
use Rattle.ras_canonical.proofs.Spelled.{Anything, Spells, name, sign, space, ended, spaced, and_then, apart, respelled, blank_behind, in_turn}
use Rattle.ras_canonical.proofs.Terms.{conjunction, guard, target, assigned}
use Rattle.ras_canonical.proofs.Declarations.{semicolon, one_line, one_inner_line, one_case_line, declaration, sort, function, constant, variable, relation, row, param}

-- a brace with a blank before it, and one that closes
open_brace : Spells Anything (codes " {") (one fixed.OpenBrace)
open_brace = and_then (space 32 refl) (sign fixed.OpenBrace 123 refl refl)

close_brace : Spells Anything (codes "}") (one fixed.CloseBrace)
close_brace = sign fixed.CloseBrace 125 refl refl

when : (g : grammar.Guard) → Spells Anything (guard_line g) (declared.Fixed fixed.When ∷ (guard_words g ++ one fixed.Semicolon))
when g = one_inner_line (and_then (ended fixed.When) (apart (guard g) semicolon (λ rest. refl)))

update : (u : grammar.Update) → Spells Anything (update_line u) (update_words u)
update u = one_inner_line (assigned _ _ u.term (target u.name u.column))

assignment : (a : grammar.Assignment) → Spells Anything (assignment_text a) (assignment_words a)
assignment a = blank_behind 32 refl (assigned _ _ a.term (target a.row (Some a.column)))

case : (c : grammar.Case) → Spells Anything (whole_case c) (case_words c)
case c =
    one_case_line (and_then (ended fixed.If)
    (apart (conjunction c.condition) (and_then (spaced fixed.OpenBrace) (and_then (in_turn assignment_text assignment_words assignment c.assignments) close_brace)) (λ rest. refl)))

each_item : (e : grammar.Each) → Spells Anything (each_lines e) (each_words e)
each_item e =
    respelled (and_then (one_inner_line (and_then (ended fixed.Each) (apart (declaration e.row e.relation) open_brace (λ rest. refl))))
    (and_then (in_turn whole_case case_words case (cases e)) (one_inner_line close_brace)))
    (ap (λ (ws : List Word). declared.Fixed fixed.Each ∷ declared.Name e.row ∷ declared.Fixed fixed.Colon ∷ declared.Name e.relation ∷ declared.Fixed fixed.OpenBrace ∷ ws)
    (append_assoc (case_words e.first) (flat_map case_words e.others) (one fixed.CloseBrace)))

-- a guard with its semicolon, before the words of the lines behind it
regrouped : (g : grammar.Guard) (ws : List Word) → (declared.Fixed fixed.When ∷ (guard_words g ++ one fixed.Semicolon)) ++ ws ≡ declared.Fixed fixed.When ∷ (guard_words g ++ (declared.Fixed fixed.Semicolon ∷ ws))
regrouped g ws = ap (λ (vs : List Word). declared.Fixed fixed.When ∷ vs) (append_assoc (guard_words g) (one fixed.Semicolon) ws)

step : (s : grammar.Step) → Spells Anything (step_lines s) (step_words s)
step s =
    let behind : List Word = flat_map update_words s.updates ++ (flat_map each_words s.eachs ++ one fixed.CloseBrace) in
    respelled (and_then (one_line (and_then (ended fixed.Step) (apart (name s.name) open_brace (λ rest. refl))))
    (and_then (in_turn row_line row_words row s.rows)
    (and_then (in_turn param_line param_words param s.params)
    (and_then (when s.guard)
    (and_then (in_turn update_line update_words update s.updates)
    (and_then (in_turn each_lines each_words each_item s.eachs)
    (one_line close_brace)))))))
    (ap (λ (ws : List Word). declared.Fixed fixed.Step ∷ declared.Name s.name ∷ declared.Fixed fixed.OpenBrace ∷ (flat_map row_words s.rows ++ (flat_map param_words s.params ++ ws)))
    (regrouped s.guard behind))

goal : (g : grammar.Goal) → Spells Anything (goal_lines g) (goal_words g)
goal g =
    respelled (and_then (one_line (and_then (ended fixed.Unsafe) (sign fixed.OpenBrace 123 refl refl)))
    (and_then (in_turn row_line row_words row g.rows)
    (and_then (when g.guard) (one_line close_brace))))
    (ap (λ (ws : List Word). declared.Fixed fixed.Unsafe ∷ declared.Fixed fixed.OpenBrace ∷ (flat_map row_words g.rows ++ ws)) (regrouped g.guard (one fixed.CloseBrace)))

pub file : (f : grammar.File) → Spells Anything (canonical_text f) (file_words f)
file f =
    and_then (one_line (and_then (ended fixed.System) (apart (name f.name) semicolon (λ rest. refl))))
    (and_then (in_turn sort_line sort_words sort f.sorts)
    (and_then (in_turn function_line function_words function f.functions)
    (and_then (in_turn constant_line constant_words constant f.constants)
    (and_then (in_turn variable_line variable_words variable f.variables)
    (and_then (in_turn relation_line relation_words relation f.relations)
    (and_then (in_turn step_lines step_words step f.steps)
    (in_turn goal_lines goal_words goal f.goals)))))))
