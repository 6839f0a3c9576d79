-- What is seen of the tokens of a tree: their words but for closing signs, and the tokens at which a fault can stand.
use Rattle.std.proofs.Common.{◌≡◌, ℕ, Bool, true, false, cond, List, [], ◌∷◌, ◌++◌, map, refl, sym, ◌∙◌, ap, append-nil}
use Rattle.std.specs.Prelude.{Option, Some, None, filter, flat_map, option_map}
use Rattle.std.proofs.lemmas.List.Elements.{filter-append}
use Rattle.ras_lexer.specs.declared.fixed.Fixed.{Fixed}
use Rattle.ras_lexer.specs.declared.fixed.Fixed.TheVariants as sign
use Rattle.ras_lexer.specs.declared.token.Word.{Word}
use Rattle.ras_lexer.specs.declared.token.Word.TheVariants as word
use Rattle.ras_lexer.specs.declared.token.Token.{Token}
use Rattle.ras_syntax.specs.declared.tree.Name.{Name}
use Rattle.ras_syntax.specs.declared.tree.Sort.{Sort}
use Rattle.ras_syntax.specs.declared.tree.Totality.{Totality}
use Rattle.ras_syntax.specs.declared.tree.Totality.TheVariants.{Total, Nullable}
use Rattle.ras_syntax.specs.declared.tree.Function.{Function}
use Rattle.ras_syntax.specs.declared.tree.Constant.{Constant}
use Rattle.ras_syntax.specs.declared.tree.Initial.{Initial}
use Rattle.ras_syntax.specs.declared.tree.Variable.{Variable}
use Rattle.ras_syntax.specs.declared.tree.CommaColumn.{CommaColumn}
use Rattle.ras_syntax.specs.declared.tree.Relation.{Relation}
use Rattle.ras_syntax.specs.declared.tree.Row.{Row}
use Rattle.ras_syntax.specs.declared.tree.Param.{Param}
use Rattle.ras_syntax.specs.declared.tree.Call.{Call}
use Rattle.ras_syntax.specs.declared.tree.Base.{Base}
use Rattle.ras_syntax.specs.declared.tree.Base.TheVariants.{Undef, Plain, Cell}
use Rattle.ras_syntax.specs.declared.tree.Term.{Term}
use Rattle.ras_syntax.specs.declared.tree.Comparison.{Comparison}
use Rattle.ras_syntax.specs.declared.tree.Comparison.TheVariants.{Equal, NotEqual}
use Rattle.ras_syntax.specs.declared.tree.Literal.{Literal}
use Rattle.ras_syntax.specs.declared.tree.AndLiteral.{AndLiteral}
use Rattle.ras_syntax.specs.declared.tree.Conjunction.{Conjunction}
use Rattle.ras_syntax.specs.declared.tree.Conjunction.TheVariants.{True, All}
use Rattle.ras_syntax.specs.declared.tree.OrConjunction.{OrConjunction}
use Rattle.ras_syntax.specs.declared.tree.Guard.{Guard}
use Rattle.ras_syntax.specs.declared.tree.Dotted.{Dotted}
use Rattle.ras_syntax.specs.declared.tree.Update.{Update}
use Rattle.ras_syntax.specs.declared.tree.Assignment.{Assignment}
use Rattle.ras_syntax.specs.declared.tree.Case.{Case}
use Rattle.ras_syntax.specs.declared.tree.Each.{Each}
use Rattle.ras_syntax.specs.declared.tree.Step.{Step}
use Rattle.ras_syntax.specs.declared.tree.Goal.{Goal}
use Rattle.ras_syntax.specs.declared.tree.File.{File}
use Rattle.ras_syntax.specs.Grammar as grammar
use Rattle.ras_syntax.specs.Grammar.{IsFile, one}
use Rattle.ras_syntax.specs.Places as read
use Rattle.ras_syntax.specs.Places.{words}
use Rattle.ras_names.specs.Placed as placed
use Rattle.ras_names.specs.PlacedTokens as seen
use Rattle.ras_names.specs.PlacedTokens.{has_place, is_placed, IsFileOf}
use Rattle.ras_names.specs.Unplaced as un
use Rattle.ras_scope.specs.Placing as see
use Rattle.ras_elab.proofs.Mended.{stays, without_closes, closes_determined}

abbrev has_place_at : Token → Bool
has_place_at t = is_placed t.word

record Sees (tokens : List Token) (spelled_by : List Word) (places_of : List Token) : Type 0 where
  spelled : without_closes (words tokens) ≡ without_closes spelled_by
  places : filter has_place_at tokens ≡ places_of

nothing : Sees [] [] []
nothing = record { spelled = refl; places = refl }

bare : (place : ℕ) (f : Fixed) {ts : List Token} {ws : List Word} {ps : List Token} → has_place f ≡ false → Sees ts ws ps → Sees (read.at place f ∷ ts) (word.Fixed f ∷ ws) ps
bare place f {ts} {ws} {ps} free s = record {
  spelled = ap (λ (z : List Word). cond (stays (word.Fixed f)) (word.Fixed f ∷ z) z) s.spelled;
  places = ap (λ (b : Bool). cond b (read.at place f ∷ filter has_place_at ts) (filter has_place_at ts)) free ∙ s.places;
}

shown : (place : ℕ) (f : Fixed) {ts : List Token} {ws : List Word} {ps : List Token} → has_place f ≡ true → Sees ts ws ps
    → Sees (read.at place f ∷ ts) (word.Fixed f ∷ ws) (seen.sign_at place f ∷ ps)
shown place f {ts} {ws} {ps} faulty s = record {
  spelled = ap (λ (z : List Word). cond (stays (word.Fixed f)) (word.Fixed f ∷ z) z) s.spelled;
  places = ap (λ (b : Bool). cond b (read.at place f ∷ filter has_place_at ts) (filter has_place_at ts)) faulty
      ∙ ap (λ (z : List Token). seen.sign_at place f ∷ z) s.places;
}

named : (n : Name) {ts : List Token} {ws : List Word} {ps : List Token} → Sees ts ws ps
    → Sees (read.of_name n ∷ ts) (word.Name n.text ∷ ws) (seen.of_name (see.placed_name n) ∷ ps)
named n s = record {
  spelled = ap (λ (z : List Word). word.Name n.text ∷ z) s.spelled;
  places = ap (λ (z : List Token). seen.of_name (see.placed_name n) ∷ z) s.places;
}

words-append : (a b : List Token) → words (a ++ b) ≡ words a ++ words b
words-append [] b = refl
words-append (t ∷ a) b = ap (λ (z : List Word). t.word ∷ z) (words-append a b)

both : {X : Type 0} {a b c d : List X} → a ≡ b → c ≡ d → a ++ c ≡ b ++ d
both {X} {a} {b} {c} {d} p q = ap (λ (z : List X). z ++ c) p ∙ ap (λ (z : List X). b ++ z) q

joined : {a b : List Token} {v w : List Word} {p q : List Token} → Sees a v p → Sees b w q → Sees (a ++ b) (v ++ w) (p ++ q)
joined {a} {b} {v} {w} {p} {q} s t = record {
  spelled = ap without_closes (words-append a b) ∙ filter-append stays (words a) (words b) ∙ both s.spelled t.spelled ∙ sym (filter-append stays v w);
  places = filter-append has_place_at a b ∙ both s.places t.places;
}

-- where nothing of what follows has a place
ended : {ts : List Token} {ws : List Word} {ps : List Token} → Sees ts ws (ps ++ []) → Sees ts ws ps
ended {ts} {ws} {ps} s = record { spelled = s.spelled; places = s.places ∙ append-nil ps }

-- a closing sign is not seen
unclosed : {ts : List Token} {ws : List Word} {ps : List Token} → Sees ts ws ps → Sees ts (ws ++ one sign.CloseParen) ps
unclosed {ts} {ws} {ps} s = record {
  spelled = s.spelled ∙ sym (filter-append stays ws (one sign.CloseParen) ∙ append-nil (filter stays ws));
  places = s.places;
}

many : {X Y Z : Type 0} (tokens : X → List Token) (place : X → Y) (bare_of : Y → Z) (spell : Z → List Word) (places_of : Y → List Token)
    → ((x : X) → Sees (tokens x) (spell (bare_of (place x))) (places_of (place x)))
    → (xs : List X) → Sees (flat_map tokens xs) (flat_map spell (map bare_of (map place xs))) (flat_map places_of (map place xs))
many tokens place bare_of spell places_of item [] = nothing
many tokens place bare_of spell places_of item (x ∷ xs) = joined (item x) (many tokens place bare_of spell places_of item xs)

-- ---- declarations

sorts_seen : (ss : List Sort) → Sees (flat_map read.of_sort ss) (flat_map grammar.sort_words (map un.sort_of (map see.placed_sort ss))) (map seen.of_name (map see.placed_sort ss))
sorts_seen [] = nothing
sorts_seen (s ∷ ss) = bare s.at sign.Sort refl (named s.name (bare s.semicolon sign.Semicolon refl (sorts_seen ss)))

totality_seen : (t : Totality) (place : ℕ) {ts : List Token} {ws : List Word} {ps : List Token} → Sees ts ws ps
    → Sees (read.at place (read.of_totality t) ∷ ts) (word.Fixed (grammar.totality_sign (see.is_total t)) ∷ ws) ps
totality_seen Total place s = bare place sign.Total refl s
totality_seen Nullable place s = bare place sign.Nullable refl s

function_seen : (f : Function) → Sees (read.of_function f) (grammar.function_words (un.function_of (see.placed_function f))) (seen.of_function (see.placed_function f))
function_seen f = totality_seen f.totality f.at (named f.name (bare f.colon sign.Colon refl (named f.source (bare f.arrow sign.Arrow refl (named f.target (bare f.semicolon sign.Semicolon refl nothing))))))

constant_seen : (c : Constant) → Sees (read.of_constant c) (grammar.constant_words (un.constant_of (see.placed_constant c))) (seen.of_declared (see.placed_constant c))
constant_seen c = bare c.at sign.Const refl (named c.name (bare c.colon sign.Colon refl (named c.sort (bare c.semicolon sign.Semicolon refl nothing))))

initial_seen : (i : Option Initial) → Sees (read.of_initial i) (grammar.initial_words (option_map (λ (j : placed.Initial). j.constant.text) (option_map see.placed_initial i))) (seen.of_initial (option_map see.placed_initial i))
initial_seen None = nothing
initial_seen (Some i) = shown i.at sign.Equal refl (named i.constant nothing)

variable_seen : (v : Variable) → Sees (read.of_variable v) (grammar.variable_words (un.variable_of (see.placed_variable v))) (seen.of_variable (see.placed_variable v))
variable_seen v =
    bare v.at sign.Var refl (named v.name (bare v.colon sign.Colon refl (named v.sort (ended (joined (initial_seen v.initial) (bare v.semicolon sign.Semicolon refl nothing))))))

comma_seen : (c : CommaColumn) → Sees (read.of_comma c) (grammar.comma_words (un.column_of (see.placed_comma c))) (seen.of_declared (see.placed_comma c))
comma_seen c = bare c.comma sign.Comma refl (named c.column.name (bare c.column.colon sign.Colon refl (named c.column.sort nothing)))

relation_seen : (r : Relation) → Sees (read.of_relation r) (grammar.relation_words (un.relation_of (see.placed_relation r))) (seen.of_relation (see.placed_relation r))
relation_seen r =
    let columns = many read.of_comma see.placed_comma un.column_of grammar.comma_words seen.of_declared comma_seen r.others.items in
    let inner = ended (joined columns (bare r.close sign.CloseParen refl (bare r.semicolon sign.Semicolon refl nothing))) in
    bare r.at sign.Relation refl (named r.name (bare r.open sign.OpenParen refl (named r.first.name (bare r.first.colon sign.Colon refl (named r.first.sort inner)))))

row_seen : (r : Row) → Sees (read.of_row r) (grammar.row_words (un.row_of (see.placed_row r))) (seen.of_declared (see.placed_row r))
row_seen r = bare r.at sign.Row refl (named r.name (bare r.colon sign.Colon refl (named r.relation (bare r.semicolon sign.Semicolon refl nothing))))

param_seen : (p : Param) → Sees (read.of_param p) (grammar.param_words (un.param_of (see.placed_param p))) (seen.of_declared (see.placed_param p))
param_seen p = bare p.at sign.Param refl (named p.name (bare p.colon sign.Colon refl (named p.sort (bare p.semicolon sign.Semicolon refl nothing))))

-- ---- formulas

closes_seen : (places : List ℕ) → Sees (flat_map read.of_close places) [] []
closes_seen [] = nothing
closes_seen (p ∷ ps) = let s = closes_seen ps in record { spelled = s.spelled; places = s.places }

base_seen : (b : Base) {ts : List Token} → Sees ts [] [] → Sees (read.of_base b ++ ts) (grammar.term_words (un.base_of (see.placed_base b))) (seen.of_base (see.placed_base b))
base_seen (Undef place) s = shown place sign.Undef refl s
base_seen (Plain n) s = named n s
base_seen (Cell row dot column) s = named row (bare dot sign.Dot refl (named column s))

called_seen : (calls : List Call) (b : Base) (closes : List ℕ)
    → Sees (flat_map read.of_call calls ++ (read.of_base b ++ flat_map read.of_close closes)) (grammar.term_words (un.called_of (map see.placed_call calls) (see.placed_base b)))
    (map seen.of_name (map see.placed_call calls) ++ seen.of_base (see.placed_base b))
called_seen [] b closes = base_seen b (closes_seen closes)
called_seen (c ∷ cs) b closes = named c.function (bare c.open sign.OpenParen refl (unclosed (called_seen cs b closes)))

term_seen : (t : Term) → Sees (read.of_term t) (grammar.term_words (un.term_of (see.placed_term t))) (seen.of_term (see.placed_term t))
term_seen t = called_seen t.calls.items t.base t.closes.items

comparison_seen : (c : Comparison) (place : ℕ) {ts : List Token} {ws : List Word} {ps : List Token} → Sees ts ws ps
    → Sees (read.at place (read.of_comparison c) ∷ ts) (word.Fixed (grammar.comparison_sign (see.is_equal c)) ∷ ws) (seen.sign_at place (grammar.comparison_sign (see.is_equal c)) ∷ ps)
comparison_seen Equal place s = shown place sign.Equal refl s
comparison_seen NotEqual place s = shown place sign.NotEqual refl s

literal_seen : (l : Literal) → Sees (read.of_literal l) (grammar.literal_words (un.literal_of (see.placed_literal l))) (seen.of_literal (see.placed_literal l))
literal_seen l = joined (term_seen l.left) (comparison_seen l.comparison l.at (term_seen l.right))

and_seen : (a : AndLiteral) → Sees (read.of_and a) (grammar.and_words (un.literal_of (see.placed_and a))) (seen.of_literal (see.placed_and a))
and_seen a = bare a.at sign.And refl (literal_seen a.literal)

conjunction_seen : (c : Conjunction) → Sees (read.of_conjunction c) (grammar.conjunction_words (un.conjunction_of (see.placed_conjunction c))) (seen.of_conjunction (see.placed_conjunction c))
conjunction_seen (True place) = shown place sign.True refl nothing
conjunction_seen (All l ls) = joined (literal_seen l) (many read.of_and see.placed_and un.literal_of grammar.and_words seen.of_literal and_seen ls.items)

or_seen : (o : OrConjunction) → Sees (read.of_or o) (grammar.or_words (un.conjunction_of (see.placed_or o))) (seen.of_conjunction (see.placed_or o))
or_seen o = bare o.at sign.Or refl (conjunction_seen o.conjunction)

guard_seen : (g : Guard) → Sees (read.of_guard g) (grammar.guard_words (un.guard_of (see.placed_guard g))) (seen.of_guard (see.placed_guard g))
guard_seen g = joined (conjunction_seen g.first) (many read.of_or see.placed_or un.conjunction_of grammar.or_words seen.of_conjunction or_seen g.others.items)

-- ---- steps and unsafe items

dotted_seen : (d : Option Dotted) → Sees (read.of_dotted d) (grammar.dotted_words (option_map (λ (n : placed.Name). n.text) (option_map see.placed_dotted d))) (seen.of_column (option_map see.placed_dotted d))
dotted_seen None = nothing
dotted_seen (Some d) = bare d.dot sign.Dot refl (named d.column nothing)

term_semicolon_seen : (t : Term) (place : ℕ) → Sees (read.of_term t ++ read.only place sign.Semicolon) (grammar.term_words (un.term_of (see.placed_term t)) ++ one sign.Semicolon) (seen.of_term (see.placed_term t))
term_semicolon_seen t place = ended (joined (term_seen t) (bare place sign.Semicolon refl nothing))

update_seen : (u : Update) → Sees (read.of_update u) (grammar.update_words (un.update_of (see.placed_update u))) (seen.of_update (see.placed_update u))
update_seen u = named u.target (joined (dotted_seen u.column) (shown u.at sign.Assign refl (term_semicolon_seen u.term u.semicolon)))

assignment_seen : (a : Assignment) → Sees (read.of_assignment a) (grammar.assignment_words (un.assignment_of (see.placed_assignment a))) (seen.of_assignment (see.placed_assignment a))
assignment_seen a = named a.row (bare a.dot sign.Dot refl (named a.column (shown a.at sign.Assign refl (term_semicolon_seen a.term a.semicolon))))

case_seen : (c : Case) → Sees (read.of_case c) (grammar.case_words (un.case_of (see.placed_case c))) (seen.of_case (see.placed_case c))
case_seen c =
    let assignments = many read.of_assignment see.placed_assignment un.assignment_of grammar.assignment_words seen.of_assignment assignment_seen c.assignments.items in
    shown c.at sign.If refl (joined (conjunction_seen c.condition) (bare c.open sign.OpenBrace refl (ended (joined assignments (bare c.close sign.CloseBrace refl nothing)))))

each_seen : (e : Each) → Sees (read.of_each e) (grammar.each_words (un.each_of (see.placed_each e))) (seen.of_each (see.placed_each e))
each_seen e =
    let others = many read.of_case see.placed_case un.case_of grammar.case_words seen.of_case case_seen e.others.items in
    let cases = joined (case_seen e.first) (ended (joined others (bare e.close sign.CloseBrace refl nothing))) in
    bare e.at sign.Each refl (named e.row (bare e.colon sign.Colon refl (named e.relation (bare e.open sign.OpenBrace refl cases))))

rows_seen : (rs : List Row) → Sees (flat_map read.of_row rs) (flat_map grammar.row_words (map un.row_of (map see.placed_row rs))) (flat_map seen.of_declared (map see.placed_row rs))
rows_seen = many read.of_row see.placed_row un.row_of grammar.row_words seen.of_declared row_seen

step_seen : (s : Step) → Sees (read.of_step s) (grammar.step_words (un.step_of (see.placed_step s))) (seen.of_step (see.placed_step s))
step_seen s =
    let params = many read.of_param see.placed_param un.param_of grammar.param_words seen.of_declared param_seen s.params.items in
    let updates = many read.of_update see.placed_update un.update_of grammar.update_words seen.of_update update_seen s.updates.items in
    let eachs = many read.of_each see.placed_each un.each_of grammar.each_words seen.of_each each_seen s.eachs.items in
    let changes = bare s.semicolon sign.Semicolon refl (joined updates (ended (joined eachs (bare s.close sign.CloseBrace refl nothing)))) in
    let guarded = bare s.when sign.When refl (joined (guard_seen s.guard) changes) in
    bare s.at sign.Step refl (named s.name (bare s.open sign.OpenBrace refl (joined (rows_seen s.rows.items) (joined params guarded))))

goal_seen : (g : Goal) → Sees (read.of_goal g) (grammar.goal_words (un.goal_of (see.placed_goal g))) (seen.of_goal (see.placed_goal g))
goal_seen g =
    let guarded = ended (joined (guard_seen g.guard) (bare g.semicolon sign.Semicolon refl (bare g.close sign.CloseBrace refl nothing))) in
    bare g.at sign.Unsafe refl (bare g.open sign.OpenBrace refl (joined (rows_seen g.rows.items) (bare g.when sign.When refl guarded)))

-- ---- the file

file_seen : (f : File) → Sees (read.of_file f) (grammar.file_words (un.file_of (see.placed_file f))) (seen.of_file (see.placed_file f))
file_seen f =
    let functions = many read.of_function see.placed_function un.function_of grammar.function_words seen.of_function function_seen f.functions.items in
    let constants = many read.of_constant see.placed_constant un.constant_of grammar.constant_words seen.of_declared constant_seen f.constants.items in
    let variables = many read.of_variable see.placed_variable un.variable_of grammar.variable_words seen.of_variable variable_seen f.variables.items in
    let relations = many read.of_relation see.placed_relation un.relation_of grammar.relation_words seen.of_relation relation_seen f.relations.items in
    let steps = many read.of_step see.placed_step un.step_of grammar.step_words seen.of_step step_seen f.steps.items in
    let goals = many read.of_goal see.placed_goal un.goal_of grammar.goal_words seen.of_goal goal_seen f.goals.items in
    let items = joined (sorts_seen f.sorts.items) (joined functions (joined constants (joined variables (joined relations (joined steps goals))))) in
    bare f.at sign.System refl (named f.name (bare f.semicolon sign.Semicolon refl items))

pub is_file_of : (f : File) → IsFile (words (read.of_file f)) → IsFileOf (read.of_file f) (see.placed_file f)
is_file_of f h = record {
  spelled = closes_determined (words (read.of_file f)) (un.file_of (see.placed_file f)) h (file_seen f).spelled;
  places = (file_seen f).places;
}
