-- The tokens that a file was read from.
use Rattle.std.specs.Prelude.{ℕ, List, [], ◌∷◌, ◌++◌, Option, Some, None}
use Rattle.std.specs.List.{flat_map}
use Rattle.ras_lexer.specs.declared.fixed.Fixed.{Fixed}
use Rattle.ras_lexer.specs.declared.fixed.Fixed.TheVariants as sign
use Rattle.ras_lexer.specs.declared.token.Word.{Word}
use Rattle.ras_lexer.specs.declared.token.Word.TheVariants as word
use Rattle.ras_lexer.specs.declared.token.Token.{Token}
use Rattle.ras_syntax.specs.Machine.{Sym, term, fixed}
use Rattle.ras_syntax.specs.declared.tree.Name.{Name}
use Rattle.ras_syntax.specs.declared.tree.Sort.{Sort}
use Rattle.ras_syntax.specs.declared.tree.Totality.{Totality}
use Rattle.ras_syntax.specs.declared.tree.Totality.TheVariants.{Total, Nullable}
use Rattle.ras_syntax.specs.declared.tree.Function.{Function}
use Rattle.ras_syntax.specs.declared.tree.Constant.{Constant}
use Rattle.ras_syntax.specs.declared.tree.Initial.{Initial}
use Rattle.ras_syntax.specs.declared.tree.Variable.{Variable}
use Rattle.ras_syntax.specs.declared.tree.Column.{Column}
use Rattle.ras_syntax.specs.declared.tree.CommaColumn.{CommaColumn}
use Rattle.ras_syntax.specs.declared.tree.Relation.{Relation}
use Rattle.ras_syntax.specs.declared.tree.Row.{Row}
use Rattle.ras_syntax.specs.declared.tree.Param.{Param}
use Rattle.ras_syntax.specs.declared.tree.Call.{Call}
use Rattle.ras_syntax.specs.declared.tree.Base.{Base}
use Rattle.ras_syntax.specs.declared.tree.Base.TheVariants.{Undef, Plain, Cell}
use Rattle.ras_syntax.specs.declared.tree.Term.{Term}
use Rattle.ras_syntax.specs.declared.tree.Comparison.{Comparison}
use Rattle.ras_syntax.specs.declared.tree.Comparison.TheVariants.{Equal, NotEqual}
use Rattle.ras_syntax.specs.declared.tree.Literal.{Literal}
use Rattle.ras_syntax.specs.declared.tree.AndLiteral.{AndLiteral}
use Rattle.ras_syntax.specs.declared.tree.Conjunction.{Conjunction}
use Rattle.ras_syntax.specs.declared.tree.Conjunction.TheVariants.{True, All}
use Rattle.ras_syntax.specs.declared.tree.OrConjunction.{OrConjunction}
use Rattle.ras_syntax.specs.declared.tree.Guard.{Guard}
use Rattle.ras_syntax.specs.declared.tree.Dotted.{Dotted}
use Rattle.ras_syntax.specs.declared.tree.Update.{Update}
use Rattle.ras_syntax.specs.declared.tree.Assignment.{Assignment}
use Rattle.ras_syntax.specs.declared.tree.Case.{Case}
use Rattle.ras_syntax.specs.declared.tree.Each.{Each}
use Rattle.ras_syntax.specs.declared.tree.Step.{Step}
use Rattle.ras_syntax.specs.declared.tree.Goal.{Goal}
use Rattle.ras_syntax.specs.declared.tree.File.{File}
use Rattle.ras_syntax.specs.declared.formulas.Front.{Front}
use Rattle.ras_syntax.specs.declared.formulas.Front.TheVariants.{Outer, Last}

abbrev pub words : List Token → List Word
words [] = []
words (t ∷ ts) = t.word ∷ words ts

abbrev pub at : ℕ → Fixed → Token
at place f = record { at = place; word = word.Fixed f }

abbrev pub only : ℕ → Fixed → List Token
only place f = at place f ∷ []

abbrev pub of_name : Name → Token
of_name n = record { at = n.at; word = word.Name n.text }

abbrev pub of_sort : Sort → List Token
of_sort s = at s.at sign.Sort ∷ of_name s.name ∷ only s.semicolon sign.Semicolon

abbrev pub of_totality : Totality → Fixed
of_totality Total = sign.Total
of_totality Nullable = sign.Nullable

abbrev pub of_function : Function → List Token
of_function f = at f.at (of_totality f.totality) ∷ of_name f.name ∷ at f.colon sign.Colon ∷ of_name f.source ∷ at f.arrow sign.Arrow ∷ of_name f.target ∷ only f.semicolon sign.Semicolon

abbrev pub of_constant : Constant → List Token
of_constant c = at c.at sign.Const ∷ of_name c.name ∷ at c.colon sign.Colon ∷ of_name c.sort ∷ only c.semicolon sign.Semicolon

abbrev pub of_initial : Option Initial → List Token
of_initial None = []
of_initial (Some i) = at i.at sign.Equal ∷ of_name i.constant ∷ []

abbrev pub of_variable : Variable → List Token
of_variable v = at v.at sign.Var ∷ of_name v.name ∷ at v.colon sign.Colon ∷ of_name v.sort ∷ (of_initial v.initial ++ only v.semicolon sign.Semicolon)

abbrev pub of_column : Column → List Token
of_column c = of_name c.name ∷ at c.colon sign.Colon ∷ of_name c.sort ∷ []

abbrev pub of_comma : CommaColumn → List Token
of_comma c = at c.comma sign.Comma ∷ of_column c.column

abbrev pub of_relation : Relation → List Token
of_relation r = at r.at sign.Relation ∷ of_name r.name ∷ at r.open sign.OpenParen
    ∷ (of_column r.first ++ (flat_map of_comma r.others.items ++ (at r.close sign.CloseParen ∷ only r.semicolon sign.Semicolon)))

abbrev pub of_row : Row → List Token
of_row r = at r.at sign.Row ∷ of_name r.name ∷ at r.colon sign.Colon ∷ of_name r.relation ∷ only r.semicolon sign.Semicolon

abbrev pub of_param : Param → List Token
of_param p = at p.at sign.Param ∷ of_name p.name ∷ at p.colon sign.Colon ∷ of_name p.sort ∷ only p.semicolon sign.Semicolon

abbrev pub of_call : Call → List Token
of_call c = of_name c.function ∷ only c.open sign.OpenParen

abbrev pub of_base : Base → List Token
of_base (Undef place) = only place sign.Undef
of_base (Plain n) = of_name n ∷ []
of_base (Cell row dot column) = of_name row ∷ at dot sign.Dot ∷ of_name column ∷ []

abbrev pub of_close : ℕ → List Token
of_close place = only place sign.CloseParen

abbrev pub of_term : Term → List Token
of_term t = flat_map of_call t.calls.items ++ (of_base t.base ++ flat_map of_close t.closes.items)

abbrev pub of_comparison : Comparison → Fixed
of_comparison Equal = sign.Equal
of_comparison NotEqual = sign.NotEqual

abbrev pub of_literal : Literal → List Token
of_literal l = of_term l.left ++ (at l.at (of_comparison l.comparison) ∷ of_term l.right)

abbrev pub of_and : AndLiteral → List Token
of_and a = at a.at sign.And ∷ of_literal a.literal

abbrev pub of_conjunction : Conjunction → List Token
of_conjunction (True place) = only place sign.True
of_conjunction (All l ls) = of_literal l ++ flat_map of_and ls.items

abbrev pub of_or : OrConjunction → List Token
of_or o = at o.at sign.Or ∷ of_conjunction o.conjunction

abbrev pub of_guard : Guard → List Token
of_guard g = of_conjunction g.first ++ flat_map of_or g.others.items

abbrev pub of_dotted : Option Dotted → List Token
of_dotted None = []
of_dotted (Some d) = at d.dot sign.Dot ∷ of_name d.column ∷ []

abbrev pub of_update : Update → List Token
of_update u = of_name u.target ∷ (of_dotted u.column ++ (at u.at sign.Assign ∷ (of_term u.term ++ only u.semicolon sign.Semicolon)))

abbrev pub of_assignment : Assignment → List Token
of_assignment a = of_name a.row ∷ at a.dot sign.Dot ∷ of_name a.column ∷ at a.at sign.Assign ∷ (of_term a.term ++ only a.semicolon sign.Semicolon)

abbrev pub of_case : Case → List Token
of_case c = at c.at sign.If ∷ (of_conjunction c.condition ++ (at c.open sign.OpenBrace ∷ (flat_map of_assignment c.assignments.items ++ only c.close sign.CloseBrace)))

abbrev pub of_each : Each → List Token
of_each e = at e.at sign.Each ∷ of_name e.row ∷ at e.colon sign.Colon ∷ of_name e.relation ∷ at e.open sign.OpenBrace
    ∷ (of_case e.first ++ (flat_map of_case e.others.items ++ only e.close sign.CloseBrace))

abbrev pub of_step : Step → List Token
of_step s = at s.at sign.Step ∷ of_name s.name ∷ at s.open sign.OpenBrace
    ∷ (flat_map of_row s.rows.items ++ (flat_map of_param s.params.items
    ++ (at s.when sign.When ∷ (of_guard s.guard
    ++ (at s.semicolon sign.Semicolon ∷ (flat_map of_update s.updates.items ++ (flat_map of_each s.eachs.items ++ only s.close sign.CloseBrace)))))))

abbrev pub of_goal : Goal → List Token
of_goal g = at g.at sign.Unsafe ∷ at g.open sign.OpenBrace
    ∷ (flat_map of_row g.rows.items ++ (at g.when sign.When ∷ (of_guard g.guard ++ (at g.semicolon sign.Semicolon ∷ only g.close sign.CloseBrace))))

abbrev pub of_file : File → List Token
of_file f = at f.at sign.System ∷ of_name f.name ∷ at f.semicolon sign.Semicolon
    ∷ (flat_map of_sort f.sorts.items ++ (flat_map of_function f.functions.items ++ (flat_map of_constant f.constants.items
    ++ (flat_map of_variable f.variables.items ++ (flat_map of_relation f.relations.items ++ (flat_map of_step f.steps.items ++ flat_map of_goal f.goals.items))))))

-- the front of a term: a call, or its base
abbrev pub of_front : Front → List Token
of_front (Outer c) = of_call c
of_front (Last b) = of_base b

-- what is to be read behind it
abbrev pub front_left : Front → List Sym
front_left (Outer c) = term ∷ fixed sign.CloseParen ∷ []
front_left (Last b) = []
