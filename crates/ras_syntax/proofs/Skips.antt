-- What the machine does where a word that decides does not come.
use Rattle.std.proofs.Common.{◌≡◌, suc, List, [], ◌∷◌, length, Some, false, refl, ap}
use Rattle.ras_lexer.specs.declared.fixed.Fixed.{Fixed}
use Rattle.ras_lexer.specs.declared.fixed.Fixed.TheVariants as sign
use Rattle.ras_lexer.specs.declared.token.Word.{Word}
use Rattle.ras_lexer.specs.declared.token.Token.{Token}
use Rattle.ras_syntax.specs.Machine.{Sym, fixed, name, conjunction, comparison, term, tail, sorts, functions, constants, variables, initial, relations, columns, steps, rows, params, ands, ors, dotted, updates, eachs, cases, assignments, goals, fault, begins, begins_name}
use Rattle.ras_syntax.specs.Places.{words}

pub length-words : (ts : List Token) → length (words ts) ≡ length ts
length-words [] = refl
length-words (t ∷ ts) = ap suc (length-words ts)

pub no_fixed : (f : Fixed) (ts : List Token) (K : List Sym) → begins f (words ts) ≡ false → fault (fixed f ∷ K) (words ts) ≡ Some (length ts)
no_fixed f [] K h = refl
no_fixed f (t ∷ ts) K h = rw (h, length-words ts) refl

pub no_name : (ts : List Token) (K : List Sym) → begins_name (words ts) ≡ false → fault (name ∷ K) (words ts) ≡ Some (length ts)
no_name [] K h = refl
no_name (t ∷ ts) K h = rw (h, length-words ts) refl

pub no_front : (ts : List Token) (K : List Sym) → begins sign.Undef (words ts) ≡ false → begins_name (words ts) ≡ false → fault (term ∷ K) (words ts) ≡ Some (length ts)
no_front [] K h i = refl
no_front (t ∷ ts) K h i = rw (i, h, length-words ts) refl

pub no_comparison : (ts : List Token) (K : List Sym) → begins sign.Equal (words ts) ≡ false → begins sign.NotEqual (words ts) ≡ false → fault (comparison ∷ K) (words ts) ≡ Some (length ts)
no_comparison [] K h i = refl
no_comparison (t ∷ ts) K h i = rw (h, i, length-words ts) refl

-- without "true" a conjunction begins with a literal
pub conjunction_is_literal : (ws : List Word) (K : List Sym) → begins sign.True ws ≡ false → fault (conjunction ∷ K) ws ≡ fault (term ∷ comparison ∷ term ∷ ands ∷ K) ws
conjunction_is_literal [] K h = refl
conjunction_is_literal (w ∷ ws) K h = rw h refl

-- ---- a part that need not come is over

pub no_tail : (ws : List Word) (K : List Sym) → begins sign.OpenParen ws ≡ false → begins sign.Dot ws ≡ false → fault (tail ∷ K) ws ≡ fault K ws
no_tail [] K h i = refl
no_tail (w ∷ ws) K h i = rw (h, i) refl

pub no_sorts : (ws : List Word) (K : List Sym) → begins sign.Sort ws ≡ false → fault (sorts ∷ K) ws ≡ fault K ws
no_sorts [] K h = refl
no_sorts (w ∷ ws) K h = rw h refl

pub no_functions : (ws : List Word) (K : List Sym) → begins sign.Total ws ≡ false → begins sign.Nullable ws ≡ false → fault (functions ∷ K) ws ≡ fault K ws
no_functions [] K h i = refl
no_functions (w ∷ ws) K h i = rw (h, i) refl

pub no_constants : (ws : List Word) (K : List Sym) → begins sign.Const ws ≡ false → fault (constants ∷ K) ws ≡ fault K ws
no_constants [] K h = refl
no_constants (w ∷ ws) K h = rw h refl

pub no_variables : (ws : List Word) (K : List Sym) → begins sign.Var ws ≡ false → fault (variables ∷ K) ws ≡ fault K ws
no_variables [] K h = refl
no_variables (w ∷ ws) K h = rw h refl

pub no_initial : (ws : List Word) (K : List Sym) → begins sign.Equal ws ≡ false → fault (initial ∷ K) ws ≡ fault K ws
no_initial [] K h = refl
no_initial (w ∷ ws) K h = rw h refl

pub no_relations : (ws : List Word) (K : List Sym) → begins sign.Relation ws ≡ false → fault (relations ∷ K) ws ≡ fault K ws
no_relations [] K h = refl
no_relations (w ∷ ws) K h = rw h refl

pub no_columns : (ws : List Word) (K : List Sym) → begins sign.Comma ws ≡ false → fault (columns ∷ K) ws ≡ fault K ws
no_columns [] K h = refl
no_columns (w ∷ ws) K h = rw h refl

pub no_steps : (ws : List Word) (K : List Sym) → begins sign.Step ws ≡ false → fault (steps ∷ K) ws ≡ fault K ws
no_steps [] K h = refl
no_steps (w ∷ ws) K h = rw h refl

pub no_rows : (ws : List Word) (K : List Sym) → begins sign.Row ws ≡ false → fault (rows ∷ K) ws ≡ fault K ws
no_rows [] K h = refl
no_rows (w ∷ ws) K h = rw h refl

pub no_params : (ws : List Word) (K : List Sym) → begins sign.Param ws ≡ false → fault (params ∷ K) ws ≡ fault K ws
no_params [] K h = refl
no_params (w ∷ ws) K h = rw h refl

pub no_ands : (ws : List Word) (K : List Sym) → begins sign.And ws ≡ false → fault (ands ∷ K) ws ≡ fault K ws
no_ands [] K h = refl
no_ands (w ∷ ws) K h = rw h refl

pub no_ors : (ws : List Word) (K : List Sym) → begins sign.Or ws ≡ false → fault (ors ∷ K) ws ≡ fault K ws
no_ors [] K h = refl
no_ors (w ∷ ws) K h = rw h refl

pub no_dotted : (ws : List Word) (K : List Sym) → begins sign.Dot ws ≡ false → fault (dotted ∷ K) ws ≡ fault K ws
no_dotted [] K h = refl
no_dotted (w ∷ ws) K h = rw h refl

pub no_updates : (ws : List Word) (K : List Sym) → begins_name ws ≡ false → fault (updates ∷ K) ws ≡ fault K ws
no_updates [] K h = refl
no_updates (w ∷ ws) K h = rw h refl

pub no_eachs : (ws : List Word) (K : List Sym) → begins sign.Each ws ≡ false → fault (eachs ∷ K) ws ≡ fault K ws
no_eachs [] K h = refl
no_eachs (w ∷ ws) K h = rw h refl

pub no_cases : (ws : List Word) (K : List Sym) → begins sign.If ws ≡ false → fault (cases ∷ K) ws ≡ fault K ws
no_cases [] K h = refl
no_cases (w ∷ ws) K h = rw h refl

pub no_assignments : (ws : List Word) (K : List Sym) → begins_name ws ≡ false → fault (assignments ∷ K) ws ≡ fault K ws
no_assignments [] K h = refl
no_assignments (w ∷ ws) K h = rw h refl

pub no_goals : (ws : List Word) (K : List Sym) → begins sign.Unsafe ws ≡ false → fault (goals ∷ K) ws ≡ fault K ws
no_goals [] K h = refl
no_goals (w ∷ ws) K h = rw h refl
