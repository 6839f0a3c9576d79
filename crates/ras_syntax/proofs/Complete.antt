-- Each stack that is reached has words that complete it.
use Rattle.std.proofs.Common.{◌≡◌, ℕ, suc, List, [], ◌∷◌, ◌++◌, length, Option, Some, None, Bool, true, false, cond, refl, sym, ap, subst, ◌∙◌, eq-eqb}
use Rattle.std.specs.Prelude.{IfSome}
use Rattle.ras_lexer.specs.declared.fixed.Fixed.{Fixed}
use Rattle.ras_lexer.specs.declared.fixed.Fixed.TheVariants as sign
use Rattle.ras_lexer.specs.declared.token.Word.{Word}
use Rattle.ras_lexer.specs.declared.token.Word.TheVariants as word
use Rattle.ras_syntax.specs.Machine.{Sym, fixed, name, conjunction, comparison, term, tail, sorts, functions, constants, variables, initial, relations, columns, steps, rows, params, ands, ors, dotted, updates, eachs, cases, assignments, goals, fault, step, ended, then_on, same, is_name, base, begins, begins_name, start, index}
use Rattle.ras_syntax.proofs.Skips.{no_sorts, no_functions, no_constants, no_variables, no_initial, no_relations, no_columns, no_steps, no_rows, no_params, no_ands, no_ors, no_dotted, no_updates, no_eachs, no_cases, no_assignments, no_goals, no_tail}
use Rattle.ras_syntax.proofs.Again.{TermEnds, ConjunctionEnds, GuardEnds, FunctionsEnd}

-- the shortest words that complete the stack
abbrev pub completion : List Sym → List Word
completion [] = []
completion (fixed f ∷ K) = word.Fixed f ∷ completion K
completion (name ∷ K) = word.Name (97 ∷ []) ∷ completion K
completion (conjunction ∷ K) = word.Fixed sign.True ∷ completion K
completion (comparison ∷ K) = word.Fixed sign.Equal ∷ completion K
completion (term ∷ K) = word.Fixed sign.Undef ∷ completion K
completion (sorts ∷ K) = completion K
completion (functions ∷ K) = completion K
completion (constants ∷ K) = completion K
completion (variables ∷ K) = completion K
completion (initial ∷ K) = completion K
completion (relations ∷ K) = completion K
completion (columns ∷ K) = completion K
completion (steps ∷ K) = completion K
completion (rows ∷ K) = completion K
completion (params ∷ K) = completion K
completion (ands ∷ K) = completion K
completion (ors ∷ K) = completion K
completion (dotted ∷ K) = completion K
completion (updates ∷ K) = completion K
completion (eachs ∷ K) = completion K
completion (cases ∷ K) = completion K
completion (assignments ∷ K) = completion K
completion (goals ∷ K) = completion K
completion (tail ∷ K) = completion K

-- no part goes on with what completes the rest
abbrev pub Good : List Sym → Type 0
Good [] = Unit {0}
Good (fixed f ∷ K) = Good K
Good (name ∷ K) = Good K
Good (comparison ∷ K) = Good K
Good (conjunction ∷ K) = ConjunctionEnds (completion K) × Good K
Good (term ∷ K) = TermEnds (completion K) × Good K
Good (sorts ∷ K) = (begins sign.Sort (completion K) ≡ false) × Good K
Good (functions ∷ K) = FunctionsEnd (completion K) × Good K
Good (constants ∷ K) = (begins sign.Const (completion K) ≡ false) × Good K
Good (variables ∷ K) = (begins sign.Var (completion K) ≡ false) × Good K
Good (initial ∷ K) = (begins sign.Equal (completion K) ≡ false) × Good K
Good (relations ∷ K) = (begins sign.Relation (completion K) ≡ false) × Good K
Good (columns ∷ K) = (begins sign.Comma (completion K) ≡ false) × Good K
Good (steps ∷ K) = (begins sign.Step (completion K) ≡ false) × Good K
Good (rows ∷ K) = (begins sign.Row (completion K) ≡ false) × Good K
Good (params ∷ K) = (begins sign.Param (completion K) ≡ false) × Good K
Good (ands ∷ K) = ConjunctionEnds (completion K) × Good K
Good (ors ∷ K) = GuardEnds (completion K) × Good K
Good (dotted ∷ K) = (begins sign.Dot (completion K) ≡ false) × Good K
Good (updates ∷ K) = (begins_name (completion K) ≡ false) × Good K
Good (eachs ∷ K) = (begins sign.Each (completion K) ≡ false) × Good K
Good (cases ∷ K) = (begins sign.If (completion K) ≡ false) × Good K
Good (assignments ∷ K) = (begins_name (completion K) ≡ false) × Good K
Good (goals ∷ K) = (begins sign.Unsafe (completion K) ≡ false) × Good K
Good (tail ∷ K) = TermEnds (completion K) × Good K

same_self : (f : Fixed) → same f (word.Fixed f) ≡ true
same_self f = eq-eqb (index f) (index f) refl

pub finishes : (K : List Sym) → Good K → fault K (completion K) ≡ None
finishes [] g = refl
finishes (fixed f ∷ K) g = rw (same_self f) (finishes K g)
finishes (name ∷ K) g = finishes K g
finishes (conjunction ∷ K) g = finishes K g.1
finishes (comparison ∷ K) g = finishes K g
finishes (term ∷ K) g = finishes K g.1
finishes (sorts ∷ K) g = no_sorts (completion K) K g.0 ∙ finishes K g.1
finishes (functions ∷ K) g = no_functions (completion K) K g.0.total g.0.nullable ∙ finishes K g.1
finishes (constants ∷ K) g = no_constants (completion K) K g.0 ∙ finishes K g.1
finishes (variables ∷ K) g = no_variables (completion K) K g.0 ∙ finishes K g.1
finishes (initial ∷ K) g = no_initial (completion K) K g.0 ∙ finishes K g.1
finishes (relations ∷ K) g = no_relations (completion K) K g.0 ∙ finishes K g.1
finishes (columns ∷ K) g = no_columns (completion K) K g.0 ∙ finishes K g.1
finishes (steps ∷ K) g = no_steps (completion K) K g.0 ∙ finishes K g.1
finishes (rows ∷ K) g = no_rows (completion K) K g.0 ∙ finishes K g.1
finishes (params ∷ K) g = no_params (completion K) K g.0 ∙ finishes K g.1
finishes (ands ∷ K) g = no_ands (completion K) K g.0.and ∙ finishes K g.1
finishes (ors ∷ K) g = no_ors (completion K) K g.0.or ∙ finishes K g.1
finishes (dotted ∷ K) g = no_dotted (completion K) K g.0 ∙ finishes K g.1
finishes (updates ∷ K) g = no_updates (completion K) K g.0 ∙ finishes K g.1
finishes (eachs ∷ K) g = no_eachs (completion K) K g.0 ∙ finishes K g.1
finishes (cases ∷ K) g = no_cases (completion K) K g.0 ∙ finishes K g.1
finishes (assignments ∷ K) g = no_assignments (completion K) K g.0 ∙ finishes K g.1
finishes (goals ∷ K) g = no_goals (completion K) K g.0 ∙ finishes K g.1
finishes (tail ∷ K) g = no_tail (completion K) K g.0.opens g.0.dot ∙ finishes K g.1

both : (b : Bool) (x y : Option (List Sym)) → IfSome x Good → IfSome y Good → IfSome (cond b x y) Good
both true x y p q = p
both false x y p q = q

keeps_base : (K : List Sym) (w : Word) → TermEnds (completion K) → Good K → IfSome (base K w) Good
keeps_base K w h g = both (is_name w) (Some (tail ∷ K)) (cond (same sign.Undef w) (Some K) None) (h, g) (both (same sign.Undef w) (Some K) None g tt)

pub keeps : (K : List Sym) (w : Word) → Good K → IfSome (step K w) Good
keeps [] w g = tt
keeps (fixed f ∷ K) w g = both (same f w) (Some K) None g tt
keeps (name ∷ K) w g = both (is_name w) (Some K) None g tt
keeps (comparison ∷ K) w g = both (same sign.Equal w) (Some K) (cond (same sign.NotEqual w) (Some K) None) g (both (same sign.NotEqual w) (Some K) None g tt)
keeps (conjunction ∷ K) w g =
    both (same sign.True w) (Some K) (base (comparison ∷ term ∷ ands ∷ K) w) g.1
    (keeps_base (comparison ∷ term ∷ ands ∷ K) w (record { opens = refl; dot = refl }) (g.0.term, g))
keeps (term ∷ K) w g = keeps_base K w g.0 g.1
keeps (tail ∷ K) w g =
    both (same sign.OpenParen w) (Some (term ∷ fixed sign.CloseParen ∷ K)) (cond (same sign.Dot w) (Some (name ∷ K)) (step K w)) (record { opens = refl; dot = refl }, g.1)
    (both (same sign.Dot w) (Some (name ∷ K)) (step K w) g.1 (keeps K w g.1))
keeps (sorts ∷ K) w g = both (same sign.Sort w) (Some (name ∷ fixed sign.Semicolon ∷ sorts ∷ K)) (step K w) g (keeps K w g.1)
keeps (functions ∷ K) w g =
    both (same sign.Total w) (Some (name ∷ fixed sign.Colon ∷ name ∷ fixed sign.Arrow ∷ name ∷ fixed sign.Semicolon ∷ functions ∷ K)) (cond (same sign.Nullable w) (Some (name ∷ fixed sign.Colon ∷ name ∷ fixed sign.Arrow ∷ name ∷ fixed sign.Semicolon ∷ functions ∷ K)) (step K w)) g
    (both (same sign.Nullable w) (Some (name ∷ fixed sign.Colon ∷ name ∷ fixed sign.Arrow ∷ name ∷ fixed sign.Semicolon ∷ functions ∷ K)) (step K w) g (keeps K w g.1))
keeps (constants ∷ K) w g = both (same sign.Const w) (Some (name ∷ fixed sign.Colon ∷ name ∷ fixed sign.Semicolon ∷ constants ∷ K)) (step K w) g (keeps K w g.1)
keeps (variables ∷ K) w g = both (same sign.Var w) (Some (name ∷ fixed sign.Colon ∷ name ∷ initial ∷ fixed sign.Semicolon ∷ variables ∷ K)) (step K w) (refl, g) (keeps K w g.1)
keeps (initial ∷ K) w g = both (same sign.Equal w) (Some (name ∷ K)) (step K w) g.1 (keeps K w g.1)
keeps (relations ∷ K) w g = both (same sign.Relation w) (Some (name ∷ fixed sign.OpenParen ∷ name ∷ fixed sign.Colon ∷ name ∷ columns ∷ fixed sign.CloseParen ∷ fixed sign.Semicolon ∷ relations ∷ K)) (step K w) (refl, g) (keeps K w g.1)
keeps (columns ∷ K) w g = both (same sign.Comma w) (Some (name ∷ fixed sign.Colon ∷ name ∷ columns ∷ K)) (step K w) g (keeps K w g.1)
keeps (steps ∷ K) w g = both (same sign.Step w) (Some (name ∷ fixed sign.OpenBrace ∷ rows ∷ params ∷ fixed sign.When ∷ conjunction ∷ ors ∷ fixed sign.Semicolon ∷ updates ∷ eachs ∷ fixed sign.CloseBrace ∷ steps ∷ K)) (step K w) (refl, (refl, (record { and = refl; term = record { opens = refl; dot = refl } }, (record { or = refl; conjunction = record { and = refl; term = record { opens = refl; dot = refl } } }, (refl, (refl, g)))))) (keeps K w g.1)
keeps (rows ∷ K) w g = both (same sign.Row w) (Some (name ∷ fixed sign.Colon ∷ name ∷ fixed sign.Semicolon ∷ rows ∷ K)) (step K w) g (keeps K w g.1)
keeps (params ∷ K) w g = both (same sign.Param w) (Some (name ∷ fixed sign.Colon ∷ name ∷ fixed sign.Semicolon ∷ params ∷ K)) (step K w) g (keeps K w g.1)
keeps (ands ∷ K) w g = both (same sign.And w) (Some (term ∷ comparison ∷ term ∷ ands ∷ K)) (step K w) (record { opens = refl; dot = refl }, (g.0.term, g)) (keeps K w g.1)
keeps (ors ∷ K) w g = both (same sign.Or w) (Some (conjunction ∷ ors ∷ K)) (step K w) (g.0.conjunction, g) (keeps K w g.1)
keeps (dotted ∷ K) w g = both (same sign.Dot w) (Some (name ∷ K)) (step K w) g.1 (keeps K w g.1)
keeps (updates ∷ K) w g = both (is_name w) (Some (dotted ∷ fixed sign.Assign ∷ term ∷ fixed sign.Semicolon ∷ updates ∷ K)) (step K w) (refl, (record { opens = refl; dot = refl }, g)) (keeps K w g.1)
keeps (eachs ∷ K) w g = both (same sign.Each w) (Some (name ∷ fixed sign.Colon ∷ name ∷ fixed sign.OpenBrace ∷ fixed sign.If ∷ conjunction ∷ fixed sign.OpenBrace ∷ assignments ∷ fixed sign.CloseBrace ∷ cases ∷ fixed sign.CloseBrace ∷ eachs ∷ K)) (step K w) (record { and = refl; term = record { opens = refl; dot = refl } }, (refl, (refl, g))) (keeps K w g.1)
keeps (cases ∷ K) w g = both (same sign.If w) (Some (conjunction ∷ fixed sign.OpenBrace ∷ assignments ∷ fixed sign.CloseBrace ∷ cases ∷ K)) (step K w) (record { and = refl; term = record { opens = refl; dot = refl } }, (refl, g)) (keeps K w g.1)
keeps (assignments ∷ K) w g = both (is_name w) (Some (fixed sign.Dot ∷ name ∷ fixed sign.Assign ∷ term ∷ fixed sign.Semicolon ∷ assignments ∷ K)) (step K w) (record { opens = refl; dot = refl }, g) (keeps K w g.1)
keeps (goals ∷ K) w g = both (same sign.Unsafe w) (Some (fixed sign.OpenBrace ∷ rows ∷ fixed sign.When ∷ conjunction ∷ ors ∷ fixed sign.Semicolon ∷ fixed sign.CloseBrace ∷ goals ∷ K)) (step K w) (refl, (record { and = refl; term = record { opens = refl; dot = refl } }, (record { or = refl; conjunction = record { and = refl; term = record { opens = refl; dot = refl } } }, g))) (keeps K w g.1)

pub start_good : Good start
start_good = (refl, (record { total = refl; nullable = refl }, (refl, (refl, (refl, (refl, (refl, tt)))))))

-- where reading stops: the words before, the stack there, and the words that are left
pub record Stop (K : List Sym) (ws : List Word) (left : ℕ) : Type 0 where
  pub front : List Word
  pub back : List Word
  pub stack : List Sym
  pub parts : ws ≡ front ++ back
  pub count : length back ≡ left
  pub reads : (more : List Word) → fault K (front ++ more) ≡ fault stack more
  pub good : Good stack
  pub stops : fault stack back ≡ Some (length back)
  pub dead : (w : Word) (rest more : List Word) → back ≡ w ∷ rest → fault stack (w ∷ more) ≡ Some (suc (length more))

some_is : (m n : ℕ) → ◌≡◌ {A = Option ℕ} (Some m) (Some n) → m ≡ n
some_is m n e = cc

ended_is : (K : List Sym) (left : ℕ) → ended K ≡ Some left → 0 ≡ left
ended_is [] left e = absurd cc
ended_is (sorts ∷ K) left e = ended_is K left e
ended_is (functions ∷ K) left e = ended_is K left e
ended_is (constants ∷ K) left e = ended_is K left e
ended_is (variables ∷ K) left e = ended_is K left e
ended_is (initial ∷ K) left e = ended_is K left e
ended_is (relations ∷ K) left e = ended_is K left e
ended_is (columns ∷ K) left e = ended_is K left e
ended_is (steps ∷ K) left e = ended_is K left e
ended_is (rows ∷ K) left e = ended_is K left e
ended_is (params ∷ K) left e = ended_is K left e
ended_is (ands ∷ K) left e = ended_is K left e
ended_is (ors ∷ K) left e = ended_is K left e
ended_is (dotted ∷ K) left e = ended_is K left e
ended_is (updates ∷ K) left e = ended_is K left e
ended_is (eachs ∷ K) left e = ended_is K left e
ended_is (cases ∷ K) left e = ended_is K left e
ended_is (assignments ∷ K) left e = ended_is K left e
ended_is (goals ∷ K) left e = ended_is K left e
ended_is (tail ∷ K) left e = ended_is K left e
ended_is (fixed f ∷ K) left e = some_is 0 left e
ended_is (name ∷ K) left e = some_is 0 left e
ended_is (conjunction ∷ K) left e = some_is 0 left e
ended_is (comparison ∷ K) left e = some_is 0 left e
ended_is (term ∷ K) left e = some_is 0 left e

stop_word : (K : List Sym) (w : Word) (ws : List Word) (left : ℕ) → Good K → (o : Option (List Sym)) → step K w ≡ o → IfSome o Good
    → then_on o (suc (length ws)) (λ next. fault next ws) ≡ Some left → ((J : List Sym) → Good J → fault J ws ≡ Some left → Stop J ws left) → Stop K (w ∷ ws) left
stop_word K w ws left g None is h e on = record {
  front = [];
  back = w ∷ ws;
  stack = K;
  parts = refl;
  count = some_is (suc (length ws)) left e;
  reads = λ more. refl;
  good = g;
  stops = ap (λ (o : Option (List Sym)). then_on o (suc (length ws)) (λ next. fault next ws)) is;
  dead = λ v rest more same.
      let first : w ≡ v = cc in
      subst (λ (u : Word). fault K (u ∷ more) ≡ Some (suc (length more))) first (ap (λ (o : Option (List Sym)). then_on o (suc (length more)) (λ next. fault next more)) is);
}
stop_word K w ws left g (Some J) is h e on =
    let r = on J h e in
    record {
      front = w ∷ r.front;
      back = r.back;
      stack = r.stack;
      parts = ap (λ (rest : List Word). w ∷ rest) r.parts;
      count = r.count;
      reads = λ more. ap (λ (o : Option (List Sym)). then_on o (suc (length (r.front ++ more))) (λ next. fault next (r.front ++ more))) is ∙ r.reads more;
      good = r.good;
      stops = r.stops;
      dead = r.dead;
    }

pub stop : (K : List Sym) (ws : List Word) (left : ℕ) → Good K → fault K ws ≡ Some left → Stop K ws left
stop K [] left g e = record {
  front = [];
  back = [];
  stack = K;
  parts = refl;
  count = ended_is K left e;
  reads = λ more. refl;
  good = g;
  stops = e ∙ ap (λ (n : ℕ). Some n) (sym (ended_is K left e));
  dead = λ w rest more same. absurd cc;
}
stop K (w ∷ ws) left g e = stop_word K w ws left g (step K w) refl (keeps K w g) e (λ J h i. stop J ws left h i)
