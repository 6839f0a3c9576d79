-- The words determine the file that they are spelled by.
use Rattle.std.proofs.Common.{◌≡◌, List, [], ◌∷◌, ◌++◌, Option, Some, None, Bool, true, false, refl, sym, ap, subst, ◌∙◌, append_assoc, eq-eqb}
use Rattle.std.specs.List.{flat_map}
use Rattle.std.proofs.lemmas.Bool.{false≢true}
use Rattle.std.proofs.lemmas.List.{append-nil}
use Rattle.ras_lexer.specs.declared.fixed.Fixed.{Fixed}
use Rattle.ras_lexer.specs.declared.fixed.Fixed.TheVariants as sign
use Rattle.ras_lexer.specs.declared.token.Word.{Word}
use Rattle.ras_lexer.specs.declared.token.Word.TheVariants as word
use Rattle.ras_syntax.specs.Grammar.{Term, call, cell, plain, undef, term_words, Literal, comparison_sign, literal_words, Conjunction, always, all, and_words, conjunction_words, or_words, guard_words, initial_words, dotted_words, Sort, sort_words, Function, totality_sign, function_words, Constant, constant_words, Variable, variable_words, Column, comma_words, Relation, relation_words, Row, row_words, Param, param_words, Guard, Update, update_words, Assignment, assignment_words, Case, case_words, Each, each_words, Step, step_words, Goal, goal_words, File, file_words, one, Text}
use Rattle.ras_syntax.specs.Machine.{begins, begins_name, index}
use Rattle.ras_syntax.proofs.Again.{TermEnds, ConjunctionEnds, GuardEnds, FunctionsEnd, follow, term_not_true, or_ends, semicolon_ends, comparison_ends, step_regrouped, from_functions, from_constants, from_variables, from_relations, from_steps, from_goals, free}

-- one value, and one rest behind it
pub record Same {X : Type 0} (x y : X) (ws vs : List Word) : Type 0 where
  pub value : x ≡ y
  pub rest : ws ≡ vs

tails : (v w : Word) (vs ws : List Word) → ◌≡◌ {A = List Word} (v ∷ vs) (w ∷ ws) → vs ≡ ws
tails v w vs ws e = cc

heads : (v w : Word) (vs ws : List Word) → ◌≡◌ {A = List Word} (v ∷ vs) (w ∷ ws) → v ≡ w
heads v w vs ws e = cc

name_is : (n m : Text) → word.Name n ≡ word.Name m → n ≡ m
name_is n m e = cc

names : (n m : Text) (vs ws : List Word) → ◌≡◌ {A = List Word} (word.Name n ∷ vs) (word.Name m ∷ ws) → n ≡ m
names n m vs ws e = name_is n m (heads (word.Name n) (word.Name m) vs ws e)

name_no_sign : (n : Text) (f : Fixed) (vs ws : List Word) → ◌≡◌ {A = List Word} (word.Name n ∷ vs) (word.Fixed f ∷ ws) → ⊥
name_no_sign n f vs ws e = cc

begun : (f : Fixed) (ws rest : List Word) → ws ≡ word.Fixed f ∷ rest → begins f ws ≡ false → ⊥
begun f ws rest e h = false≢true (sym h ∙ ap (begins f) e ∙ eq-eqb (index f) (index f) refl)

regrouped : (a b ws c d vs : List Word) → (a ++ b) ++ ws ≡ (c ++ d) ++ vs → a ++ (b ++ ws) ≡ c ++ (d ++ vs)
regrouped a b ws c d vs e = sym (append_assoc a b ws) ∙ e ∙ append_assoc c d vs

many : {X : Type 0} (spell : X → List Word) (Q P : List Word → Type 0)
    → ((x : X) (rest : List Word) → P (spell x ++ rest) → ⊥) → ((x : X) (rest : List Word) → Q (spell x ++ rest)) → ((ws : List Word) → P ws → Q ws)
    → ((x y : X) (ws vs : List Word) → Q ws → Q vs → spell x ++ ws ≡ spell y ++ vs → Same x y ws vs)
    → (xs ys : List X) (ws vs : List Word) → P ws → P vs → flat_map spell xs ++ ws ≡ flat_map spell ys ++ vs → Same xs ys ws vs
many spell Q P starts first last item [] [] ws vs h i e = record { value = refl; rest = e }
many spell Q P starts first last item [] (y ∷ ys) ws vs h i e = absurd (starts y (flat_map spell ys ++ vs) (subst P (e ∙ append_assoc (spell y) (flat_map spell ys) vs) h))
many spell Q P starts first last item (x ∷ xs) [] ws vs h i e = absurd (starts x (flat_map spell xs ++ ws) (subst P (sym e ∙ append_assoc (spell x) (flat_map spell xs) ws) i))
many spell Q P starts first last item (x ∷ xs) (y ∷ ys) ws vs h i e =
    let s = item x y (flat_map spell xs ++ ws) (flat_map spell ys ++ vs) (follow Q spell xs ws first (last ws h)) (follow Q spell ys vs first (last vs i)) (regrouped (spell x) (flat_map spell xs) ws (spell y) (flat_map spell ys) vs e) in
    let r = many spell Q P starts first last item xs ys ws vs h i s.rest in
    record { value = ap (λ z. z ∷ xs) s.value ∙ ap (λ zs. y ∷ zs) r.value; rest = r.rest }

abbrev Any : List Word → Type 0
Any ws = Unit {0}

-- items that end by themselves
items : {X : Type 0} (spell : X → List Word) (P : List Word → Type 0) → ((x : X) (rest : List Word) → P (spell x ++ rest) → ⊥)
    → ((x y : X) (ws vs : List Word) → spell x ++ ws ≡ spell y ++ vs → Same x y ws vs)
    → (xs ys : List X) (ws vs : List Word) → P ws → P vs → flat_map spell xs ++ ws ≡ flat_map spell ys ++ vs → Same xs ys ws vs
items spell P starts item xs ys ws vs h i e = many spell Any P starts (λ x rest. tt) (λ rest j. tt) (λ x y l r a b. item x y l r) xs ys ws vs h i e

-- ---- formulas

term_same : (t u : Term) (ws vs : List Word) → TermEnds ws → TermEnds vs → term_words t ++ ws ≡ term_words u ++ vs → Same t u ws vs
term_same (call f t) (call g u) ws vs h i e =
    let close : List Word = one sign.CloseParen in
    let name : f ≡ g = names f g _ _ e in
    let inside : (term_words t ++ close) ++ ws ≡ (term_words u ++ close) ++ vs = tails _ _ _ _ (tails _ _ _ _ e) in
    let s = term_same t u (close ++ ws) (close ++ vs) (record { opens = refl; dot = refl }) (record { opens = refl; dot = refl }) (regrouped (term_words t) close ws (term_words u) close vs inside) in
    record { value = ap (λ (n : Text). call n t) name ∙ ap (call g) s.value; rest = tails _ _ _ _ s.rest }
term_same (call f t) (cell r c) ws vs h i e = absurd (let k : word.Fixed sign.OpenParen ≡ word.Fixed sign.Dot = heads _ _ _ _ (tails _ _ _ _ e) in cc)
term_same (call f t) (plain n) ws vs h i e = absurd (begun sign.OpenParen vs _ (sym (tails _ _ _ _ e)) i.opens)
term_same (call f t) undef ws vs h i e = absurd (name_no_sign f sign.Undef _ _ e)
term_same (cell r c) (call f t) ws vs h i e = absurd (let k : word.Fixed sign.Dot ≡ word.Fixed sign.OpenParen = heads _ _ _ _ (tails _ _ _ _ e) in cc)
term_same (cell r c) (cell q d) ws vs h i e =
    let row : r ≡ q = names r q _ _ e in
    let column : c ≡ d = names c d _ _ (tails _ _ _ _ (tails _ _ _ _ e)) in
    record { value = ap (λ (n : Text). cell n c) row ∙ ap (cell q) column; rest = tails _ _ _ _ (tails _ _ _ _ (tails _ _ _ _ e)) }
term_same (cell r c) (plain n) ws vs h i e = absurd (begun sign.Dot vs _ (sym (tails _ _ _ _ e)) i.dot)
term_same (cell r c) undef ws vs h i e = absurd (name_no_sign r sign.Undef _ _ e)
term_same (plain n) (call f t) ws vs h i e = absurd (begun sign.OpenParen ws _ (tails _ _ _ _ e) h.opens)
term_same (plain n) (cell r c) ws vs h i e = absurd (begun sign.Dot ws _ (tails _ _ _ _ e) h.dot)
term_same (plain n) (plain m) ws vs h i e = record { value = ap plain (names n m _ _ e); rest = tails _ _ _ _ e }
term_same (plain n) undef ws vs h i e = absurd (name_no_sign n sign.Undef _ _ e)
term_same undef (call f t) ws vs h i e = absurd (name_no_sign f sign.Undef _ _ (sym e))
term_same undef (cell r c) ws vs h i e = absurd (name_no_sign r sign.Undef _ _ (sym e))
term_same undef (plain n) ws vs h i e = absurd (name_no_sign n sign.Undef _ _ (sym e))
term_same undef undef ws vs h i e = record { value = refl; rest = tails _ _ _ _ e }

comparison_same : (a b : Bool) → word.Fixed (comparison_sign a) ≡ word.Fixed (comparison_sign b) → a ≡ b
comparison_same true true e = refl
comparison_same true false e = absurd cc
comparison_same false true e = absurd cc
comparison_same false false e = refl

literal_same : (l m : Literal) (ws vs : List Word) → TermEnds ws → TermEnds vs → literal_words l ++ ws ≡ literal_words m ++ vs → Same l m ws vs
literal_same l m ws vs h i e =
    let after : Literal → List Word = λ x. word.Fixed (comparison_sign x.equal) ∷ term_words x.right in
    let a = term_same l.left m.left (after l ++ ws) (after m ++ vs) (comparison_ends l.equal (term_words l.right ++ ws)) (comparison_ends m.equal (term_words m.right ++ vs)) (regrouped (term_words l.left) (after l) ws (term_words m.left) (after m) vs e) in
    let b : l.equal ≡ m.equal = comparison_same l.equal m.equal (heads _ _ _ _ a.rest) in
    let c = term_same l.right m.right ws vs h i (tails _ _ _ _ a.rest) in
    let make : Term → Bool → Term → Literal = λ t q u. record { left = t; equal = q; right = u } in
    record { value = ap (λ (t : Term). make t l.equal l.right) a.value ∙ ap (λ (q : Bool). make m.left q l.right) b ∙ ap (make m.left m.equal) c.value; rest = c.rest }

and_same : (l m : Literal) (ws vs : List Word) → TermEnds ws → TermEnds vs → and_words l ++ ws ≡ and_words m ++ vs → Same l m ws vs
and_same l m ws vs h i e = literal_same l m ws vs h i (tails _ _ _ _ e)

and_ends : (l : Literal) (rest : List Word) → TermEnds (and_words l ++ rest)
and_ends l rest = record { opens = refl; dot = refl }

ands_same : (ls ms : List Literal) (ws vs : List Word) → ConjunctionEnds ws → ConjunctionEnds vs → flat_map and_words ls ++ ws ≡ flat_map and_words ms ++ vs → Same ls ms ws vs
ands_same ls ms ws vs h i e = many and_words TermEnds ConjunctionEnds (λ l rest j. false≢true (sym j.and)) and_ends (λ rest j. j.term) and_same ls ms ws vs h i e

literal_not_true : (l : Literal) (rest ws : List Word) → literal_words l ++ rest ≡ word.Fixed sign.True ∷ ws → ⊥
literal_not_true l rest ws e =
    let after : List Word = word.Fixed (comparison_sign l.equal) ∷ term_words l.right in
    begun sign.True (term_words l.left ++ (after ++ rest)) ws (sym (append_assoc (term_words l.left) after rest) ∙ e) (term_not_true l.left (after ++ rest))

conjunction_same : (c d : Conjunction) (ws vs : List Word) → ConjunctionEnds ws → ConjunctionEnds vs → conjunction_words c ++ ws ≡ conjunction_words d ++ vs → Same c d ws vs
conjunction_same always always ws vs h i e = record { value = refl; rest = tails _ _ _ _ e }
conjunction_same always (all m ms) ws vs h i e = absurd (literal_not_true m (flat_map and_words ms ++ vs) ws (sym (append_assoc (literal_words m) (flat_map and_words ms) vs) ∙ sym e))
conjunction_same (all l ls) always ws vs h i e = absurd (literal_not_true l (flat_map and_words ls ++ ws) vs (sym (append_assoc (literal_words l) (flat_map and_words ls) ws) ∙ e))
conjunction_same (all l ls) (all m ms) ws vs h i e =
    let a = literal_same l m (flat_map and_words ls ++ ws) (flat_map and_words ms ++ vs) (follow TermEnds and_words ls ws and_ends h.term) (follow TermEnds and_words ms vs and_ends i.term)
    (regrouped (literal_words l) (flat_map and_words ls) ws (literal_words m) (flat_map and_words ms) vs e) in
    let b = ands_same ls ms ws vs h i a.rest in
    record { value = ap (λ (x : Literal). all x ls) a.value ∙ ap (all m) b.value; rest = b.rest }

ors_same : (cs ds : List Conjunction) (ws vs : List Word) → GuardEnds ws → GuardEnds vs → flat_map or_words cs ++ ws ≡ flat_map or_words ds ++ vs → Same cs ds ws vs
ors_same cs ds ws vs h i e =
    many or_words ConjunctionEnds GuardEnds (λ c rest j. false≢true (sym j.or)) or_ends (λ rest j. j.conjunction) (λ c d l r j k f. conjunction_same c d l r j k (tails _ _ _ _ f)) cs ds ws vs h i e

guard_same : (g k : Guard) (ws vs : List Word) → GuardEnds ws → GuardEnds vs → guard_words g ++ ws ≡ guard_words k ++ vs → Same g k ws vs
guard_same g k ws vs h i e =
    let a = conjunction_same g.first k.first (flat_map or_words g.others ++ ws) (flat_map or_words k.others ++ vs)
    (follow ConjunctionEnds or_words g.others ws or_ends h.conjunction) (follow ConjunctionEnds or_words k.others vs or_ends i.conjunction)
    (regrouped (conjunction_words g.first) (flat_map or_words g.others) ws (conjunction_words k.first) (flat_map or_words k.others) vs e) in
    let b = ors_same g.others k.others ws vs h i a.rest in
    let make : Conjunction → List Conjunction → Guard = λ c cs. record { first = c; others = cs } in
    record { value = ap (λ (c : Conjunction). make c g.others) a.value ∙ ap (make k.first) b.value; rest = b.rest }

-- ---- declarations

sort_same : (x y : Sort) (ws vs : List Word) → sort_words x ++ ws ≡ sort_words y ++ vs → Same x y ws vs
sort_same x y ws vs e =
    let make : Text → Sort = λ n. record { name = n } in
    record { value = ap make (names _ _ _ _ (tails _ _ _ _ e)); rest = tails _ _ _ _ (tails _ _ _ _ (tails _ _ _ _ e)) }

totality_same : (a b : Bool) → word.Fixed (totality_sign a) ≡ word.Fixed (totality_sign b) → a ≡ b
totality_same true true e = refl
totality_same true false e = absurd cc
totality_same false true e = absurd cc
totality_same false false e = refl

-- NAME ":" NAME and the rest
pub record SamePair (n m s t : Text) (ws vs : List Word) : Type 0 where
  pub name : n ≡ m
  pub sort : s ≡ t
  pub rest : ws ≡ vs

pair_same : (n m s t : Text) (ws vs : List Word) → ◌≡◌ {A = List Word} (word.Name n ∷ word.Fixed sign.Colon ∷ word.Name s ∷ ws) (word.Name m ∷ word.Fixed sign.Colon ∷ word.Name t ∷ vs) → SamePair n m s t ws vs
pair_same n m s t ws vs e =
    let behind_name = tails _ _ _ _ (tails _ _ _ _ e) in
    record { name = names _ _ _ _ e; sort = names _ _ _ _ behind_name; rest = tails _ _ _ _ behind_name }

function_same : (x y : Function) (ws vs : List Word) → function_words x ++ ws ≡ function_words y ++ vs → Same x y ws vs
function_same x y ws vs e =
    let total : x.total ≡ y.total = totality_same x.total y.total (heads _ _ _ _ e) in
    let p = pair_same _ _ _ _ _ _ (tails _ _ _ _ e) in
    let target : x.target ≡ y.target = names _ _ _ _ (tails _ _ _ _ p.rest) in
    let make : Bool → Text → Text → Text → Function = λ q n s t. record { total = q; name = n; source = s; target = t } in
    record {
      value = ap (λ (q : Bool). make q x.name x.source x.target) total ∙ ap (λ (n : Text). make y.total n x.source x.target) p.name
          ∙ ap (λ (s : Text). make y.total y.name s x.target) p.sort ∙ ap (make y.total y.name y.source) target;
      rest = tails _ _ _ _ (tails _ _ _ _ (tails _ _ _ _ p.rest));
    }

constant_same : (x y : Constant) (ws vs : List Word) → constant_words x ++ ws ≡ constant_words y ++ vs → Same x y ws vs
constant_same x y ws vs e =
    let p = pair_same _ _ _ _ _ _ (tails _ _ _ _ e) in
    let make : Text → Text → Constant = λ n s. record { name = n; sort = s } in
    record { value = ap (λ (n : Text). make n x.sort) p.name ∙ ap (make y.name) p.sort; rest = tails _ _ _ _ p.rest }

row_same : (x y : Row) (ws vs : List Word) → row_words x ++ ws ≡ row_words y ++ vs → Same x y ws vs
row_same x y ws vs e =
    let p = pair_same _ _ _ _ _ _ (tails _ _ _ _ e) in
    let make : Text → Text → Row = λ n s. record { name = n; relation = s } in
    record { value = ap (λ (n : Text). make n x.relation) p.name ∙ ap (make y.name) p.sort; rest = tails _ _ _ _ p.rest }

param_same : (x y : Param) (ws vs : List Word) → param_words x ++ ws ≡ param_words y ++ vs → Same x y ws vs
param_same x y ws vs e =
    let p = pair_same _ _ _ _ _ _ (tails _ _ _ _ e) in
    let make : Text → Text → Param = λ n s. record { name = n; sort = s } in
    record { value = ap (λ (n : Text). make n x.sort) p.name ∙ ap (make y.name) p.sort; rest = tails _ _ _ _ p.rest }

comma_same : (x y : Column) (ws vs : List Word) → comma_words x ++ ws ≡ comma_words y ++ vs → Same x y ws vs
comma_same x y ws vs e =
    let p = pair_same _ _ _ _ _ _ (tails _ _ _ _ e) in
    let make : Text → Text → Column = λ n s. record { name = n; sort = s } in
    record { value = ap (λ (n : Text). make n x.sort) p.name ∙ ap (make y.name) p.sort; rest = p.rest }

initial_same : (i j : Option Text) (ws vs : List Word) → begins sign.Equal ws ≡ false → begins sign.Equal vs ≡ false → initial_words i ++ ws ≡ initial_words j ++ vs → Same i j ws vs
initial_same None None ws vs h k e = record { value = refl; rest = e }
initial_same None (Some m) ws vs h k e = absurd (begun sign.Equal ws _ e h)
initial_same (Some n) None ws vs h k e = absurd (begun sign.Equal vs _ (sym e) k)
initial_same (Some n) (Some m) ws vs h k e = record { value = ap Some (names _ _ _ _ (tails _ _ _ _ e)); rest = tails _ _ _ _ (tails _ _ _ _ e) }

dotted_same : (i j : Option Text) (ws vs : List Word) → begins sign.Dot ws ≡ false → begins sign.Dot vs ≡ false → dotted_words i ++ ws ≡ dotted_words j ++ vs → Same i j ws vs
dotted_same None None ws vs h k e = record { value = refl; rest = e }
dotted_same None (Some m) ws vs h k e = absurd (begun sign.Dot ws _ e h)
dotted_same (Some n) None ws vs h k e = absurd (begun sign.Dot vs _ (sym e) k)
dotted_same (Some n) (Some m) ws vs h k e = record { value = ap Some (names _ _ _ _ (tails _ _ _ _ e)); rest = tails _ _ _ _ (tails _ _ _ _ e) }

variable_same : (x y : Variable) (ws vs : List Word) → variable_words x ++ ws ≡ variable_words y ++ vs → Same x y ws vs
variable_same x y ws vs e =
    let semicolon : List Word = one sign.Semicolon in
    let p = pair_same _ _ _ _ _ _ (tails _ _ _ _ e) in
    let i = initial_same x.initial y.initial (semicolon ++ ws) (semicolon ++ vs) refl refl (regrouped (initial_words x.initial) semicolon ws (initial_words y.initial) semicolon vs p.rest) in
    let make : Text → Text → Option Text → Variable = λ n s j. record { name = n; sort = s; initial = j } in
    record {
      value = ap (λ (n : Text). make n x.sort x.initial) p.name ∙ ap (λ (s : Text). make y.name s x.initial) p.sort ∙ ap (make y.name y.sort) i.value;
      rest = tails _ _ _ _ i.rest;
    }

relation_same : (x y : Relation) (ws vs : List Word) → relation_words x ++ ws ≡ relation_words y ++ vs → Same x y ws vs
relation_same x y ws vs e =
    let close : List Word = word.Fixed sign.CloseParen ∷ one sign.Semicolon in
    let name : x.name ≡ y.name = names _ _ _ _ (tails _ _ _ _ e) in
    let p = pair_same _ _ _ _ _ _ (tails _ _ _ _ (tails _ _ _ _ (tails _ _ _ _ e))) in
    let column : Text → Text → Column = λ n s. record { name = n; sort = s } in
    let first : x.first ≡ y.first = ap (λ (n : Text). column n x.first.sort) p.name ∙ ap (column y.first.name) p.sort in
    let c = items comma_words (λ l. begins sign.Comma l ≡ false) (λ z rest j. false≢true (sym j)) comma_same x.others y.others (close ++ ws) (close ++ vs) refl refl
    (regrouped (flat_map comma_words x.others) close ws (flat_map comma_words y.others) close vs p.rest) in
    let make : Text → Column → List Column → Relation = λ n f cs. record { name = n; first = f; others = cs } in
    record {
      value = ap (λ (n : Text). make n x.first x.others) name ∙ ap (λ (f : Column). make y.name f x.others) first ∙ ap (make y.name y.first) c.value;
      rest = tails _ _ _ _ (tails _ _ _ _ c.rest);
    }

-- ---- steps and unsafe items

written_same : (t u : Term) (ws vs : List Word) → (term_words t ++ one sign.Semicolon) ++ ws ≡ (term_words u ++ one sign.Semicolon) ++ vs → Same t u ws vs
written_same t u ws vs e =
    let semicolon : List Word = one sign.Semicolon in
    let s = term_same t u (semicolon ++ ws) (semicolon ++ vs) (record { opens = refl; dot = refl }) (record { opens = refl; dot = refl }) (regrouped (term_words t) semicolon ws (term_words u) semicolon vs e) in
    record { value = s.value; rest = tails _ _ _ _ s.rest }

update_same : (x y : Update) (ws vs : List Word) → update_words x ++ ws ≡ update_words y ++ vs → Same x y ws vs
update_same x y ws vs e =
    let after : Update → List Word = λ u. word.Fixed sign.Assign ∷ (term_words u.term ++ one sign.Semicolon) in
    let name : x.name ≡ y.name = names _ _ _ _ e in
    let d = dotted_same x.column y.column (after x ++ ws) (after y ++ vs) refl refl (regrouped (dotted_words x.column) (after x) ws (dotted_words y.column) (after y) vs (tails _ _ _ _ e)) in
    let t = written_same x.term y.term ws vs (tails _ _ _ _ d.rest) in
    let make : Text → Option Text → Term → Update = λ n c u. record { name = n; column = c; term = u } in
    record { value = ap (λ (n : Text). make n x.column x.term) name ∙ ap (λ (c : Option Text). make y.name c x.term) d.value ∙ ap (make y.name y.column) t.value; rest = t.rest }

assignment_same : (x y : Assignment) (ws vs : List Word) → assignment_words x ++ ws ≡ assignment_words y ++ vs → Same x y ws vs
assignment_same x y ws vs e =
    let row : x.row ≡ y.row = names _ _ _ _ e in
    let dot = tails _ _ _ _ (tails _ _ _ _ e) in
    let column : x.column ≡ y.column = names _ _ _ _ dot in
    let t = written_same x.term y.term ws vs (tails _ _ _ _ (tails _ _ _ _ dot)) in
    let make : Text → Text → Term → Assignment = λ r c u. record { row = r; column = c; term = u } in
    record { value = ap (λ (r : Text). make r x.column x.term) row ∙ ap (λ (c : Text). make y.row c x.term) column ∙ ap (make y.row y.column) t.value; rest = t.rest }

case_same : (x y : Case) (ws vs : List Word) → case_words x ++ ws ≡ case_words y ++ vs → Same x y ws vs
case_same x y ws vs e =
    let close : List Word = one sign.CloseBrace in
    let inside : Case → List Word = λ c. flat_map assignment_words c.assignments ++ close in
    let brace : Case → List Word = λ c. word.Fixed sign.OpenBrace ∷ inside c in
    let ends : (l : List Word) → ConjunctionEnds (word.Fixed sign.OpenBrace ∷ l) = λ l. record { and = refl; term = record { opens = refl; dot = refl } } in
    let c = conjunction_same x.condition y.condition (brace x ++ ws) (brace y ++ vs) (ends (inside x ++ ws)) (ends (inside y ++ vs)) (regrouped (conjunction_words x.condition) (brace x) ws (conjunction_words y.condition) (brace y) vs (tails _ _ _ _ e)) in
    let a = items assignment_words (λ l. begins_name l ≡ false) (λ z rest j. false≢true (sym j)) assignment_same x.assignments y.assignments (close ++ ws) (close ++ vs) refl refl
    (regrouped (flat_map assignment_words x.assignments) close ws (flat_map assignment_words y.assignments) close vs (tails _ _ _ _ c.rest)) in
    let make : Conjunction → List Assignment → Case = λ k l. record { condition = k; assignments = l } in
    record { value = ap (λ (k : Conjunction). make k x.assignments) c.value ∙ ap (make y.condition) a.value; rest = tails _ _ _ _ a.rest }

each_same : (x y : Each) (ws vs : List Word) → each_words x ++ ws ≡ each_words y ++ vs → Same x y ws vs
each_same x y ws vs e =
    let close : List Word = one sign.CloseBrace in
    let others : Each → List Word = λ l. flat_map case_words l.others ++ close in
    let p = pair_same _ _ _ _ _ _ (tails _ _ _ _ e) in
    let c = case_same x.first y.first (others x ++ ws) (others y ++ vs) (regrouped (case_words x.first) (others x) ws (case_words y.first) (others y) vs (tails _ _ _ _ p.rest)) in
    let o = items case_words (λ l. begins sign.If l ≡ false) (λ z rest j. false≢true (sym j)) case_same x.others y.others (close ++ ws) (close ++ vs) refl refl
    (regrouped (flat_map case_words x.others) close ws (flat_map case_words y.others) close vs c.rest) in
    let make : Text → Text → Case → List Case → Each = λ r l f cs. record { row = r; relation = l; first = f; others = cs } in
    record {
      value = ap (λ (r : Text). make r x.relation x.first x.others) p.name ∙ ap (λ (l : Text). make y.row l x.first x.others) p.sort
          ∙ ap (λ (f : Case). make y.row y.relation f x.others) c.value ∙ ap (make y.row y.relation y.first) o.value;
      rest = tails _ _ _ _ o.rest;
    }

rows_same : (xs ys : List Row) (ws vs : List Word) → begins sign.Row ws ≡ false → begins sign.Row vs ≡ false → flat_map row_words xs ++ ws ≡ flat_map row_words ys ++ vs → Same xs ys ws vs
rows_same xs ys ws vs h i e = items row_words (λ l. begins sign.Row l ≡ false) (λ z rest j. false≢true (sym j)) row_same xs ys ws vs h i e

step_same : (x y : Step) (ws vs : List Word) → step_words x ++ ws ≡ step_words y ++ vs → Same x y ws vs
step_same x y ws vs e =
    let close : List Word → List Word = λ l. word.Fixed sign.CloseBrace ∷ l in
    let effects : Step → List Word → List Word = λ s l. flat_map update_words s.updates ++ (flat_map each_words s.eachs ++ close l) in
    let guarded : Step → List Word → List Word = λ s l. word.Fixed sign.When ∷ (guard_words s.guard ++ (word.Fixed sign.Semicolon ∷ effects s l)) in
    let group : (s : Step) (l : List Word) → _ = λ s l. step_regrouped (flat_map row_words s.rows) (flat_map param_words s.params) (guard_words s.guard) (flat_map update_words s.updates) (flat_map each_words s.eachs)
    (word.Fixed sign.When) (word.Fixed sign.Semicolon) (word.Fixed sign.CloseBrace) l in
    let name : x.name ≡ y.name = names _ _ _ _ (tails _ _ _ _ e) in
    let body : flat_map row_words x.rows ++ (flat_map param_words x.params ++ guarded x ws) ≡ flat_map row_words y.rows ++ (flat_map param_words y.params ++ guarded y vs) =
    sym (group x ws) ∙ tails _ _ _ _ (tails _ _ _ _ (tails _ _ _ _ e)) ∙ group y vs in
    let no_row : (s : Step) (l : List Word) → begins sign.Row (flat_map param_words s.params ++ guarded s l) ≡ false = λ s l. follow (λ r. begins sign.Row r ≡ false) param_words s.params (guarded s l) (λ z rest. refl) refl in
    let r = rows_same x.rows y.rows (flat_map param_words x.params ++ guarded x ws) (flat_map param_words y.params ++ guarded y vs) (no_row x ws) (no_row y vs) body in
    let p = items param_words (λ l. begins sign.Param l ≡ false) (λ z rest j. false≢true (sym j)) param_same x.params y.params (guarded x ws) (guarded y vs) refl refl r.rest in
    let g = guard_same x.guard y.guard (word.Fixed sign.Semicolon ∷ effects x ws) (word.Fixed sign.Semicolon ∷ effects y vs) (semicolon_ends (effects x ws)) (semicolon_ends (effects y vs)) (tails _ _ _ _ p.rest) in
    let no_update : (s : Step) (l : List Word) → begins_name (flat_map each_words s.eachs ++ close l) ≡ false = λ s l. follow (λ r. begins_name r ≡ false) each_words s.eachs (close l) (λ z rest. refl) refl in
    let u = items update_words (λ l. begins_name l ≡ false) (λ z rest j. false≢true (sym j)) update_same x.updates y.updates (flat_map each_words x.eachs ++ close ws) (flat_map each_words y.eachs ++ close vs) (no_update x ws) (no_update y vs) (tails _ _ _ _ g.rest) in
    let a = items each_words (λ l. begins sign.Each l ≡ false) (λ z rest j. false≢true (sym j)) each_same x.eachs y.eachs (close ws) (close vs) refl refl u.rest in
    let make : Text → List Row → List Param → Guard → List Update → List Each → Step = λ n rs ps k us es. record { name = n; rows = rs; params = ps; guard = k; updates = us; eachs = es } in
    record {
      value = ap (λ (n : Text). make n x.rows x.params x.guard x.updates x.eachs) name ∙ ap (λ (l : List Row). make y.name l x.params x.guard x.updates x.eachs) r.value
          ∙ ap (λ (l : List Param). make y.name y.rows l x.guard x.updates x.eachs) p.value ∙ ap (λ (k : Guard). make y.name y.rows y.params k x.updates x.eachs) g.value
          ∙ ap (λ (l : List Update). make y.name y.rows y.params y.guard l x.eachs) u.value ∙ ap (make y.name y.rows y.params y.guard y.updates) a.value;
      rest = tails _ _ _ _ a.rest;
    }

goal_same : (x y : Goal) (ws vs : List Word) → goal_words x ++ ws ≡ goal_words y ++ vs → Same x y ws vs
goal_same x y ws vs e =
    let close : List Word = word.Fixed sign.Semicolon ∷ one sign.CloseBrace in
    let when : Goal → List Word = λ g. word.Fixed sign.When ∷ (guard_words g.guard ++ close) in
    let r = rows_same x.rows y.rows (when x ++ ws) (when y ++ vs) refl refl (regrouped (flat_map row_words x.rows) (when x) ws (flat_map row_words y.rows) (when y) vs (tails _ _ _ _ (tails _ _ _ _ e))) in
    let g = guard_same x.guard y.guard (close ++ ws) (close ++ vs) (semicolon_ends (word.Fixed sign.CloseBrace ∷ ws)) (semicolon_ends (word.Fixed sign.CloseBrace ∷ vs)) (regrouped (guard_words x.guard) close ws (guard_words y.guard) close vs (tails _ _ _ _ r.rest)) in
    let make : List Row → Guard → Goal = λ rs k. record { rows = rs; guard = k } in
    record { value = ap (λ (l : List Row). make l x.guard) r.value ∙ ap (make y.rows) g.value; rest = tails _ _ _ _ (tails _ _ _ _ g.rest) }

-- ---- the file

starts : (total : Bool) (rest : List Word) → FunctionsEnd (word.Fixed (totality_sign total) ∷ rest) → ⊥
starts true rest h = false≢true (sym h.total)
starts false rest h = false≢true (sym h.nullable)

function_starts : (x : Function) (rest : List Word) → FunctionsEnd (function_words x ++ rest) → ⊥
function_starts x rest h = starts x.total _ h

pub words_determine_file : (f g : File) → file_words f ≡ file_words g → f ≡ g
words_determine_file f g e =
    let x = free f in
    let y = free g in
    let s = items sort_words (λ l. begins sign.Sort l ≡ false) (λ z rest j. false≢true (sym j)) sort_same f.sorts g.sorts (from_functions f) (from_functions g) x.sort y.sort (tails _ _ _ _ (tails _ _ _ _ (tails _ _ _ _ e))) in
    let p = items function_words FunctionsEnd function_starts function_same f.functions g.functions (from_constants f) (from_constants g) x.function y.function s.rest in
    let c = items constant_words (λ l. begins sign.Const l ≡ false) (λ z rest j. false≢true (sym j)) constant_same f.constants g.constants (from_variables f) (from_variables g) x.constant y.constant p.rest in
    let v = items variable_words (λ l. begins sign.Var l ≡ false) (λ z rest j. false≢true (sym j)) variable_same f.variables g.variables (from_relations f) (from_relations g) x.variable y.variable c.rest in
    let r = items relation_words (λ l. begins sign.Relation l ≡ false) (λ z rest j. false≢true (sym j)) relation_same f.relations g.relations (from_steps f) (from_steps g) x.relation y.relation v.rest in
    let t = items step_words (λ l. begins sign.Step l ≡ false) (λ z rest j. false≢true (sym j)) step_same f.steps g.steps (from_goals f) (from_goals g) x.step y.step r.rest in
    let u = items goal_words (λ l. begins sign.Unsafe l ≡ false) (λ z rest j. false≢true (sym j)) goal_same f.goals g.goals [] [] refl refl (append-nil (from_goals f) ∙ t.rest ∙ sym (append-nil (from_goals g))) in
    let name : f.name ≡ g.name = names _ _ _ _ (tails _ _ _ _ e) in
    let make : Text → List Sort → List Function → List Constant → List Variable → List Relation → List Step → List Goal → File =
    λ n ss bs cs ds es fs gs. record { name = n; sorts = ss; functions = bs; constants = cs; variables = ds; relations = es; steps = fs; goals = gs } in
    ap (λ (z : Text). make z f.sorts f.functions f.constants f.variables f.relations f.steps f.goals) name
    ∙ ap (λ (z : List Sort). make g.name z f.functions f.constants f.variables f.relations f.steps f.goals) s.value
    ∙ ap (λ (z : List Function). make g.name g.sorts z f.constants f.variables f.relations f.steps f.goals) p.value
    ∙ ap (λ (z : List Constant). make g.name g.sorts g.functions z f.variables f.relations f.steps f.goals) c.value
    ∙ ap (λ (z : List Variable). make g.name g.sorts g.functions g.constants z f.relations f.steps f.goals) v.value
    ∙ ap (λ (z : List Relation). make g.name g.sorts g.functions g.constants g.variables z f.steps f.goals) r.value
    ∙ ap (λ (z : List Step). make g.name g.sorts g.functions g.constants g.variables g.relations z f.goals) t.value
    ∙ ap (make g.name g.sorts g.functions g.constants g.variables g.relations g.steps) u.value
