-- The words of a file are determined by those of them that are no closing sign `)`.
use Rattle.std.proofs.Common.{◌≡◌, ℕ, zero, suc, Bool, true, false, cond, List, [], ◌∷◌, ◌++◌, refl, sym, ◌∙◌, ap, subst, append_assoc, append-nil}
use Rattle.std.specs.Prelude.{Option, Some, None, filter, flat_map}
use Rattle.ras_lexer.specs.declared.fixed.Fixed.{Fixed}
use Rattle.ras_lexer.specs.declared.fixed.Fixed.TheVariants as sign
use Rattle.ras_lexer.specs.declared.token.Word.{Word}
use Rattle.ras_lexer.specs.declared.token.Word.TheVariants as word
use Rattle.ras_syntax.specs.Grammar.{Text, Term, call, cell, plain, undef, term_words, Literal, comparison_sign, literal_words, Conjunction, always, all, and_words, conjunction_words, or_words, Guard, guard_words, initial_words, dotted_words, sort_words, Function, totality_sign, function_words, constant_words, Variable, variable_words, comma_words, Relation, relation_words, row_words, param_words, Update, update_words, Assignment, assignment_words, Case, case_words, Each, each_words, Step, step_words, Goal, goal_words, File, file_words, one, IsFile}

abbrev pub stays : Word → Bool
stays (word.Name n) = true
stays (word.Fixed sign.CloseParen) = false
stays (word.Fixed f) = true

abbrev pub without_closes : List Word → List Word
without_closes ws = filter stays ws

-- the sign can stand before a closing sign that belongs to an open one before it
abbrev inside : Fixed → Bool
inside sign.Undef = true
inside sign.Dot = true
inside sign.Colon = true
inside sign.Comma = true
inside f = false

abbrev closed : ℕ → List Word → List Word
closed zero ws = ws
closed (suc n) ws = word.Fixed sign.CloseParen ∷ closed n ws

-- each closing sign is put before the first sign that can't stand inside; n are due
abbrev with_closes : ℕ → List Word → List Word
with_closes n [] = closed n []
with_closes n (word.Name t ∷ ws) = word.Name t ∷ with_closes n ws
with_closes n (word.Fixed sign.OpenParen ∷ ws) = word.Fixed sign.OpenParen ∷ with_closes (suc n) ws
with_closes n (word.Fixed f ∷ ws) = cond (inside f) (word.Fixed f ∷ with_closes n ws) (closed n (word.Fixed f ∷ with_closes zero ws))

abbrev mended : ℕ → List Word → List Word
mended n ws = with_closes n (without_closes ws)

-- what is put right behind the words, where n closing signs are due
abbrev At : ℕ → List Word → List Word → Type 0
At n a ws = mended n (a ++ ws) ≡ a ++ mended n ws

-- the closing signs that are due come before the words
abbrev Ends : List Word → Type 0
Ends ws = (n : ℕ) → mended n ws ≡ closed n (mended 0 ws)

joined : (n : ℕ) (a b ws : List Word) → At n a (b ++ ws) → At n b ws → At n (a ++ b) ws
joined n a b ws p q = ap (mended n) (append_assoc a b ws) ∙ p ∙ ap (λ z. a ++ z) q ∙ sym (append_assoc a b (mended n ws))

many : {X : Type 0} (n : ℕ) (spell : X → List Word) → ((x : X) (rest : List Word) → At n (spell x) rest) → (xs : List X) (ws : List Word) → At n (flat_map spell xs) ws
many n spell item [] ws = refl
many n spell item (x ∷ xs) ws = joined n (spell x) (flat_map spell xs) ws (item x (flat_map spell xs ++ ws)) (many n spell item xs ws)

ends_many : {X : Type 0} (spell : X → List Word) → ((x : X) (rest : List Word) → Ends (spell x ++ rest)) → (xs : List X) (ws : List Word) → Ends ws → Ends (flat_map spell xs ++ ws)
ends_many spell first [] ws e = e
ends_many spell first (x ∷ xs) ws e = subst Ends (sym (append_assoc (spell x) (flat_map spell xs) ws)) (first x (flat_map spell xs ++ ws))

many_before : {X : Type 0} (spell : X → List Word) → ((x : X) (rest : List Word) → Ends (spell x ++ rest)) → ((x : X) (rest : List Word) → Ends rest → At 0 (spell x) rest)
    → (xs : List X) (ws : List Word) → Ends ws → At 0 (flat_map spell xs) ws
many_before spell first item [] ws e = refl
many_before spell first item (x ∷ xs) ws e =
    joined 0 (spell x) (flat_map spell xs) ws (item x (flat_map spell xs ++ ws) (ends_many spell first xs ws e)) (many_before spell first item xs ws e)

-- ---- formulas

term_at : (t : Term) (n : ℕ) (ws : List Word) → Ends ws → At n (term_words t) ws
term_at (call f t) n ws e =
    let close : List Word = one sign.CloseParen in
    let due : mended (suc n) ws ≡ close ++ mended n ws = e (suc n) ∙ sym (ap (λ (z : List Word). word.Fixed sign.CloseParen ∷ z) (e n)) in
    let inner : mended (suc n) ((term_words t ++ close) ++ ws) ≡ (term_words t ++ close) ++ mended n ws =
    ap (mended (suc n)) (append_assoc (term_words t) close ws) ∙ term_at t (suc n) (close ++ ws) e
    ∙ ap (λ (z : List Word). term_words t ++ z) due ∙ sym (append_assoc (term_words t) close (mended n ws)) in
    ap (λ (z : List Word). word.Name f ∷ word.Fixed sign.OpenParen ∷ z) inner
term_at (cell r c) n ws e = refl
term_at (plain m) n ws e = refl
term_at undef n ws e = refl

comparison_at : (b : Bool) (ws : List Word) → At 0 (one (comparison_sign b)) ws
comparison_at true ws = refl
comparison_at false ws = refl

comparison_ends : (b : Bool) (ws : List Word) → Ends (word.Fixed (comparison_sign b) ∷ ws)
comparison_ends true ws = λ n. refl
comparison_ends false ws = λ n. refl

literal_at : (l : Literal) (ws : List Word) → Ends ws → At 0 (literal_words l) ws
literal_at l ws e =
    let sign_word : List Word = one (comparison_sign l.equal) in
    joined 0 (term_words l.left) (sign_word ++ term_words l.right) ws (term_at l.left 0 _ (comparison_ends l.equal (term_words l.right ++ ws)))
    (joined 0 sign_word (term_words l.right) ws (comparison_at l.equal (term_words l.right ++ ws)) (term_at l.right 0 ws e))

and_at : (l : Literal) (ws : List Word) → Ends ws → At 0 (and_words l) ws
and_at l ws e = ap (λ (z : List Word). word.Fixed sign.And ∷ z) (literal_at l ws e)

and_ends : (l : Literal) (ws : List Word) → Ends (and_words l ++ ws)
and_ends l ws = λ n. refl

conjunction_at : (c : Conjunction) (ws : List Word) → Ends ws → At 0 (conjunction_words c) ws
conjunction_at always ws e = refl
conjunction_at (all l ls) ws e =
    joined 0 (literal_words l) (flat_map and_words ls) ws (literal_at l _ (ends_many and_words and_ends ls ws e)) (many_before and_words and_ends and_at ls ws e)

or_at : (c : Conjunction) (ws : List Word) → Ends ws → At 0 (or_words c) ws
or_at c ws e = ap (λ (z : List Word). word.Fixed sign.Or ∷ z) (conjunction_at c ws e)

or_ends : (c : Conjunction) (ws : List Word) → Ends (or_words c ++ ws)
or_ends c ws = λ n. refl

guard_at : (g : Guard) (ws : List Word) → Ends ws → At 0 (guard_words g) ws
guard_at g ws e =
    joined 0 (conjunction_words g.first) (flat_map or_words g.others) ws (conjunction_at g.first _ (ends_many or_words or_ends g.others ws e))
    (many_before or_words or_ends or_at g.others ws e)

-- a term and a semicolon
term_semicolon_at : (t : Term) (ws : List Word) → At 0 (term_words t ++ one sign.Semicolon) ws
term_semicolon_at t ws = joined 0 (term_words t) (one sign.Semicolon) ws (term_at t 0 _ (λ n. refl)) refl

-- ---- items

totality_at : (b : Bool) (ws : List Word) → At 0 (one (totality_sign b)) ws
totality_at true ws = refl
totality_at false ws = refl

function_at : (f : Function) (ws : List Word) → At 0 (function_words f) ws
function_at f ws =
    let named : List Word = word.Name f.name ∷ word.Fixed sign.Colon ∷ word.Name f.source ∷ word.Fixed sign.Arrow ∷ word.Name f.target ∷ one sign.Semicolon in
    joined 0 (one (totality_sign f.total)) named ws (totality_at f.total (named ++ ws)) refl

initial_at : (i : Option Text) (ws : List Word) → At 0 (initial_words i) ws
initial_at None ws = refl
initial_at (Some n) ws = refl

variable_at : (v : Variable) (ws : List Word) → At 0 (variable_words v) ws
variable_at v ws =
    ap (λ (z : List Word). word.Fixed sign.Var ∷ word.Name v.name ∷ word.Fixed sign.Colon ∷ word.Name v.sort ∷ z)
    (joined 0 (initial_words v.initial) (one sign.Semicolon) ws (initial_at v.initial _) refl)

relation_at : (r : Relation) (ws : List Word) → At 0 (relation_words r) ws
relation_at r ws =
    let end : List Word = word.Fixed sign.CloseParen ∷ one sign.Semicolon in
    let columns : List Word = flat_map comma_words r.others in
    let inner : mended 1 ((columns ++ end) ++ ws) ≡ (columns ++ end) ++ mended 0 ws =
    ap (mended 1) (append_assoc columns end ws) ∙ many 1 comma_words (λ c rest. refl) r.others (end ++ ws) ∙ sym (append_assoc columns end (mended 0 ws)) in
    ap (λ (z : List Word). word.Fixed sign.Relation ∷ word.Name r.name ∷ word.Fixed sign.OpenParen
    ∷ word.Name r.first.name ∷ word.Fixed sign.Colon ∷ word.Name r.first.sort ∷ z) inner

dotted_at : (c : Option Text) (ws : List Word) → At 0 (dotted_words c) ws
dotted_at None ws = refl
dotted_at (Some n) ws = refl

update_at : (u : Update) (ws : List Word) → At 0 (update_words u) ws
update_at u ws =
    ap (λ (z : List Word). word.Name u.name ∷ z)
    (joined 0 (dotted_words u.column) (word.Fixed sign.Assign ∷ (term_words u.term ++ one sign.Semicolon)) ws (dotted_at u.column _)
    (ap (λ (z : List Word). word.Fixed sign.Assign ∷ z) (term_semicolon_at u.term ws)))

assignment_at : (a : Assignment) (ws : List Word) → At 0 (assignment_words a) ws
assignment_at a ws =
    ap (λ (z : List Word). word.Name a.row ∷ word.Fixed sign.Dot ∷ word.Name a.column ∷ word.Fixed sign.Assign ∷ z) (term_semicolon_at a.term ws)

case_at : (c : Case) (ws : List Word) → At 0 (case_words c) ws
case_at c ws =
    let assigned : List Word = flat_map assignment_words c.assignments in
    ap (λ (z : List Word). word.Fixed sign.If ∷ z)
    (joined 0 (conjunction_words c.condition) (word.Fixed sign.OpenBrace ∷ (assigned ++ one sign.CloseBrace)) ws (conjunction_at c.condition _ (λ n. refl))
    (ap (λ (z : List Word). word.Fixed sign.OpenBrace ∷ z)
    (joined 0 assigned (one sign.CloseBrace) ws (many 0 assignment_words assignment_at c.assignments _) refl)))

each_at : (e : Each) (ws : List Word) → At 0 (each_words e) ws
each_at e ws =
    let cases : List Word = flat_map case_words e.others in
    ap (λ (z : List Word). word.Fixed sign.Each ∷ word.Name e.row ∷ word.Fixed sign.Colon ∷ word.Name e.relation ∷ word.Fixed sign.OpenBrace ∷ z)
    (joined 0 (case_words e.first) (cases ++ one sign.CloseBrace) ws (case_at e.first _)
    (joined 0 cases (one sign.CloseBrace) ws (many 0 case_words case_at e.others _) refl))

step_at : (s : Step) (ws : List Word) → At 0 (step_words s) ws
step_at s ws =
    let rows : List Word = flat_map row_words s.rows in
    let params : List Word = flat_map param_words s.params in
    let updates : List Word = flat_map update_words s.updates in
    let eachs : List Word = flat_map each_words s.eachs in
    let changes : List Word = word.Fixed sign.Semicolon ∷ (updates ++ (eachs ++ one sign.CloseBrace)) in
    let guarded : List Word = word.Fixed sign.When ∷ (guard_words s.guard ++ changes) in
    let changes_at : At 0 changes ws =
    ap (λ (z : List Word). word.Fixed sign.Semicolon ∷ z)
    (joined 0 updates (eachs ++ one sign.CloseBrace) ws (many 0 update_words update_at s.updates _)
    (joined 0 eachs (one sign.CloseBrace) ws (many 0 each_words each_at s.eachs _) refl)) in
    let guarded_at : At 0 guarded ws =
    ap (λ (z : List Word). word.Fixed sign.When ∷ z) (joined 0 (guard_words s.guard) changes ws (guard_at s.guard _ (λ n. refl)) changes_at) in
    ap (λ (z : List Word). word.Fixed sign.Step ∷ word.Name s.name ∷ word.Fixed sign.OpenBrace ∷ z)
    (joined 0 rows (params ++ guarded) ws (many 0 row_words (λ r rest. refl) s.rows _)
    (joined 0 params guarded ws (many 0 param_words (λ p rest. refl) s.params _) guarded_at))

goal_at : (g : Goal) (ws : List Word) → At 0 (goal_words g) ws
goal_at g ws =
    let rows : List Word = flat_map row_words g.rows in
    let end : List Word = word.Fixed sign.Semicolon ∷ one sign.CloseBrace in
    ap (λ (z : List Word). word.Fixed sign.Unsafe ∷ word.Fixed sign.OpenBrace ∷ z)
    (joined 0 rows (word.Fixed sign.When ∷ (guard_words g.guard ++ end)) ws (many 0 row_words (λ r rest. refl) g.rows _)
    (ap (λ (z : List Word). word.Fixed sign.When ∷ z) (joined 0 (guard_words g.guard) end ws (guard_at g.guard _ (λ n. refl)) refl)))

-- ---- the file

follows : (a b : List Word) → At 0 a b → mended 0 b ≡ b → mended 0 (a ++ b) ≡ a ++ b
follows a b p q = p ∙ ap (λ (z : List Word). a ++ z) q

file_at : (f : File) → mended 0 (file_words f) ≡ file_words f
file_at f =
    let goals : List Word = flat_map goal_words f.goals in
    let last : mended 0 goals ≡ goals =
    ap (mended 0) (sym (append-nil goals)) ∙ many 0 goal_words goal_at f.goals [] ∙ append-nil goals in
    ap (λ (z : List Word). word.Fixed sign.System ∷ word.Name f.name ∷ word.Fixed sign.Semicolon ∷ z)
    (follows _ _ (many 0 sort_words (λ s rest. refl) f.sorts _)
    (follows _ _ (many 0 function_words function_at f.functions _)
    (follows _ _ (many 0 constant_words (λ c rest. refl) f.constants _)
    (follows _ _ (many 0 variable_words variable_at f.variables _)
    (follows _ _ (many 0 relation_words relation_at f.relations _)
    (follows _ _ (many 0 step_words step_at f.steps _) last))))))

pub closes_determined : (ws : List Word) (file : File) → IsFile ws → without_closes ws ≡ without_closes (file_words file) → ws ≡ file_words file
closes_determined ws file h same =
    h.1 ∙ sym (file_at h.0) ∙ ap (with_closes 0) (ap without_closes (sym h.1) ∙ same) ∙ file_at file
