-- Tokens are those of one file with places at most.
use Rattle.std.proofs.Common.{◌≡◌, ℕ, Bool, List, [], ◌∷◌, ◌++◌, map, refl, sym, ◌∙◌, ap, append_assoc, append-nil}
use Rattle.std.specs.Prelude.{Option, Some, None, flat_map, option_map}
use Rattle.ras_lexer.specs.declared.fixed.Fixed.{Fixed}
use Rattle.ras_lexer.specs.declared.fixed.Fixed.TheVariants as sign
use Rattle.ras_lexer.specs.declared.token.Word.TheVariants as word
use Rattle.ras_lexer.specs.declared.token.Token.{Token}
use Rattle.ras_syntax.specs.Grammar as grammar
use Rattle.ras_syntax.specs.Grammar.{Text}
use Rattle.ras_names.specs.Placed as placed
use Rattle.ras_names.specs.Placed.{Name, Declared, Function, Initial, Variable, Relation, Base, Term, Literal, Conjunction, Guard, Update, Assignment, Case, Each, Step, Goal, File, undef, plain, cell, always, all}
use Rattle.ras_names.specs.Unplaced as un
use Rattle.ras_names.specs.PlacedTokens.{of_name, sign_at, of_declared, of_function, of_initial, of_variable, of_relation, of_base, of_term, of_literal, of_conjunction, of_guard, of_column, of_update, of_assignment, of_case, of_each, of_step, of_goal, of_file}

-- one value, and one rest behind it
record Same {X : Type 0} (x y : X) (ws vs : List Token) : Type 0 where
  value : x ≡ y
  rest : ws ≡ vs

head_is : (t u : Token) (ts us : List Token) → ◌≡◌ {A = List Token} (t ∷ ts) (u ∷ us) → t ≡ u
head_is t u ts us e = cc

tail_is : (t u : Token) (ts us : List Token) → ◌≡◌ {A = List Token} (t ∷ ts) (u ∷ us) → ts ≡ us
tail_is t u ts us e = cc

first_is : {X : Type 0} (x y : X) (xs ys : List X) → ◌≡◌ {A = List X} (x ∷ xs) (y ∷ ys) → x ≡ y
first_is x y xs ys e = cc

others_are : {X : Type 0} (x y : X) (xs ys : List X) → ◌≡◌ {A = List X} (x ∷ xs) (y ∷ ys) → xs ≡ ys
others_are x y xs ys e = cc

text_is : (n m : Text) → word.Name n ≡ word.Name m → n ≡ m
text_is n m e = cc

-- a name, and a sign, with its place
name-same : (n m : Name) (ws vs : List Token) → ◌≡◌ {A = List Token} (of_name n ∷ ws) (of_name m ∷ vs) → Same n m ws vs
name-same n m ws vs e =
    let token : of_name n ≡ of_name m = head_is (of_name n) (of_name m) ws vs e in
    let make : ℕ → Text → Name = λ a t. record { at = a; text = t } in record {
      value = ap (λ (a : ℕ). make a n.text) (ap (λ (t : Token). t.at) token) ∙ ap (make m.at) (text_is n.text m.text (ap (λ (t : Token). t.word) token));
      rest = tail_is (of_name n) (of_name m) ws vs e;
    }

sign-same : (a b : ℕ) (f g : Fixed) (ws vs : List Token) → ◌≡◌ {A = List Token} (sign_at a f ∷ ws) (sign_at b g ∷ vs) → Same a b ws vs
sign-same a b f g ws vs e =
    record { value = ap (λ (t : Token). t.at) (head_is (sign_at a f) (sign_at b g) ws vs e); rest = tail_is (sign_at a f) (sign_at b g) ws vs e }

regrouped : (a b c d ws vs : List Token) → (a ++ b) ++ ws ≡ (c ++ d) ++ vs → a ++ (b ++ ws) ≡ c ++ (d ++ vs)
regrouped a b c d ws vs e = sym (append_assoc a b ws) ∙ e ∙ append_assoc c d vs

-- lists of parts
module _ {X Y : Type 0} (bare : X → Y) (tokens : X → List Token) (item : (x y : X) (ws vs : List Token) → bare x ≡ bare y → tokens x ++ ws ≡ tokens y ++ vs → Same x y ws vs) where
  cons_head : (x y : Y) (xs ys : List Y) → ◌≡◌ {A = List Y} (x ∷ xs) (y ∷ ys) → x ≡ y
  cons_head x y xs ys e = cc

  cons_tail : (x y : Y) (xs ys : List Y) → ◌≡◌ {A = List Y} (x ∷ xs) (y ∷ ys) → xs ≡ ys
  cons_tail x y xs ys e = cc

  many-same : (xs ys : List X) (ws vs : List Token) → map bare xs ≡ map bare ys → flat_map tokens xs ++ ws ≡ flat_map tokens ys ++ vs → Same xs ys ws vs
  many-same [] [] ws vs b e = record { value = refl; rest = e }
  many-same [] (y ∷ ys) ws vs b e = absurd (cc)
  many-same (x ∷ xs) [] ws vs b e = absurd (cc)
  many-same (x ∷ xs) (y ∷ ys) ws vs b e =
      let one = item x y (flat_map tokens xs ++ ws) (flat_map tokens ys ++ vs) (cons_head (bare x) (bare y) (map bare xs) (map bare ys) b) (regrouped (tokens x) (flat_map tokens xs) (tokens y) (flat_map tokens ys) ws vs e) in
      let more = many-same xs ys ws vs (cons_tail (bare x) (bare y) (map bare xs) (map bare ys) b) one.rest in
      record { value = ap (λ (z : X). z ∷ xs) one.value ∙ ap (λ (zs : List X). y ∷ zs) more.value; rest = more.rest }

-- lists of names
names-same : {Y : Type 0} (bare : Name → Y) (xs ys : List Name) (ws vs : List Token) → map bare xs ≡ map bare ys → map of_name xs ++ ws ≡ map of_name ys ++ vs → Same xs ys ws vs
names-same bare [] [] ws vs b e = record { value = refl; rest = e }
names-same bare [] (y ∷ ys) ws vs b e = absurd (cc)
names-same bare (x ∷ xs) [] ws vs b e = absurd (cc)
names-same {Y} bare (x ∷ xs) (y ∷ ys) ws vs b e =
    let one = name-same x y (map of_name xs ++ ws) (map of_name ys ++ vs) e in
    let more = names-same bare xs ys ws vs (let t : map bare xs ≡ map bare ys = tails (bare x) (bare y) (map bare xs) (map bare ys) b in t) one.rest in
    record { value = ap (λ (z : Name). z ∷ xs) one.value ∙ ap (λ (zs : List Name). y ∷ zs) more.value; rest = more.rest }
  where
    tails : (a c : Y) (more others : List Y) → ◌≡◌ {A = List Y} (a ∷ more) (c ∷ others) → more ≡ others
    tails a c more others q = cc

declared-same : {Y : Type 0} (bare : Declared → Y) (d e : Declared) (ws vs : List Token) → bare d ≡ bare e → of_declared d ++ ws ≡ of_declared e ++ vs → Same d e ws vs
declared-same bare d e ws vs b h =
    let one = name-same d.name e.name (of_name d.of ∷ ws) (of_name e.of ∷ vs) h in
    let two = name-same d.of e.of ws vs one.rest in
    let make : Name → Name → Declared = λ n o. record { name = n; of = o } in
    record { value = ap (λ (n : Name). make n d.of) one.value ∙ ap (make e.name) two.value; rest = two.rest }

function-same : (f g : Function) (ws vs : List Token) → un.function_of f ≡ un.function_of g → of_function f ++ ws ≡ of_function g ++ vs → Same f g ws vs
function-same f g ws vs b h =
    let one = name-same f.name g.name (of_name f.source ∷ of_name f.target ∷ ws) (of_name g.source ∷ of_name g.target ∷ vs) h in
    let two = name-same f.source g.source (of_name f.target ∷ ws) (of_name g.target ∷ vs) one.rest in
    let three = name-same f.target g.target ws vs two.rest in
    let make : Bool → Name → Name → Name → Function = λ t n s u. record { total = t; name = n; source = s; target = u } in record {
      value = ap (λ (t : Bool). make t f.name f.source f.target) (ap (λ (x : grammar.Function). x.total) b) ∙ ap (λ (n : Name). make g.total n f.source f.target) one.value
          ∙ ap (λ (s : Name). make g.total g.name s f.target) two.value ∙ ap (make g.total g.name g.source) three.value;
      rest = three.rest;
    }

initial-same : (i j : Option Initial) (ws vs : List Token) → option_map (λ (x : Initial). x.constant.text) i ≡ option_map (λ (x : Initial). x.constant.text) j → of_initial i ++ ws ≡ of_initial j ++ vs → Same i j ws vs
initial-same None None ws vs b h = record { value = refl; rest = h }
initial-same None (Some j) ws vs b h = absurd (cc)
initial-same (Some i) None ws vs b h = absurd (cc)
initial-same (Some i) (Some j) ws vs b h =
    let one = sign-same i.at j.at sign.Equal sign.Equal (of_name i.constant ∷ ws) (of_name j.constant ∷ vs) h in
    let two = name-same i.constant j.constant ws vs one.rest in
    let make : ℕ → Name → Option Initial = λ a n. Some (record { at = a; constant = n }) in
    record { value = ap (λ (a : ℕ). make a i.constant) one.value ∙ ap (make j.at) two.value; rest = two.rest }

variable-same : (v w : Variable) (ws vs : List Token) → un.variable_of v ≡ un.variable_of w → of_variable v ++ ws ≡ of_variable w ++ vs → Same v w ws vs
variable-same v w ws vs b h =
    let one = name-same v.name w.name (of_name v.sort ∷ (of_initial v.initial ++ ws)) (of_name w.sort ∷ (of_initial w.initial ++ vs)) h in
    let two = name-same v.sort w.sort (of_initial v.initial ++ ws) (of_initial w.initial ++ vs) one.rest in
    let three = initial-same v.initial w.initial ws vs (ap (λ (x : grammar.Variable). x.initial) b) two.rest in
    let make : Name → Name → Option Initial → Variable = λ n s i. record { name = n; sort = s; initial = i } in record {
      value = ap (λ (n : Name). make n v.sort v.initial) one.value ∙ ap (λ (s : Name). make w.name s v.initial) two.value ∙ ap (make w.name w.sort) three.value;
      rest = three.rest;
    }

relation-same : (r q : Relation) (ws vs : List Token) → un.relation_of r ≡ un.relation_of q → of_relation r ++ ws ≡ of_relation q ++ vs → Same r q ws vs
relation-same r q ws vs b h =
    let one = name-same r.name q.name (flat_map of_declared (placed.columns r) ++ ws) (flat_map of_declared (placed.columns q) ++ vs) h in
    let two = many-same un.column_of of_declared (declared-same un.column_of) (placed.columns r) (placed.columns q) ws vs (ap (λ (x : grammar.Relation). x.first ∷ x.others) b) one.rest in
    let make : Name → Declared → List Declared → Relation = λ n f o. record { name = n; first = f; others = o } in record {
      value = ap (λ (n : Name). make n r.first r.others) one.value ∙ ap (λ (f : Declared). make q.name f r.others) (first_is r.first q.first r.others q.others two.value)
          ∙ ap (make q.name q.first) (others_are r.first q.first r.others q.others two.value);
      rest = two.rest;
    }

base-same : (b c : Base) (ws vs : List Token) → un.base_of b ≡ un.base_of c → of_base b ++ ws ≡ of_base c ++ vs → Same b c ws vs
base-same (undef i) (undef j) ws vs b h = let one = sign-same i j sign.Undef sign.Undef ws vs h in record { value = ap undef one.value; rest = one.rest }
base-same (undef i) (plain m) ws vs b h = absurd (cc)
base-same (undef i) (cell r c) ws vs b h = absurd (cc)
base-same (plain n) (undef j) ws vs b h = absurd (cc)
base-same (plain n) (plain m) ws vs b h = let one = name-same n m ws vs h in record { value = ap plain one.value; rest = one.rest }
base-same (plain n) (cell r c) ws vs b h = absurd (cc)
base-same (cell q d) (undef j) ws vs b h = absurd (cc)
base-same (cell q d) (plain m) ws vs b h = absurd (cc)
base-same (cell q d) (cell r c) ws vs b h =
    let one = name-same q r (of_name d ∷ ws) (of_name c ∷ vs) h in
    let two = name-same d c ws vs one.rest in record { value = ap (λ (n : Name). cell n d) one.value ∙ ap (cell r) two.value; rest = two.rest }

record IsSameCalled (fs gs : List Name) (b c : Base) : Type 0 where
  functions : map (λ (n : Name). n.text) fs ≡ map (λ (n : Name). n.text) gs
  inside : un.base_of b ≡ un.base_of c

no_call : (b : Base) (f : Text) (t : grammar.Term) → un.base_of b ≡ grammar.call f t → ⊥
no_call (undef i) f t e = cc
no_call (plain n) f t e = cc
no_call (cell r c) f t e = cc

called_name : (f g : Text) (t u : grammar.Term) → grammar.call f t ≡ grammar.call g u → f ≡ g
called_name f g t u e = cc

called_inside : (f g : Text) (t u : grammar.Term) → grammar.call f t ≡ grammar.call g u → t ≡ u
called_inside f g t u e = cc

called-parts : (fs gs : List Name) (b c : Base) → un.called_of fs b ≡ un.called_of gs c → IsSameCalled fs gs b c
called-parts [] [] b c e = record { functions = refl; inside = e }
called-parts [] (g ∷ gs) b c e = absurd (no_call b g.text (un.called_of gs c) e)
called-parts (f ∷ fs) [] b c e = absurd (no_call c f.text (un.called_of fs b) (sym e))
called-parts (f ∷ fs) (g ∷ gs) b c e =
    let rest = called-parts fs gs b c (called_inside f.text g.text (un.called_of fs b) (un.called_of gs c) e) in
    let name : f.text ≡ g.text = called_name f.text g.text (un.called_of fs b) (un.called_of gs c) e in record {
      functions = ap (λ (t : Text). t ∷ map (λ (n : Name). n.text) fs) name ∙ ap (λ (ts : List Text). g.text ∷ ts) rest.functions;
      inside = rest.inside;
    }

term-same : (t u : Term) (ws vs : List Token) → un.term_of t ≡ un.term_of u → of_term t ++ ws ≡ of_term u ++ vs → Same t u ws vs
term-same t u ws vs b h =
    let parts = called-parts t.functions u.functions t.base u.base b in
    let one = names-same (λ (n : Name). n.text) t.functions u.functions (of_base t.base ++ ws) (of_base u.base ++ vs) parts.functions
    (regrouped (map of_name t.functions) (of_base t.base) (map of_name u.functions) (of_base u.base) ws vs h) in
    let two = base-same t.base u.base ws vs parts.inside one.rest in
    let make : List Name → Base → Term = λ f c. record { functions = f; base = c } in
    record { value = ap (λ (f : List Name). make f t.base) one.value ∙ ap (make u.functions) two.value; rest = two.rest }

literal-same : (l m : Literal) (ws vs : List Token) → un.literal_of l ≡ un.literal_of m → of_literal l ++ ws ≡ of_literal m ++ vs → Same l m ws vs
literal-same l m ws vs b h =
    let after : Literal → List Token = λ x. sign_at x.at (grammar.comparison_sign x.equal) ∷ of_term x.right in
    let one = term-same l.left m.left (after l ++ ws) (after m ++ vs) (ap (λ (x : grammar.Literal). x.left) b) (regrouped (of_term l.left) (after l) (of_term m.left) (after m) ws vs h) in
    let two = sign-same l.at m.at (grammar.comparison_sign l.equal) (grammar.comparison_sign m.equal) (of_term l.right ++ ws) (of_term m.right ++ vs) one.rest in
    let three = term-same l.right m.right ws vs (ap (λ (x : grammar.Literal). x.right) b) two.rest in
    let make : Term → ℕ → Bool → Term → Literal = λ t a e u. record { left = t; at = a; equal = e; right = u } in record {
      value = ap (λ (t : Term). make t l.at l.equal l.right) one.value ∙ ap (λ (a : ℕ). make m.left a l.equal l.right) two.value
          ∙ ap (λ (e : Bool). make m.left m.at e l.right) (ap (λ (x : grammar.Literal). x.equal) b) ∙ ap (make m.left m.at m.equal) three.value;
      rest = three.rest;
    }

all_first : (l m : grammar.Literal) (ls ms : List grammar.Literal) → grammar.all l ls ≡ grammar.all m ms → l ≡ m
all_first l m ls ms e = cc

all_others : (l m : grammar.Literal) (ls ms : List grammar.Literal) → grammar.all l ls ≡ grammar.all m ms → ls ≡ ms
all_others l m ls ms e = cc

cons_same : {X : Type 0} (x y : X) (xs ys : List X) → x ≡ y → xs ≡ ys → ◌≡◌ {A = List X} (x ∷ xs) (y ∷ ys)
cons_same {X} x y xs ys a b = ap (λ (z : X). z ∷ xs) a ∙ ap (λ (zs : List X). y ∷ zs) b

conjunction-same : (c d : Conjunction) (ws vs : List Token) → un.conjunction_of c ≡ un.conjunction_of d → of_conjunction c ++ ws ≡ of_conjunction d ++ vs → Same c d ws vs
conjunction-same (always i) (always j) ws vs b h = let one = sign-same i j sign.True sign.True ws vs h in record { value = ap always one.value; rest = one.rest }
conjunction-same (always i) (all m ms) ws vs b h = absurd (cc)
conjunction-same (all l ls) (always j) ws vs b h = absurd (cc)
conjunction-same (all l ls) (all m ms) ws vs b h =
    let bare : map un.literal_of (l ∷ ls) ≡ map un.literal_of (m ∷ ms) =
    cons_same (un.literal_of l) (un.literal_of m) (map un.literal_of ls) (map un.literal_of ms) (all_first (un.literal_of l) (un.literal_of m) (map un.literal_of ls) (map un.literal_of ms) b)
    (all_others (un.literal_of l) (un.literal_of m) (map un.literal_of ls) (map un.literal_of ms) b) in
    let one = many-same un.literal_of of_literal literal-same (l ∷ ls) (m ∷ ms) ws vs bare h in record {
      value = ap (λ (x : Literal). all x ls) (first_is l m ls ms one.value) ∙ ap (all m) (others_are l m ls ms one.value);
      rest = one.rest;
    }

guard-same : (g k : Guard) (ws vs : List Token) → un.guard_of g ≡ un.guard_of k → of_guard g ++ ws ≡ of_guard k ++ vs → Same g k ws vs
guard-same g k ws vs b h =
    let one = many-same un.conjunction_of of_conjunction conjunction-same (placed.disjuncts g) (placed.disjuncts k) ws vs (ap (λ (x : grammar.Guard). x.first ∷ x.others) b) h in
    let make : Conjunction → List Conjunction → Guard = λ f o. record { first = f; others = o } in record {
      value = ap (λ (f : Conjunction). make f g.others) (first_is g.first k.first g.others k.others one.value) ∙ ap (make k.first) (others_are g.first k.first g.others k.others one.value);
      rest = one.rest;
    }

column-same : (c d : Option Name) (ws vs : List Token) → option_map (λ (n : Name). n.text) c ≡ option_map (λ (n : Name). n.text) d → of_column c ++ ws ≡ of_column d ++ vs → Same c d ws vs
column-same None None ws vs b h = record { value = refl; rest = h }
column-same None (Some d) ws vs b h = absurd (cc)
column-same (Some c) None ws vs b h = absurd (cc)
column-same (Some c) (Some d) ws vs b h = let one = name-same c d ws vs h in record { value = ap (λ (n : Name). Some n) one.value; rest = one.rest }

update-same : (u w : Update) (ws vs : List Token) → un.update_of u ≡ un.update_of w → of_update u ++ ws ≡ of_update w ++ vs → Same u w ws vs
update-same u w ws vs b h =
    let after : Update → List Token = λ x. sign_at x.at sign.Assign ∷ of_term x.term in
    let one = name-same u.name w.name ((of_column u.column ++ after u) ++ ws) ((of_column w.column ++ after w) ++ vs) h in
    let two = column-same u.column w.column (after u ++ ws) (after w ++ vs) (ap (λ (x : grammar.Update). x.column) b) (regrouped (of_column u.column) (after u) (of_column w.column) (after w) ws vs one.rest) in
    let three = sign-same u.at w.at sign.Assign sign.Assign (of_term u.term ++ ws) (of_term w.term ++ vs) two.rest in
    let four = term-same u.term w.term ws vs (ap (λ (x : grammar.Update). x.term) b) three.rest in
    let make : Name → Option Name → ℕ → Term → Update = λ n c a t. record { name = n; column = c; at = a; term = t } in record {
      value = ap (λ (n : Name). make n u.column u.at u.term) one.value ∙ ap (λ (c : Option Name). make w.name c u.at u.term) two.value
          ∙ ap (λ (a : ℕ). make w.name w.column a u.term) three.value ∙ ap (make w.name w.column w.at) four.value;
      rest = four.rest;
    }

assignment-same : (u w : Assignment) (ws vs : List Token) → un.assignment_of u ≡ un.assignment_of w → of_assignment u ++ ws ≡ of_assignment w ++ vs → Same u w ws vs
assignment-same u w ws vs b h =
    let after : Assignment → List Token = λ x. sign_at x.at sign.Assign ∷ of_term x.term in
    let one = name-same u.row w.row (of_name u.column ∷ (after u ++ ws)) (of_name w.column ∷ (after w ++ vs)) h in
    let two = name-same u.column w.column (after u ++ ws) (after w ++ vs) one.rest in
    let three = sign-same u.at w.at sign.Assign sign.Assign (of_term u.term ++ ws) (of_term w.term ++ vs) two.rest in
    let four = term-same u.term w.term ws vs (ap (λ (x : grammar.Assignment). x.term) b) three.rest in
    let make : Name → Name → ℕ → Term → Assignment = λ n c a t. record { row = n; column = c; at = a; term = t } in record {
      value = ap (λ (n : Name). make n u.column u.at u.term) one.value ∙ ap (λ (c : Name). make w.row c u.at u.term) two.value
          ∙ ap (λ (a : ℕ). make w.row w.column a u.term) three.value ∙ ap (make w.row w.column w.at) four.value;
      rest = four.rest;
    }

case-same : (c d : Case) (ws vs : List Token) → un.case_of c ≡ un.case_of d → of_case c ++ ws ≡ of_case d ++ vs → Same c d ws vs
case-same c d ws vs b h =
    let after : Case → List Token = λ x. flat_map of_assignment x.assignments in
    let one = sign-same c.at d.at sign.If sign.If ((of_conjunction c.condition ++ after c) ++ ws) ((of_conjunction d.condition ++ after d) ++ vs) h in
    let two = conjunction-same c.condition d.condition (after c ++ ws) (after d ++ vs) (ap (λ (x : grammar.Case). x.condition) b) (regrouped (of_conjunction c.condition) (after c) (of_conjunction d.condition) (after d) ws vs one.rest) in
    let three = many-same un.assignment_of of_assignment assignment-same c.assignments d.assignments ws vs (ap (λ (x : grammar.Case). x.assignments) b) two.rest in
    let make : ℕ → Conjunction → List Assignment → Case = λ a k z. record { at = a; condition = k; assignments = z } in record {
      value = ap (λ (a : ℕ). make a c.condition c.assignments) one.value ∙ ap (λ (k : Conjunction). make d.at k c.assignments) two.value ∙ ap (make d.at d.condition) three.value;
      rest = three.rest;
    }

each-same : (e f : Each) (ws vs : List Token) → un.each_of e ≡ un.each_of f → of_each e ++ ws ≡ of_each f ++ vs → Same e f ws vs
each-same e f ws vs b h =
    let after : Each → List Token = λ x. flat_map of_case (placed.cases x) in
    let one = name-same e.row f.row (of_name e.relation ∷ (after e ++ ws)) (of_name f.relation ∷ (after f ++ vs)) h in
    let two = name-same e.relation f.relation (after e ++ ws) (after f ++ vs) one.rest in
    let three = many-same un.case_of of_case case-same (placed.cases e) (placed.cases f) ws vs (ap (λ (x : grammar.Each). x.first ∷ x.others) b) two.rest in
    let make : Name → Name → Case → List Case → Each = λ n r c o. record { row = n; relation = r; first = c; others = o } in record {
      value = ap (λ (n : Name). make n e.relation e.first e.others) one.value ∙ ap (λ (r : Name). make f.row r e.first e.others) two.value
          ∙ ap (λ (c : Case). make f.row f.relation c e.others) (first_is e.first f.first e.others f.others three.value)
          ∙ ap (make f.row f.relation f.first) (others_are e.first f.first e.others f.others three.value);
      rest = three.rest;
    }

step-same : (s t : Step) (ws vs : List Token) → un.step_of s ≡ un.step_of t → of_step s ++ ws ≡ of_step t ++ vs → Same s t ws vs
step-same s t ws vs b h =
    let eachs : Step → List Token = λ x. flat_map of_each x.eachs in
    let updates : Step → List Token = λ x. flat_map of_update x.updates ++ eachs x in
    let guard : Step → List Token = λ x. of_guard x.guard ++ updates x in
    let params : Step → List Token = λ x. flat_map of_declared x.params ++ guard x in
    let one = name-same s.name t.name ((flat_map of_declared s.rows ++ params s) ++ ws) ((flat_map of_declared t.rows ++ params t) ++ vs) h in
    let two = many-same un.row_of of_declared (declared-same un.row_of) s.rows t.rows (params s ++ ws) (params t ++ vs) (ap (λ (x : grammar.Step). x.rows) b)
    (regrouped (flat_map of_declared s.rows) (params s) (flat_map of_declared t.rows) (params t) ws vs one.rest) in
    let three = many-same un.param_of of_declared (declared-same un.param_of) s.params t.params (guard s ++ ws) (guard t ++ vs) (ap (λ (x : grammar.Step). x.params) b)
    (regrouped (flat_map of_declared s.params) (guard s) (flat_map of_declared t.params) (guard t) ws vs two.rest) in
    let four = guard-same s.guard t.guard (updates s ++ ws) (updates t ++ vs) (ap (λ (x : grammar.Step). x.guard) b) (regrouped (of_guard s.guard) (updates s) (of_guard t.guard) (updates t) ws vs three.rest) in
    let five = many-same un.update_of of_update update-same s.updates t.updates (eachs s ++ ws) (eachs t ++ vs) (ap (λ (x : grammar.Step). x.updates) b)
    (regrouped (flat_map of_update s.updates) (eachs s) (flat_map of_update t.updates) (eachs t) ws vs four.rest) in
    let six = many-same un.each_of of_each each-same s.eachs t.eachs ws vs (ap (λ (x : grammar.Step). x.eachs) b) five.rest in
    let make : Name → List Declared → List Declared → Guard → List Update → List Each → Step = λ n r p g u e. record { name = n; rows = r; params = p; guard = g; updates = u; eachs = e } in record {
      value = ap (λ (n : Name). make n s.rows s.params s.guard s.updates s.eachs) one.value ∙ ap (λ (r : List Declared). make t.name r s.params s.guard s.updates s.eachs) two.value
          ∙ ap (λ (p : List Declared). make t.name t.rows p s.guard s.updates s.eachs) three.value ∙ ap (λ (g : Guard). make t.name t.rows t.params g s.updates s.eachs) four.value
          ∙ ap (λ (u : List Update). make t.name t.rows t.params t.guard u s.eachs) five.value ∙ ap (make t.name t.rows t.params t.guard t.updates) six.value;
      rest = six.rest;
    }

goal-same : (g k : Goal) (ws vs : List Token) → un.goal_of g ≡ un.goal_of k → of_goal g ++ ws ≡ of_goal k ++ vs → Same g k ws vs
goal-same g k ws vs b h =
    let one = many-same un.row_of of_declared (declared-same un.row_of) g.rows k.rows (of_guard g.guard ++ ws) (of_guard k.guard ++ vs) (ap (λ (x : grammar.Goal). x.rows) b)
    (regrouped (flat_map of_declared g.rows) (of_guard g.guard) (flat_map of_declared k.rows) (of_guard k.guard) ws vs h) in
    let two = guard-same g.guard k.guard ws vs (ap (λ (x : grammar.Goal). x.guard) b) one.rest in
    let make : List Declared → Guard → Goal = λ r d. record { rows = r; guard = d } in
    record { value = ap (λ (r : List Declared). make r g.guard) one.value ∙ ap (make k.rows) two.value; rest = two.rest }

pub file-same : (f g : File) → un.file_of f ≡ un.file_of g → of_file f ≡ of_file g → f ≡ g
file-same f g b h =
    let goals : File → List Token = λ x. flat_map of_goal x.goals in
    let steps : File → List Token = λ x. flat_map of_step x.steps ++ goals x in
    let relations : File → List Token = λ x. flat_map of_relation x.relations ++ steps x in
    let variables : File → List Token = λ x. flat_map of_variable x.variables ++ relations x in
    let constants : File → List Token = λ x. flat_map of_declared x.constants ++ variables x in
    let functions : File → List Token = λ x. flat_map of_function x.functions ++ constants x in
    let one = name-same f.name g.name (map of_name f.sorts ++ functions f) (map of_name g.sorts ++ functions g) h in
    let two = names-same un.sort_of f.sorts g.sorts (functions f) (functions g) (ap (λ (x : grammar.File). x.sorts) b) one.rest in
    let three = many-same un.function_of of_function function-same f.functions g.functions (constants f) (constants g) (ap (λ (x : grammar.File). x.functions) b) two.rest in
    let four = many-same un.constant_of of_declared (declared-same un.constant_of) f.constants g.constants (variables f) (variables g) (ap (λ (x : grammar.File). x.constants) b) three.rest in
    let five = many-same un.variable_of of_variable variable-same f.variables g.variables (relations f) (relations g) (ap (λ (x : grammar.File). x.variables) b) four.rest in
    let six = many-same un.relation_of of_relation relation-same f.relations g.relations (steps f) (steps g) (ap (λ (x : grammar.File). x.relations) b) five.rest in
    let seven = many-same un.step_of of_step step-same f.steps g.steps (goals f) (goals g) (ap (λ (x : grammar.File). x.steps) b) six.rest in
    let eight = many-same un.goal_of of_goal goal-same f.goals g.goals [] [] (ap (λ (x : grammar.File). x.goals) b) (append-nil (goals f) ∙ seven.rest ∙ sym (append-nil (goals g))) in
    let make : Name → List Name → List Function → List Declared → List Variable → List Relation → List Step → List Goal → File =
    λ n s u c v r t o. record { name = n; sorts = s; functions = u; constants = c; variables = v; relations = r; steps = t; goals = o } in
    ap (λ (n : Name). make n f.sorts f.functions f.constants f.variables f.relations f.steps f.goals) one.value
    ∙ ap (λ (s : List Name). make g.name s f.functions f.constants f.variables f.relations f.steps f.goals) two.value
    ∙ ap (λ (u : List Function). make g.name g.sorts u f.constants f.variables f.relations f.steps f.goals) three.value
    ∙ ap (λ (c : List Declared). make g.name g.sorts g.functions c f.variables f.relations f.steps f.goals) four.value
    ∙ ap (λ (v : List Variable). make g.name g.sorts g.functions g.constants v f.relations f.steps f.goals) five.value
    ∙ ap (λ (r : List Relation). make g.name g.sorts g.functions g.constants g.variables r f.steps f.goals) six.value
    ∙ ap (λ (t : List Step). make g.name g.sorts g.functions g.constants g.variables g.relations t f.goals) seven.value
    ∙ ap (make g.name g.sorts g.functions g.constants g.variables g.relations g.steps) eight.value
