-- One element more: the texts of the elements that a loop has come past.
use Rattle.std.specs.Prelude.{Result, Ok, Err, OnOk, IfOk}
use Rattle.std.proofs.lemmas.List.Folds.{flat_map-map}
use Rattle.std.proofs.Common.{◌≡◌, ℕ, ◌+◌, ◌<◌, List, [], ◌∷◌, ◌++◌, refl, sym, ◌∙◌, ap, length, take, map, flat_map, get_or, arith, append_assoc, codes}
use Rattle.std.proofs.lemmas.List.{take_more, length-take-le}
use Rattle.std.proofs.lemmas.Grind.{flat_map-append}
use Rattle.ras_logic.specs.declared.ids.FunId.{FunId}
use Rattle.ras_syntax.specs.Grammar as grammar
use Rattle.ras_names.specs.declared.names.Names.{Names}
use Rattle.ras_names.specs.Canonical.{term_text}
use Rattle.ras_print.specs.Lookup.{name_at}
use Rattle.ras_print.specs.Calls.{fronts, ends}
use Rattle.ras_print.specs.Items.{called}
use Rattle.ras_print.specs.Printed.{numbered}

pub append_nil : {A : Type 0} (xs : List A) → xs ++ [] ≡ xs
append_nil [] = refl
append_nil (x ∷ xs) = ap (λ z. x ∷ z) (append_nil xs)

pub flat_more : {A : Type 0} (f : A → List ℕ) (xs : List A) (i : ℕ) (d : A) → i < length xs → flat_map f (take (i + 1) xs) ≡ flat_map f (take i xs) ++ f (get_or xs i d)
flat_more f xs i d h =
    ap (flat_map f) (take_more xs i d h)
    ∙ flat_map-append f (take i xs) (get_or xs i d ∷ [])
    ∙ ap (λ (z : List ℕ). flat_map f (take i xs) ++ z) (append_nil (f (get_or xs i d)))

pub numbered-append : {A : Type 0} (f : ℕ → A → List ℕ) (k : ℕ) (xs : List A) (y : A) → numbered f k (xs ++ y ∷ []) ≡ numbered f k xs ++ f (k + length xs) y
numbered-append f k [] y = append_nil (f k y) ∙ ap (λ (n : ℕ). f n y) (let e : k ≡ k + 0 = omega arith in e)
numbered-append f k (x ∷ xs) y =
    let e : k + 1 + length xs ≡ k + length (x ∷ xs) = omega arith in
    ap (λ (z : List ℕ). f k x ++ z) (numbered-append f (k + 1) xs y ∙ ap (λ (n : ℕ). numbered f (k + 1) xs ++ f n y) e)
    ∙ sym (append_assoc (f k x) (numbered f (k + 1) xs) (f (k + length (x ∷ xs)) y))

pub numbered_more : {A : Type 0} (f : ℕ → A → List ℕ) (k : ℕ) (xs : List A) (i : ℕ) (d : A) → i < length xs
    → numbered f k (take (i + 1) xs) ≡ numbered f k (take i xs) ++ f (k + i) (get_or xs i d)
numbered_more f k xs i d h =
    let e : length (take i xs) ≡ i = length-take-le i xs (omega arith) in
    ap (numbered f k) (take_more xs i d h)
    ∙ numbered-append f k (take i xs) (get_or xs i d)
    ∙ ap (λ (n : ℕ). numbered f k (take i xs) ++ f (k + n) (get_or xs i d)) e

-- the same where the first element has the number 0
pub numbered_first : {A : Type 0} (f : ℕ → A → List ℕ) (xs : List A) (i : ℕ) (d : A) → i < length xs
    → numbered f 0 (take (i + 1) xs) ≡ numbered f 0 (take i xs) ++ f i (get_or xs i d)
numbered_first f xs i d h =
    let e : 0 + i ≡ i = omega arith in numbered_more f 0 xs i d h ∙ ap (λ (n : ℕ). numbered f 0 (take i xs) ++ f n (get_or xs i d)) e

-- a loop that has come to the element of number i, and writes its text
pub numbered_step : {A : Type 0} (f : ℕ → A → List ℕ) (xs : List A) (i : ℕ) (d : A) (start before now : List ℕ) → i < length xs
    → before ≡ start ++ numbered f 0 (take i xs) → now ≡ before ++ f i (get_or xs i d) → now ≡ start ++ numbered f 0 (take (i + 1) xs)
numbered_step f xs i d start before now within here h =
    h ∙ ap (λ (z : List ℕ). z ++ f i (get_or xs i d)) here
    ∙ append_assoc start (numbered f 0 (take i xs)) (f i (get_or xs i d))
    ∙ ap (λ (z : List ℕ). start ++ z) (sym (numbered_first f xs i d within))

-- and where it has the number 1
pub numbered_next : {A : Type 0} (f : ℕ → A → List ℕ) (xs : List A) (i : ℕ) (d : A) → i < length xs
    → numbered f 1 (take (i + 1) xs) ≡ numbered f 1 (take i xs) ++ f (i + 1) (get_or xs i d)
numbered_next f xs i d h =
    let e : 1 + i ≡ i + 1 = omega arith in numbered_more f 1 xs i d h ∙ ap (λ (n : ℕ). numbered f 1 (take i xs) ++ f n (get_or xs i d)) e

pub numbered_step_next : {A : Type 0} (f : ℕ → A → List ℕ) (xs : List A) (i : ℕ) (d : A) (start before now : List ℕ) → i < length xs
    → before ≡ start ++ numbered f 1 (take i xs) → now ≡ before ++ f (i + 1) (get_or xs i d) → now ≡ start ++ numbered f 1 (take (i + 1) xs)
numbered_step_next f xs i d start before now within here h =
    h ∙ ap (λ (z : List ℕ). z ++ f (i + 1) (get_or xs i d)) here
    ∙ append_assoc start (numbered f 1 (take i xs)) (f (i + 1) (get_or xs i d))
    ∙ ap (λ (z : List ℕ). start ++ z) (sym (numbered_next f xs i d within))

joined-append : {A B : Type 0} (between : List ℕ) (g : B → List ℕ) (h : A → B) (ys : List A) (y : A)
    → flat_map (λ (u : List ℕ). between ++ u) (map g (map h (ys ++ y ∷ [])))
    ≡ flat_map (λ (u : List ℕ). between ++ u) (map g (map h ys)) ++ (between ++ g (h y))
joined-append between g h [] y = append_nil (between ++ g (h y))
joined-append between g h (x ∷ ys) y =
    ap (λ (z : List ℕ). (between ++ g (h x)) ++ z) (joined-append between g h ys y)
    ∙ sym (append_assoc (between ++ g (h x)) (flat_map (λ (u : List ℕ). between ++ u) (map g (map h ys))) (between ++ g (h y)))

pub joined_more : {A B : Type 0} (between : List ℕ) (g : B → List ℕ) (h : A → B) (xs : List A) (i : ℕ) (d : A) → i < length xs
    → flat_map (λ (u : List ℕ). between ++ u) (map g (map h (take (i + 1) xs)))
    ≡ flat_map (λ (u : List ℕ). between ++ u) (map g (map h (take i xs))) ++ (between ++ g (h (get_or xs i d)))
joined_more {A} between g h xs i d less =
    ap (λ (ys : List A). flat_map (λ (u : List ℕ). between ++ u) (map g (map h ys))) (take_more xs i d less) ∙ joined-append between g h (take i xs) (get_or xs i d)

ends-append : (fs : List FunId) (f : FunId) → ends (fs ++ f ∷ []) ≡ ends fs ++ codes ")"
ends-append [] f = refl
ends-append (g ∷ fs) f = ap (λ (z : List ℕ). codes ")" ++ z) (ends-append fs f)

pub ends_more : (path : List FunId) (i : ℕ) → i < length path → ends (take (i + 1) path) ≡ ends (take i path) ++ codes ")"
ends_more [] i h = absurd (omega arith)
ends_more (f ∷ fs) i h = ap ends (take_more (f ∷ fs) i f h) ∙ ends-append (take i (f ∷ fs)) (get_or (f ∷ fs) i f)

pub fronts_append : (names : Names) (fs : List FunId) (f : FunId) → fronts names (fs ++ f ∷ []) ≡ (name_at names.functions f.n ++ codes "(") ++ fronts names fs
fronts_append names [] f = sym (append_nil (name_at names.functions f.n ++ codes "("))
fronts_append names (g ∷ fs) f =
    ap (λ (z : List ℕ). z ++ (name_at names.functions g.n ++ codes "(")) (fronts_append names fs f)
    ∙ append_assoc (name_at names.functions f.n ++ codes "(") (fronts names fs) (name_at names.functions g.n ++ codes "(")

pub ends_step : (path : List FunId) (i : ℕ) (start before now : List ℕ) → i < length path → before ≡ start ++ ends (take i path) → now ≡ before ++ codes ")"
    → now ≡ start ++ ends (take (i + 1) path)
ends_step path i start before now within here h =
    h ∙ ap (λ (z : List ℕ). z ++ codes ")") here ∙ append_assoc start (ends (take i path)) (codes ")") ∙ ap (λ (z : List ℕ). start ++ z) (sym (ends_more path i within))

-- the last function is written, and those inside it are left
pub fronts_step : (names : Names) (rest inside : List FunId) (f : FunId) (before mid now whole : List ℕ) → rest ≡ inside ++ f ∷ []
    → mid ≡ before ++ name_at names.functions f.n → now ≡ mid ++ codes "(" → before ++ fronts names rest ≡ whole → now ++ fronts names inside ≡ whole
fronts_step names rest inside f before mid now whole is e h k =
    let name = name_at names.functions f.n in
    let now_is : now ≡ before ++ (name ++ codes "(") = h ∙ ap (λ (z : List ℕ). z ++ codes "(") e ∙ append_assoc before name (codes "(") in
    ap (λ (z : List ℕ). z ++ fronts names inside) now_is
    ∙ append_assoc before (name ++ codes "(") (fronts names inside)
    ∙ ap (λ (z : List ℕ). before ++ z) (sym (ap (fronts names) is ∙ fronts_append names inside f))
    ∙ k

pub if_ok : {T E : Type 0} (r : Result T E) (P Q : T → Type 0) → ((x : T) → P x → Q x) → IfOk r P → IfOk r Q
if_ok (Ok x) P Q f h = f x h
if_ok (Err e) P Q f h = h

pub flat_mapped : {A B C : Type 0} (h : B → List C) (v : A → B) (xs : List A) → flat_map h (map v xs) ≡ flat_map (λ (x : A). h (v x)) xs
flat_mapped h v xs = flat_map-map h v xs

pub on_ok : {T E : Type 0} (r : Result T E) (P Q : Type 0) → (P → Q) → OnOk r P → OnOk r Q
on_ok (Ok x) P Q f h = f h
on_ok (Err e) P Q f h = h

-- what is written one after the other
pub after : (a b c x y : List ℕ) → b ≡ a ++ x → c ≡ b ++ y → c ≡ a ++ (x ++ y)
after a b c x y e h = h ∙ ap (λ (z : List ℕ). z ++ y) e ∙ append_assoc a x y

pub called_text : (names : Names) (path : List FunId) (t : grammar.Term) → term_text (called names path t) ≡ fronts names path ++ (term_text t ++ ends path)
called_text names [] t = sym (append_nil (term_text t))
called_text names (f ∷ fs) t =
    let name = name_at names.functions f.n in
    called_text names fs (grammar.call name t)
    ∙ (let e : fronts names fs ++ ((name ++ (codes "(" ++ (term_text t ++ codes ")"))) ++ ends fs) ≡ (fronts names fs ++ (name ++ codes "(")) ++ (term_text t ++ (codes ")" ++ ends fs)) = simp append_assoc in e)
