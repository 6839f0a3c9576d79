-- Words ask for one thing at most.
use Rattle.std.proofs.Common.{◌≡◌, ℕ, zero, suc, ◌<◌, inl, inr, List, [], ◌∷◌, ◌++◌, length, get_or, codes, refl, sym, ◌∙◌, ap, subst, arith}
use Rattle.std.specs.Prelude.{◌≤◌, ◌+◌, All, take, drop, slice_get, Option, Some, None, String, string_bytes, IfNone}
use Rattle.std.proofs.lemmas.List.{take_all, length-map}
use Rattle.std.proofs.lemmas.List.{append-nil}
use Rattle.ras_cli.specs.Words.{texts, Request, check_bundle, print, check, replay, command_word, files_of, IsOption, IsName, NamesFiles, IsCommand, Asks}

abbrev Word : Type 0
Word = List ℕ

pub first : (x y : Word) (us vs : List Word) → ◌≡◌ {A = List Word} (x ∷ us) (y ∷ vs) → x ≡ y
first x y us vs e = ap (λ (ws : List Word). elim ws [ [] ↦ x | w ∷ more ↦ w ]) e

pub behind_first : (x y : Word) (us vs : List Word) → ◌≡◌ {A = List Word} (x ∷ us) (y ∷ vs) → us ≡ vs
behind_first x y us vs e = ap (λ (ws : List Word). elim ws [ [] ↦ us | w ∷ more ↦ more ]) e

second : (x y u v : Word) → ◌≡◌ {A = List Word} (u ∷ x ∷ []) (v ∷ y ∷ []) → x ≡ y
second x y u v e = first x y [] [] (behind_first u v (x ∷ []) (y ∷ []) e)

pub head_is : (w : Word) (ws : List Word) → All IsName (w ∷ ws) → IsName w
head_is w ws names = names 0 w (omega arith)

pub tail_are : (w : Word) (ws : List Word) → All IsName (w ∷ ws) → All IsName ws
tail_are w ws names = λ k d below. names (suc k) d (omega (arith, below))

-- `--` is an option
dashes : {A : Type 0} (w : Word) → IsName w → codes "--" ≡ w → A
dashes w name is = absurd (name (subst IsOption is refl))

-- names do not contain `--`
no_dashes : {A : Type 0} (words front back : List Word) → All IsName words → words ≡ front ++ (codes "--" ∷ back) → A
no_dashes [] [] back names e = let n : 0 ≡ suc (length back) = ap length e in absurd (omega (arith, n))
no_dashes [] (f ∷ front) back names e = let n : 0 ≡ suc (length (front ++ (codes "--" ∷ back))) = ap length e in absurd (omega (arith, n))
no_dashes (w ∷ words) [] back names e = dashes w (head_is w words names) (sym (first w (codes "--") words back e))
no_dashes (w ∷ words) (f ∷ front) back names e = no_dashes words front back (tail_are w words names) (behind_first w f words (front ++ (codes "--" ∷ back)) e)

-- names before the first `--`, and what stands behind it, are determined
one_split : (f g b c : List Word) → All IsName f → All IsName g → f ++ (codes "--" ∷ b) ≡ g ++ (codes "--" ∷ c) → f ++ b ≡ g ++ c
one_split [] [] b c fs gs e = behind_first (codes "--") (codes "--") b c e
one_split [] (y ∷ g) b c fs gs e = dashes y (head_is y g gs) (first (codes "--") y b (g ++ (codes "--" ∷ c)) e)
one_split (x ∷ f) [] b c fs gs e = dashes x (head_is x f fs) (sym (first x (codes "--") (f ++ (codes "--" ∷ b)) c e))
one_split (x ∷ f) (y ∷ g) b c fs gs e =
    let here : x ≡ y = first x y (f ++ (codes "--" ∷ b)) (g ++ (codes "--" ∷ c)) e in
    let there = one_split f g b c (tail_are x f fs) (tail_are y g gs) (behind_first x y (f ++ (codes "--" ∷ b)) (g ++ (codes "--" ∷ c)) e) in
    ap (λ (w : Word). w ∷ (f ++ b)) here ∙ ap (λ (ws : List Word). y ∷ ws) there

-- words name the same files, whichever way
pub one_naming : (words names others : List Word) → NamesFiles words names → NamesFiles words others → names ≡ others
one_naming words names others (inl a) (inl b) = sym a.0 ∙ b.0
one_naming words names others (inl a) (inr b) = no_dashes words b.front b.back a.1 b.split
one_naming words names others (inr a) (inl b) = no_dashes words a.front a.back b.1 a.split
one_naming words names others (inr a) (inr b) = a.joined ∙ one_split a.front b.front a.back b.back a.no_options b.no_options (sym a.split ∙ b.split) ∙ sym b.joined

-- the first byte of a word
abbrev head : Word → ℕ
head [] = 0
head (b ∷ bs) = b

apart : {A : Type 0} (w v : Word) (n m : ℕ) → head w ≡ n → head v ≡ m → (n ≡ m → ⊥) → w ≡ v → A
apart w v n m a b differ e = absurd (differ (sym a ∙ ap head e ∙ b))

one_or_two : {A : Type 0} (x y z : Word) → ◌≡◌ {A = List Word} (x ∷ []) (y ∷ z ∷ []) → A
one_or_two x y z e = let n : 1 ≡ 2 = ap length e in absurd (omega (arith, n))

-- a command and its files are one request
pub one_request : (r q : Request) → command_word r ≡ command_word q → files_of r ≡ files_of q → r ≡ q
one_request (check_bundle b) (check_bundle c) w f = ap check_bundle (first b c [] [] f)
one_request (check_bundle b) (print c) w f = apart (codes "check") (codes "print") 99 112 refl refl (λ e. omega (arith, e)) w
one_request (check_bundle b) (check c d) w f = one_or_two b c d f
one_request (check_bundle b) (replay c d) w f = one_or_two b c d f
one_request (print b) (check_bundle c) w f = apart (codes "print") (codes "check") 112 99 refl refl (λ e. omega (arith, e)) w
one_request (print b) (print c) w f = ap print (first b c [] [] f)
one_request (print b) (check c d) w f = one_or_two b c d f
one_request (print b) (replay c d) w f = one_or_two b c d f
one_request (check a b) (check_bundle c) w f = one_or_two c a b (sym f)
one_request (check a b) (print c) w f = one_or_two c a b (sym f)
one_request (check a b) (check c d) w f = ap (λ (x : Word). check x b) (first a c (b ∷ []) (d ∷ []) f) ∙ ap (check c) (second b d a c f)
one_request (check a b) (replay c d) w f = apart (codes "check") (codes "replay") 99 114 refl refl (λ e. omega (arith, e)) w
one_request (replay a b) (check_bundle c) w f = one_or_two c a b (sym f)
one_request (replay a b) (print c) w f = one_or_two c a b (sym f)
one_request (replay a b) (check c d) w f = apart (codes "replay") (codes "check") 114 99 refl refl (λ e. omega (arith, e)) w
one_request (replay a b) (replay c d) w f = ap (λ (x : Word). replay x b) (first a c (b ∷ []) (d ∷ []) f) ∙ ap (replay c) (second b d a c f)

pub one_asked : (words : List Word) (r q : Request) → Asks words r → Asks words q → r ≡ q
one_asked words r q a b =
    let same = sym a.parts ∙ b.parts in
    let behind : a.behind ≡ b.behind = behind_first (command_word r) (command_word q) a.behind b.behind same in
    one_request r q (first (command_word r) (command_word q) a.behind b.behind same)
    (one_naming b.behind (files_of r) (files_of q) (subst (λ (ws : List Word). NamesFiles ws (files_of r)) behind a.files) b.files)

-- What the parts of the reader find.

some_not_none : (x : Word) → ◌≡◌ {A = Option Word} (Some x) None → ⊥
some_not_none x e = let n : ◌≡◌ {A = ℕ} 1 0 = ap (λ (o : Option Word). elim o [ None ↦ 0 | Some y ↦ 1 ]) e in omega (arith, n)

no_element : (at : ℕ) (w : Word) → slice_get {X = Word} [] at ≡ Some w → ⊥
no_element zero w e = some_not_none w (sym e)
no_element (suc at) w e = some_not_none w (sym e)

some_is : (x w : Word) → ◌≡◌ {A = Option Word} (Some x) (Some w) → x ≡ w
some_is x w e = ap (λ (o : Option Word). elim o [ None ↦ x | Some y ↦ y ]) e

-- a word that is an option and not `--` names no file, where none before it is an option
refused_behind : (words front back : List Word) (at : ℕ) (w : Word) → slice_get words at ≡ Some w → IsOption w → (w ≡ codes "--" → ⊥) → All IsName (take at words)
    → All IsName front → words ≡ front ++ (codes "--" ∷ back) → ⊥
refused_behind [] front back at w here option other before names split = no_element at w here
refused_behind (x ∷ words) [] back zero w here option other before names split =
    other (sym (some_is x w here) ∙ first x (codes "--") words back split)
refused_behind (x ∷ words) (f ∷ front) back zero w here option other before names split =
    let is : w ≡ f = sym (some_is x w here) ∙ first x f words (front ++ (codes "--" ∷ back)) split in
    head_is f front names (subst IsOption is option)
refused_behind (x ∷ words) [] back (suc at) w here option other before names split =
    dashes x (head_is x (take at words) before) (sym (first x (codes "--") words back split))
refused_behind (x ∷ words) (f ∷ front) back (suc at) w here option other before names split =
    refused_behind words front back at w here option other (tail_are x (take at words) before) (tail_are f front names)
    (behind_first x f words (front ++ (codes "--" ∷ back)) split)

name_at : (words : List Word) (at : ℕ) (w : Word) → slice_get words at ≡ Some w → All IsName words → IsName w
name_at [] at w here names = absurd (no_element at w here)
name_at (x ∷ words) zero w here names = subst IsName (some_is x w here) (head_is x words names)
name_at (x ∷ words) (suc at) w here names = name_at words at w here (tail_are x words names)

pub refused : (words : List Word) (at : ℕ) (w : Word) → slice_get words at ≡ Some w → IsOption w → (w ≡ codes "--" → ⊥) → All IsName (take at words)
    → (names : List Word) → NamesFiles words names → ⊥
refused words at w here option other before names (inl a) = name_at words at w here a.1 option
refused words at w here option other before names (inr b) = refused_behind words b.front b.back at w here option other before b.no_options b.split

-- lists of one and of two elements
pub one_of : (xs : List Word) (x : Word) → slice_get xs 0 ≡ Some x → slice_get xs 1 ≡ None → xs ≡ x ∷ []
one_of [] x here none = absurd (no_element 0 x here)
one_of (a ∷ []) x here none = ap (λ (w : Word). w ∷ []) (some_is a x here)
one_of (a ∷ b ∷ xs) x here none = absurd (some_not_none b none)

pub two_of : (xs : List Word) (x y : Word) → slice_get xs 0 ≡ Some x → slice_get xs 1 ≡ Some y → slice_get xs 2 ≡ None → xs ≡ x ∷ y ∷ []
two_of [] x y here there none = absurd (no_element 0 x here)
two_of (a ∷ []) x y here there none = absurd (no_element 0 y there)
two_of (a ∷ b ∷ []) x y here there none = ap (λ (w : Word). w ∷ b ∷ []) (some_is a x here) ∙ ap (λ (w : Word). x ∷ w ∷ []) (some_is b y there)
two_of (a ∷ b ∷ d ∷ xs) x y here there none = absurd (some_not_none d none)

pub not_none : (r : Request) → slice_get (files_of r) 0 ≡ None → ⊥
not_none (check_bundle b) e = some_not_none b e
not_none (print b) e = some_not_none b e
not_none (check b c) e = some_not_none b e
not_none (replay b c) e = some_not_none b e

pub not_three : (r : Request) (w : Word) → slice_get (files_of r) 2 ≡ Some w → ⊥
not_three (check_bundle b) w e = no_element 1 w e
not_three (print b) w e = no_element 1 w e
not_three (check b c) w e = no_element 0 w e
not_three (replay b c) w e = no_element 0 w e

in_front : (v : Word) (ws : List Word) → IsName v → All IsName ws → All IsName (v ∷ ws)
in_front v ws here there zero d lt = here
in_front v ws here there (suc n) d lt = there n d (omega (arith, lt))

-- The same of words as they are kept.

module _ {A : Type 0} where
  pub text_at : (words : List (String A)) (at : ℕ) (w : String A) → at < length words → w ≡ get_or words at w → slice_get (texts words) at ≡ Some (string_bytes w)
  text_at [] at w below is = absurd (omega (arith, below))
  text_at (x ∷ words) zero w below is = ap (λ (v : String A). Some (string_bytes v)) (sym is)
  text_at (x ∷ words) (suc at) w below is = text_at words at w (omega (arith, below)) is

  cut : (words : List (String A)) (at : ℕ) (w : String A) → at < length words → w ≡ get_or words at w
      → texts words ≡ texts (take at words) ++ (string_bytes w ∷ texts (drop (suc at) words))
  cut [] at w below is = absurd (omega (arith, below))
  cut (x ∷ words) zero w below is = ap (λ (v : String A). string_bytes v ∷ texts words) (sym is)
  cut (x ∷ words) (suc at) w below is = ap (λ (ts : List Word). string_bytes x ∷ ts) (cut words at w (omega (arith, below)) is)

  taken : (words : List (String A)) (at : ℕ) → take at (texts words) ≡ texts (take at words)
  taken words zero = refl
  taken [] (suc at) = refl
  taken (x ∷ words) (suc at) = ap (λ (ts : List Word). string_bytes x ∷ ts) (taken words at)

  pub parted : (words front back : List (String A)) (at : ℕ) (w : String A) → at < length words → w ≡ get_or words at w → string_bytes w ≡ codes "--"
      → All IsName (take at (texts words)) → front ≡ take at words → back ≡ drop (suc at) words → NamesFiles (texts words) (texts front ++ texts back)
  parted words front back at w below is dash names front_is back_is = inr record {
    front = texts front;
    back = texts back;
    split = rw (front_is, back_is) (cut words at w below is ∙ ap (λ (v : Word). texts (take at words) ++ (v ∷ texts (drop (suc at) words))) dash);
    joined = refl;
    no_options = rw front_is (subst (All IsName) (taken words at) names);
  }

  more : (words : List (String A)) (at : ℕ) (w : String A) → at < length words → w ≡ get_or words at w → IsName (string_bytes w) → All IsName (take at (texts words))
      → All IsName (take (suc at) (texts words))
  more [] at w below is name names = absurd (omega (arith, below))
  more (x ∷ words) zero w below is name names =
      in_front (string_bytes x) [] (subst (λ (v : String A). IsName (string_bytes v)) is name) (λ k d lt. absurd (omega (arith, lt)))
  more (x ∷ words) (suc at) w below is name names =
      in_front (string_bytes x) (take (suc at) (texts words)) (head_is (string_bytes x) (take at (texts words)) names)
      (more words at w (omega (arith, below)) is name (tail_are (string_bytes x) (take at (texts words)) names))

  pub one_more : (words : List (String A)) (at : ℕ) (w : String A) → at < length words → w ≡ get_or words at w → IsName (string_bytes w) → All IsName (take at (texts words))
      → All IsName (take (at + 1) (texts words))
  one_more words at w below is name names = let next : at + 1 ≡ suc at = omega arith in rw next (more words at w below is name names)

  pub whole : (words : List (String A)) (at : ℕ) → length words ≤ at → All IsName (take at (texts words)) → NamesFiles (texts words) (texts words ++ [])
  whole words at le names = inl (sym (append-nil (texts words)), subst (All IsName) (take_all at (texts words) (rw length-map le)) names)

-- the words behind the first one decide the files of a command
pub asked_behind : (words : List Word) (command : Word) (behind names : List Word) (r : Request) → words ≡ command ∷ behind → NamesFiles behind names → Asks words r
    → IsCommand command names r
asked_behind words command behind names r parts files asks =
    let same = sym asks.parts ∙ parts in (
      sym (first (command_word r) command asks.behind behind same),
      one_naming behind names (files_of r) files (subst (λ (ws : List Word). NamesFiles ws (files_of r)) (behind_first (command_word r) command asks.behind behind same) asks.files),
    )

pub if_none : {X : Type 0} (o : Option X) (P Q : Type 0) → (P → Q) → IfNone o P → IfNone o Q
if_none None P Q f h = f h
if_none (Some x) P Q f h = tt
