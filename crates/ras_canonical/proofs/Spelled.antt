-- Texts that spell words, where what follows them is of some kind.
use Rattle.std.proofs.Common.{◌≡◌, ℕ, List, [], ◌∷◌, ◌++◌, map, flat_map, true, false, codes, refl, sym, ap, subst, ◌∙◌, append_assoc}
use Rattle.std.proofs.lemmas.Grind.{flat_map-append}
use Rattle.std.proofs.lemmas.List.{append-nil}
use Rattle.std.proofs.lemmas.List.Folds.{flat_map-map}
use Rattle.ras_lexer.specs.declared.fixed.Fixed.{Fixed}
use Rattle.ras_lexer.specs.declared.token.Word.{Word}
use Rattle.ras_lexer.specs.declared.token.Word.TheVariants as declared
use Rattle.ras_lexer.specs.Words.{fixed_bytes, is_in_name, is_name}
use Rattle.ras_lexer.specs.Pieces.{Piece, blank, word, piece_bytes, pieces_bytes, is_blank, AllStand}
use Rattle.ras_lexer.proofs.Fronts.{Stops}
use Rattle.ras_syntax.specs.Grammar.{Text, one, named}
use Rattle.ras_names.specs.Canonical.{joined}
use Rattle.ras_canonical.proofs.Standing.{AreGood, front_good, back_good, piece_words, pieces_words, stand_both, name_stands, stands_before_blank, begins_long, sign_stands}

-- ---- what may follow

abbrev pub Anything : List ℕ → Type 0
Anything rest = Unit {0}

-- no byte of a name follows
abbrev pub NoName : List ℕ → Type 0
NoName rest = Stops is_in_name rest

-- The text is made of pieces with these words. They stand where the words are good and what follows is of the kind.
pub record Spells (P : List ℕ → Type 0) (text : List ℕ) (ws : List Word) : Type 0 where
  pub pieces : List Piece
  pub parts : text ≡ pieces_bytes pieces
  pub spelled : pieces_words pieces ≡ ws
  pub stand : AreGood ws → (rest : List ℕ) → P rest → AllStand pieces rest

-- ---- single pieces

pub name : (n : Text) → Spells NoName n (named n)
name n = record {
  pieces = word (declared.Name n) ∷ [];
  parts = sym (append-nil n);
  spelled = refl;
  stand = λ good rest h. (name_stands (declared.Name n) rest good.0.0.0 good.0 h, tt);
}

pub reserved : (f : Fixed) → is_name (fixed_bytes f) ≡ true → Spells NoName (fixed_bytes f) (one f)
reserved f shape = record {
  pieces = word (declared.Fixed f) ∷ [];
  parts = sym (append-nil (fixed_bytes f));
  spelled = refl;
  stand = λ good rest h. (name_stands (declared.Fixed f) rest shape good.0 h, tt);
}

-- a sign of one byte that begins no longer word
pub sign : (f : Fixed) (b : ℕ) → fixed_bytes f ≡ b ∷ [] → begins_long b ≡ false → Spells Anything (fixed_bytes f) (one f)
sign f b e short = record {
  pieces = word (declared.Fixed f) ∷ [];
  parts = sym (append-nil (fixed_bytes f));
  spelled = refl;
  stand = λ good rest h. (sign_stands f b rest e short, tt);
}

-- a reserved word or sign with a blank behind it
pub ended : (f : Fixed) → Spells Anything (fixed_bytes f ++ codes " ") (one f)
ended f = record {
  pieces = word (declared.Fixed f) ∷ blank 32 ∷ [];
  parts = refl;
  spelled = refl;
  stand = λ good rest h. (stands_before_blank (declared.Fixed f) 32 rest good.0 refl, (refl, tt));
}

pub space : (b : ℕ) → is_blank b ≡ true → Spells Anything (b ∷ []) []
space b h = record { pieces = blank b ∷ []; parts = refl; spelled = refl; stand = λ good rest i. (h, tt) }

-- ---- one text behind the other

-- what follows both lets the second stand, and the second with it lets the first stand
pub join : {P Q : List ℕ → Type 0} {a b : List ℕ} {v w : List Word} → Spells P a v → Spells Q b w → ((rest : List ℕ) → Q rest → P (b ++ rest)) → Spells Q (a ++ b) (v ++ w)
join {P} {Q} {a} {b} {v} {w} s t next = record {
  pieces = s.pieces ++ t.pieces;
  parts = ap (λ (x : List ℕ). x ++ b) s.parts ∙ ap (λ (x : List ℕ). pieces_bytes s.pieces ++ x) t.parts ∙ sym (flat_map-append piece_bytes s.pieces t.pieces);
  spelled = flat_map-append piece_words s.pieces t.pieces ∙ ap (λ (x : List Word). x ++ pieces_words t.pieces) s.spelled ∙ ap (λ (x : List Word). v ++ x) t.spelled;
  stand = λ good rest h.
      stand_both s.pieces t.pieces rest
      (subst (λ (x : List ℕ). AllStand s.pieces (x ++ rest)) t.parts (s.stand (front_good v w good) (b ++ rest) (next rest h)))
      (t.stand (back_good v w good) rest h);
}

-- where anything may follow the first
pub and_then : {Q : List ℕ → Type 0} {a b : List ℕ} {v w : List Word} → Spells Anything a v → Spells Q b w → Spells Q (a ++ b) (v ++ w)
and_then s t = join s t (λ rest h. tt)

-- where the second begins with no byte of a name
pub apart : {Q : List ℕ → Type 0} {a b : List ℕ} {v w : List Word} → Spells NoName a v → Spells Q b w → ((rest : List ℕ) → NoName (b ++ rest)) → Spells Q (a ++ b) (v ++ w)
apart s t next = join s t (λ rest h. next rest)

pub anywhere : {P : List ℕ → Type 0} {a : List ℕ} {v : List Word} → Spells Anything a v → Spells P a v
anywhere s = record { pieces = s.pieces; parts = s.parts; spelled = s.spelled; stand = λ good rest h. s.stand good rest tt }

pub respelled : {P : List ℕ → Type 0} {a : List ℕ} {v w : List Word} → Spells P a v → v ≡ w → Spells P a w
respelled {P} {a} s e = subst (Spells P a) e s

-- with a blank before it and behind it
pub spaced : (f : Fixed) → Spells Anything (codes " " ++ (fixed_bytes f ++ codes " ")) (one f)
spaced f = and_then (space 32 refl) (ended f)

-- with a blank or line feed behind it
pub blank_behind : {a : List ℕ} {v : List Word} (b : ℕ) → is_blank b ≡ true → Spells Anything a v → Spells Anything (a ++ b ∷ []) v
blank_behind {a} {v} b h s = respelled (and_then s (space b h)) (append-nil v)

-- ---- lists of texts

pub in_turn : {A : Type 0} (f : A → List ℕ) (g : A → List Word) → ((x : A) → Spells Anything (f x) (g x)) → (xs : List A) → Spells Anything (flat_map f xs) (flat_map g xs)
in_turn f g h [] = record { pieces = []; parts = refl; spelled = refl; stand = λ good rest i. tt }
in_turn f g h (x ∷ xs) = and_then (h x) (in_turn f g h xs)

module _ {A : Type 0} (between : List ℕ) (v : List Word) (first : (rest : List ℕ) → NoName (between ++ rest)) (s : Spells Anything between v) (f : A → List ℕ) (g : A → List Word)
    (h : (x : A) → Spells NoName (f x) (g x)) where
  no_name_first : (xs : List A) (rest : List ℕ) → NoName rest → NoName (flat_map (λ (x : A). between ++ f x) xs ++ rest)
  no_name_first [] rest i = i
  no_name_first (x ∷ xs) rest i =
      let others : List ℕ = flat_map (λ (y : A). between ++ f y) xs in
      subst NoName (sym (append_assoc (between ++ f x) others rest ∙ append_assoc between (f x) (others ++ rest))) (first (f x ++ (others ++ rest)))

  behind : (xs : List A) → Spells NoName (flat_map (λ (x : A). between ++ f x) xs) (flat_map (λ (x : A). v ++ g x) xs)
  behind [] = record { pieces = []; parts = refl; spelled = refl; stand = λ good rest i. tt }
  behind (x ∷ xs) = join (and_then s (h x)) (behind xs) (no_name_first xs)

  -- the texts with this between each two
  pub separated : (x : A) (xs : List A) → Spells NoName (joined between (map f (x ∷ xs))) (g x ++ flat_map (λ (y : A). v ++ g y) xs)
  separated x xs =
      subst (λ (l : List ℕ). Spells NoName (f x ++ l) (g x ++ flat_map (λ (y : A). v ++ g y) xs)) (sym (flat_map-map (λ (u : List ℕ). between ++ u) f xs))
      (join (h x) (behind xs) (no_name_first xs))
