-- Names are compared by their bytes.
use Rattle.std.proofs.Common.{◌≡◌, ℕ, ◌-◌, Bool, true, false, ◌&&◌, List, [], ◌∷◌, ◌++◌, length, take, replicate, position, is_some, refl, sym, ◌∙◌, ap, subst, nat_eq}
use Rattle.std.specs.Str.{bytes_eq}
use Rattle.std.specs.List.{list_any}
use Rattle.std.proofs.Math.Seq.{take-append_seam}
use Rattle.std.proofs.lemmas.Slice.Eq.{bytes_eq-Decides}
use Rattle.std.proofs.lemmas.Bool.Decides.{Decides-eqb}
use Rattle.indexmap.specs.IndexSet.{insert_key}
use Rattle.ras_lexer.specs.Texts.{padded}
use Rattle.ras_lexer.specs.contracts.text.TextPartialEq.TheImpl.{eq-value}
use Rattle.ras_names.specs.Checks.{is_among}
use Rattle.ras_scope.proofs.Places.{one_test, number_of, no_number}

abbrev pub text_eq : List ℕ → List ℕ → Bool
text_eq = eq-value.it

both_true : (x y : Bool) → (x && y) ≡ true → (x ≡ true) × (y ≡ true)
both_true true y h = (refl, h)
both_true false y h = absurd (cc)

text_same : (a b : List ℕ) → text_eq a b ≡ true → a ≡ b
text_same a b h =
    let pa = padded a in
    let pb = padded b in
    let parts = both_true (bytes_eq pa.bytes pb.bytes) (nat_eq pa.length pb.length) h in
    let bytes : pa.bytes ≡ pb.bytes = (bytes_eq-Decides pa.bytes pb.bytes).0 parts.0 in
    let len : length a ≡ length b = (Decides-eqb (length a) (length b)).0 parts.1 in
    sym (take-append_seam a (replicate (64 - length a) 0)) ∙ (λ i. take (len i) (bytes i)) ∙ take-append_seam b (replicate (64 - length b) 0)

text_self : (a : List ℕ) → text_eq a a ≡ true
text_self a =
    let pa = padded a in
    let bytes : bytes_eq pa.bytes pa.bytes ≡ true = (bytes_eq-Decides pa.bytes pa.bytes).1 refl in
    let len : nat_eq pa.length pa.length ≡ true = (Decides-eqb pa.length pa.length).1 refl in
    (λ i. bytes i && len i)

pub same : (a b : List ℕ) → text_eq a b ≡ bytes_eq a b
same a b = one_test (text_eq a b) (bytes_eq a b) (λ h. (bytes_eq-Decides a b).1 (text_same a b h))
    (λ h. subst (λ (z : List ℕ). text_eq a z ≡ true) ((bytes_eq-Decides a b).0 h) (text_self a))

-- the same test
pub same_test : (name : List ℕ) → text_eq name ≡ bytes_eq name
same_test name = λ i x. same name x i

pub same_among : (keys now : List (List ℕ)) (name : List ℕ) → keys ≡ now → list_any (text_eq name) keys ≡ is_among now name
same_among keys now name view = λ i. list_any (same_test name i) (view i)

pub same_position : (keys now : List (List ℕ)) (name : List ℕ) → keys ≡ now → position (text_eq name) keys ≡ position (bytes_eq name) now
same_position keys now name view = λ i. position (same_test name i) (view i)

-- a name that is none of these goes last
pub inserted : (keys now : List (List ℕ)) (name : List ℕ) → keys ≡ now → is_among now name ≡ false → insert_key text_eq keys name ≡ now ++ name ∷ []
inserted keys now name view none =
    let absent : list_any (text_eq name) keys ≡ false = same_among keys now name view ∙ none in
    rw absent (ap (λ (ks : List (List ℕ)). ks ++ name ∷ []) view)

-- what has a place is known
pub place_known : (name : List ℕ) (names : List (List ℕ)) → is_some (position (bytes_eq name) names) ≡ is_among names name
place_known name names = go (is_among names name) refl
  where
    go : (b : Bool) → is_among names name ≡ b → is_some (position (bytes_eq name) names) ≡ b
    go true h = ap is_some (number_of names name h)
    go false h = ap is_some (no_number names name h)
