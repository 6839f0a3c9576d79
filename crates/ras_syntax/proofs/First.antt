-- Where reading stops is the first fault.
use Rattle.std.proofs.Common.{◌≡◌, ℕ, suc, zero, ◌+◌, ◌-◌, ◌<◌, ◌≤◌, List, [], ◌∷◌, ◌++◌, length, take, drop, get_or, Some, None, inl, inr, refl, sym, ap, subst, ◌∙◌, append_assoc, arith, length-append}
use Rattle.std.proofs.lemmas.Bool.{cases_lt}
use Rattle.std.proofs.lemmas.List.{take_at, append-nil, take-append-drop, take-take}
use Rattle.ras_lexer.specs.declared.token.Token.{Token}
use Rattle.ras_lexer.specs.declared.token.Word.{Word}
use Rattle.ras_syntax.specs.Grammar.{IsFile, Begins}
use Rattle.ras_syntax.specs.Machine.{Sym, fault, start}
use Rattle.ras_syntax.specs.Parsing.{IsFirstFault, place}
use Rattle.ras_syntax.specs.Places.{words}
use Rattle.ras_syntax.proofs.Skips.{length-words}
use Rattle.ras_syntax.proofs.Again.{file_again}
use Rattle.ras_syntax.proofs.Sound.{file_sound}
use Rattle.ras_syntax.proofs.Complete.{stop, start_good, completion, finishes}

pub no_file : (ws : List Word) (left : ℕ) → fault start ws ≡ Some left → IsFile ws → ⊥
no_file ws left e (f, h) =
    let none : fault start ws ≡ None = ap (fault start) h ∙ file_again f in
    cc

pub left_within : (ts : List Token) (left : ℕ) → fault start (words ts) ≡ Some left → left ≤ length ts
left_within ts left e =
    let s = stop start (words ts) left start_good e in
    omega (arith, s.count, ap length s.parts, length-append s.front s.back, length-words ts)

take_one_more : (front : List Word) (w : Word) (rest : List Word) → take (length front + 1) (front ++ w ∷ rest) ≡ front ++ w ∷ []
take_one_more front w rest =
    ap (take (length front + 1)) (sym (append_assoc front (w ∷ []) rest)) ∙ take_at (front ++ w ∷ []) rest (length front + 1) (length-append front (w ∷ []))

here_at : (front back : List Word) (J : List Sym)
    → ((more : List Word) → fault start (front ++ more) ≡ fault J more)
    → ((w : Word) (rest more : List Word) → back ≡ w ∷ rest → fault J (w ∷ more) ≡ Some (suc (length more)))
    → length front < length (front ++ back) → Begins (take (length front + 1) (front ++ back)) → ⊥
here_at front [] J reads dead lt b = omega (arith, ap length (append-nil front))
here_at front (w ∷ rest) J reads dead lt (more, file) =
    let words_are : take (length front + 1) (front ++ w ∷ rest) ++ more ≡ front ++ w ∷ more = ap (λ (r : List Word). r ++ more) (take_one_more front w rest) ∙ append_assoc front (w ∷ []) more in
    no_file (front ++ w ∷ more) (suc (length more)) (reads (w ∷ more) ∙ dead w rest more refl) (subst IsFile words_are file)

pub first_fault : (ws : List Word) (left : ℕ) → fault start ws ≡ Some left → IsFirstFault ws (length ws - left)
first_fault ws left e =
    let s = stop start ws left start_good e in
    let k : length ws - left ≡ length s.front = omega (arith, s.count, ap length s.parts, length-append s.front s.back) in
    let whole : IsFile (s.front ++ completion s.stack) = file_sound (s.front ++ completion s.stack) (s.reads (completion s.stack) ∙ finishes s.stack s.good) in
    let front : take (length s.front) (s.front ++ s.back) ≡ s.front = take_at s.front s.back (length s.front) refl in
    let at : IsFirstFault (s.front ++ s.back) (length s.front) = record {
      within = omega (arith, length-append s.front s.back);
      before = subst Begins (sym front) (completion s.stack, whole);
      here = here_at s.front s.back s.stack s.reads s.dead;
      no_file = no_file (s.front ++ s.back) left (ap (fault start) (sym s.parts) ∙ e);
    } in
    subst (λ (n : ℕ). IsFirstFault ws n) (sym k) (subst (λ (l : List Word). IsFirstFault l (length s.front)) (sym s.parts) at)

-- ---- and it is the only one

begins_sooner : (ws : List Word) (j k : ℕ) → j ≤ k → Begins (take k ws) → Begins (take j ws)
begins_sooner ws j k le (more, file) =
    let parts : take k ws ≡ take j ws ++ drop j (take k ws) = sym (take-append-drop j (take k ws)) ∙ ap (λ (l : List Word). l ++ drop j (take k ws)) (take-take j k ws le) in
    (drop j (take k ws) ++ more, subst IsFile (ap (λ (l : List Word). l ++ more) parts ∙ append_assoc (take j ws) (drop j (take k ws)) more) file)

no_later : (ws : List Word) (j k : ℕ) → IsFirstFault ws j → IsFirstFault ws k → j < k → ⊥
no_later ws j k f g lt = f.here (omega (arith, lt, g.within)) (begins_sooner ws (j + 1) k (omega (arith, lt)) g.before)

pub one_fault : (ws : List Word) (j k : ℕ) → IsFirstFault ws j → IsFirstFault ws k → j ≡ k
one_fault ws j k f g =
    elim (cases_lt j k) [ inl lt ↦ absurd (no_later ws j k f g lt) | inr le ↦ elim (cases_lt k j) [ inl gt ↦ absurd (no_later ws k j g f gt) | inr ge ↦ omega (arith, le, ge) ] ]

-- ---- tokens behind a whole file

pub trailing : (ts : List Token) → 0 < length ts → fault [] (words ts) ≡ Some (length ts)
trailing [] lt = absurd (omega arith)
trailing (t ∷ ts) lt = ap (λ (n : ℕ). Some (suc n)) (length-words ts)

-- ---- places

pub place_at : (ts : List Token) (len k : ℕ) (t : Token) → k < length ts → (get_or ts k t).at ≡ place ts len k
place_at [] len k t lt = absurd (omega arith)
place_at (u ∷ ts) len zero t lt = refl
place_at (u ∷ ts) len (suc k) t lt = place_at ts len k t (omega arith)

pub place_past : (ts : List Token) (len k : ℕ) → length ts ≤ k → place ts len k ≡ len
place_past [] len k le = refl
place_past (u ∷ ts) len zero le = absurd (omega arith)
place_past (u ∷ ts) len (suc k) le = place_past ts len k (omega arith)

pub tree_is_file : (ts us : List Token) → ts ≡ us → fault start (words ts) ≡ None → IsFile (words us)
tree_is_file ts us e none = subst (λ (l : List Token). IsFile (words l)) e (file_sound (words ts) none)
