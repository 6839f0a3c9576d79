-- Terms, literals and cubes at the front of bytes are read exactly.
use Rattle.std.proofs.Common.{◌≡◌, ℕ, zero, suc, ◌^◌, ◌<◌, ◌≤◌, List, [], ◌∷◌, ◌++◌, length, get_or, map, Bool, true, false, eqb, refl, sym, ap, subst, ◌∙◌, arith, append_assoc, length-append}
use Rattle.std.specs.Prelude.{Option, Some, None, Ok, Err, codes}
use Rattle.std.specs.Char.{is_ascii_digit}
use Rattle.std.specs.List.{AllByRecursion}
use Rattle.std.specs.Fmt.{decimal}
use Rattle.std.proofs.lemmas.List.{length-map}
use Rattle.std.proofs.lemmas.List.Folds.{flat_map-map}
use Rattle.std.proofs.lemmas.Grind.{flat_map-append}
use Rattle.ras_logic.specs.declared.ids.FunId.{FunId}
use Rattle.ras_logic.specs.declared.ids.SortId.{SortId}
use Rattle.ras_logic.specs.declared.ids.RelId.{RelId}
use Rattle.ras_logic.specs.declared.term.Base.{Base}
use Rattle.ras_logic.specs.declared.term.Base.TheVariants.{Var, Cell, Constant, Undef, Param}
use Rattle.ras_logic.specs.declared.term.Term.{Term}
use Rattle.ras_logic.specs.declared.literal.Literal.{Literal}
use Rattle.ras_logic.specs.declared.literal.Literal.TheVariants.{Equal}
use Rattle.ras_logic.specs.declared.problem.Problem.{Problem}
use Rattle.ras_logic.specs.Formulas.{IsNoParam, HasNoParam}
use Rattle.ras_logic.specs.Places.{IsFirstBad}
use Rattle.ras_logic.specs.CubeFaults.{IsCubeFault}
use Rattle.ras_logic.specs.declared.cube_fault.CubeFault.{CubeFault}
use Rattle.ras_logic.specs.declared.cube_fault.CubeFault.TheVariants.{Param as CubeParam}
use Rattle.ras_lines.specs.Lines.{spaced, counted, AreWritten}
use Rattle.ras_lines.specs.Words.{base_word, path_word, term_word, literal_word, relation_word, cube_line, IsSmallBase, IsSmallFunction, IsSmallTerm, IsSmallLiteral, IsSmallRelation, IsSmallCube}
use Rattle.ras_lines.specs.Fronts.{Front, follow, prepend, IsExact}
use Rattle.ras_lines.specs.Numbers.{behind, either, fixed, small_number, announced}
use Rattle.ras_lines.specs.Formulas as first
use Rattle.ras_lines.proofs.Behind.{behind_sound}
use Rattle.ras_lines.proofs.Loops.{prepend-nil, prepend_push, prepend_done}
use Rattle.ras_lines.proofs.Exact.{followed, moved, either_case, joined, prepended, fixed_sound, NoDigit, small_again, small_sound, EndsWord, after_word, no_digit, announced_text, announced_exact}

-- neither a digit nor a `/` comes next
abbrev pub EndsTerm : List ℕ → Type 0
EndsTerm [] = Unit {0}
EndsTerm (b ∷ bytes) = (is_ascii_digit b ≡ false) × (eqb b 47 ≡ false)

ends_term : (rest : List ℕ) → EndsWord rest → EndsTerm rest
ends_term rest h = after_word EndsTerm tt (λ bytes. (refl, refl)) rest h

term_no_digit : (rest : List ℕ) → EndsTerm rest → NoDigit rest
term_no_digit [] h = tt
term_no_digit (b ∷ bytes) h = h.0

-- Relations.

pub relation_exact : IsExact EndsWord relation_word IsSmallRelation first.relation
relation_exact = record {
  sound = λ bytes r rest e.
      let s = followed (small_number bytes) (λ n more. let o : Front ℕ RelId = Ok (record { n = n }, more) in o) r rest e in
      let d = small_sound bytes s.1 s.0 s.2 in
      moved relation_word IsSmallRelation bytes (record { n = s.0 }) r s.1 rest s.3 d.0 d.1;
  again = λ r rest small ends. rw (small_again r.n rest small (no_digit rest ends)) refl;
}

-- Bases.

abbrev BaseIs : List ℕ → Base → List ℕ → Type 0
BaseIs bytes b rest = (bytes ≡ base_word b ++ rest) × IsSmallBase b

numbered : (make : ℕ → Base) (letter : List ℕ) → ((n : ℕ) → base_word (make n) ≡ letter ++ decimal n) → ((n : ℕ) → n < 2 ^ 16 → IsSmallBase (make n))
    → (bytes more rest : List ℕ) (b : Base) → bytes ≡ letter ++ more → follow (small_number more) (λ n r. let o : Front ℕ Base = Ok (make n, r) in o) ≡ Ok (b, rest) → BaseIs bytes b rest
numbered make letter word small bytes more rest b parts e =
    let s = followed (small_number more) (λ n r. let o : Front ℕ Base = Ok (make n, r) in o) b rest e in
    let d = small_sound more s.1 s.0 s.2 in
    moved base_word IsSmallBase bytes (make s.0) b s.1 rest s.3 (joined letter (decimal s.0) bytes more s.1 parts d.0 ∙ ap (λ (w : List ℕ). w ++ s.1) (sym (word s.0))) (small s.0 d.1)

cell_sound : (bytes more rest : List ℕ) (b : Base) → bytes ≡ codes "r" ++ more → first.cell more ≡ Ok (b, rest) → BaseIs bytes b rest
cell_sound bytes more rest b parts e =
    let s = followed (small_number more) (λ row dot. follow (fixed (codes ".") dot) (λ _ number. follow (small_number number) (λ column r. let o : Front ℕ Base = Ok (Cell row column, r) in o))) b rest e in
    let t = followed (fixed (codes ".") s.1) (λ _ number. follow (small_number number) (λ column r. let o : Front ℕ Base = Ok (Cell s.0 column, r) in o)) b rest s.3 in
    let u = followed (small_number t.1) (λ column r. let o : Front ℕ Base = Ok (Cell s.0 column, r) in o) b rest t.3 in
    let row = small_sound more s.1 s.0 s.2 in
    let column = small_sound t.1 u.1 u.0 u.2 in
    moved base_word IsSmallBase bytes (Cell s.0 u.0) b u.1 rest u.3
    (joined (codes "r") (decimal s.0 ++ (codes "." ++ decimal u.0)) bytes more u.1 parts
    (joined (decimal s.0) (codes "." ++ decimal u.0) more s.1 u.1 row.0 (joined (codes ".") (decimal u.0) s.1 t.1 u.1 (fixed_sound (codes ".") s.1 t.1 t.0 t.2) column.0)))
    (row.1, column.1)

pub base_sound : (bytes : List ℕ) (b : Base) (rest : List ℕ) → first.base bytes ≡ Ok (b, rest) → BaseIs bytes b rest
base_sound bytes b rest =
    let P : Front ℕ Base → Type 0 = λ o. o ≡ Ok (b, rest) → BaseIs bytes b rest in
    either_case (behind (codes "v") bytes) first.variable _ P
    (λ more is. numbered (λ n. Var (record { n = n })) (codes "v") (λ n. refl) (λ n lt. lt) bytes more rest b (behind_sound (codes "v") bytes more is))
    (either_case (behind (codes "c") bytes) first.constant _ P
    (λ more is. numbered (λ n. Constant (record { n = n })) (codes "c") (λ n. refl) (λ n lt. lt) bytes more rest b (behind_sound (codes "c") bytes more is))
    (either_case (behind (codes "u") bytes) first.undef _ P
    (λ more is. numbered (λ n. Undef (record { n = n })) (codes "u") (λ n. refl) (λ n lt. lt) bytes more rest b (behind_sound (codes "u") bytes more is))
    (either_case (behind (codes "r") bytes) first.cell _ P (λ more is. cell_sound bytes more rest b (behind_sound (codes "r") bytes more is)) (λ e. absurd cc))))

pub base_again : (b : Base) (rest : List ℕ) → IsSmallBase b → NoDigit rest → first.base (base_word b ++ rest) ≡ Ok (b, rest)
base_again (Var v) rest small none = rw (small_again v.n rest small none) refl
base_again (Constant c) rest small none = rw (small_again c.n rest small none) refl
base_again (Undef s) rest small none = rw (small_again s.n rest small none) refl
base_again (Param p) rest small none = absurd small
base_again (Cell row column) rest small none =
    ap (λ (l : List ℕ). first.base (codes "r" ++ l)) (append_assoc (decimal row) (codes "." ++ decimal column) rest)
    ∙ ap (λ (o : Front ℕ ℕ). follow o (λ row dot. follow (fixed (codes ".") dot) (λ _ number. follow (small_number number) (λ column r. let o : Front ℕ Base = Ok (Cell row column, r) in o))))
    (small_again row (codes "." ++ (decimal column ++ rest)) small.0 refl)
    ∙ ap (λ (o : Front ℕ ℕ). follow o (λ column r. let o : Front ℕ Base = Ok (Cell row column, r) in o)) (small_again column rest small.1 none)

-- Paths.

shorter : (bytes more rest : List ℕ) (n : ℕ) → bytes ≡ codes "/" ++ more → small_number more ≡ Ok (n, rest) → suc (length rest) ≤ length bytes
shorter bytes more rest n parts e =
    let d = small_sound more rest n e in
    omega (arith, ap length parts, length-append (codes "/") more, ap length d.0, length-append (decimal n) rest)

enough_number : (k j : ℕ) (more : List ℕ) (s : Front ℕ ℕ) → ((n : ℕ) (rest : List ℕ) → s ≡ Ok (n, rest) → first.path_up_to k rest ≡ first.path_up_to j rest)
    → follow s (λ n rest. prepend (record { n = n } ∷ []) (first.path_up_to k rest)) ≡ follow s (λ n rest. prepend (record { n = n } ∷ []) (first.path_up_to j rest))
enough_number k j more (Ok p) on = ap (prepend (record { n = p.0 } ∷ [])) (on p.0 p.1 refl)
enough_number k j more (Err left) on = refl

enough_slash : (k j : ℕ) (bytes : List ℕ) (o : Option (List ℕ)) → behind (codes "/") bytes ≡ o → ((rest : List ℕ) → suc (length rest) ≤ length bytes → first.path_up_to k rest ≡ first.path_up_to j rest)
    → either o (λ more. follow (small_number more) (λ n rest. prepend (record { n = n } ∷ []) (first.path_up_to k rest))) (Ok ([], bytes))
    ≡ either o (λ more. follow (small_number more) (λ n rest. prepend (record { n = n } ∷ []) (first.path_up_to j rest))) (Ok ([], bytes))
enough_slash k j bytes None is on = refl
enough_slash k j bytes (Some more) is on =
    enough_number k j more (small_number more) (λ n rest e. on rest (shorter bytes more rest n (behind_sound (codes "/") bytes more is) e))

pub path_enough : (k j : ℕ) (bytes : List ℕ) → length bytes ≤ k → length bytes ≤ j → first.path_up_to k bytes ≡ first.path_up_to j bytes
path_enough zero zero bytes h i = refl
path_enough zero (suc j) [] h i = refl
path_enough zero (suc j) (b ∷ bytes) h i = absurd (omega arith)
path_enough (suc k) zero [] h i = refl
path_enough (suc k) zero (b ∷ bytes) h i = absurd (omega arith)
path_enough (suc k) (suc j) bytes h i =
    enough_slash k j bytes (behind (codes "/") bytes) refl (λ rest lt. path_enough k j rest (omega (arith, lt, h)) (omega (arith, lt, i)))

-- one function, and then the others
pub path_next : (xs : List FunId) (bytes more rest : List ℕ) (n : ℕ) → behind (codes "/") bytes ≡ Some more → small_number more ≡ Ok (n, rest)
    → prepend xs (first.path bytes) ≡ prepend (xs ++ record { n = n } ∷ []) (first.path rest)
path_next xs bytes more rest n is e =
    let f : FunId = record { n = n } in
    let len : length bytes ≡ suc (length more) = ap length (behind_sound (codes "/") bytes more is) in
    let less : length rest ≤ length more = let d = small_sound more rest n e in omega (arith, ap length d.0, length-append (decimal n) rest) in
    let one : first.path_up_to (suc (length more)) bytes ≡ prepend (f ∷ []) (first.path_up_to (length more) rest) = rw (is, e) refl in
    let all : first.path bytes ≡ prepend (f ∷ []) (first.path rest) =
    ap (λ (k : ℕ). first.path_up_to k bytes) len ∙ one ∙ ap (prepend (f ∷ [])) (path_enough (length more) (length rest) rest less (omega arith)) in
    ap (prepend xs) all ∙ prepend_push xs f (first.path rest)

path_err : (k : ℕ) (bytes more left : List ℕ) → behind (codes "/") bytes ≡ Some more → small_number more ≡ Err left → 0 < k → first.path_up_to k bytes ≡ Err left
path_err zero bytes more left is e lt = absurd (omega arith)
path_err (suc k) bytes more left is e lt = rw (is, e) refl

pub path_stop : (xs : List FunId) (bytes more left : List ℕ) → behind (codes "/") bytes ≡ Some more → small_number more ≡ Err left → prepend xs (first.path bytes) ≡ Err left
path_stop xs bytes more left is e =
    let len : length bytes ≡ suc (length more) = ap length (behind_sound (codes "/") bytes more is) in
    ap (prepend xs) (path_err (length bytes) bytes more left is e (omega (arith, len)))

path_nothing : (k : ℕ) (bytes : List ℕ) → behind (codes "/") bytes ≡ None → first.path_up_to k bytes ≡ Ok ([], bytes)
path_nothing zero bytes is = refl
path_nothing (suc k) bytes is = rw is refl

pub path_done : (xs : List FunId) (bytes : List ℕ) → behind (codes "/") bytes ≡ None → prepend xs (first.path bytes) ≡ Ok (xs, bytes)
path_done xs bytes is = ap (prepend xs) (path_nothing (length bytes) bytes is) ∙ prepend_done xs bytes

pub path_start : (bytes : List ℕ) → first.path bytes ≡ prepend [] (first.path bytes)
path_start bytes = sym (prepend-nil (first.path bytes))

pub ruleset path_laws = (path_start, path_next, path_stop, path_done)

abbrev PathIs : List ℕ → List FunId → List ℕ → Type 0
PathIs bytes p rest = (bytes ≡ path_word p ++ rest) × AllByRecursion IsSmallFunction p

path_sound : (k : ℕ) (bytes : List ℕ) (p : List FunId) (rest : List ℕ) → first.path_up_to k bytes ≡ Ok (p, rest) → PathIs bytes p rest
path_sound zero bytes p rest e = moved path_word (AllByRecursion IsSmallFunction) bytes [] p bytes rest e refl tt
path_sound (suc k) bytes p rest e =
    either_case (behind (codes "/") bytes) _ _ (λ (o : Front ℕ (List FunId)). o ≡ Ok (p, rest) → PathIs bytes p rest)
    (λ more is f.
    let s = followed (small_number more) (λ n r. prepend (record { n = n } ∷ []) (first.path_up_to k r)) p rest f in
    let g : FunId = record { n = s.0 } in
    let d = small_sound more s.1 s.0 s.2 in
    let t = prepended (g ∷ []) (first.path_up_to k s.1) p rest s.3 in
    let on = path_sound k s.1 t.0 rest t.1 in
    subst (λ (q : List FunId). PathIs bytes q rest) (sym t.2)
    (joined (codes "/" ++ decimal s.0) (path_word t.0) bytes s.1 rest (joined (codes "/") (decimal s.0) bytes more s.1 (behind_sound (codes "/") bytes more is) d.0) on.0, (d.1, on.1)))
    (λ f. moved path_word (AllByRecursion IsSmallFunction) bytes [] p bytes rest f refl tt) e

no_slash : (rest : List ℕ) → EndsTerm rest → behind (codes "/") rest ≡ None
no_slash [] h = refl
no_slash (b ∷ bytes) h = rw (h.1) refl

path_no_digit : (p : List FunId) (rest : List ℕ) → EndsTerm rest → NoDigit (path_word p ++ rest)
path_no_digit [] rest h = term_no_digit rest h
path_no_digit (f ∷ p) rest h = refl

path_again : (p : List FunId) (k : ℕ) (rest : List ℕ) → length (path_word p ++ rest) ≤ k → AllByRecursion IsSmallFunction p → EndsTerm rest → first.path_up_to k (path_word p ++ rest) ≡ Ok (p, rest)
path_again [] k rest le small ends = path_nothing k rest (no_slash rest ends)
path_again (f ∷ p) zero rest le small ends = absurd (omega (arith, le))
path_again (f ∷ p) (suc k) rest le small ends =
    let word : List ℕ = decimal f.n in
    ap (λ (l : List ℕ). first.path_up_to (suc k) (47 ∷ l)) (append_assoc word (path_word p) rest)
    ∙ ap (λ (o : Front ℕ ℕ). follow o (λ n r. prepend (record { n = n } ∷ []) (first.path_up_to k r))) (small_again f.n (path_word p ++ rest) small.0 (path_no_digit p rest ends))
    ∙ ap (prepend (f ∷ [])) (path_again p k rest (omega (arith, le, length-append (word ++ path_word p) rest, length-append word (path_word p), length-append (path_word p) rest)) small.1 ends)

-- Terms.

term_exact : IsExact EndsTerm term_word IsSmallTerm first.term
term_exact = record {
  sound = λ bytes t rest e.
      let s = followed (first.base bytes) (λ b more. follow (first.path more) (λ p r. let o : Front ℕ Term = Ok (record { base = b; path = p }, r) in o)) t rest e in
      let u = followed (first.path s.1) (λ p r. let o : Front ℕ Term = Ok (record { base = s.0; path = p }, r) in o) t rest s.3 in
      let b = base_sound bytes s.0 s.1 s.2 in
      let p = path_sound (length s.1) s.1 u.0 u.1 u.2 in
      moved term_word IsSmallTerm bytes (record { base = s.0; path = u.0 }) t u.1 rest u.3 (joined (base_word s.0) (path_word u.0) bytes s.1 u.1 b.0 p.0) (record { base = b.1; path = p.1 });
  again = λ t rest small ends.
      let behind_base : List ℕ = path_word t.path ++ rest in
      ap first.term (append_assoc (base_word t.base) (path_word t.path) rest)
      ∙ ap (λ (o : Front ℕ Base). follow o (λ b more. follow (first.path more) (λ p r. let o : Front ℕ Term = Ok (record { base = b; path = p }, r) in o)))
      (base_again t.base behind_base small.base (path_no_digit t.path rest ends))
      ∙ ap (λ (o : Front ℕ (List FunId)). follow o (λ p r. let o : Front ℕ Term = Ok (record { base = t.base; path = p }, r) in o))
      (path_again t.path (length behind_base) rest (omega arith) small.path ends);
}

-- Literals.

abbrev sign_word : Bool → List ℕ
sign_word true = codes "="
sign_word false = codes "!="

sign_sound : (bytes : List ℕ) (same : Bool) (rest : List ℕ) → first.sign bytes ≡ Ok (same, rest) → bytes ≡ sign_word same ++ rest
sign_sound bytes same rest =
    let P : Front ℕ Bool → Type 0 = λ o. o ≡ Ok (same, rest) → bytes ≡ sign_word same ++ rest in
    either_case (behind (codes "=") bytes) _ _ P
    (λ r is e. (moved sign_word (λ _. Unit {0}) bytes true same r rest e (behind_sound (codes "=") bytes r is) tt).0)
    (either_case (behind (codes "!=") bytes) _ _ P
    (λ r is e. (moved sign_word (λ _. Unit {0}) bytes false same r rest e (behind_sound (codes "!=") bytes r is) tt).0)
    (λ e. absurd cc))

sign_again : (same : Bool) (rest : List ℕ) → first.sign (sign_word same ++ rest) ≡ Ok (same, rest)
sign_again true rest = refl
sign_again false rest = refl

sign_ends : (same : Bool) (rest : List ℕ) → EndsTerm (sign_word same ++ rest)
sign_ends true rest = (refl, refl)
sign_ends false rest = (refl, refl)

literal_parts : (left right : Term) (same : Bool) → literal_word (Equal left right same) ≡ term_word left ++ (sign_word same ++ term_word right)
literal_parts left right true = refl
literal_parts left right false = refl

abbrev behind_sign : Term → Bool → List ℕ → Front ℕ Literal
behind_sign left same more = follow (first.term more) (λ right r. Ok (Equal left right same, r))

abbrev behind_left : Term → List ℕ → Front ℕ Literal
behind_left left more = follow (first.sign more) (λ same r. behind_sign left same r)

literal_sound : (bytes : List ℕ) (l : Literal) (rest : List ℕ) → first.literal bytes ≡ Ok (l, rest) → (bytes ≡ literal_word l ++ rest) × IsSmallLiteral l
literal_sound bytes l rest e =
    let s = followed (first.term bytes) behind_left l rest e in
    let t = followed (first.sign s.1) (behind_sign s.0) l rest s.3 in
    let u = followed (first.term t.1) (λ right r. let o : Front ℕ Literal = Ok (Equal s.0 right t.0, r) in o) l rest t.3 in
    let left = term_exact.sound bytes s.0 s.1 s.2 in
    let right = term_exact.sound t.1 u.0 u.1 u.2 in
    let text : bytes ≡ (term_word s.0 ++ (sign_word t.0 ++ term_word u.0)) ++ u.1 =
    joined (term_word s.0) (sign_word t.0 ++ term_word u.0) bytes s.1 u.1 left.0 (joined (sign_word t.0) (term_word u.0) s.1 t.1 u.1 (sign_sound s.1 t.0 t.1 t.2) right.0) in
    moved literal_word IsSmallLiteral bytes (Equal s.0 u.0 t.0) l u.1 rest u.3 (text ∙ ap (λ (w : List ℕ). w ++ u.1) (sym (literal_parts s.0 u.0 t.0))) (left.1, right.1)

literal_again : (l : Literal) (rest : List ℕ) → IsSmallLiteral l → EndsWord rest → first.literal (literal_word l ++ rest) ≡ Ok (l, rest)
literal_again (Equal left right same) rest small ends =
    let second : List ℕ = term_word right ++ rest in
    let text : literal_word (Equal left right same) ++ rest ≡ term_word left ++ (sign_word same ++ second) =
    ap (λ (w : List ℕ). w ++ rest) (literal_parts left right same) ∙ append_assoc (term_word left) (sign_word same ++ term_word right) rest
    ∙ ap (λ (w : List ℕ). term_word left ++ w) (append_assoc (sign_word same) (term_word right) rest) in
    ap first.literal text
    ∙ ap (λ (o : Front ℕ Term). follow o behind_left) (term_exact.again left (sign_word same ++ second) small.0 (sign_ends same second))
    ∙ ap (λ (o : Front ℕ Bool). follow o (behind_sign left)) (sign_again same second)
    ∙ ap (λ (o : Front ℕ Term). follow o (λ right r. let o : Front ℕ Literal = Ok (Equal left right same, r) in o)) (term_exact.again right rest small.1 (ends_term rest ends))

pub literal_exact : IsExact EndsWord literal_word IsSmallLiteral first.literal
literal_exact = record { sound = literal_sound; again = literal_again }

-- Cubes.

-- words that are counted: their number, and each behind a blank
pub spaced-counted : {X : Type 0} (word : X → List ℕ) (xs : List X) → spaced (counted (map word xs)) ≡ announced_text word xs
spaced-counted word xs =
    ap (λ (n : ℕ). (32 ∷ decimal n) ++ spaced (map word xs)) (length-map xs word)
    ∙ ap (λ (bs : List ℕ). (32 ∷ decimal (length xs)) ++ bs) (flat_map-map (λ (w : List ℕ). 32 ∷ w) word xs)

cube_text : (p : Problem) → cube_line p ≡ codes "cube" ++ (announced_text relation_word p.rows ++ announced_text literal_word p.literals)
cube_text p =
    ap (λ (w : List ℕ). codes "cube" ++ w) (flat_map-append (λ (w : List ℕ). 32 ∷ w) (counted (map relation_word p.rows)) (counted (map literal_word p.literals)))
    ∙ ap (λ (w : List ℕ). codes "cube" ++ (w ++ spaced (counted (map literal_word p.literals)))) (spaced-counted relation_word p.rows)
    ∙ ap (λ (w : List ℕ). codes "cube" ++ (announced_text relation_word p.rows ++ w)) (spaced-counted literal_word p.literals)

abbrev cube_of : List RelId → List Literal → Problem
cube_of rows literals = record { rows = rows; params = []; literals = literals }

abbrev behind_rows : List RelId → List ℕ → Front ℕ Problem
behind_rows rows more = follow (announced first.literal more) (λ literals r. Ok (cube_of rows literals, r))

abbrev behind_cube : List ℕ → Front ℕ Problem
behind_cube more = follow (announced first.relation more) behind_rows

rows_exact : IsExact EndsWord (announced_text relation_word) (AreWritten IsSmallRelation) (announced first.relation)
rows_exact = announced_exact relation_word IsSmallRelation first.relation relation_exact

literals_exact : IsExact EndsWord (announced_text literal_word) (AreWritten IsSmallLiteral) (announced first.literal)
literals_exact = announced_exact literal_word IsSmallLiteral first.literal literal_exact

cube_sound : (bytes : List ℕ) (p : Problem) (rest : List ℕ) → first.cube bytes ≡ Ok (p, rest) → (bytes ≡ cube_line p ++ rest) × IsSmallCube p
cube_sound bytes p rest e =
    let s = followed (fixed (codes "cube") bytes) (λ _ more. behind_cube more) p rest e in
    let t = followed (announced first.relation s.1) behind_rows p rest s.3 in
    let u = followed (announced first.literal t.1) (λ literals r. let o : Front ℕ Problem = Ok (cube_of t.0 literals, r) in o) p rest t.3 in
    let rows = rows_exact.sound s.1 t.0 t.1 t.2 in
    let literals = literals_exact.sound t.1 u.0 u.1 u.2 in
    let text : bytes ≡ (codes "cube" ++ (announced_text relation_word t.0 ++ announced_text literal_word u.0)) ++ u.1 =
    joined (codes "cube") (announced_text relation_word t.0 ++ announced_text literal_word u.0) bytes s.1 u.1 (fixed_sound (codes "cube") bytes s.1 s.0 s.2)
    (joined (announced_text relation_word t.0) (announced_text literal_word u.0) s.1 t.1 u.1 rows.0 literals.0) in
    moved cube_line IsSmallCube bytes (cube_of t.0 u.0) p u.1 rest u.3 (text ∙ ap (λ (w : List ℕ). w ++ u.1) (sym (cube_text (cube_of t.0 u.0))))
    (record { params = refl; rows = rows.1; literals = literals.1 })

cube_again : (p : Problem) (rest : List ℕ) → IsSmallCube p → EndsWord rest → first.cube (cube_line p ++ rest) ≡ Ok (p, rest)
cube_again p rest small ends =
    let R : List ℕ = announced_text relation_word p.rows in
    let L : List ℕ = announced_text literal_word p.literals in
    let text : cube_line p ++ rest ≡ codes "cube" ++ (R ++ (L ++ rest)) =
    ap (λ (w : List ℕ). w ++ rest) (cube_text p) ∙ append_assoc (codes "cube") (R ++ L) rest ∙ ap (λ (w : List ℕ). codes "cube" ++ w) (append_assoc R L rest) in
    ap first.cube text
    ∙ ap (λ (o : Front ℕ (List RelId)). follow o behind_rows) (rows_exact.again p.rows (L ++ rest) small.rows refl)
    ∙ ap (λ (o : Front ℕ (List Literal)). follow o (λ literals r. let o : Front ℕ Problem = Ok (cube_of p.rows literals, r) in o))
    (literals_exact.again p.literals rest small.literals ends)
    ∙ ap (λ (ps : List SortId). let o : Front ℕ Problem = Ok (record { rows = p.rows; params = ps; literals = p.literals }, rest) in o) (sym small.params)

pub cube_exact : IsExact EndsWord cube_line IsSmallCube first.cube
cube_exact = record { sound = cube_sound; again = cube_again }

pub word_term_exact : IsExact EndsWord term_word IsSmallTerm first.term
word_term_exact = record { sound = term_exact.sound; again = λ t rest small ends. term_exact.again t rest small (ends_term rest ends) }

small_has_none : (b : Base) → IsSmallBase b → IsNoParam b
small_has_none (Var v) h = tt
small_has_none (Cell row column) h = tt
small_has_none (Constant c) h = tt
small_has_none (Undef s) h = tt
small_has_none (Param p) h = absurd h

literal_has_none : (l : Literal) → IsSmallLiteral l → HasNoParam l
literal_has_none (Equal left right same) h = (small_has_none left.base h.0.base, small_has_none right.base h.1.base)

no_bad : (ls : List Literal) (k : ℕ) (d : Literal) → AllByRecursion IsSmallLiteral ls → k < length ls → HasNoParam (get_or ls k d)
no_bad [] k d small lt = absurd (omega arith)
no_bad (l ∷ ls) zero d small lt = literal_has_none l small.0
no_bad (l ∷ ls) (suc k) d small lt = no_bad ls k d small.1 (omega (arith, lt))

-- a cube that was read names no data parameter
pub names_no_param : (bytes : List ℕ) (p : Problem) (rest : List ℕ) (k : ℕ) → first.cube bytes ≡ Ok (p, rest) → IsFirstBad HasNoParam p.literals k → ⊥
names_no_param bytes p rest k e bad =
    let some : Literal = Equal (record { base = Param 0; path = [] }) (record { base = Param 0; path = [] }) true in
    bad.bad some (no_bad p.literals k some (cube_sound bytes p rest e).1.literals.each bad.within)

pub has_no_fault : (bytes : List ℕ) (p : Problem) (rest : List ℕ) (f : CubeFault) → first.cube bytes ≡ Ok (p, rest) → IsCubeFault p.literals f → ⊥
has_no_fault bytes p rest (CubeParam k) e bad = names_no_param bytes p rest k e bad
