-- What the facts and the rules ask of the classes.
use Rattle.std.proofs.Common.{◌≡◌, ℕ, zero, suc, ◌<◌, List, [], ◌∷◌, length, get_or, refl, ap, subst, arith, true, ◌≤◌, ◌⊎◌, ⊎_elim}
use Rattle.std.specs.Prelude.{slice_get, Option, Some, None, MatchOption}
use Rattle.std.proofs.lemmas.Bool.{eq-eqb}
use Rattle.std.proofs.lemmas.Option.{none-some, same_Some, slice_get_within, slice_get-get_or}
use Rattle.ras_logic.specs.declared.ids.SortId.{SortId}
use Rattle.ras_logic.specs.declared.term.Base.TheVariants.{Undef}
use Rattle.ras_logic.specs.declared.literal.Literal.{Literal}
use Rattle.ras_logic.specs.declared.literal.Literal.TheVariants.{Equal}
use Rattle.ras_refute.specs.declared.entry.Entry.{Entry}
use Rattle.ras_refute.specs.declared.entry.Entry.TheVariants.{Root}
use Rattle.ras_refute.specs.declared.entry.Pair.{Pair}
use Rattle.ras_refute.specs.Tables.{terms_of, AreSidesOf, AreAllSides, HasUndefs}
use Rattle.ras_logic.specs.Schemas.{SchemaParts}
use Rattle.ras_refute.specs.declared.table.Table.{Table}
use Rattle.ras_refute.specs.declared.rules.Pending.{Pending}
use Rattle.ras_refute.specs.Classes.{class, RespectFacts, IsViolated, RespectRulesAt, AreClosed, IsDue, by_fact}
use Rattle.ras_refute.proofs.Entries.{length-terms_of}

-- the undef of a sort is in the table
pub undef-within : (sorts : ℕ) (es : List Entry) → HasUndefs sorts es → (s : SortId) → s.n < sorts → s.n < length es
undef-within sorts es undefs s lt = slice_get_within es s.n (Root (Undef s)) (undefs s lt)

-- each fact has two sides
pub length-sides : (es : List Entry) (facts : List Literal) (sides : List Pair) → AreAllSides es facts sides → length sides ≡ length facts
length-sides es [] [] h = refl
length-sides es [] (x ∷ xs) h = absurd h
length-sides es (l ∷ ls) [] h = absurd h
length-sides es (l ∷ ls) (x ∷ xs) h = ap suc (length-sides es ls xs h.1)

pub sides-at : (es : List Entry) (facts : List Literal) (sides : List Pair) → AreAllSides es facts sides → (k : ℕ) (fact : Literal) (pair : Pair)
    → slice_get facts k ≡ Some fact → slice_get sides k ≡ Some pair → AreSidesOf es fact pair
sides-at es [] sides h k fact pair f p = absurd (none-some fact f)
sides-at es (l ∷ ls) [] h k fact pair f p = absurd h
sides-at es (l ∷ ls) (x ∷ xs) h zero fact pair f p = subst (λ (q : Literal). AreSidesOf es q pair) (same_Some l fact f) (subst (λ (y : Pair). AreSidesOf es l y) (same_Some x pair p) h.0)
sides-at es (l ∷ ls) (x ∷ xs) h (suc k) fact pair f p = sides-at es ls xs h.1 k fact pair f p

side_within : (es : List Entry) (fact : Literal) (pair : Pair) → AreSidesOf es fact pair → (pair.left < length es) × (pair.right < length es)
side_within es (Equal left right same) pair h =
    (rw (← length-terms_of es) (slice_get_within (terms_of es) pair.left left h.0), rw (← length-terms_of es) (slice_get_within (terms_of es) pair.right right h.1))

-- the sides of a fact are in the table
pub pair-within : (es : List Entry) (facts : List Literal) (sides : List Pair) → AreAllSides es facts sides → (k : ℕ) (pair : Pair) → slice_get sides k ≡ Some pair
    → (pair.left < length es) × (pair.right < length es)
pair-within es [] [] h k pair p = absurd (none-some pair p)
pair-within es [] (x ∷ xs) h k pair p = absurd h
pair-within es (l ∷ ls) [] h k pair p = absurd h
pair-within es (l ∷ ls) (x ∷ xs) h zero pair p = subst (λ (y : Pair). (y.left < length es) × (y.right < length es)) (same_Some x pair p) (side_within es l x h.0)
pair-within es (l ∷ ls) (x ∷ xs) h (suc k) pair p = pair-within es ls xs h.1 k pair p

-- the sides of a fact that are read from the list
pub record IsRead (es : List Entry) (sides : List Pair) (k : ℕ) (pair : Pair) : Type 0 where
  pub at : slice_get sides k ≡ Some pair
  pub left : pair.left < length es
  pub right : pair.right < length es

pub sides-read : (es : List Entry) (facts : List Literal) (sides items : List Pair) (k : ℕ) → AreAllSides es facts sides → items ≡ sides → k < length facts
    → IsRead es sides k (get_or items k (record { left = 0; right = 0 }))
sides-read es facts sides items k numbers e lt =
    let pair : Pair = get_or items k (record { left = 0; right = 0 }) in
    let at : slice_get sides k ≡ Some pair = rw e (slice_get-get_or sides k (record { left = 0; right = 0 }) (omega (arith, lt, length-sides es facts sides numbers))) in
    let within = pair-within es facts sides numbers k pair at in
    record { at = at; left = within.0; right = within.1 }

-- the sides of a fact that says the same belong in one class
pub pending-due : (schema : SchemaParts) (facts : List Literal) (t : Table) (classes : List ℕ) (pair : Pair) → AreAllSides t.entries facts t.sides
    → IsViolated facts t.sides classes true pair → IsDue schema facts t classes pair
pending-due schema facts t classes pair numbers pending =
    let within = pair-within t.entries facts t.sides numbers pending.place pair pending.numbers in
    record {
      due = by_fact pending.place pending.fact pair pending.known pending.numbers pending.says;
      differ = λ e. absurd (cc (eq-eqb (class classes pair.left) (class classes pair.right) e, pending.differ));
      left = within.0;
      right = within.1;
    }

-- no rule asks for more at the terms from a number on, and the look over those before it is told of
pub closed-or-due : (schema : SchemaParts) (facts : List Literal) (t : Table) (classes : List ℕ) (first : ℕ) (found : Option Pending) → first ≤ length t.entries → RespectFacts facts t.sides classes true
    → ((i : ℕ) → i < length t.entries → first ≤ i → RespectRulesAt schema t.entries classes i)
    → MatchOption found ((i : ℕ) → i < first → 0 ≤ i → RespectRulesAt schema t.entries classes i) (λ (u : Pending). (u.at < first) × ((fs : List Literal) → IsDue schema fs t classes u.pair))
    → MatchOption found (AreClosed schema facts t classes) (λ (u : Pending). (u.at ≤ length t.entries) × IsDue schema facts t classes u.pair)
closed-or-due schema facts t classes first (Some u) within stated after before = (omega (arith, before.0, within), before.1 facts)
closed-or-due schema facts t classes first None within stated after before = record {
  stated = stated;
  rules = λ i lt. ⊎_elim (λ (h : i < first). before i h (omega arith)) (λ (h : first ≤ i). after i lt h) (first_or_later i first);
}
  where
    first_or_later : (i k : ℕ) → (i < k) ⊎ (k ≤ i)
    first_or_later i k = grind arith
