-- Steps of a derivation that facts clash, and a test that they do not.
use Rattle.std.proofs.Common.{◌≡◌, ℕ, zero, suc, Bool, true, List, [], ◌∷◌, ◌++◌, refl, sym, ap, arith, append-nil}
use Rattle.std.specs.Prelude.{Some, slice_get, Contains, ◌&&◌}
use Rattle.std.specs.List.{list_all}
use Rattle.std.proofs.lemmas.Bool.{and_parts}
use Rattle.ras_logic.specs.declared.ids.FunId.{FunId}
use Rattle.ras_logic.specs.declared.ids.SortId.{SortId}
use Rattle.ras_logic.specs.declared.ids.RelId.{RelId}
use Rattle.ras_logic.specs.declared.term.Term.{Term}
use Rattle.ras_logic.specs.declared.literal.Literal.{Literal}
use Rattle.ras_logic.specs.declared.raw_db.RawDb.{RawDb}
use Rattle.ras_logic.specs.declared.values.Values.{Values}
use Rattle.ras_logic.specs.Schemas.{SchemaParts}
use Rattle.ras_logic.specs.Shapes.{ShapeParts}
use Rattle.ras_logic.specs.Terms.{constant_term}
use Rattle.ras_logic.specs.Truth.{holds}
use Rattle.ras_logic.specs.Clashes.{sides, IsTerm, Together, Clash, FactsClash, of_literals, stated, stated_apart, two_constants}
use Rattle.ras_logic.proofs.Clashes.{clash-none}
use Rattle.ras_vectors.specs.Words.{constant, same, apart}
use Rattle.ras_vectors.proofs.DataTests.{is_schema, is_schema-passed, is_database, is_database-passed, are_values, are_values-passed, literal_fits, literals_fit, all_hold}

-- the element at this place of the list
pub nth : {X : Type 0} (xs : List X) (k : ℕ) (x : X) → slice_get xs k ≡ Some x → Contains xs x
nth [] k x e = absurd (cc)
nth (y ∷ xs) zero x e = (0, omega arith, (let q : y ≡ x = cc in q))
nth (y ∷ xs) (suc k) x e = let i = nth xs k x e in (suc i.0, omega (arith, i.1), i.2)

-- the side at this place, and what it is an image of
pub part_of_side : (schema : SchemaParts) (literals : List Literal) (k : ℕ) (t p : Term) (rest : List FunId)
    → slice_get (sides literals) k ≡ Some t → p.base ≡ t.base → t.path ≡ p.path ++ rest → IsTerm schema literals p
part_of_side schema literals k t p rest at base path = of_literals t (nth (sides literals) k t at) (base, (rest, path))

pub side : (schema : SchemaParts) (literals : List Literal) (k : ℕ) (t : Term) → slice_get (sides literals) k ≡ Some t → IsTerm schema literals t
side schema literals k t at = part_of_side schema literals k t t [] at refl (sym (append-nil t.path))

-- facts over the terms of some literals: the fact at a place, and one that is denied
module _ (schema : SchemaParts) (literals facts : List Literal) where
  pub said_over : (k : ℕ) (s t : Term) → slice_get facts k ≡ Some (same s t) → Together schema literals (Contains facts) s t
  said_over k s t at = stated s t (nth facts k (same s t) at)

  pub denied_over : (k : ℕ) (s t : Term) → slice_get facts k ≡ Some (apart s t) → Together schema literals (Contains facts) s t → Clash schema literals (Contains facts)
  denied_over k s t at r = stated_apart s t (nth facts k (apart s t) at) r

-- the same over the terms of the facts themselves
module _ (schema : SchemaParts) (facts : List Literal) where
  pub said : (k : ℕ) (s t : Term) → slice_get facts k ≡ Some (same s t) → Together schema facts (Contains facts) s t
  said k s t at = said_over schema facts facts k s t at

  pub denied : (k : ℕ) (s t : Term) → slice_get facts k ≡ Some (apart s t) → Together schema facts (Contains facts) s t → FactsClash schema facts
  denied k s t at r = denied_over schema facts facts k s t at r

  -- one fact says what another denies
  pub said_and_denied : (j k : ℕ) (s t : Term) → slice_get facts j ≡ Some (same s t) → slice_get facts k ≡ Some (apart s t) → FactsClash schema facts
  said_and_denied j k s t first second = denied k s t second (said j s t first)

  pub constants_together : (a b : ℕ) → (a ≡ b → ⊥) → Together schema facts (Contains facts) (constant_term (constant a)) (constant_term (constant b)) → FactsClash schema facts
  constants_together a b differ r = two_constants (constant a) (constant b) (λ e. differ (ap (λ x. x.n) e)) r

-- facts that hold in a database under some values do not clash
abbrev pub hold_together : ShapeParts → List RelId → List SortId → List Literal → RawDb → Values → Bool
hold_together shape rows params facts d v =
    is_schema shape.schema && (list_all (literal_fits shape rows params) facts && (is_database shape.schema d && (are_values shape d rows params v && list_all (holds d v) facts)))

pub hold_together-no_clash : (shape : ShapeParts) (rows : List RelId) (params : List SortId) (facts : List Literal) (d : RawDb) (v : Values)
    → hold_together shape rows params facts d v ≡ true → FactsClash shape.schema facts → ⊥
hold_together-no_clash shape rows params facts d v h =
    let fit : Bool = list_all (literal_fits shape rows params) facts in
    let values : Bool = are_values shape d rows params v in
    let hold : Bool = list_all (holds d v) facts in
    let a = and_parts (is_schema shape.schema) (fit && (is_database shape.schema d && (values && hold))) h in
    let b = and_parts fit (is_database shape.schema d && (values && hold)) a.1 in
    let c = and_parts (is_database shape.schema d) (values && hold) b.1 in
    let e = and_parts values hold c.1 in
    clash-none shape d (is_database-passed shape.schema d c.0) rows params v (are_values-passed shape d rows params v e.0) (is_schema-passed shape.schema a.0)
    facts (literals_fit shape rows params facts b.0) (all_hold d v facts e.1)
