-- Facts clash exactly where they clash in the classes of the least relation.
use Rattle.std.proofs.Common.{◌≡◌, ◌≢◌, ℕ, ◌<◌, Bool, true, false, List, length, get_or, refl, sym, ◌∙◌, ap, subst, arith, ◌⊎◌, inl, inr}
use Rattle.std.specs.Prelude.{slice_get, Option, Some, None, is_some, MatchOption, Contains}
use Rattle.std.proofs.lemmas.Bool.{eqb-true, eq-eqb}
use Rattle.std.proofs.lemmas.Option.{slice_get-get_or}
use Rattle.ras_logic.specs.declared.ids.ConstId.{ConstId}
use Rattle.ras_logic.specs.declared.term.Base as base
use Rattle.ras_logic.specs.declared.term.Base.TheVariants.{Constant, Undef}
use Rattle.ras_logic.specs.declared.term.Term.{Term}
use Rattle.ras_logic.specs.declared.literal.Literal.{Literal}
use Rattle.ras_logic.specs.declared.literal.Literal.TheVariants.{Equal}
use Rattle.ras_logic.specs.Schemas.{SchemaParts, IsSchema}
use Rattle.ras_logic.specs.Terms.{base_term, constant_term, undef_term}
use Rattle.ras_logic.specs.Clashes.{Together, reflexive, stated_apart, two_constants, constant_undef, FactsClash}
use Rattle.ras_refute.specs.declared.entry.Entry.{Entry}
use Rattle.ras_refute.specs.declared.entry.Entry.TheVariants.{Root}
use Rattle.ras_refute.specs.declared.entry.Pair.{Pair}
use Rattle.ras_refute.specs.declared.table.Table.{Table}
use Rattle.ras_logic.specs.Literals.{same_of}
use Rattle.ras_refute.specs.Tables.{IsAt, AreSidesOf, IsTableOf}
use Rattle.ras_refute.specs.Classes.{class, RespectFacts, IsViolated, AreLeast, ArePartial}
use Rattle.ras_refute.specs.declared.entry.Rigid.{Rigid}
use Rattle.ras_refute.specs.declared.entry.Rigid.TheVariants as rigid
use Rattle.ras_refute.specs.Clashing.{rigid_of, HasViolated, HasDistinct, AreBounded}
use Rattle.ras_refute.proofs.Entries.{entry-at, root-entry, at-same, at-within}
use Rattle.ras_refute.proofs.Due.{sides-at, length-sides}
use Rattle.ras_logic.proofs.Elements.{contains-at}
use Rattle.ras_refute.proofs.Least.{Alike, alike}

-- each term in a class of its own
pub separate-partial : (schema : SchemaParts) (facts : List Literal) (t : Table) (classes : List ℕ) → IsTableOf schema facts t → length classes ≡ length t.entries
    → ((i : ℕ) → i < length t.entries → class classes i ≡ i) → ArePartial schema facts t classes
separate-partial schema facts t classes table long each = record {
  table = table;
  as_many = long;
  low = λ i lt. omega (arith, each i lt);
  sound = λ i j s u at_i at_j e.
      let one = each i (at-within t.entries table.table i s at_i) in
      let two = each j (at-within t.entries table.table j u at_j) in
      let same : i ≡ j = sym one ∙ e ∙ two in
      let terms : s ≡ u = at-same t.entries table.table j s u (subst (λ (k : ℕ). IsAt t.entries k s) same at_i) at_j in
      subst (λ (w : Term). Together schema facts (Contains facts) s w) terms (reflexive s (table.known i s at_i));
}

module _ (schema : SchemaParts) (ok : IsSchema schema) (facts : List Literal) (t : Table) (classes : List ℕ) (least : AreLeast schema facts t classes) where
  sides_clash : (fact : Literal) (pair : Pair) → Contains facts fact → same_of fact ≡ false → AreSidesOf t.entries fact pair → class classes pair.left ≡ class classes pair.right → FactsClash schema facts
  sides_clash (Equal left right same) pair inside apart sides together =
      stated_apart left right (subst (λ (b : Bool). Contains facts (Equal left right b)) apart inside) (least.partial.sound pair.left pair.right left right sides.0 sides.1 together)

  violated_clash : HasViolated facts t.sides classes → FactsClash schema facts
  violated_clash (pair, h) =
      sides_clash h.fact pair (contains-at facts h.place h.fact h.known) h.says (sides-at t.entries facts t.sides least.partial.table.numbers h.place h.fact pair h.known h.numbers)
      (eqb-true (class classes pair.left) (class classes pair.right) h.differ)

  distinct_clash : (i j : ℕ) (left right : Entry) (q r : Rigid) → slice_get t.entries i ≡ Some left → slice_get t.entries j ≡ Some right
      → rigid_of left ≡ Some q → rigid_of right ≡ Some r → q ≢ r → class classes i ≡ class classes j → FactsClash schema facts
  distinct_clash i j (Root (Constant c)) (Root (Constant e)) q r is_left is_right rigid_left rigid_right differ together =
      two_constants c e (λ (same : c ≡ e). differ (same_rigid c e q r rigid_left rigid_right same))
      (least.partial.sound i j (constant_term c) (constant_term e)
      (entry-at t.entries least.partial.table.table i (Root (Constant c)) is_left)
      (entry-at t.entries least.partial.table.table j (Root (Constant e)) is_right) together)
    where
      same_rigid : (c e : ConstId) (q r : Rigid) → Some (rigid.Constant c) ≡ Some q → Some (rigid.Constant e) ≡ Some r → c ≡ e → q ≡ r
      same_rigid c e q r h g same = cc
  distinct_clash i j (Root (Constant c)) (Root (Undef s)) q r is_left is_right rigid_left rigid_right differ together =
      constant_undef c s (least.partial.sound i j (constant_term c) (undef_term s)
      (entry-at t.entries least.partial.table.table i (Root (Constant c)) is_left)
      (entry-at t.entries least.partial.table.table j (Root (Undef s)) is_right) together)
  distinct_clash i j (Root (Undef s)) (Root (Constant c)) q r is_left is_right rigid_left rigid_right differ together =
      constant_undef c s (least.partial.sound j i (constant_term c) (undef_term s)
      (entry-at t.entries least.partial.table.table j (Root (Constant c)) is_right)
      (entry-at t.entries least.partial.table.table i (Root (Undef s)) is_left) (sym together))
  distinct_clash i j (Root (Undef s)) (Root (Undef u)) q r is_left is_right rigid_left rigid_right differ together =
      absurd (differ (same_undef q r rigid_left rigid_right))
    where
      same_undef : (q r : Rigid) → Some rigid.Undef ≡ Some q → Some rigid.Undef ≡ Some r → q ≡ r
      same_undef q r h g = cc
  distinct_clash i j left right q r is_left is_right rigid_left rigid_right differ together = absurd (cc)

  pub found-clash : HasViolated facts t.sides classes ⊎ HasDistinct t.entries classes → FactsClash schema facts
  found-clash (inl h) = violated_clash h
  found-clash (inr h) =
      distinct_clash h.i h.j h.left_is.entry h.right_is.entry h.left h.right h.left_is.is h.right_is.is h.left_is.rigid h.right_is.rigid h.differ h.together

  one_place : (i j : ℕ) (s : Term) → IsAt t.entries i s → IsAt t.entries j s → class classes i ≡ class classes j
  one_place i j s a b = ap (class classes) (least.partial.table.table.different i j s a b)

  -- two distinct terms that are together
  distinct_found : (b d : base.Base) (q r : Rigid) → rigid_of (Root b) ≡ Some q → rigid_of (Root d) ≡ Some r → q ≢ r
      → Alike schema ok facts t least.partial.table classes least.closed (base_term b) (base_term d)
      → HasViolated facts t.sides classes ⊎ HasDistinct t.entries classes
  distinct_found b d q r rigid_b rigid_d differ a =
      inr (record {
        i = a.i;
        j = a.j;
        left = q;
        right = r;
        left_is = record { entry = Root b; is = root-entry t.entries least.partial.table.table a.i b a.left; rigid = rigid_b };
        right_is = record { entry = Root d; is = root-entry t.entries least.partial.table.table a.j d a.right; rigid = rigid_d };
        differ = differ;
        together = a.same;
      })

  pub clash-found : FactsClash schema facts → HasViolated facts t.sides classes ⊎ HasDistinct t.entries classes
  clash-found (stated_apart s u inside r) =
      let a = alike schema ok facts t least.partial.table classes least.closed r in
      let fact : Literal = Equal s u false in
      let known : slice_get facts inside.0 ≡ Some fact = slice_get-get_or facts inside.0 fact inside.1 ∙ ap Some inside.2 in
      let pair : Pair = get_or t.sides inside.0 (record { left = 0; right = 0 }) in
      let number : slice_get t.sides inside.0 ≡ Some pair =
      slice_get-get_or t.sides inside.0 (record { left = 0; right = 0 }) (omega (arith, inside.1, length-sides t.entries facts t.sides least.partial.table.numbers)) in
      let at = sides-at t.entries facts t.sides least.partial.table.numbers inside.0 fact pair known number in
      let together = one_place pair.left a.i s at.0 a.left ∙ a.same ∙ one_place a.j pair.right u a.right at.1 in
      inl (
        pair,
        record {
          place = inside.0;
          fact = fact;
          known = known;
          numbers = number;
          says = refl;
          differ = eq-eqb (class classes pair.left) (class classes pair.right) together;
        },
      )
  clash-found (two_constants c e differ r) =
      distinct_found (Constant c) (Constant e) (rigid.Constant c) (rigid.Constant e) refl refl (λ (h : rigid.Constant c ≡ rigid.Constant e). differ (cc))
      (alike schema ok facts t least.partial.table classes least.closed r)
  clash-found (constant_undef c s r) =
      distinct_found (Constant c) (Undef s) (rigid.Constant c) rigid.Undef refl refl (λ (h : rigid.Constant c ≡ rigid.Undef). cc)
      (alike schema ok facts t least.partial.table classes least.closed r)

-- classes of the least relation have the numbers of entries
pub least-bounded : (schema : SchemaParts) (facts : List Literal) (t : Table) (classes : List ℕ) → AreLeast schema facts t classes → AreBounded t.entries classes
least-bounded schema facts t classes least = record {
  as_many = least.partial.as_many;
  low = λ i lt. omega (arith, lt, least.partial.low i lt);
}

-- whether a fact that says not same is violated
pub violated-told : (facts : List Literal) (sides : List Pair) (classes : List ℕ) (found : Option Pair) → MatchOption found (RespectFacts facts sides classes false) (IsViolated facts sides classes false)
    → (is_some found ≡ true → HasViolated facts sides classes) × (HasViolated facts sides classes → is_some found ≡ true)
violated-told facts sides classes None respected = (λ e. absurd (cc), λ (pair, h). absurd (cc (respected h.place h.fact pair h.known h.numbers h.says, h.differ)))
violated-told facts sides classes (Some pair) pending = (λ e. (pair, pending), λ h. refl)
