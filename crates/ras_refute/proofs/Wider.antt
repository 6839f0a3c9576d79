-- Whether facts clash depends only on which facts there are.
use Rattle.std.proofs.Common.{◌≡◌, ℕ, ◌-◌, ◌<◌, List, [], ◌∷◌, length, get_or, reverse, ◌∙◌, ap, subst, arith, ◌⊎◌, inl, inr, ⊎_elim}
use Rattle.std.specs.Prelude.{Contains}
use Rattle.std.proofs.lemmas.List.{get_or-reverse, length-reverse, reverse-reverse}
use Rattle.ras_logic.specs.declared.term.Term.{Term}
use Rattle.ras_logic.specs.declared.literal.Literal.{Literal}
use Rattle.ras_logic.specs.declared.literal.Literal.TheVariants.{Equal}
use Rattle.ras_logic.specs.Schemas.{SchemaParts}
use Rattle.ras_logic.specs.Clashes.{sides, IsTerm, of_literals, a_constant, an_undef, FactsClash}
use Rattle.ras_logic.specs.Literals.{left_of, right_of}
use Rattle.ras_logic.proofs.Elements.{contains_cases, contains-here, contains-later}
use Rattle.ras_logic.proofs.MoreFacts.{clash-more}

-- a side of a literal of the list
record IsSide (ls : List Literal) (t : Term) : Type 0 where
  literal : Literal
  inside : Contains ls literal
  side : (left_of literal ≡ t) ⊎ (right_of literal ≡ t)

side-later : (l : Literal) (ls : List Literal) (t : Term) → IsSide ls t → IsSide (l ∷ ls) t
side-later l ls t h = record { literal = h.literal; inside = contains-later l h.literal ls h.inside; side = h.side }

side_of : (ls : List Literal) (t : Term) → Contains (sides ls) t → IsSide ls t
side_of [] t h = absurd (omega (arith, h.1))
side_of (Equal left right same ∷ ls) t h =
    let l : Literal = Equal left right same in
    ⊎_elim (λ (e : left ≡ t). record { literal = l; inside = contains-here l ls; side = inl e })
    (λ (later : Contains (right ∷ sides ls) t).
    ⊎_elim (λ (e : right ≡ t). record { literal = l; inside = contains-here l ls; side = inr e })
    (λ (rest : Contains (sides ls) t). side-later l ls t (side_of ls t rest)) (contains_cases right t (sides ls) later))
    (contains_cases left t (right ∷ sides ls) h)

sides-contain : (ls : List Literal) (l : Literal) (t : Term) → Contains ls l → (left_of l ≡ t) ⊎ (right_of l ≡ t) → Contains (sides ls) t
sides-contain [] l t inside side = absurd (omega (arith, inside.1))
sides-contain (Equal left right same ∷ ls) l t inside side =
    ⊎_elim
    (λ (e : Equal left right same ≡ l).
    ⊎_elim
    (λ (s : left_of l ≡ t). subst (λ (u : Term). Contains (left ∷ right ∷ sides ls) u) (ap left_of e ∙ s) (contains-here left (right ∷ sides ls)))
    (λ (s : right_of l ≡ t). contains-later left t (right ∷ sides ls) (subst (λ (u : Term). Contains (right ∷ sides ls) u) (ap right_of e ∙ s) (contains-here right (sides ls)))) side)
    (λ (rest : Contains ls l). contains-later left t (right ∷ sides ls) (contains-later right t (sides ls) (sides-contain ls l t rest side)))
    (contains_cases (Equal left right same) l ls inside)

module _ (schema : SchemaParts) (less more : List Literal) (wider : (l : Literal) → Contains less l → Contains more l) where
  term-wider : {t : Term} → IsTerm schema less t → IsTerm schema more t
  term-wider (of_literals {p = p} t inside pre) = let s = side_of less t inside in of_literals {p = p} t (sides-contain more s.literal t (wider s.literal s.inside) s.side) pre
  term-wider (a_constant c lt) = a_constant c lt
  term-wider (an_undef s lt) = an_undef s lt

  -- more facts clash where fewer do
  pub clash-wider : FactsClash schema less → FactsClash schema more
  clash-wider clash = clash-more schema less more (λ t known. term-wider known) (Contains less) (Contains more) wider clash

contains-reverse : {X : Type 0} (xs : List X) (x : X) → Contains xs x → Contains (reverse xs) x
contains-reverse xs x h =
    let k : ℕ = length xs - 1 - h.0 in
    let lt : k < length xs = omega (arith, h.1) in
    let back_again : length xs - 1 - k ≡ h.0 = omega (arith, h.1) in
    (k, rw (length-reverse xs) lt, get_or-reverse xs k x lt ∙ ap (λ (n : ℕ). get_or xs n x) back_again ∙ h.2)

-- the facts in the opposite order
pub clash-reversed : (schema : SchemaParts) (facts : List Literal) → FactsClash schema facts → FactsClash schema (reverse facts)
clash-reversed schema facts h = clash-wider schema facts (reverse facts) (λ l inside. contains-reverse facts l inside) h

pub clash-from_reversed : (schema : SchemaParts) (facts : List Literal) → FactsClash schema (reverse facts) → FactsClash schema facts
clash-from_reversed schema facts h = subst (λ (fs : List Literal). FactsClash schema fs) (reverse-reverse facts) (clash-reversed schema (reverse facts) h)
