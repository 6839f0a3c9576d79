-- Functions between two sorts, one each way: the second closes a cycle.
use Rattle.std.proofs.Common.{◌≡◌, zero, suc, ◌<◌, List, [], ◌∷◌, refl, ap, sym, ◌∙◌, arith}
use Rattle.std.specs.Prelude.{Contains}
use Rattle.std.proofs.lemmas.List.Elements.{All-nil, All-cons, All-head, All-tail}
use Rattle.ras_logic.specs.declared.ids.SortId.{SortId}
use Rattle.ras_logic.specs.declared.function.FunDecl.{FunDecl}
use Rattle.ras_logic.specs.declared.schema_fault.SchemaFault.TheVariants.{Cycle}
use Rattle.ras_logic.specs.Schemas.{SchemaParts, IsSort, HasSorts, IsChain, IsAcyclic}
use Rattle.ras_logic.specs.SchemaFaults.{end_of, HasCycle, IsSchemaFault}
use Rattle.ras_vectors.specs.Words.{total, nullable, function}

abbrev there : FunDecl
there = total 0 1

abbrev and_back : FunDecl
and_back = nullable 1 0

abbrev both : List FunDecl
both = there ∷ and_back ∷ []

round : IsChain both (there ∷ and_back ∷ [])
round = record {
  known = All-cons (Contains both) there (and_back ∷ []) (0, omega arith, refl) (All-cons (Contains both) and_back [] (1, omega arith, refl) (All-nil (Contains both)));
  linked = (refl, tt);
}

pub both_ways : IsAcyclic 2 both → ⊥
both_ways h = let e : 2 < 2 = h there (and_back ∷ []) round in omega arith

abbrev again : List FunDecl
again = total 1 1 ∷ []

pub to_itself : IsAcyclic 2 again → ⊥
to_itself h =
    let chain : IsChain again (total 1 1 ∷ total 1 1 ∷ []) = record {
      known = All-cons (Contains again) (total 1 1) again (0, omega arith, refl) (All-cons (Contains again) (total 1 1) [] (0, omega arith, refl) (All-nil (Contains again)));
      linked = (refl, tt);
    } in
    let e : 2 < 2 = h (total 1 1) (total 1 1 ∷ []) chain in omega arith

-- a list of one function that leads to another sort has no cycle
only : (f g : FunDecl) → Contains (f ∷ []) g → f ≡ g
only f g (zero, lt, e) = e
only f g (suc k, lt, e) = absurd (omega (arith, lt))

alone : (f : FunDecl) → (f.target ≡ f.source → ⊥) → (g : FunDecl) (gs : List FunDecl) → IsChain (f ∷ []) (g ∷ gs) → gs ≡ []
alone f n g [] chain = refl
alone f n g (h ∷ gs) chain =
    let a : f ≡ g = only f g (All-head (Contains (f ∷ [])) g (h ∷ gs) chain.known) in
    let b : f ≡ h = only f h (All-head (Contains (f ∷ [])) h gs (All-tail (Contains (f ∷ [])) g (h ∷ gs) chain.known)) in
    absurd (n (ap (λ (x : FunDecl). x.target) a ∙ chain.linked.0 ∙ sym (ap (λ (x : FunDecl). x.source) b)))

no_cycle : (f : FunDecl) → (f.target ≡ f.source → ⊥) → HasCycle (f ∷ []) → ⊥
no_cycle f n (g, gs, chain, e) =
    let s : gs ≡ [] = alone f n g gs chain in
    let a : f ≡ g = only f g (All-head (Contains (f ∷ [])) g gs chain.known) in
    n (ap (λ (x : FunDecl). x.target) a ∙ ap (end_of g) (sym s) ∙ e ∙ sym (ap (λ (x : FunDecl). x.source) a))

two_sorts : there.target ≡ there.source → ⊥
two_sorts e = let q : suc zero ≡ zero = ap (λ (s : SortId). s.n) e in cc

abbrev parts : SchemaParts
parts = record { sorts = 2; functions = both; constants = [] }

pub second : IsSchemaFault parts (Cycle (function 1))
second = (
  record { sorts = omega arith; functions = omega arith; constants = omega arith },
  All-cons (HasSorts 2) there (and_back ∷ []) (omega arith, omega arith) (All-cons (HasSorts 2) and_back [] (omega arith, omega arith) (All-nil (HasSorts 2))),
  All-nil (IsSort 2),
  record { within = omega arith; before = no_cycle there two_sorts; closed = (there, (and_back ∷ []), round, refl) },
)

pub not_the_first : IsSchemaFault parts (Cycle (function 0)) → ⊥
not_the_first h = no_cycle there two_sorts h.3.closed

pub not_later : IsSchemaFault (record { sorts = 2; functions = there ∷ and_back ∷ total 1 1 ∷ []; constants = [] }) (Cycle (function 2)) → ⊥
not_later h = h.3.before (there, (and_back ∷ []), round, refl)
