-- Trees that close.
use Rattle.std.proofs.Common.{◌≡◌, ℕ, true, List, [], ◌∷◌, ◌++◌, refl, get_or, arith, subst}
use Rattle.std.specs.Prelude.{Some, slice_get, Contains}
use Rattle.std.specs.List.{AllZip}
use Rattle.std.proofs.lemmas.Option.{slice_get-get_or}
use Rattle.ras_logic.specs.declared.ids.RelId.{RelId}
use Rattle.ras_logic.specs.declared.term.Term.{Term}
use Rattle.ras_logic.specs.declared.literal.Literal.{Literal}
use Rattle.ras_logic.specs.declared.problem.Problem.{Problem}
use Rattle.ras_logic.specs.declared.tree.Node.{Node}
use Rattle.ras_logic.specs.declared.tree.Node.TheVariants.{Split}
use Rattle.ras_logic.specs.Schemas.{SchemaParts}
use Rattle.ras_logic.specs.Clashes.{sides, FactsClash, Together, reflexive, symmetric, transitive, image_of_undef, an_undef}
use Rattle.ras_logic.specs.Refutations.{AreRowsOf, CloseAll, children_facts}
use Rattle.ras_system.specs.Evidence.{IsGoodSafe}
use Rattle.ras_vectors.specs.Words.{sort, function, constant, total, relation, same, apart}
use Rattle.ras_logic.specs.Terms.{constant_term}
use Rattle.ras_vectors.specs.Hiring as hiring
use Rattle.ras_vectors.specs.Small as small
use Rattle.ras_vectors.proofs.ListTests.{are_apart, are_apart-different}
use Rattle.ras_vectors.proofs.DataTests.{are_fits-passed, are_cubes-passed}
use Rattle.ras_vectors.proofs.Facts.{side, said, denied, said_and_denied, constants_together}

-- chosen rows, whose relations are as they should
pub are_rows_of : (premise formula : List RelId) (chosen : List ℕ) → AllZip (λ (r : RelId) (k : ℕ). slice_get premise k ≡ Some r) formula chosen
    → are_apart (λ (k : ℕ). 0) (λ j. get_or chosen j 0) chosen ≡ true → AreRowsOf premise formula chosen
are_rows_of premise formula chosen relations h = record {
  relations = relations;
  different = λ i j li lj e. are_apart-different (λ (k : ℕ). 0) (λ j. get_or chosen j 0) chosen h i j (get_or chosen i 0) (get_or chosen j 0)
      (slice_get-get_or chosen i 0 li) (slice_get-get_or chosen j 0 lj) refl e;
}

pub no_rows : (premise : List RelId) → AreRowsOf premise [] []
no_rows premise = are_rows_of premise [] [] tt refl

one_row : (premise : List RelId) (k : ℕ) → slice_get premise k ≡ Some (relation 0) → AreRowsOf premise (relation 0 ∷ []) (k ∷ [])
one_row premise k e = record { relations = (e, tt); different = λ i j a b f. omega (arith, a, b) }

-- the children of a split by the formula of this number
pub children_of : (schema : SchemaParts) (formulas : List Problem) (rows : List RelId) (facts : List Literal) (pending : List (List Literal)) (n children : ℕ) (chosen : List ℕ) (nodes : List Node)
    (f : Problem) → slice_get formulas n ≡ Some f → CloseAll schema formulas rows (facts ∷ pending) (Split n chosen children ∷ nodes)
    → CloseAll schema formulas rows (children_facts facts chosen f.literals ++ pending) nodes
children_of schema formulas rows facts pending n children chosen nodes f known h =
    subst (λ (g : Problem). CloseAll schema formulas rows (children_facts facts chosen g.literals ++ pending) nodes) (same_formula h.1 known) h.4
  where
    same_formula : {g f : Problem} → slice_get formulas n ≡ Some g → slice_get formulas n ≡ Some f → g ≡ f
    same_formula a b = cc

pub good_still : IsGoodSafe small.still (small.is_set ∷ []) small.still_trees
good_still = record {
  fit = are_fits-passed small.still.shape (small.is_set ∷ []) refl;
  cubes = are_cubes-passed (small.is_set ∷ []) refl;
  closed = (
    (said_and_denied small.still.shape.schema _ 1 0 small.x small.unset refl refl, tt),
    ((small.is_set, refl, no_rows [], refl, (said_and_denied small.still.shape.schema _ 0 1 small.x small.unset refl refl, tt)), tt),
  );
}

abbrev S : SchemaParts
S = small.two.shape.schema

abbrev x : Term
x = small.x

-- the variable is one constant and another
two_values : (facts : List Literal) (m n j k : ℕ) → (m ≡ n → ⊥) → slice_get facts j ≡ Some (same x (constant_term (constant m))) → slice_get facts k ≡ Some (same x (constant_term (constant n))) → FactsClash S facts
two_values facts m n j k differ one other =
    constants_together S facts m n differ
    (transitive (constant_term (constant m)) x (constant_term (constant n)) (symmetric x (constant_term (constant m)) (said S facts j x (constant_term (constant m)) one)) (said S facts k x (constant_term (constant n)) other))

pub good_two : IsGoodSafe small.two (small.is_c ∷ small.is_b ∷ []) small.two_trees
good_two = record {
  fit = are_fits-passed small.two.shape (small.is_c ∷ small.is_b ∷ []) refl;
  cubes = are_cubes-passed (small.is_c ∷ small.is_b ∷ []) refl;
  closed = (
    (two_values _ 2 0 0 1 (λ e. cc) refl refl, tt),
    (
      (two_values _ 1 0 0 1 (λ e. cc) refl refl, tt),
      (
        (small.is_c, refl, no_rows [], refl, (said_and_denied S _ 1 0 x small.c refl refl, tt)),
        (
          (small.is_b, refl, no_rows [], refl, (said_and_denied S _ 1 0 x small.b refl refl, tt)),
          ((constants_together S _ 2 1 (λ e. cc) (said S _ 1 small.c small.b refl), tt), tt),
        ),
      ),
    ),
  );
}

abbrev owner_of : Term → Term
owner_of = hiring.owner_of

-- who owns no job is nobody
owner_of_none : (facts : List Literal) (k : ℕ) (t : Term) → slice_get (sides facts) k ≡ Some (owner_of t)
    → Together hiring.schema facts (Contains facts) t hiring.no_job → Together hiring.schema facts (Contains facts) (owner_of t) hiring.no_user
owner_of_none facts k t at r = image_of_undef t (function 0) (total 1 0) refl r (side hiring.schema facts k (owner_of t) at)

nobody_at_the_start : FactsClash hiring.schema (apart (hiring.who 0) (owner_of (hiring.job 0)) ∷ same (hiring.job 0) hiring.no_job ∷ same (hiring.who 0) hiring.no_user ∷ [])
nobody_at_the_start =
    let facts : List Literal = apart (hiring.who 0) (owner_of (hiring.job 0)) ∷ same (hiring.job 0) hiring.no_job ∷ same (hiring.who 0) hiring.no_user ∷ [] in
    denied hiring.schema facts 0 (hiring.who 0) (owner_of (hiring.job 0)) refl
    (transitive (hiring.who 0) hiring.no_user (owner_of (hiring.job 0)) (said hiring.schema facts 2 (hiring.who 0) hiring.no_user refl)
    (symmetric (owner_of (hiring.job 0)) hiring.no_user (owner_of_none facts 1 (hiring.job 0) refl (said hiring.schema facts 1 (hiring.job 0) hiring.no_job refl))))

the_owner_applies : FactsClash hiring.schema (same (hiring.job 0) hiring.no_job ∷ apart hiring.wanted hiring.no_job ∷ apart (owner_of hiring.wanted) (owner_of hiring.wanted) ∷ [])
the_owner_applies =
    let facts : List Literal = same (hiring.job 0) hiring.no_job ∷ apart hiring.wanted hiring.no_job ∷ apart (owner_of hiring.wanted) (owner_of hiring.wanted) ∷ [] in
    denied hiring.schema facts 2 (owner_of hiring.wanted) (owner_of hiring.wanted) refl (reflexive (owner_of hiring.wanted) (side hiring.schema facts 4 (owner_of hiring.wanted) refl))

nobody_after_withdrawing : FactsClash hiring.schema (apart (hiring.job 0) hiring.no_job ∷ apart hiring.no_user (owner_of hiring.no_job) ∷ [])
nobody_after_withdrawing =
    let facts : List Literal = apart (hiring.job 0) hiring.no_job ∷ apart hiring.no_user (owner_of hiring.no_job) ∷ [] in
    denied hiring.schema facts 1 hiring.no_user (owner_of hiring.no_job) refl
    (symmetric (owner_of hiring.no_job) hiring.no_user (owner_of_none facts 3 hiring.no_job refl (reflexive hiring.no_job (an_undef (sort 1) (omega arith)))))

pub good_hiring : IsGoodSafe hiring.hiring (hiring.wrong_owner ∷ []) hiring.trees
good_hiring = record {
  fit = are_fits-passed hiring.shape (hiring.wrong_owner ∷ []) refl;
  cubes = are_cubes-passed (hiring.wrong_owner ∷ []) refl;
  closed = (
    (nobody_at_the_start, tt),
    (
      (hiring.wrong_owner, refl, one_row _ 0 refl, refl, (said_and_denied hiring.schema _ 0 1 (hiring.who 0) (owner_of (hiring.job 0)) refl refl, tt)),
      (
        (the_owner_applies, tt),
        (
          (hiring.wrong_owner, refl, one_row _ 1 refl, refl, (said_and_denied hiring.schema _ 0 3 (hiring.who 1) (owner_of (hiring.job 1)) refl refl, tt)),
          (
            (nobody_after_withdrawing, tt),
            ((hiring.wrong_owner, refl, one_row _ 1 refl, refl, (said_and_denied hiring.schema _ 0 2 (hiring.who 1) (owner_of (hiring.job 1)) refl refl, tt)), tt),
          ),
        ),
      ),
    ),
  );
}
