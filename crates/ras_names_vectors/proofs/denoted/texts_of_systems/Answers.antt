use Rattle.std.proofs.Common.{◌≡◌, List, [], ◌∷◌, length, refl, arith}
use Rattle.std.specs.Prelude.{◌≤◌, ◌≢◌, nat_le, All, AllPairs, true}
use Rattle.std.specs.List.{list_all}
use Rattle.std.proofs.lemmas.Bool.{leb-true}
use Rattle.ras_logic.specs.declared.ids.SortId.{SortId}
use Rattle.ras_logic.specs.declared.term.Base.TheVariants.{Var, Constant, Param}
use Rattle.ras_logic.specs.Terms.{base_term, undef_term}
use Rattle.ras_vectors.specs.Words.{sort, function, relation, constant, cell}
use Rattle.ras_vectors.specs.Hiring as hiring
use Rattle.ras_vectors.specs.Desk as desk
use Rattle.ras_vectors.proofs.ListTests.{list_all-All}
use Rattle.ras_vectors.proofs.DataTests.{is_shape-passed, are_cubes-passed}
use Rattle.ras_syntax.specs.Grammar as grammar
use Rattle.ras_names_vectors.specs.Denoted.{hiring_names, desk_names, nullable_system, nullable_names, apps, seat}
use Rattle.ras_names_vectors.proofs.NameTests.{are_new_names-passed}
use Rattle.ras_names_vectors.proofs.denoted.texts_of_systems.Goals as goal

columns_within : (relations : List (List SortId)) → list_all (λ (columns : List SortId). nat_le (length columns) 32) relations ≡ true
    → All (λ (columns : List SortId). length columns ≤ 32) relations
columns_within = list_all-All (λ (columns : List SortId). nat_le (length columns) 32) (λ (columns : List SortId). length columns ≤ 32) (λ columns h. leb-true (length columns) 32 h)

no_each : AllPairs (λ (e f : grammar.Each). e.relation ≢ f.relation) []
no_each = λ i j d lt l. absurd (omega (arith, l))

one_each : (e : grammar.Each) → AllPairs (λ (e f : grammar.Each). e.relation ≢ f.relation) (e ∷ [])
one_each e = λ i j d lt l. absurd (omega (arith, lt, l))

pub returns-clause-hiring : goal.returns-clause-hiring
returns-clause-hiring c =
    let exact = (c.no_fault_is_first_exactly_in_a_system.ensures hiring.hiring (is_shape-passed hiring.shape refl) (are_cubes-passed hiring.hiring.goals refl)).0 refl in record {
      own_names = refl;
      new_names = are_new_names-passed hiring_names refl;
      sorts = refl;
      functions = (record { source = refl; target = refl; total = refl }, tt);
      constants = tt;
      variables = tt;
      initial = tt;
      relations = ((refl, (refl, tt)), tt);
      steps = (
        record {
          rows = (refl, tt);
          params = (refl, tt);
          guard = (
            (
              ((0, 0, (refl, (relation 0, refl, (apps, refl, refl))), refl), (sort 1, refl), refl, λ h. h.0),
              (((Param 0, refl, refl), (sort 1, refl), refl, λ h. h.0), tt),
            ),
            tt,
          );
          updates = (
            ((refl, (relation 0, refl, (apps, refl, refl))), (Param 0, refl, refl)),
            (((refl, (relation 0, refl, (apps, refl, refl))), (base_term (Param 0), function 0, (Param 0, refl, refl), refl, refl)), tt),
          );
          bulk = tt;
          one_each = no_each;
        },
        (
          record {
            rows = (refl, tt);
            params = tt;
            guard = ((((0, 0, (refl, (relation 0, refl, (apps, refl, refl))), refl), (sort 1, refl), refl, λ h. h.0), tt), tt);
            updates = (
              ((refl, (relation 0, refl, (apps, refl, refl))), (sort 1, refl)),
              (((refl, (relation 0, refl, (apps, refl, refl))), (sort 0, refl)), tt),
            );
            bulk = tt;
            one_each = no_each;
          },
          tt,
        ),
      );
      goals = (
        record {
          rows = (refl, tt);
          no_params = refl;
          literals = (
            (
              (0, 1, (refl, (relation 0, refl, (apps, refl, refl))), refl),
              (cell 0 0, function 0, (0, 0, (refl, (relation 0, refl, (apps, refl, refl))), refl), refl, refl),
              refl,
              λ h. h.0,
            ),
            tt,
          );
        },
        tt,
      );
      is_system = exact.0;
      schema_limits = record { sorts = omega arith; functions = omega arith; constants = omega arith };
      shape_limits = record { vars = omega arith; relations = omega arith; columns = columns_within hiring.shape.relations refl };
      limits = exact.1;
    }

pub returns-clause-desk : goal.returns-clause-desk
returns-clause-desk c =
    let exact = (c.no_fault_is_first_exactly_in_a_system.ensures desk.desk (is_shape-passed desk.shape refl) (are_cubes-passed desk.desk.goals refl)).0 refl in record {
      own_names = refl;
      new_names = are_new_names-passed desk_names refl;
      sorts = refl;
      functions = tt;
      constants = (refl, (refl, tt));
      variables = (refl, tt);
      initial = (refl, tt);
      relations = ((refl, tt), tt);
      steps = (
        record {
          rows = (refl, tt);
          params = tt;
          guard = ((((0, 0, (refl, (relation 0, refl, (seat, refl, refl))), refl), (sort 0, refl), refl, λ h. h.0), tt), tt);
          updates = (((refl, (relation 0, refl, (seat, refl, refl))), (Constant (constant 0), refl, refl)), tt);
          bulk = tt;
          one_each = no_each;
        },
        (
          record {
            rows = (refl, tt);
            params = tt;
            guard = ((((0, 0, (refl, (relation 0, refl, (seat, refl, refl))), refl), (Constant (constant 0), refl, refl), refl, λ h. h.0), tt), tt);
            updates = ((refl, (Constant (constant 0), refl, refl)), tt);
            bulk = (
              record {
                relation = refl;
                condition = (((1, 0, (refl, (relation 0, refl, (seat, refl, refl))), refl), (Constant (constant 0), refl, refl), refl, λ h. h.0), tt);
                assigns = (((refl, (relation 0, refl, (seat, refl, refl))), (Constant (constant 1), refl, refl)), tt);
              },
              (
                record {
                  relation = refl;
                  condition = (((1, 0, (refl, (relation 0, refl, (seat, refl, refl))), refl), (sort 0, refl), refl, λ h. h.0), tt);
                  assigns = (((refl, (relation 0, refl, (seat, refl, refl))), (Constant (constant 0), refl, refl)), tt);
                },
                tt,
              ),
            );
            one_each = one_each _;
          },
          tt,
        ),
      );
      goals = (
        record {
          rows = (refl, (refl, tt));
          no_params = refl;
          literals = (
            ((0, 0, (refl, (relation 0, refl, (seat, refl, refl))), refl), (Constant (constant 1), refl, refl), refl, λ h. h.0),
            (((1, 0, (refl, (relation 0, refl, (seat, refl, refl))), refl), (Constant (constant 0), refl, refl), refl, λ h. h.0), tt),
          );
        },
        tt,
      );
      is_system = exact.0;
      schema_limits = record { sorts = omega arith; functions = omega arith; constants = omega arith };
      shape_limits = record { vars = omega arith; relations = omega arith; columns = columns_within desk.shape.relations refl };
      limits = exact.1;
    }

pub returns-clause-nullable : goal.returns-clause-nullable
returns-clause-nullable c =
    let exact = (c.no_fault_is_first_exactly_in_a_system.ensures nullable_system (is_shape-passed nullable_system.shape refl) (are_cubes-passed nullable_system.goals refl)).0 refl in record {
      own_names = refl;
      new_names = are_new_names-passed nullable_names refl;
      sorts = refl;
      functions = (record { source = refl; target = refl; total = refl }, tt);
      constants = tt;
      variables = (refl, tt);
      initial = (tt, tt);
      relations = tt;
      steps = tt;
      goals = (
        record {
          rows = tt;
          no_params = refl;
          literals = (((undef_term (sort 1), function 0, (sort 1, refl), refl, refl), (Var (record { n = 0 }), refl, refl), refl, λ h. h.0), tt);
        },
        (record { rows = tt; no_params = refl; literals = tt }, tt),
      );
      is_system = exact.0;
      schema_limits = record { sorts = omega arith; functions = omega arith; constants = omega arith };
      shape_limits = record { vars = omega arith; relations = omega arith; columns = columns_within nullable_system.shape.relations refl };
      limits = exact.1;
    }
