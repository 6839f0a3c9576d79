-- The names of the relations, each with those of its columns.
use Rattle.std.proofs.Common.{◌≡◌, ℕ, zero, suc, ◌+◌, ◌<◌, List, [], ◌∷◌, ◌++◌, length, get_or, take, map, refl, sym, ◌∙◌, ap, arith, add-one}
use Rattle.ras_logic.specs.declared.ids.SortId.{SortId}
use Rattle.ras_syntax.specs.Grammar.{Text}
use Rattle.ras_syntax.specs.Grammar as grammar
use Rattle.ras_names.specs.declared.names.RelNames.{RelNames}
use Rattle.ras_names.specs.Placed as placed
use Rattle.ras_names.specs.Placed.{columns}
use Rattle.ras_names.specs.Unplaced.{column_of, relation_of}
use Rattle.ras_names.specs.FileNames.{names_of_relation}
use Rattle.ras_names.specs.Checks.{declared_texts}
use Rattle.ras_names.proofs.Among.{map-map}
use Rattle.ras_scope.specs.declared.table.Table.{Table}
use Rattle.ras_scope.specs.Agreeing.{names_of_columns}
use Rattle.ras_elab.specs.Elaborating.{named_columns}

-- one relation more
pub named_more : (names : List Text) (tables : List (Table SortId)) (n : ℕ) (d : Text) (e : Table SortId) → n < length names → n < length tables
    → named_columns (take (n + 1) names) (take (n + 1) tables) ≡ named_columns (take n names) (take n tables) ++ record { name = get_or names n d; columns = (get_or tables n e).names } ∷ []
named_more names tables n d e lt le = rw add-one (go names tables n lt le)
  where
    go : (ns : List Text) (ts : List (Table SortId)) (k : ℕ) → k < length ns → k < length ts
        → named_columns (take (suc k) ns) (take (suc k) ts) ≡ named_columns (take k ns) (take k ts) ++ record { name = get_or ns k d; columns = (get_or ts k e).names } ∷ []
    go [] ts k a b = absurd (omega (arith, a))
    go (m ∷ ns) [] k a b = absurd (omega (arith, b))
    go (m ∷ ns) (t ∷ ts) zero a b = refl
    go (m ∷ ns) (t ∷ ts) (suc k) a b =
        ap (λ (rs : List RelNames). record { name = m; columns = t.names } ∷ rs) (go ns ts k (omega (arith, a)) (omega (arith, b)))

-- those of a file
pub named_relations : (rs : List placed.Relation) (tables : List (Table SortId)) → names_of_columns tables ≡ map (λ (r : placed.Relation). declared_texts (columns r)) rs
    → named_columns (map (λ (r : placed.Relation). r.name.text) rs) tables ≡ map names_of_relation (map relation_of rs)
named_relations [] tables h = refl
named_relations (r ∷ rs) [] h = absurd (cc)
named_relations (r ∷ rs) (t ∷ tables) h =
    let first : t.names ≡ declared_texts (columns r) = cc in
    let rest : names_of_columns tables ≡ map (λ (q : placed.Relation). declared_texts (columns q)) rs = cc in
    let own : declared_texts (columns r) ≡ (names_of_relation (relation_of r)).columns = sym (map-map (λ (c : grammar.Column). c.name) column_of (columns r)) in
    λ i. record { name = r.name.text; columns = (first ∙ own) i } ∷ named_relations rs tables rest i
