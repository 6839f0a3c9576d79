-- Classes of which no fact and no rule asks for more have together what the least relation has.
use Rattle.std.proofs.Common.{◌≡◌, ℕ, ◌+◌, true, List, [], ◌∷◌, ◌++◌, refl, sym, ◌∙◌, ap, subst, arith, ⊎_elim, append_assoc, get_or}
use Rattle.std.specs.Prelude.{slice_get, Some, Contains}
use Rattle.std.proofs.lemmas.Bool.{eqb-true}
use Rattle.std.proofs.lemmas.Option.{slice_get-get_or}
use Rattle.std.proofs.lemmas.List.{append-nil}
use Rattle.ras_logic.specs.declared.ids.FunId.{FunId}
use Rattle.ras_logic.specs.declared.function.FunDecl.{FunDecl}
use Rattle.ras_logic.specs.declared.term.Base as base
use Rattle.ras_logic.specs.declared.term.Base.TheVariants.{Constant}
use Rattle.ras_logic.specs.declared.term.Term.{Term}
use Rattle.ras_logic.specs.declared.literal.Literal.{Literal}
use Rattle.ras_logic.specs.declared.literal.Literal.TheVariants.{Equal}
use Rattle.ras_logic.specs.Schemas.{SchemaParts, HasSorts, IsSchema}
use Rattle.ras_logic.specs.Terms.{undef_term, image_term}
use Rattle.ras_logic.specs.Clashes.{sides, IsPrefixOf, IsTerm, of_literals, a_constant, an_undef, Together, reflexive, symmetric, transitive, stated, same_images, image_of_undef, only_undef}
use Rattle.ras_refute.specs.declared.entry.Entry.{Entry}
use Rattle.ras_refute.specs.declared.entry.Entry.TheVariants.{Root}
use Rattle.ras_refute.specs.declared.entry.Pair.{Pair}
use Rattle.ras_refute.specs.declared.table.Table.{Table}
use Rattle.ras_refute.specs.Tables.{IsAt, IsTable, AreAllSides, IsTableOf}
use Rattle.ras_refute.specs.Classes.{class, AreClosed}
use Rattle.ras_refute.proofs.Entries.{entry-at, at-within, image-entry, same_term}
use Rattle.ras_logic.proofs.Elements.{from_known, contains_cases}
use Rattle.ras_refute.proofs.Due.{sides-at, length-sides}
use Rattle.ras_refute.proofs.Soundness.{undef-at}

-- a side of a fact is in the table
side_at : (es : List Entry) (facts : List Literal) (pairs : List Pair) → AreAllSides es facts pairs → (t : Term) → Contains (sides facts) t → (i : ℕ) × IsAt es i t
side_at es [] pairs h t inside = absurd (omega (arith, inside.1))
side_at es (l ∷ ls) [] h t inside = absurd h
side_at es (Equal left right same ∷ ls) (x ∷ xs) h t inside =
    ⊎_elim (λ (e : left ≡ t). (x.left, subst (λ (u : Term). IsAt es x.left u) e h.0.0))
    (λ (later : Contains (right ∷ sides ls) t).
    ⊎_elim (λ (e : right ≡ t). (x.right, subst (λ (u : Term). IsAt es x.right u) e h.0.1))
    (λ (rest : Contains (sides ls) t). side_at es ls xs h.1 t rest)
    (contains_cases right t (sides ls) later))
    (contains_cases left t (right ∷ sides ls) inside)

-- a prefix of a term is in the table
prefix_place : (es : List Entry) → IsTable es → (rest : List FunId) (b : base.Base) (path : List FunId) (i : ℕ) → IsAt es i (record { base = b; path = path ++ rest })
    → (k : ℕ) × IsAt es k (record { base = b; path = path })
prefix_place es table [] b path i at = (i, subst (λ (xs : List FunId). IsAt es i (record { base = b; path = xs })) (append-nil path) at)
prefix_place es table (f ∷ rest) b path i at =
    let longer = prefix_place es table rest b (path ++ f ∷ []) i (subst (λ (xs : List FunId). IsAt es i (record { base = b; path = xs })) (sym (append_assoc path (f ∷ []) rest)) at) in
    let image = image-entry es table longer.0 (record { base = b; path = path }) f longer.1 in
    (image.0, image.2)

prefix_at_place : (es : List Entry) → IsTable es → (p t : Term) (i : ℕ) → IsPrefixOf p t → IsAt es i t → (k : ℕ) × IsAt es k p
prefix_at_place es table p t i pre at =
    prefix_place es table pre.1.0 p.base p.path i (subst (λ (u : Term). IsAt es i u) (same_term t (record { base = p.base; path = p.path ++ pre.1.0 }) (sym pre.0) pre.1.1) at)

module _ (schema : SchemaParts) (ok : IsSchema schema) (facts : List Literal) (t : Table) (table : IsTableOf schema facts t) where
  -- every term has a number
  pub complete : {u : Term} → IsTerm schema facts u → (i : ℕ) × IsAt t.entries i u
  complete (of_literals {p = p} w inside pre) =
      let side = side_at t.entries facts t.sides table.numbers w inside in
      prefix_at_place t.entries table.table p w side.0 pre side.1
  complete (a_constant c lt) =
      (schema.sorts + c.n, entry-at t.entries table.table (schema.sorts + c.n) (Root (Constant c)) (table.constants c lt))
  complete (an_undef s lt) = (s.n, undef-at schema facts t table s lt)

  module _ (classes : List ℕ) (closed : AreClosed schema facts t classes) where
    -- two terms of the table in one class
    pub record Alike (s u : Term) : Type 0 where
      pub i : ℕ
      pub j : ℕ
      pub left : IsAt t.entries i s
      pub right : IsAt t.entries j u
      pub same : class classes i ≡ class classes j

    one_place : (i j : ℕ) (s : Term) → IsAt t.entries i s → IsAt t.entries j s → class classes i ≡ class classes j
    one_place i j s a b = ap (class classes) (table.table.different i j s a b)

    alike_transitive : (r s u : Term) → Alike r s → Alike s u → Alike r u
    alike_transitive r s u a b = record { i = a.i; j = b.j; left = a.left; right = b.right; same = a.same ∙ one_place a.j b.i s a.right b.left ∙ b.same }

    alike_stated : (s u : Term) → Contains facts (Equal s u true) → Alike s u
    alike_stated s u inside =
        let fact : Literal = Equal s u true in
        let known : slice_get facts inside.0 ≡ Some fact = slice_get-get_or facts inside.0 fact inside.1 ∙ ap Some inside.2 in
        let pair : Pair = get_or t.sides inside.0 (record { left = 0; right = 0 }) in
        let number : slice_get t.sides inside.0 ≡ Some pair =
        slice_get-get_or t.sides inside.0 (record { left = 0; right = 0 }) (omega (arith, inside.1, length-sides t.entries facts t.sides table.numbers)) in
        let at = sides-at t.entries facts t.sides table.numbers inside.0 fact pair known number in
        record { i = pair.left; j = pair.right; left = at.0; right = at.1; same = eqb-true (class classes pair.left) (class classes pair.right) (closed.stated inside.0 fact pair known number refl) }

    alike_images : (s u : Term) (f : FunId) → Alike s u → (i : ℕ) × IsAt t.entries i (image_term s f) → (i : ℕ) × IsAt t.entries i (image_term u f) → Alike (image_term s f) (image_term u f)
    alike_images s u f a k l =
        let x = image-entry t.entries table.table k.0 s f k.1 in
        let y = image-entry t.entries table.table l.0 u f l.1 in
        record {
          i = k.0;
          j = l.0;
          left = k.1;
          right = l.1;
          same = (closed.rules k.0 (at-within t.entries table.table k.0 (image_term s f) k.1) x.0 f x.1).1 l.0 y.0 y.1 (one_place x.0 a.i s x.2 a.left ∙ a.same ∙ one_place a.j y.0 u a.right y.2);
        }

    alike_image_of_undef : (u : Term) (f : FunId) (d : FunDecl) → slice_get schema.functions f.n ≡ Some d → Alike u (undef_term d.source) → (i : ℕ) × IsAt t.entries i (image_term u f)
        → Alike (image_term u f) (undef_term d.target)
    alike_image_of_undef u f d known a k =
        let sorts = from_known (HasSorts schema.sorts) schema.functions ok.functions f.n d known in
        let x = image-entry t.entries table.table k.0 u f k.1 in
        record {
          i = k.0;
          j = d.target.n;
          left = k.1;
          right = undef-at schema facts t table d.target sorts.1;
          same = (closed.rules k.0 (at-within t.entries table.table k.0 (image_term u f) k.1) x.0 f x.1).0.image d known
              (one_place x.0 a.i u x.2 a.left ∙ a.same ∙ one_place a.j d.source.n (undef_term d.source) a.right (undef-at schema facts t table d.source sorts.0));
        }

    alike_only_undef : (u : Term) (f : FunId) (d : FunDecl) → slice_get schema.functions f.n ≡ Some d → d.total ≡ true → Alike (image_term u f) (undef_term d.target) → Alike u (undef_term d.source)
    alike_only_undef u f d known total a =
        let sorts = from_known (HasSorts schema.sorts) schema.functions ok.functions f.n d known in
        let x = image-entry t.entries table.table a.i u f a.left in
        record {
          i = x.0;
          j = d.source.n;
          left = x.2;
          right = undef-at schema facts t table d.source sorts.0;
          same = (closed.rules a.i (at-within t.entries table.table a.i (image_term u f) a.left) x.0 f x.1).0.argument d known total
              (a.same ∙ one_place a.j d.target.n (undef_term d.target) a.right (undef-at schema facts t table d.target sorts.1));
        }

    pub alike : {s u : Term} → Together schema facts (Contains facts) s u → Alike s u
    alike (reflexive s known) = let k = complete known in record { i = k.0; j = k.0; left = k.1; right = k.1; same = refl }
    alike (symmetric s u r) = let a = alike r in record { i = a.j; j = a.i; left = a.right; right = a.left; same = sym a.same }
    alike (transitive r s u p q) = alike_transitive r s u (alike p) (alike q)
    alike (stated s u fact) = alike_stated s u fact
    alike (same_images s u f r one other) = alike_images s u f (alike r) (complete one) (complete other)
    alike (image_of_undef u f d known r one) = alike_image_of_undef u f d known (alike r) (complete one)
    alike (only_undef u f d known total r) = alike_only_undef u f d known total (alike r)
