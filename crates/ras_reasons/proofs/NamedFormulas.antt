-- A tree that closes by a list closes by the formulas that it names.
use Rattle.std.proofs.Common.{◌≡◌, ℕ, zero, suc, ◌<◌, List, [], ◌∷◌, ◌++◌, refl, sym, ◌∙◌, ap, subst}
use Rattle.std.specs.Prelude.{slice_get, Some, length, All}
use Rattle.std.proofs.lemmas.Option.{slice_get_within}
use Rattle.ras_logic.proofs.Elements.{from_known, at-contains}
use Rattle.std.proofs.lemmas.List.Elements.{All-nil, All-cons}
use Rattle.ras_logic.specs.declared.literal.Literal.{Literal}
use Rattle.ras_logic.specs.declared.problem.Problem.{Problem}
use Rattle.ras_logic.specs.declared.ids.RelId.{RelId}
use Rattle.ras_logic.specs.declared.tree.Node.{Node}
use Rattle.ras_logic.specs.declared.tree.Node.TheVariants.{Leaf, Split}
use Rattle.ras_logic.specs.Formulas.{Fits, IsCube}
use Rattle.ras_logic.specs.Refutations.{CloseAll, Closes, children_facts}
use Rattle.ras_logic.specs.Schemas.{IsSchema, SchemaParts}
use Rattle.ras_logic.specs.Shapes.{ShapeParts}
use Rattle.ras_entail.specs.Entailment.{IsAmong}
use Rattle.ras_entail.proofs.Among.{closed-among}
use Rattle.ras_reasons.specs.Naming.{Names, NamesBelow, AreNamed, ArePicked}

-- what a later node names
pub names-later : (node : Node) (nodes : List Node) (number : ℕ) → Names nodes number → Names (node ∷ nodes) number
names-later node nodes number n = record { place = suc n.place; rows = n.rows; children = n.children; at = n.at }

module _ (schema : SchemaParts) (list : List Problem) (rows : List RelId) where
  within : (nodes : List Node) (pending : List (List Literal)) → CloseAll schema list rows pending nodes → (place number : ℕ) (chosen : List ℕ) (children : ℕ)
      → slice_get nodes place ≡ Some (Split number chosen children) → number < length list
  within [] pending c place number chosen children at = absurd (cc)
  within (node ∷ nodes) [] c place number chosen children at = absurd c
  within (Leaf ∷ nodes) (facts ∷ pending) c zero number chosen children at = absurd (cc)
  within (Leaf ∷ nodes) (facts ∷ pending) c (suc place) number chosen children at = within nodes pending c.1 place number chosen children at
  within (Split formula taken count ∷ nodes) (facts ∷ pending) c zero number chosen children at =
      let same : formula ≡ number = cc in
      subst (λ n. n < length list) same (slice_get_within list formula c.0 c.1)
  within (Split formula taken count ∷ nodes) (facts ∷ pending) c (suc place) number chosen children at =
      within nodes (children_facts facts taken c.0.literals ++ pending) c.4 place number chosen children at

pub names-within : (schema : SchemaParts) (premise : Problem) (list : List Problem) (nodes : List Node) → Closes schema premise list nodes → NamesBelow nodes (length list)
names-within schema premise list nodes closes number n = within schema list premise.rows nodes (premise.literals ∷ []) closes n.place number n.rows n.children n.at

-- the same formulas under other numbers
module _ (schema : SchemaParts) (list picked : List Problem) (rows : List RelId) where
  abbrev IsIn : ℕ → Type 0
  IsIn number = (k : ℕ) × (slice_get picked k ≡ slice_get list number)

  renumbered : (nodes : List Node) (pending : List (List Literal)) → ((number : ℕ) → Names nodes number → IsIn number) → CloseAll schema list rows pending nodes
      → (others : List Node) × CloseAll schema picked rows pending others
  renumbered [] [] in_it c = ([], tt)
  renumbered [] (facts ∷ pending) in_it c = absurd c
  renumbered (node ∷ nodes) [] in_it c = absurd c
  renumbered (Leaf ∷ nodes) (facts ∷ pending) in_it c =
      let rest = renumbered nodes pending (λ number n. in_it number (names-later Leaf nodes number n)) c.1 in (Leaf ∷ rest.0, (c.0, rest.1))
  renumbered (Split formula chosen children ∷ nodes) (facts ∷ pending) in_it c =
      let node : Node = Split formula chosen children in
      let at : IsIn formula = in_it formula (record { place = 0; rows = chosen; children = children; at = refl }) in
      let rest = renumbered nodes (children_facts facts chosen c.0.literals ++ pending) (λ number n. in_it number (names-later node nodes number n)) c.4 in
      (Split at.0 chosen children ∷ rest.0, (c.0, at.1 ∙ c.1, c.2, c.3, rest.1))

-- the formula of a number that was picked
picked-at : (list : List Problem) (numbers : List ℕ) (picked : List Problem) → ArePicked list numbers picked → (k number : ℕ) → slice_get numbers k ≡ Some number
    → slice_get picked k ≡ slice_get list number
picked-at list [] picked z k number at = absurd (cc)
picked-at list (n ∷ numbers) [] z k number at = absurd z
picked-at list (n ∷ numbers) (f ∷ picked) z zero number at =
    let same : n ≡ number = cc in
    sym z.0 ∙ ap (λ m. slice_get list m) same
picked-at list (n ∷ numbers) (f ∷ picked) z (suc k) number at = picked-at list numbers picked z.1 k number at

picked-of : (P : Problem → Type 0) (list : List Problem) → ((k : ℕ) (f : Problem) → slice_get list k ≡ Some f → P f) → (numbers : List ℕ) (picked : List Problem)
    → ArePicked list numbers picked → All P picked
picked-of P list h [] [] z = All-nil P
picked-of P list h [] (f ∷ picked) z = absurd z
picked-of P list h (n ∷ numbers) [] z = absurd z
picked-of P list h (n ∷ numbers) (f ∷ picked) z = All-cons P f picked (h n f z.0) (picked-of P list h numbers picked z.1)

pub named-suffice : (shape : ShapeParts) (premise : Problem) (list : List Problem) (nodes : List Node) (numbers : List ℕ) (picked : List Problem) → IsSchema shape.schema → Fits shape premise
    → All (Fits shape) list → All IsCube list → Closes shape.schema premise list nodes → AreNamed nodes numbers → ArePicked list numbers picked → IsAmong shape premise picked
named-suffice shape premise list nodes numbers picked ok fits fit cubes closes named z =
    let others = renumbered shape.schema list picked premise.rows nodes (premise.literals ∷ [])
    (λ number n. let c = at-contains numbers number (named.every number n) in (c.0, picked-at list numbers picked z c.0 number c.2)) closes in
    closed-among shape premise picked others.0 ok fits (picked-of (Fits shape) list (from_known (Fits shape) list fit) numbers picked z)
    (picked-of IsCube list (from_known IsCube list cubes) numbers picked z) others.1
