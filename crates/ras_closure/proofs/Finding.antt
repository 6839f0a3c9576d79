-- The number of a term, found from its base to its images.
use Rattle.std.proofs.Common.{◌≡◌, ℕ, ◌+◌, ◌<◌, [], ◌∷◌, ◌++◌, length, get_or, take, refl, sym, ◌∙◌, ap, subst, arith}
use Rattle.std.proofs.lemmas.List.{take_more, take_all}
use Rattle.ras_logic.specs.declared.ids.FunId.{FunId}
use Rattle.ras_logic.specs.declared.term.Term.{Term}
use Rattle.ras_logic.specs.Terms.{base_term, image_term}
use Rattle.ras_closure.specs.Numbered.{IsAt, IsImageLink, TableParts, IsTable}
use Rattle.ras_closure.specs.Building.{prefix_at}
use Rattle.ras_closure.proofs.Prefixes.{same_term}
use Rattle.ras_closure.proofs.Pushing.{prefix-known}
use Rattle.ras_closure.proofs.Merges.{link-of}

-- one function more of a term's path
next-prefix : (t : Term) (k : ℕ) (f d : FunId) → k < length t.path → f ≡ get_or t.path k d → prefix_at t (k + 1) ≡ image_term (prefix_at t k) f
next-prefix t k f d lt is =
    same_term (prefix_at t (k + 1)) (image_term (prefix_at t k) f) refl
    (take_more t.path k d lt ∙ ap (λ (g : FunId). take k t.path ++ g ∷ []) (sym is))

module _ (t : TableParts) (table : IsTable t) (term : Term) where
  -- a term is in the table only where each of its prefixes is
  prefix-number : (n i : ℕ) → IsAt t.terms i term → (j : ℕ) × IsAt t.terms j (prefix_at term n)
  prefix-number n i at = table.terms.complete (prefix_at term n) (prefix-known t.shape.schema t.problem.literals term n (table.terms.known i term at))

  pub base-missing : ((i : ℕ) → IsAt t.terms i (base_term term.base) → ⊥) → (i : ℕ) → IsAt t.terms i term → ⊥
  base-missing none i at = let p = prefix-number 0 i at in none p.0 p.1

  pub image-missing : (k at : ℕ) (f d : FunId) → k < length term.path → f ≡ get_or term.path k d → IsAt t.terms at (prefix_at term k)
      → ((i : ℕ) → IsImageLink t.links i at f → ⊥) → (i : ℕ) → IsAt t.terms i term → ⊥
  image-missing k at f d lt is here none i whole =
      let p = prefix-number (k + 1) i whole in
      none p.0 (link-of t table p.0 at (prefix_at term k) f here
      (subst (λ (u : Term). IsAt t.terms p.0 u) (next-prefix term k f d lt is) p.1))

  pub image-found : (k at i : ℕ) (f d : FunId) → k < length term.path → f ≡ get_or term.path k d → IsAt t.terms at (prefix_at term k)
      → IsImageLink t.links i at f → IsAt t.terms i (prefix_at term (k + 1))
  image-found k at i f d lt is here link =
      subst (λ (u : Term). IsAt t.terms i u) (sym (next-prefix term k f d lt is)) (table.links.images i at f (prefix_at term k) link here)

  pub whole-found : (n i : ℕ) → length term.path ≡ n → IsAt t.terms i (prefix_at term n) → IsAt t.terms i term
  whole-found n i long at =
      subst (λ (u : Term). IsAt t.terms i u) (same_term (prefix_at term n) term refl (take_all n term.path (omega (arith, long)))) at
