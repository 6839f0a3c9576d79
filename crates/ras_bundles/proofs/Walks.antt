-- Functions by their numbers lead just as those that they denote.
use Rattle.std.proofs.Common.{◌≡◌, ℕ, zero, suc, ◌+◌, Bool, true, false, ◌||◌, List, [], ◌∷◌, take, map, nat_eq, refl, sym, ◌∙◌, ap, subst}
use Rattle.std.specs.Prelude.{◌↔◌, ◌&&◌, Some, slice_get, All}
use Rattle.std.specs.List.{list_any}
use Rattle.std.proofs.lemmas.List.{take-map}
use Rattle.ras_logic.specs.declared.function.FunDecl.{FunDecl}
use Rattle.ras_logic.specs.Schemas.{HasSorts, IsAcyclic}
use Rattle.ras_logic.specs.SchemaFaults.{HasCycle}
use Rattle.ras_logic.proofs.ByPlace.{map-at, map_from}
use Rattle.ras_logic.proofs.Walks as walks
use Rattle.ras_logic.proofs.Walks.{lead}
use Rattle.ras_bundles.specs.declared.system_lines.FunctionLine.{FunctionLine}
use Rattle.ras_bundles.specs.Numbers.{function_named}
use Rattle.ras_bundles.specs.Checks.{leads}

any_same : (p : FunctionLine → Bool) (q : FunDecl → Bool) → ((f : FunctionLine) → p f ≡ q (function_named f)) → (fs : List FunctionLine) → list_any p fs ≡ list_any q (map function_named fs)
any_same p q each [] = refl
any_same p q each (f ∷ fs) = λ i. each f i || any_same p q each fs i

lead_same : (fs : List FunctionLine) (n a b : ℕ) → leads fs n a b ≡ lead (map function_named fs) n a b
lead_same fs zero a b = refl
lead_same fs (suc n) a b =
    ap (λ (z : Bool). nat_eq a b || z)
    (any_same (λ (f : FunctionLine). nat_eq f.source a && leads fs n f.target b) (λ (d : FunDecl). nat_eq d.source.n a && lead (map function_named fs) n d.target.n b)
    (λ f. ap (λ (z : Bool). nat_eq f.source a && z) (lead_same fs n f.target b)) fs)

-- behind the first k lines
lead_above : (lines : List FunctionLine) (k n a b : ℕ) → leads (take k lines) n a b ≡ lead (take k (map function_named lines)) n a b
lead_above lines k n a b = lead_same (take k lines) n a b ∙ ap (λ (ds : List FunDecl). lead ds n a b) (sym (take-map function_named k lines))

-- where the functions are acyclic, none closes a cycle
pub no_cycle_closed : (sorts n : ℕ) (lines : List FunctionLine) (k : ℕ) (f : FunctionLine) → IsAcyclic sorts (map function_named lines) → slice_get lines k ≡ Some f
    → leads (take k lines) n f.target f.source ≡ false
no_cycle_closed sorts n lines k f acyclic_ones at =
    lead_above lines k n f.target f.source ∙ walks.no_cycle_closed sorts n (map function_named lines) k (function_named f) acyclic_ones (map-at function_named lines k f at)

pub acyclic : (sorts : ℕ) (lines : List FunctionLine) → All (HasSorts sorts) (map function_named lines)
    → ((k : ℕ) (f : FunctionLine) → slice_get lines k ≡ Some f → leads (take k lines) sorts f.target f.source ≡ false) → IsAcyclic sorts (map function_named lines)
acyclic sorts lines good open_ended =
    walks.acyclic sorts (map function_named lines) good (λ k d at.
    let f = map_from function_named lines k d at in
    (λ i. lead (take k (map function_named lines)) sorts (sym f.2 i).target.n (sym f.2 i).source.n)
    ∙ sym (lead_above lines k sorts f.0.target f.0.source) ∙ open_ended k f.0 f.1)

-- a function that is led back from closes a cycle, and it alone
pub cycle_told : (sorts : ℕ) (lines : List FunctionLine) (k : ℕ) (f : FunctionLine) → All (HasSorts sorts) (map function_named lines) → slice_get lines k ≡ Some f → (HasCycle (map function_named (take k lines)) → ⊥)
    → ((leads (take k lines) sorts f.target f.source ≡ true) ↔ HasCycle (map function_named (take (k + 1) lines)))
cycle_told sorts lines k f good at none =
    let told = walks.cycle_told sorts (map function_named lines) k (function_named f) good (map-at function_named lines k f at) (λ c. none (subst HasCycle (take-map function_named k lines) c)) in (
      λ h. subst HasCycle (take-map function_named (k + 1) lines) (told.0 (sym (lead_above lines k sorts f.target f.source) ∙ h)),
      λ c. lead_above lines k sorts f.target f.source ∙ told.1 (subst HasCycle (sym (take-map function_named (k + 1) lines)) c),
    )
