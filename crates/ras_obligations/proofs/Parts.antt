-- What a visitor has visited, or bars, of a list of obligations, from what it did at its parts.
use Rattle.std.proofs.Common.{◌≡◌, ℕ, ◌+◌, ◌<◌, ◌≤◌, List, [], ◌∷◌, ◌++◌, map, length, take, drop, get_or, refl, sym, ◌∙◌, ap, subst, append_assoc, append-nil}
use Rattle.std.specs.Prelude.{flat_map, Result, Ok, Err, IfErr, IsErrAnd}
use Rattle.std.proofs.lemmas.List.{take_all, take_more, take-append-drop, map-append}
use Rattle.std.proofs.lemmas.Grind.{flat_map-append}
use Rattle.ras_logic.specs.declared.problem.Problem.{Problem}
use Rattle.ras_system.specs.Obligations.{Obligation}
use Rattle.ras_obligations.specs.declared.halt.Halt.{Halt}
use Rattle.ras_obligations.specs.declared.halt.Halt.TheVariants.{Stopped, Memory}
use Rattle.ras_obligations.specs.Visits.{Visits, Bars, OnStopped}

-- what the halt of a part says, handed on
pub stopped-as : {T : Type 0} (P Q : Type 0) → (P → Q) → (r : Result T Halt) (h : Halt) → IsErrAnd r (λ k. k ≡ h) → OnStopped h P → IfErr r (λ k. OnStopped k Q)
stopped-as P Q f (Ok x) h is p = absurd is
stopped-as P Q f (Err k) Stopped is p = subst (λ (j : Halt). OnStopped j Q) (sym is) (f p)
stopped-as P Q f (Err k) (Memory e) is p = subst (λ (j : Halt). OnStopped j Q) (sym is) p

-- lists of obligations as parts
pub map-parts : {X : Type 0} (w : X → Obligation) (xs : List X) → map w xs ≡ flat_map (λ (x : X). w x ∷ []) xs
map-parts w [] = refl
map-parts w (x ∷ xs) = ap (λ (os : List Obligation). w x ∷ os) (map-parts w xs)

pub flat-parts : {X : Type 0} (w : Problem → Obligation) (part : X → List Problem) (xs : List X) → map w (flat_map part xs) ≡ flat_map (λ (x : X). map w (part x)) xs
flat-parts w part [] = refl
flat-parts w part (x ∷ xs) =
    map-append w (part x) (flat_map part xs) ∙ ap (λ (os : List Obligation). map w (part x) ++ os) (flat-parts w part xs)

module _ {V G : Type 0} (given : V → G) (visited barred : V → List Obligation → Type 0)
    (bars_more : (s : V) (os more : List Obligation) → barred s os → barred s (os ++ more)) where
  pub visits-none : (old : V) → Visits given visited [] old old
  visits-none old = record {
    same = refl;
    longer = λ os had. subst (visited old) (sym (append-nil os)) had;
  }

  -- first these, then those
  pub visits-both : (first second : List Obligation) (old middle new : V) → Visits given visited first old middle → Visits given visited second middle new
      → Visits given visited (first ++ second) old new
  visits-both first second old middle new passed then = record {
    same = then.same ∙ passed.same;
    longer = λ os had. subst (visited new) (append_assoc os first second) (then.longer (os ++ first) (passed.longer os had));
  }

  pub bars-second : (first second : List Obligation) (old middle new : V) → Visits given visited first old middle
      → Bars given visited barred second middle new → Bars given visited barred (first ++ second) old new
  bars-second first second old middle new passed stop = record {
    same = stop.same ∙ passed.same;
    stops = λ os had. subst (barred new) (append_assoc os first second) (stop.stops (os ++ first) (passed.longer os had));
  }

  pub bars-first : (first second : List Obligation) (old new : V) → Bars given visited barred first old new → Bars given visited barred (first ++ second) old new
  bars-first first second old new stop = record {
    same = stop.same;
    stops = λ os had. subst (barred new) (append_assoc os first second) (bars_more new (os ++ first) second (stop.stops os had));
  }

  -- a list that is visited part by part
  module _ {X : Type 0} (part : X → List Obligation) (xs : List X) (i : ℕ) (x : X) (below : i < length xs) (read : x ≡ get_or xs i x) where
    part-step : flat_map part (take (i + 1) xs) ≡ flat_map part (take i xs) ++ part x
    part-step =
        ap (flat_map part) (take_more xs i x below)
        ∙ flat_map-append part (take i xs) (get_or xs i x ∷ [])
        ∙ ap (λ (os : List Obligation). flat_map part (take i xs) ++ os) (append-nil (part (get_or xs i x)) ∙ ap part (sym read))

    module _ (here : List Obligation) (here_is : here ≡ part x) (old middle new : V) (passed : Visits given visited (flat_map part (take i xs)) old middle) where
      pub visits-part : Visits given visited here middle new → Visits given visited (flat_map part (take (i + 1) xs)) old new
      visits-part then =
          subst (λ (os : List Obligation). Visits given visited os old new)
          (ap (λ (os : List Obligation). flat_map part (take i xs) ++ os) here_is ∙ sym part-step)
          (visits-both (flat_map part (take i xs)) here old middle new passed then)

      pub bars-part : (all : List Obligation) → all ≡ flat_map part xs → Bars given visited barred here middle new → Bars given visited barred all old new
      bars-part all all_is stop =
          subst (λ (os : List Obligation). Bars given visited barred os old new)
          (ap (λ (os : List Obligation). (flat_map part (take i xs) ++ os) ++ flat_map part (drop (i + 1) xs)) here_is
          ∙ ap (λ (os : List Obligation). os ++ flat_map part (drop (i + 1) xs)) (sym part-step)
          ∙ sym (ap (flat_map part) (sym (take-append-drop (i + 1) xs)) ∙ flat_map-append part (take (i + 1) xs) (drop (i + 1) xs))
          ∙ sym all_is)
          (bars-first (flat_map part (take i xs) ++ here) (flat_map part (drop (i + 1) xs)) old new
          (bars-second (flat_map part (take i xs)) here old middle new passed stop))

  pub visits-all : {X : Type 0} (part : X → List Obligation) (xs : List X) (i : ℕ) (all : List Obligation) → all ≡ flat_map part xs → length xs ≤ i
      → (old new : V) → Visits given visited (flat_map part (take i xs)) old new → Visits given visited all old new
  visits-all part xs i all all_is ended old new passed =
      subst (λ (os : List Obligation). Visits given visited os old new) (ap (flat_map part) (take_all i xs ended) ∙ sym all_is) passed
