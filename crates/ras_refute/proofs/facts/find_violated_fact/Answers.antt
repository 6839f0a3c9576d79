use Rattle.std.proofs.Common.{◌≡◌, ℕ, Bool, true, false, not, length, get_or, nat_eq, refl, sym, ◌∙◌, ap, subst, arith, below_more}
use Rattle.std.specs.Prelude.{slice_get, Some}
use Rattle.std.proofs.lemmas.Option.{slice_get_read, same_Some, slice_get_within}
use Rattle.ras_logic.specs.declared.literal.Literal.{Literal}
use Rattle.ras_refute.specs.declared.entry.Pair.{Pair}
use Rattle.ras_logic.specs.Literals.{same_of}
use Rattle.ras_refute.specs.Classes.{class}
use Rattle.ras_refute.proofs.Due.{length-sides, IsRead, sides-read}
use Rattle.ras_refute.proofs.facts.find_violated_fact.Goals as goal

pub bounds-sides-k : goal.bounds-sides-k
bounds-sides-k c =
    omega (arith, c.loop-k-test.true, ap length c.as_slice-sides.ensures.items, length-sides c.args.table.now.entries c.args.facts.now c.args.table.now.sides c.requires.numbers)

pub is_violated-requires-clause-left : goal.is_violated-requires-clause-left
is_violated-requires-clause-left c =
    rw c.requires.as_many
    (sides-read c.args.table.now.entries c.args.facts.now c.args.table.now.sides c.as_slice-sides.result.now c.loop-k.k c.requires.numbers c.as_slice-sides.ensures.items c.loop-k-test.true).left

pub is_violated-requires-clause-right : goal.is_violated-requires-clause-right
is_violated-requires-clause-right c =
    rw c.requires.as_many
    (sides-read c.args.table.now.entries c.args.facts.now c.args.table.now.sides c.as_slice-sides.result.now c.loop-k.k c.requires.numbers c.as_slice-sides.ensures.items c.loop-k-test.true).right

pub returns-then-is_violated : goal.returns-then-is_violated
returns-then-is_violated c =
    let pending = c.is_violated.ensures.0 c.if-is_violated.true in
    record {
      place = c.loop-k.k;
      fact = c.index-facts-k.result;
      known = slice_get_read c.args.facts.now (length c.args.facts.now) c.loop-k.k c.index-facts-k.result refl c.loop-k-test.true c.index-facts-k.is;
      numbers = (sides-read c.args.table.now.entries c.args.facts.now c.args.table.now.sides c.as_slice-sides.result.now c.loop-k.k c.requires.numbers c.as_slice-sides.ensures.items c.loop-k-test.true).at;
      says = pending.0;
      differ = pending.1;
    }

as_said : (together same : Bool) → (together ≡ not same → ⊥) → together ≡ same
as_said true true h = refl
as_said true false h = absurd (h refl)
as_said false true h = absurd (h refl)
as_said false false h = refl

pub loop-k-preserved : goal.loop-k-preserved
loop-k-preserved c =
    let p : Pair = get_or c.as_slice-sides.result.now c.loop-k.k (record { left = 0; right = 0 }) in
    let read : IsRead c.args.table.now.entries c.args.table.now.sides c.loop-k.k p =
    sides-read c.args.table.now.entries c.args.facts.now c.args.table.now.sides c.as_slice-sides.result.now c.loop-k.k c.requires.numbers c.as_slice-sides.ensures.items c.loop-k-test.true in
    let known : slice_get c.args.facts.now c.loop-k.k ≡ Some c.index-facts-k.result =
    slice_get_read c.args.facts.now (length c.args.facts.now) c.loop-k.k c.index-facts-k.result refl c.loop-k-test.true c.index-facts-k.is in
    below_more
    (λ (j : ℕ). (fact : Literal) (pair : Pair) → slice_get c.args.facts.now j ≡ Some fact → slice_get c.args.table.now.sides j ≡ Some pair → same_of fact ≡ c.args.same
    → nat_eq (class c.args.classes.now pair.left) (class c.args.classes.now pair.right) ≡ c.args.same)
    c.loop-k.k c.loop-k.invariant
    (λ fact pair f q says.
    let fact_is : c.index-facts-k.result ≡ fact = same_Some c.index-facts-k.result fact (sym known ∙ f) in
    subst (λ (x : Pair). nat_eq (class c.args.classes.now x.left) (class c.args.classes.now x.right) ≡ c.args.same) (same_Some p pair (sym read.at ∙ q))
    (as_said (nat_eq (class c.args.classes.now p.left) (class c.args.classes.now p.right)) c.args.same
    (λ e. absurd (cc (c.is_violated.ensures.1 (ap same_of fact_is ∙ says, e), c.if-is_violated.false)))))

pub returns : goal.returns
returns c = λ k fact pair f q says. c.loop-k.invariant k (omega (arith, slice_get_within c.args.facts.now k fact f, c.loop-k-test.false)) fact pair f q says
