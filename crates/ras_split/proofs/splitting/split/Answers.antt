use Rattle.std.proofs.Common.{◌≡◌, refl, sym, ◌∙◌, ap, subst}
use Rattle.ras_closure.specs.Closures.{ClosureParts}
use Rattle.ras_closure.specs.Numbered.{IsAt}
use Rattle.ras_logic.specs.declared.term.Term.{Term}
use Rattle.ras_closure.proofs.Merges.{term_at}
use Rattle.ras_split.specs.Standing.{IsKept}
use Rattle.ras_split.specs.Splits.{Always, IsUndefAt, IsDefinedAt, HasNoTotalImage, AddsCases}
use Rattle.ras_split.proofs.Parting.{adds-one, adds-both, kept-split, static-split, undef-or, ok-more}
use Rattle.ras_split.proofs.splitting.split.Goals as goal

pub returns-then-not-has_total_image : goal.returns-then-not-has_total_image
returns-then-not-has_total_image c =
    let none = subst (λ (x : ClosureParts). HasNoTotalImage x c.args.term.n) c.closure.ensures (c.has_total_image.ensures c.if-not-has_total_image.true) in
    rw c.in_ok-push.ensures.ok
    (adds-one c.args.case.closure c.args.term.n Always c.args.cases.now c.args.case (static-split c.args.case.closure c.args.term.n c.requires.no_clash none) (λ d v model when. model.facts))

pub returns-then-is_kept : goal.returns-then-is_kept
returns-then-is_kept c =
    let kept = subst (λ (x : ClosureParts). (t : Term) → IsAt x.table.terms c.args.term.n t → IsKept x t) c.closure-2.ensures (c.is_kept.ensures c.if-is_kept.true) in
    rw c.in_ok-push-2.ensures.ok
    (adds-one c.args.case.closure c.args.term.n Always c.args.cases.now c.args.case (kept-split c.args.case.closure c.args.term.n c.requires.no_clash kept) (λ d v model when. model.facts))

pub returns : goal.returns
returns c =
    let t = term_at c.args.case.closure.table.terms c.args.term.n c.requires.within in
    let first = subst (λ (x : ClosureParts). AddsCases x c.args.term.n (IsUndefAt x c.args.term.n) c.args.cases.now c.add_undef.new.cases) c.closure-3.ensures c.in_ok-add_undef.ensures in
    ok-more c.add_defined.result c.add_defined.ensures
    (λ adds. adds-both c.args.case.closure c.args.term.n (IsUndefAt c.args.case.closure c.args.term.n) (IsDefinedAt c.args.case.closure c.args.term.n) c.args.cases.now c.add_undef.new.cases
    c.add_defined.new.cases first
    (subst (λ (x : ClosureParts). AddsCases x c.args.term.n (IsDefinedAt x c.args.term.n) c.add_undef.new.cases c.add_defined.new.cases) c.into_closure.ensures adds)
    (λ d v. undef-or c.args.case.closure c.args.term.n d v t.0 t.1))
