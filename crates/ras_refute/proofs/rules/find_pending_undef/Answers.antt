use Rattle.std.proofs.Common.{arith, sym}
use Rattle.std.proofs.lemmas.Option.{slice_get_within}
use Rattle.ras_refute.specs.declared.entry.Entry.TheVariants.{Image}
use Rattle.ras_refute.specs.Classes.{by_undef, by_total}
use Rattle.ras_refute.proofs.Due.{undef-within}
use Rattle.ras_refute.proofs.rules.find_pending_undef.Goals as goal

pub bounds-classes-of : goal.bounds-classes-of
bounds-classes-of c =
    omega (arith, c.requires.as_many, c.requires.table.earlier c.args.i c.args.of c.args.function c.requires.image, slice_get_within c.args.table.now.entries c.args.i (Image c.args.of c.args.function) c.requires.image)

pub bounds-classes-source : goal.bounds-classes-source
bounds-classes-source c =
    rw c.requires.as_many (undef-within c.args.schema.now.sorts c.args.table.now.entries c.requires.undefs c.in_ok-decl.decl.source c.in_ok-decl.ensures.sorts.0)

pub bounds-classes-i : goal.bounds-classes-i
bounds-classes-i c = rw c.requires.as_many (slice_get_within c.args.table.now.entries c.args.i (Image c.args.of c.args.function) c.requires.image)

pub bounds-classes-target : goal.bounds-classes-target
bounds-classes-target c =
    rw c.requires.as_many (undef-within c.args.schema.now.sorts c.args.table.now.entries c.requires.undefs c.in_ok-decl.decl.target c.in_ok-decl.ensures.sorts.1)

pub bounds-classes-i-then-decl : goal.bounds-classes-i-then-decl
bounds-classes-i-then-decl c = rw c.requires.as_many (slice_get_within c.args.table.now.entries c.args.i (Image c.args.of c.args.function) c.requires.image)

pub bounds-classes-target-then-decl : goal.bounds-classes-target-then-decl
bounds-classes-target-then-decl c =
    rw c.requires.as_many (undef-within c.args.schema.now.sorts c.args.table.now.entries c.requires.undefs c.in_ok-decl.decl.target c.in_ok-decl.ensures.sorts.1)

pub returns-then-classes-i : goal.returns-then-classes-i
returns-then-classes-i c = λ facts. record {
  due = by_undef c.args.i c.args.of c.args.function c.in_ok-decl.decl c.requires.image (sym c.in_ok-decl.ensures.known) c.if-classes-of.true;
  differ = c.if-classes-i.true;
  left = slice_get_within c.args.table.now.entries c.args.i (Image c.args.of c.args.function) c.requires.image;
  right = undef-within c.args.schema.now.sorts c.args.table.now.entries c.requires.undefs c.in_ok-decl.decl.target c.in_ok-decl.ensures.sorts.1;
}

pub returns-then-classes-i-2 : goal.returns-then-classes-i-2
returns-then-classes-i-2 c = λ facts. record {
  due = by_total c.args.i c.args.of c.args.function c.in_ok-decl.decl c.requires.image (sym c.in_ok-decl.ensures.known) c.if-decl.true c.if-classes-i-2.true;
  differ = c.if-classes-of.false;
  left = omega (arith, c.requires.table.earlier c.args.i c.args.of c.args.function c.requires.image, slice_get_within c.args.table.now.entries c.args.i (Image c.args.of c.args.function) c.requires.image);
  right = undef-within c.args.schema.now.sorts c.args.table.now.entries c.requires.undefs c.in_ok-decl.decl.source c.in_ok-decl.ensures.sorts.0;
}
