use Rattle.std.proofs.Common.{◌≡◌, ap}
use Rattle.ras_closure.specs.Assertions.{MarkParts}
use Rattle.ras_closure.proofs.Places.{note-same, note-apart}
use Rattle.ras_closure.proofs.marks.Marks.note.Goals as goal

pub returns-then-same : goal.returns-then-same
returns-then-same c =
    let m : MarkParts = record { width = c.self.inside.width; same = c.self.inside.same.items; apart = c.self.inside.apart.items } in
    let w : c.self.inside.width ≡ c.args.self.now.width = ap (λ (q : MarkParts). q.width) c.self.view_is in
    rw (← c.self.view_is) (note-same m c.args.same c.place-at.result c.args.i c.args.j c.if-same.true (rw w c.place-at.ensures.value) c.self.invariant.0 (rw w c.requires.left) (rw w c.requires.right))

pub returns-else-same : goal.returns-else-same
returns-else-same c =
    let m : MarkParts = record { width = c.self.inside.width; same = c.self.inside.same.items; apart = c.self.inside.apart.items } in
    let w : c.self.inside.width ≡ c.args.self.now.width = ap (λ (q : MarkParts). q.width) c.self.view_is in
    rw (← c.self.view_is) (note-apart m c.args.same c.place-at.result c.args.i c.args.j c.if-same.false (rw w c.place-at.ensures.value) c.self.invariant.1 (rw w c.requires.left) (rw w c.requires.right))
