use Rattle.std.proofs.Common.{ap, sym, ◌∙◌}
use Rattle.std.specs.Io.KnownBytes.{append_known}
use Rattle.ras_cli.specs.Words.{texts}
use Rattle.ras_cli.proofs.Doing.{what_is_done, every_no_command, every_told, stand_or_rose, stand_unless_50}
use Rattle.ras_cli.proofs.verify.verify_quiet.Goals as goal

pub returns-in-Ok-put_text-clause-done : goal.returns-in-Ok-put_text-clause-done
returns-in-Ok-put_text-clause-done g c = λ is.
    what_is_done (texts c.args.words.now) (g.H.Shelf.told c.args.shelf.now) (g.H.Shelf.faults c.args.shelf.now) (g.H.Shelf.faults c.outcome.new.shelf) c.in-Ok.outcome c.in-Ok.ensures.comes
    (sym c.status.ensures ∙ is)

pub returns-in-Ok-put_text-clause-every_no_command : goal.returns-in-Ok-put_text-clause-every_no_command
returns-in-Ok-put_text-clause-every_no_command g c =
    every_no_command (texts c.args.words.now) (g.H.Shelf.told c.args.shelf.now) (g.H.Shelf.faults c.args.shelf.now) (g.H.Shelf.faults c.outcome.new.shelf) c.status.result c.in-Ok.outcome
    c.in-Ok.ensures.comes c.status.ensures

pub returns-in-Ok-put_text-clause-every_told : goal.returns-in-Ok-put_text-clause-every_told
returns-in-Ok-put_text-clause-every_told g c = λ p told.
    every_told c.in-Ok.outcome p c.status.result (g.K.Sink.written c.args.out.now) (g.K.Sink.written c.put_text.new.out)
    (c.told_files_come_to_one_answer.ensures (texts c.args.words.now) (g.H.Shelf.told c.args.shelf.now) (g.H.Shelf.faults c.args.shelf.now) (g.H.Shelf.faults c.outcome.new.shelf) c.in-Ok.outcome p
    c.in-Ok.ensures.comes told)
    c.status.ensures (c.in-Ok-put_text.ensures.whole ∙ ap (append_known (g.K.Sink.written c.args.out.now)) (c.deref.ensures.value ∙ c.in-Ok-text.ensures))

pub returns-in-Ok-put_text-clause-stands : goal.returns-in-Ok-put_text-clause-stands
returns-in-Ok-put_text-clause-stands g c = λ cut other.
    stand_unless_50 (g.H.Shelf.faults c.args.shelf.now) (g.H.Shelf.faults c.outcome.new.shelf) c.in-Ok.outcome c.in-Ok.ensures.stands (λ is. other (c.status.ensures ∙ is))

pub returns-in-Ok-put_text-clause-rose : goal.returns-in-Ok-put_text-clause-rose
returns-in-Ok-put_text-clause-rose g c =
    stand_or_rose (texts c.args.words.now) (g.H.Shelf.told c.args.shelf.now) (g.H.Shelf.faults c.args.shelf.now) (g.H.Shelf.faults c.outcome.new.shelf) c.in-Ok.outcome c.in-Ok.ensures.comes
    c.in-Ok.ensures.stands

pub returns-in_default-text-clause-rose : goal.returns-in_default-text-clause-rose
returns-in_default-text-clause-rose g c =
    stand_or_rose (texts c.args.words.now) (g.H.Shelf.told c.args.shelf.now) (g.H.Shelf.faults c.args.shelf.now) (g.H.Shelf.faults c.outcome.new.shelf) c.in-Ok.outcome c.in-Ok.ensures.comes
    c.in-Ok.ensures.stands

pub returns-clause-rose : goal.returns-clause-rose
returns-clause-rose g c =
    stand_or_rose (texts c.args.words.now) (g.H.Shelf.told c.args.shelf.now) (g.H.Shelf.faults c.args.shelf.now) (g.H.Shelf.faults c.outcome.new.shelf) c.in-Ok.outcome c.in-Ok.ensures.comes
    c.in-Ok.ensures.stands
