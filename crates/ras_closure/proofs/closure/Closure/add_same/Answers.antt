use Rattle.ras_closure.proofs.Answering.{err-no_model, err-facts_clash, err-conflict}
use Rattle.ras_closure.proofs.closure.Closure.add_same.Goals as goal

pub returns-clause-no_model : goal.returns-clause-no_model
returns-clause-no_model c =
    err-no_model c.note_same-answer.new.self c.known.ensures.table c.known.ensures.closure c.note_same-answer.result c.note_same-answer.ensures.ok c.note_same-answer.ensures.clash

pub returns-clause-facts_clash : goal.returns-clause-facts_clash
returns-clause-facts_clash c =
    err-facts_clash c.note_same-answer.new.self c.known.ensures.table c.known.ensures.closure c.note_same-answer.result c.note_same-answer.ensures.ok c.note_same-answer.ensures.clash

pub returns-clause-conflict : goal.returns-clause-conflict
returns-clause-conflict c = err-conflict c.note_same-answer.new.self c.known.ensures.table c.known.ensures.closure c.note_same-answer.result c.note_same-answer.ensures.clash
