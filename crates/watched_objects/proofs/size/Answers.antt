-- What is read is what the view sees; the writer does what is planned.
use Rattle.model.specs.Modes.{watched}
use Rattle.words.specs.Answers.{given}
use Rattle.watched_calls.proofs.Laws.{performs_reading}
use Rattle.watched_objects.proofs.size.Goals as goal

pub returns : goal.returns
returns c =
    let a = c.args in
    let asked = c.size_guarded-n in
    λ input out. performs_reading a.s.bytes.now input a.memory.now c.give_number.new.memory out out a.r c.give_number.result _ (λ z. given watched a.a asked.result) (λ d q. c.give_number.ensures watched d out) c.parts.ensures.frame c.parts.ensures.objects c.requires.scope_here asked.ensures
