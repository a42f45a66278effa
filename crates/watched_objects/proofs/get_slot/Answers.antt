-- What is read is what the view sees; the writer does what is planned.
use Rattle.model.specs.Modes.{watched}
use Rattle.sheet.specs.Meaning.{qual_of}
use Rattle.words.specs.Answers.{moved_to}
use Rattle.watched_calls.proofs.Laws.{performs_reading}
use Rattle.watched_objects.proofs.get_slot.Goals as goal

pub returns : goal.returns
returns c =
    let a = c.args in
    let asked = c.get_guarded-m in
    λ input out. performs_reading a.s.bytes.now input a.memory.now c.give_moved.new.memory out out a.r c.give_moved.result _ (λ z. moved_to watched (qual_of z) a.a asked.result) (λ d q. c.give_moved.ensures watched d out asked.ensures.0) c.parts.ensures.frame c.parts.ensures.objects c.requires.scope_here asked.ensures.1
