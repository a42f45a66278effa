-- What is read is what the view sees; the writer does what is planned.
use Rattle.model.specs.Modes.{watched}
use Rattle.sheet.specs.Meaning.{qual_of}
use Rattle.words.specs.Answers.{stored}
use Rattle.watched_calls.proofs.Laws.{performs_reading}
use Rattle.watched_objects.proofs.set_slot.Goals as goal

pub returns : goal.returns
returns c =
    let a = c.args in
    let asked = c.set_slot_guarded-m in
    λ input out. performs_reading a.s.bytes.now input a.memory.now c.store_cell.new.memory out out a.r c.store_cell.result _ (λ z. stored watched (qual_of z) asked.result) (λ d q. c.store_cell.ensures watched d out (rw c.parts.ensures.objects at asked.ensures.0)) c.parts.ensures.frame c.parts.ensures.objects c.requires.scope_here asked.ensures.1
