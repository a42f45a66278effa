-- What is asked for is what is planned; the writer does it.
use Rattle.model.specs.Modes.{watched}
use Rattle.words.specs.Answers.{given}
use Rattle.watched_calls.proofs.Laws.{performs_seeing}
use Rattle.watched_values.proofs.set.Goals as goal

pub returns : goal.returns
returns c =
    let a = c.args in
    λ input out. performs_seeing a.s.bytes.now input a.memory.now c.give_number.new.memory out out a.r c.give_number.result _ (λ z. given watched a.a c.set_guarded.result) (λ d q. c.give_number.ensures watched d out) c.requires.scope_here (c.set_guarded.ensures _ _)
