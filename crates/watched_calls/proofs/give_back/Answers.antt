-- What is handed over decides how the frame that waits goes on.
use mathlib.Core.Path.{ap, ◌∙◌}
use Rattle.std.specs.Prelude.{Ok}
use Rattle.binding.proofs.Laws.{exit_is}
use Rattle.watched_calls.proofs.Returning.{gives_nothing, gives_word, gives_halt}
use Rattle.watched_calls.proofs.give_back.Goals as goal

pub returns-in_err-handed_by : goal.returns-in_err-handed_by
returns-in_err-handed_by c =
    let a = c.args in
    rw (exit_is c.from_residual.ensures.1)
    (gives_halt a.s.sheet.bytes.now a.memory.now a.memory.now a.r a.a c.requires.scope_here c.handed_by.result c.handed_by.ensures c.in_err-handed_by.was)

pub returns-in-None : goal.returns-in-None
returns-in-None c =
    let a = c.args in
    gives_nothing a.s.sheet.bytes.now a.memory.now a.memory.now a.r a.a c.requires.scope_here c.handed_by.result c.handed_by.ensures c.resume_without.result (c.in_ok-handed_by.was ∙ ap Ok c.in-None.is) (c.resume_without.ensures a.s.sheet.bytes.now)

pub returns-in-Some : goal.returns-in-Some
returns-in-Some c =
    let a = c.args in
    gives_word a.s.sheet.bytes.now a.memory.now c.resume_with.new.memory a.r a.a c.requires.scope_here c.handed_by.result c.handed_by.ensures c.resume_with.result (c.in_ok-handed_by.was ∙ ap Ok c.in-Some.is) c.resume_with.ensures
