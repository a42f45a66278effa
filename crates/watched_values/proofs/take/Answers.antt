-- The next input word is that which the state has left; a word that is there and no integer's is 18.
use mathlib.Core.Path.{sym}
use lib.ListN.{drop}
use Rattle.std.specs.Prelude.{Err}
use Rattle.model.specs.Modes.{watched}
use Rattle.model.specs.declared.Halt.TheVariants.{WrongKind}
use Rattle.model.specs.Outcome.{wrong_kind, stop}
use Rattle.model.specs.Machine.{first_of}
use Rattle.sheet.specs.Meaning.{program_of}
use Rattle.index.proofs.Reading.{inner_read}
use Rattle.binding.proofs.Laws.{passed, refused, exit_is}
use Rattle.writers.specs.Steps.{take_effect}
use Rattle.writers.proofs.Effects.{does_stop}
use Rattle.watched_values.proofs.Laws.{takes, takes_misfit, performs_taking}
use Rattle.watched_values.proofs.take.Goals as goal

pub returns-in_err-require : goal.returns-in_err-require
returns-in_err-require c =
    let a = c.args in
    let k = refused _ _ c.require.ensures c.in_err-require.was in
    rw (exit_is c.from_residual.ensures.1, k.0)
    (λ out. performs_taking a.s.bytes.now a.input.now a.memory.now a.memory.now out out a.r (Err WrongKind) _ (λ z. stop wrong_kind) (λ d q. does_stop watched d a.memory.now out a.r WrongKind) c.requires.scope_here (λ v at e. takes_misfit (program_of a.s.bytes.now) v a.a a.r.taken a.input.now (sym (inner_read at _)) c.takes_integer.ensures e k.1))

pub returns : goal.returns
returns c =
    let a = c.args in
    λ out. performs_taking a.s.bytes.now a.input.now a.memory.now c.take_input.new.memory out out a.r c.take_input.result _ (λ z. take_effect watched a.a (first_of (drop a.r.taken a.input.now))) (λ d q. c.take_input.ensures watched d out) c.requires.scope_here (λ v at e. takes (program_of a.s.bytes.now) v a.a a.r.taken a.input.now (sym (inner_read at _)) c.takes_integer.ensures e (passed _ _ c.require.ensures c.in_ok-require.was))
