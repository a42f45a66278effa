-- The room is tested first; then the actuals are bound into the words where the frame will stand, which is opened around them.
use mathlib.Core.Path.{subst, ◌∙◌, ap}
use Rattle.model.specs.Modes.{watched}
use Rattle.model.specs.Qualified.{rights}
use Rattle.model.specs.Generic.{instance}
use Rattle.binding.proofs.Laws.{exit_is}
use Rattle.watched_calls.specs.Calls.{Binds}
use Rattle.watched_calls.proofs.Calling.{enter_full, enter_stops, enter_goes}
use Rattle.watched_calls.proofs.enter.Goals as goal

pub returns-then-r-v : goal.returns-then-r-v
returns-then-r-v c =
    let a = c.args in
    λ k z scope C. enter_full a.s.bytes.now a.memory.now a.r a.a a.b k _ z C _ c.variables_in-v.ensures c.if-r-v.true

pub returns-in_err-bind_actuals : goal.returns-in_err-bind_actuals
returns-in_err-bind_actuals c =
    let a = c.args in
    rw (exit_is c.from_residual.ensures.1)
    (λ k z scope C. enter_stops a.s.bytes.now a.memory.now a.r a.a a.b k _ z C _ c.variables_in-v.ensures c.if-r-v.false _ c.formals_in-f.ensures c.bind_actuals.new.memory _ (subst (Binds _ _ _ _ _ _ _ _ _) c.in_err-bind_actuals.was (c.bind_actuals.ensures k z scope)))

pub returns : goal.returns
unfolding instance rights
returns c =
    let a = c.args in
    λ k z scope C. enter_goes a.s.bytes.now a.memory.now a.r a.a a.b k _ z C _ c.variables_in-v.ensures c.if-r-v.false _ c.formals_in-f.ensures c.bind_actuals.new.memory c.«open».new.memory c.«open».result _ (subst (Binds _ _ _ _ _ _ _ _ _) c.in_ok-bind_actuals.was (c.bind_actuals.ensures k z scope)) (c.name_rights.ensures ∙ ap rights scope.name) (c.«open».ensures watched)
