-- The tests are those of the definition, in its order; the rest is what `enter` ensures, with the set that ?R is settled to.
use mathlib.Core.Path.{subst}
use Rattle.sheet.specs.Layout.{result_at}
use Rattle.index.specs.Scope.{bound_of_procedure, inner_as}
use Rattle.index.proofs.Reading.{placed_word}
use Rattle.settling.specs.Settles.{callee_as}
use Rattle.settling.proofs.Actuals.{bound_here}
use Rattle.frames.proofs.Called.{loaded, formals_within, bound_within, word_is}
use Rattle.binding.proofs.Laws.{exit_is}
use Rattle.watched_calls.specs.Calls.{Settles}
use Rattle.watched_calls.proofs.Calling.{call_unkept, call_stops, call_enters}
use Rattle.watched_calls.proofs.call.Goals as goal

pub returns-then-a-field : goal.returns-then-a-field
unfolding result_at
returns-then-a-field c =
    let a = c.args in
    let s = a.s.sheet.bytes.now in
    let index = a.s.sheet.index.now in
    let L = loaded a.s in
    let C = word_is s index L a.k c.requires.callable.procedure c.procedure_in-callee.ensures in
    let to = c.own_scope-own.ensures a.k (placed_word C) (bound_within s index L a.k c.requires.callable.procedure) in
    call_unkept s a.memory.now a.r a.a a.b a.k c.requires.scope_here to c.field.ensures c.if-a-field.true

pub enter-requires-clause-enterable : goal.enter-requires-clause-enterable
enter-requires-clause-enterable c =
    let a = c.args in
    let s = a.s.sheet.bytes.now in
    let index = a.s.sheet.index.now in
    let L = loaded a.s in
    let C = word_is s index L a.k c.requires.callable.procedure c.procedure_in-callee.ensures in
    let few = formals_within s index L a.k c.requires.callable.procedure in
    record { next = c.requires.callable.next; formals = rw (C.formals, C.variables) few }

pub returns-in_err-name : goal.returns-in_err-name
unfolding result_at
returns-in_err-name c =
    let a = c.args in
    let s = a.s.sheet.bytes.now in
    let index = a.s.sheet.index.now in
    let L = loaded a.s in
    let C = word_is s index L a.k c.requires.callable.procedure c.procedure_in-callee.ensures in
    let to = c.own_scope-own.ensures a.k (placed_word C) (bound_within s index L a.k c.requires.callable.procedure) in
    let told = c.settled.ensures (bound_of_procedure s a.k) (bound_here to (c.is_bounded_in.ensures s a.k (placed_word C))) in
    let stops = subst (Settles (inner_as s a.p) (callee_as s (bound_of_procedure s a.k) c.own_scope-own.result) a.b) c.in_err-name.was told in
    rw (exit_is c.from_residual.ensures.1, ← stops.stop)
    (call_stops s a.memory.now a.r a.a a.b a.k c.requires.scope_here to c.field.ensures c.if-a-field.false stops.why stops.told)

pub returns : goal.returns
unfolding result_at
returns c =
    let a = c.args in
    let s = a.s.sheet.bytes.now in
    let index = a.s.sheet.index.now in
    let L = loaded a.s in
    let C = word_is s index L a.k c.requires.callable.procedure c.procedure_in-callee.ensures in
    let to = c.own_scope-own.ensures a.k (placed_word C) (bound_within s index L a.k c.requires.callable.procedure) in
    let told = c.settled.ensures (bound_of_procedure s a.k) (bound_here to (c.is_bounded_in.ensures s a.k (placed_word C))) in
    call_enters s a.memory.now a.r a.a a.b a.k c.requires.scope_here to c.field.ensures c.if-a-field.false _
    (subst (Settles (inner_as s a.p) (callee_as s (bound_of_procedure s a.k) c.own_scope-own.result) a.b) c.in_ok-name.was told) c.enter.new.memory c.enter.result _ C c.requires.callable c.enter.ensures
