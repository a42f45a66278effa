-- Two integers, of which the operation's `give` moves on, or a stop, which stays what it is.
use Rattle.std.proofs.Common.{sym, ◌∙◌}
use Rattle.model.specs.Modes.{watched}
use Rattle.sheet.specs.Meaning.{program_of}
use Rattle.binding.proofs.Laws.{exit_is}
use Rattle.watched_plan.proofs.Laws.{computed, not_computed}
use Rattle.watched_plan.proofs.arithmetic_guarded.Goals as goal

pub returns-in_err-m : goal.returns-in_err-m
returns-in_err-m g c =
    rw (exit_is c.from_residual.ensures.1)
    (λ h v at S.
    not_computed (program_of c.args.s.bytes.now) v _ _ _ g.A.Arithmetic.of (c.two_integers.ensures _ _ v h S) c.in_err-m.was
    ∙ sym (g.met.A.Arithmetic.planned watched _ v _ _ _))

pub returns : goal.returns
returns g c =
    λ h v at S.
    computed (program_of c.args.s.bytes.now) v _ _ _ g.A.Arithmetic.of (c.two_integers.ensures _ _ v h S) _ c.in_ok-m.was c.apply.ensures (c.give.ensures v at)
    ∙ sym (g.met.A.Arithmetic.planned watched _ v _ _ _)
