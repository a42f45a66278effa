-- The test is that of the definition: an array of x cells takes x + 1 units.
use Rattle.model.specs.Modes.{watched}
use Rattle.model.specs.declared.Halt.TheVariants.{MemoryFull}
use Rattle.binding.proofs.Laws.{exit_is}
use Rattle.writers.proofs.Effects.{does_stop, does_halt}
use Rattle.writers.proofs.Planned.{array_full, array_halt}
use Rattle.watched_objects.proofs.give_array.Goals as goal

pub returns-in_err-x : goal.returns-in_err-x
returns-in_err-x c =
    rw (exit_is c.from_residual.ensures.1)
    (λ plain d out q. rw (c.in_err-x.was, array_halt) (does_halt watched d _ out c.args.r _))

pub returns-then-r-x : goal.returns-then-r-x
returns-then-r-x c =
    λ plain d out q. rw (c.in_ok-x.was, array_full watched _ _ _ _ c.if-r-x.true) (does_stop watched d _ out c.args.r MemoryFull)
