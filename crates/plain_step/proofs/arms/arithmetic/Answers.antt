-- The parts of the memory that are read are those that the view sees; the writer does what is planned.
use Rattle.model.specs.Modes.{plain}
use Rattle.plain_step.proofs.Laws.{performs_number}
use Rattle.plain_step.proofs.arms.arithmetic.Goals as goal

pub returns : goal.returns
returns g c = λ s. performs_number s _ _ _ _ _ c.parts.ensures.frame c.parts.ensures.objects c.args.a _ (c.give_number.ensures plain) (λ q p v S. c.arithmetic_of-n.ensures q p v _ c.args.a S)
