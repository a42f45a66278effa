-- The parts of the memory that are read are those that the view sees; the writer does what is planned.
use Rattle.model.specs.Modes.{plain}
use Rattle.plain_step.proofs.Laws.{performs_number}
use Rattle.plain_step.proofs.arms.size.Goals as goal

pub returns : goal.returns
returns c = λ s. performs_number s _ _ _ _ _ c.parts.ensures.frame c.parts.ensures.objects c.args.a _ (c.give_number.ensures plain) (λ q g v S. c.array_size_of-n.ensures q g v c.args.a S)
