-- The parts of the memory that are read are those that the view sees; the writer does what is planned.
use Rattle.model.specs.Modes.{plain}
use Rattle.plain_step.proofs.Laws.{performs_moved}
use Rattle.plain_step.proofs.arms.fetch.Goals as goal

pub returns : goal.returns
returns c = λ s. performs_moved s _ _ _ _ _ c.parts.ensures.frame c.parts.ensures.objects c.args.a _ (c.give_moved.ensures plain) (λ q g v S. c.fetch_of-m.ensures q g v c.args.a S)
