-- The parts of the memory that are read are those that the view sees; the writer does what is planned.
use Rattle.model.specs.Modes.{plain}
use Rattle.plain_step.proofs.Laws.{performs_stored}
use Rattle.plain_step.proofs.arms.store.Goals as goal

pub returns : goal.returns
returns c = λ s. performs_stored s _ _ _ _ _ c.parts.ensures.frame c.parts.ensures.objects _ (c.store_cell.ensures plain) (λ q g v S. c.store_at-m.ensures q g v S)
