-- The size that the word has is that of the procedure's GN.
use Rattle.index.proofs.Bounds.{bounded}
use Rattle.index.proofs.procedures.is_bounded_in.Goals as goal

pub returns : goal.returns
returns c s k p = rw c.bound_in.ensures (bounded p)
