-- The two words behind the running frame tell where the one that waits goes back, and its procedure.
use mathlib.Core.Path.{refl}
use Rattle.frames.proofs.Returning.{waits}
use Rattle.frames.proofs.waiting.Goals as goal

pub returns-clause-waits : goal.returns-clause-waits
returns-clause-waits c = waits c.args.memory.now c.args.r _ _ _ _ _ c.frame_end-end.ensures refl refl c.back_next.ensures refl
