-- The plain step counts itself, and counted twice is counted once.
use Rattle.lent_step.proofs.Laws.{turned_again}
use Rattle.run_by_frames.proofs.machine.PlainMachine.turn.Goals as goal

pub returns : goal.returns
returns c = turned_again c.step_by.ensures
