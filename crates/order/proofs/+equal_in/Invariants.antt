use Rattle.order.proofs.Laws.{levels}
use Rattle.order.proofs.+equal_in.Given as goal

abbrev pub decreases-equal_in : goal.decreases-equal_in
decreases-equal_in l = levels l.i l.v
