use Rattle.order.proofs.Laws.{levels}
use Rattle.order.proofs.+agree_in.Given as goal

abbrev pub decreases-agree_in : goal.decreases-agree_in
decreases-agree_in l = levels l.i l.v
