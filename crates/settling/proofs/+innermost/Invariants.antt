use Rattle.index.proofs.Trees.{depth}
use Rattle.settling.proofs.+innermost.Given as goal

abbrev pub decreases-innermost : goal.decreases-innermost
decreases-innermost l = depth l.j
