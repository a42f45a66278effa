-- Where the first instruction stands nearer to the start than the VRs are long, the difference is 0.
use native.Mathlib.Omega.{arith}
use Rattle.index.specs.Procedures.{start_of}
use Rattle.index.proofs.procedures.start_in.Goals as goal

pub returns-then-first-variables : goal.returns-then-first-variables
unfolding start_of
returns-then-first-variables c = omega (arith, c.variables_in.ensures, c.first_in-first.ensures, c.if-first-variables.true)

pub returns : goal.returns
unfolding start_of
returns c = omega (arith, c.variables_in.ensures, c.first_in-first.ensures, c.if-first-variables.false)
