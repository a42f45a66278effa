-- Where the VRs start nearer to the start than what stands before them is long, the difference is 0.
use Rattle.index.specs.Procedures.{place_of}
use native.Mathlib.Omega.{arith}
use Rattle.index.proofs.procedures.place_in.Goals as goal

pub returns-then-start-head : goal.returns-then-start-head
unfolding place_of
returns-then-start-head c = omega arith

pub returns : goal.returns
unfolding place_of
returns c = omega arith
