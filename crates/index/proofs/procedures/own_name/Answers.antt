-- The parts of the sum do not overlap.
use native.Mathlib.Omega.{arith}
use Rattle.index.proofs.Bounds.{own_named}
use Rattle.index.proofs.procedures.own_name.Goals as goal

pub returns : goal.returns
returns c h k = own_named _ _ _ (c.base_bits.ensures.result_value h k) c.base_bits.ensures.upper_bound (omega arith)
