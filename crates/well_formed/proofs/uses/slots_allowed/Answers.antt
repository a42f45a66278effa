use mathlib.Core.Path.{◌≡◌, ap, ◌∙◌}
use mathlib.Core.Bool.{Bool, not, cond}
use Rattle.std.proofs.Common.{arith}
use Rattle.std.specs.Prelude.{Ok, Err}
use Rattle.model.specs.declared.Reason.TheVariants.{OffScale}
use Rattle.model.specs.Refusal.{failure}
use Rattle.model.proofs.Verdicts.{test_refuses}
use Rattle.well_formed.proofs.Told.{slot_test, slot_told}
use Rattle.well_formed.proofs.uses.slots_allowed.Goals as goal

pub returns-in_err-require : goal.returns-in_err-require
returns-in_err-require c =
    let s = c.args.s.bytes.now in
    let at = c.args.at in
    let k = c.loop-k.k in
    let here = slot_told c.args.s at k c.byte-slot.result (rw c.from.ensures at c.byte-slot.ensures) in
    let said : Err c.in_err-require.field-0.0 ≡ failure (slot_test s at k) = c.in_err-require.ensures {u = tt} ∙ ap (λ (b : Bool). cond (not b) (Ok tt) (Err OffScale)) c.uses_name.ensures ∙ here in
    let refused = test_refuses (slot_test s at) k _ _ (rw c.byte-k-end.ensures at c.loop-k-test.true) c.loop-k.invariant said in
    grind (arith, refused)
