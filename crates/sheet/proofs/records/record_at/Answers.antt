-- Where the record stands whole, its end is within the sheet and the part has its size; else the part is empty.
use mathlib.Core.Path.{sym, ◌∙◌}
use native.Mathlib.Nat.{add-sub_cancel_left}
use native.Mathlib.Omega.{arith}
use Rattle.sheet.specs.Reader.{record_bytes}
use Rattle.sheet.proofs.Laws.{whole_true}
use Rattle.sheet.proofs.records.record_at.Goals as goal

pub overflow_add-end : goal.overflow_add-end
overflow_add-end c =
    let a = c.args in
    omega (arith, whole_true a.s.now a.at _ (sym c.whole.ensures ∙ c.if-whole.true))

pub slice_bounds-result-end : goal.slice_bounds-result-end
slice_bounds-result-end c =
    let a = c.args in
    omega (arith, whole_true a.s.now a.at _ (sym c.whole.ensures ∙ c.if-whole.true))

pub returns-then-whole : goal.returns-then-whole
unfolding record_bytes
returns-then-whole c =
    rw (add-sub_cancel_left, ← c.size_at-n.ensures, sym c.whole.ensures ∙ c.if-whole.true)

pub returns : goal.returns
unfolding record_bytes
returns c =
    rw (← c.size_at-n.ensures, sym c.whole.ensures ∙ c.if-whole.false)
