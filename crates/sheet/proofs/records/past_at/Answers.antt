-- What the reader gives ends within the sheet, so the sum cannot wrap.
use mathlib.Core.Path.{◌≡◌, ap}
use native.Mathlib.Omega.{arith}
use lib.ListN.{length}
use Rattle.sheet.specs.Reader.{record_bytes, past_at}
use Rattle.sheet.proofs.Laws.{record_inside}
use Rattle.sheet.proofs.records.past_at.Goals as goal

pub overflow_add-result : goal.overflow_add-result
overflow_add-result c =
    let a = c.args in
    let e : length c.record_at.result.now ≡ length (record_bytes a.s.now a.at) = ap length c.record_at.ensures in
    omega (arith, e, record_inside a.s.now a.at)

pub returns : goal.returns
unfolding past_at
returns c = rw c.record_at.ensures
