-- Two bytes of the sheet, low first.
use Prim.Native.Nat.{◌+◌}
use mathlib.Core.Path.{◌≡◌}
use native.Mathlib.Omega.{arith}
use Rattle.sheet.specs.Bytes.{byte_at}
use Rattle.sheet.proofs.Laws.{word_bytes}
use Rattle.sheet.proofs.bytes.word_whole.Goals as goal

pub returns : goal.returns
unfolding byte_at
returns c =
    let next : c.args.at + (c.args.k + 1) ≡ c.args.at + c.args.k + 1 = omega arith in
    rw (word_bytes, next, c.from.ensures, c.from-2.ensures)
