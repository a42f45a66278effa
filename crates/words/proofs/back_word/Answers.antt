-- The sum is the word packed from tag 5, the instruction, the kept variable and the set.
use Prim.Native.Nat.{◌+◌, ◌*◌, ◌^◌}
use native.Mathlib.Omega.{arith}
use mathlib.Core.Path.{◌≡◌}
use Rattle.words.specs.Word.{pack}
use Rattle.words.proofs.Laws.{back_packed}
use Rattle.words.proofs.back_word.Goals as goal

pub returns : goal.returns
unfolding pack
returns c m q =
    let a = c.args in
    let packed : ((a.next * 16384 + a.kept) * 8 + 5) * 4294967296 + a.set ≡ pack 5 (a.next * 2 ^ 14 + a.kept) a.set = omega arith in
    rw packed (back_packed m q _ _ _ (omega arith) (omega arith))
