-- The sum is the word packed from tag 1 and the number.
use Prim.Native.Nat.{◌+◌}
use native.Mathlib.Omega.{arith}
use mathlib.Core.Path.{◌≡◌}
use Rattle.words.specs.Word.{pack}
use Rattle.words.proofs.Laws.{integer_packed}
use Rattle.words.proofs.integer_word.Goals as goal

pub returns : goal.returns
unfolding pack
returns c m q =
    let packed : 4294967296 + c.args.n ≡ pack 1 0 c.args.n = omega arith in
    rw packed (integer_packed m q _ (omega arith))
