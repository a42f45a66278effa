-- The sum is the word packed from tag 2, the name and the rights.
use Prim.Native.Nat.{◌+◌, ◌*◌}
use native.Mathlib.Omega.{arith}
use mathlib.Core.Path.{◌≡◌}
use Rattle.words.specs.Word.{pack}
use Rattle.words.proofs.Laws.{object_packed}
use Rattle.words.proofs.object_word.Goals as goal

pub returns : goal.returns
unfolding pack
returns c m q =
    let packed : (c.args.a * 8 + 2) * 4294967296 + c.args.rights ≡ pack 2 c.args.a c.args.rights = omega arith in
    rw packed (object_packed m q _ _ (omega arith))
