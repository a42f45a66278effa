-- The product is the word packed from tag 4, the type and the size.
use Prim.Native.Nat.{◌+◌, ◌*◌, ◌^◌}
use native.Mathlib.Omega.{arith}
use mathlib.Core.Path.{◌≡◌}
use Rattle.words.specs.Word.{pack}
use Rattle.words.proofs.Laws.{record_packed}
use Rattle.words.proofs.record_word.Goals as goal

pub returns : goal.returns
unfolding pack
returns c m q =
    let packed : ((c.args.kind * 65536 + c.args.n) * 8 + 4) * 4294967296 ≡ pack 4 (c.args.kind * 2 ^ 16 + c.args.n) 0 = omega arith in
    rw packed (record_packed m q _ _ (omega arith) c.requires)
