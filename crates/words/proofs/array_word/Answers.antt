-- The sum is the word packed from tag 3, the base, the element, the size and the set.
use Prim.Native.Nat.{◌+◌, ◌-◌, ◌*◌, ◌^◌}
use native.Mathlib.Omega.{arith}
use mathlib.Core.Path.{◌≡◌}
use Rattle.words.specs.Word.{pack}
use Rattle.words.proofs.Laws.{array_packed}
use Rattle.words.proofs.array_word.Goals as goal

pub returns : goal.returns
unfolding pack
returns c m q =
    let a = c.args in
    let packed : ((((a.base - 2) * 256 + a.element) * 65536 + a.n) * 8 + 3) * 4294967296 + a.set
    ≡ pack 3 (((a.base - 2) * 2 ^ 8 + a.element) * 2 ^ 16 + a.n) a.set = omega arith in
    rw packed (array_packed m q _ _ _ _ (omega arith) c.requires.n_bound c.requires.le_base.0 c.requires.le_base.1 (omega arith))
