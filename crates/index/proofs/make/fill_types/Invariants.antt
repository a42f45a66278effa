use Prim.Native.Nat.{ℕ, ◌<◌, ◌≤◌}
use mathlib.Core.Path.{◌≡◌}
use lib.ListN.{length, get_or}
use Rattle.index.specs.Types.{UseTold}
use Rattle.index.specs.Indexed.{TypeWord}
use Rattle.index.proofs.make.fill_types.Given as goal

abbrev pub invariant-loop-j : goal.invariant-loop-j
invariant-loop-j l = record {
  long : length l.index ≡ 129;
  filled : (k : ℕ) → k < l.j → TypeWord l.e.bytes.now k (get_or l.index k 0);
  told : (k : ℕ) → k < l.j → UseTold l.index k (get_or l.index k 0);
  others : (k : ℕ) → l.j ≤ k → get_or l.index k 0 ≡ get_or l.initial.index k 0;
}
