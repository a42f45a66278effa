use Prim.Native.Nat.{ℕ, ◌+◌, ◌*◌, ◌<◌, ◌≤◌}
use mathlib.Core.Path.{◌≡◌}
use lib.ListN.{length, get_or}
use Rattle.sheet.specs.Layout.{procedure_at}
use Rattle.index.specs.Indexed.{ProcedureWord}
use Rattle.index.proofs.make.fill_procedures.Given as goal

abbrev pub invariant-loop-i : goal.invariant-loop-i
invariant-loop-i l = record {
  long : length l.index ≡ 129;
  here : l.at ≡ procedure_at l.e.bytes.now l.i;
  small : l.at ≤ 6000 + l.i * 700000;
  filled : (k : ℕ) → k < l.i → ProcedureWord l.e.bytes.now k (get_or l.index (64 + k) 0);
  below : (k : ℕ) → k < 64 → get_or l.index k 0 ≡ get_or l.initial.index k 0;
}
