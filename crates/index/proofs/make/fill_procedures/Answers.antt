-- `at` stays at procedure i's place, which is small; the words of the procedures below i are filled, and none before them has changed.
use Prim.Native.Nat.{◌+◌, ◌^◌, ◌<◌}
use lib.Seq.{get_or-set_other}
use borrow.Author.Tests.{lt-ltb}
use mathlib.Core.Path.{◌≡◌, refl, ap, ◌∙◌}
use lib.ListN.{length-set}
use Rattle.sheet.specs.Layout.{procedures_of, procedure_at, quals_of}
use Rattle.index.specs.Indexed.{ProcedureWord}
use Rattle.index.specs.Procedures.{place_of, procedure_in}
use Rattle.index.proofs.Filling.{filled_more, other_kept, end_place}
use native.Mathlib.Omega.{arith}
use native.Mathlib.Numerals.{add-one}
use Rattle.index.proofs.make.fill_procedures.Goals as goal

pub loop-i-init : goal.loop-i-init
unfolding procedure_at quals_of
loop-i-init c = record {
  long = c.requires;
  here = rw (c.qual_at-at.ensures.value, c.byte-2.ensures);
  small = omega arith;
  filled = λ k l. absurd (omega arith);
  below = λ k l. refl;
}

pub loop-i-preserved : goal.loop-i-preserved
loop-i-preserved c =
    let l = c.loop-i in
    let s = c.args.e.bytes.now in
    let here = l.invariant.here in
    let w = c.procedure_entry.result in record {
      long = simp length-set l.invariant.long;
      here = rw add-one (c.next_from-at.ensures.value here);
      small = omega (arith, c.next_from-at.ensures.upper_bound, l.invariant.small);
      filled = filled_more (ProcedureWord s) (λ n. 64 + n) l.i w l.index (omega (arith, l.invariant.long)) (λ n m e. omega arith) (c.procedure_entry.ensures here) l.invariant.filled;
      below = λ k h. other_kept l.index c.args.index.now (64 + l.i) w k (λ e. omega arith) (l.invariant.below k h);
    }

pub returns : goal.returns
unfolding procedures_of procedure_in
returns c =
    let l = c.loop-i in
    let w = c.procedure_word.result in
    let s = c.args.e.bytes.now in
    let n = c.min-n.result in
    let all : l.i ≡ n = omega (arith, l.auto.i-end) in
    let small : l.at < 2 ^ 31 = omega (arith, l.invariant.small) in
    let placed = filled_more (λ k w. place_of w ≡ procedure_at s k) (λ n. 64 + n) l.i w l.index (omega (arith, l.invariant.long)) (λ n m e. omega arith)
    (ap place_of c.procedure_word.ensures ∙ end_place l.at small ∙ l.invariant.here) (λ k h. (l.invariant.filled k h).place) in
    rw (← all) record {
      places = λ k h m. rw (lt-ltb k 65 (omega arith)) (placed k (omega (arith, c.byte.ensures, c.min-n.ensures)));
      procedures = λ k h m.
          let b : k < l.i = omega (arith, c.byte.ensures, c.min-n.ensures) in
          let n : 64 + k ≡ 64 + l.i → ⊥ = (λ e. omega arith) in
          rw (lt-ltb k 65 (omega arith), get_or-set_other l.index (64 + l.i) (64 + k) w 0 n) (l.invariant.filled k b);
      below = λ k h. other_kept l.index c.args.index.now (64 + l.i) w k (λ e. omega arith) (l.invariant.below k h);
    }
