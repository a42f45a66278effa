-- The words of the types below j are filled, and no word from j on has changed.
use mathlib.Core.Path.{refl, sym, ◌∙◌}
use lib.ListN.{set, length-set}
use Rattle.sheet.specs.Layout.{quals_of}
use Rattle.index.specs.Types.{UseTold}
use Rattle.index.specs.Indexed.{TypeWord}
use Prim.Native.Nat.{◌<◌}
use Rattle.index.proofs.Filling.{filled_more, other_kept}
use Rattle.index.proofs.Uses.{told_kept}
use native.Mathlib.Omega.{arith}
use Rattle.index.proofs.make.fill_types.Goals as goal

pub loop-j-init : goal.loop-j-init
loop-j-init c = record { long = c.requires; filled = λ k l. absurd (omega arith); told = λ k l. absurd (omega arith); others = λ k l. refl }

pub loop-j-preserved : goal.loop-j-preserved
loop-j-preserved c =
    let l = c.loop-j in
    let s = c.args.e.bytes.now in
    let w = c.type_entry.result in
    let below : l.j < 64 = omega (arith, c.loop-j-test.true, c.min-n.ensures) in record {
      long = simp length-set l.invariant.long;
      filled = λ k h. filled_more (TypeWord s) (λ n. n) l.j w l.index (omega (arith, l.invariant.long)) (λ n m e. omega arith) c.type_entry.ensures.type_word l.invariant.filled k h;
      told = λ k h. filled_more (UseTold (set l.index l.j w)) (λ n. n) l.j w l.index (omega (arith, l.invariant.long)) (λ n m e. omega arith)
          (told_kept l.index l.j w l.j w below (omega arith) c.type_entry.ensures.use_told)
          (λ n m. told_kept l.index l.j w n _ below (omega arith) (l.invariant.told n m)) k h;
      others = λ k h. other_kept l.index c.args.index.now l.j w k (λ e. omega arith) (l.invariant.others k (omega arith));
    }

pub returns : goal.returns
unfolding quals_of
returns c =
    let l = c.loop-j in
    record {
      long = l.invariant.long ∙ sym c.requires;
      types = λ j h m. l.invariant.filled j (omega (arith, c.byte.ensures, c.min-n.ensures));
      uses_told = λ j h m. l.invariant.told j (omega (arith, c.byte.ensures, c.min-n.ensures));
      others = λ k h. l.invariant.others k (omega (arith, c.byte.ensures, c.min-n.ensures, l.auto.j-end));
      above = λ k h. l.invariant.others k (omega (arith, c.min-n.ensures, l.auto.j-end));
    }
