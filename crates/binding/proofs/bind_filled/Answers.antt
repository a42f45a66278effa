-- An integer is of base 0; an object is tested by its head, and gets the rights in the type's word.
use native.Mathlib.Omega.{arith}
use mathlib.Core.Path.{sym, ap, ◌∙◌}
use borrow.Author.Tests.{eqb-true, eqb-false}
use Rattle.model.specs.Modes.{watched}
use Rattle.index.specs.Types.{shape_of, qual_in}
use Rattle.words.specs.Word.{payload}
use Rattle.words.proofs.Laws.{slot_integer}
use Rattle.binding.proofs.Laws.{passed, refused, exit_is, integer_there, integer_elsewhere, bind_integer, bind_no_integer, rights_there, object_misfits, object_without, object_bound}
use Rattle.binding.proofs.bind_filled.Goals as goal

pub returns-in_err-require : goal.returns-in_err-require
returns-in_err-require c =
    let k = refused _ _ c.require.ensures c.in_err-require.was in
    let one = eqb-true _ _ (sym c.is_integer_word.ensures ∙ c.if-is_integer_word.true) in
    rw (exit_is c.from_residual.ensures.1, k.0)
    (record {
      fine = tt;
      moves = λ g v x m heads e. bind_no_integer (qual_in c.args.index.now) c.args.h.now _ _ g v x m heads e one (integer_elsewhere _ _ _ (λ z. eqb-false _ _ k.1 (c.shape_in.ensures ∙ ap shape_of c.type_word_as-t.ensures ∙ z)));
    })

pub returns-then-is_integer_word : goal.returns-then-is_integer_word
returns-then-is_integer_word c =
    let one = eqb-true _ _ (sym c.is_integer_word.ensures ∙ c.if-is_integer_word.true) in
    let zero = sym (c.shape_in.ensures ∙ ap shape_of c.type_word_as-t.ensures) ∙ eqb-true _ _ (passed _ _ c.require.ensures c.in_ok-require.was) in
    record {
      fine = λ k q. rw (slot_integer k q _ one);
      moves = λ g v x m heads e. bind_integer (qual_in c.args.index.now) c.args.h.now _ _ g v x m heads e one (integer_there _ _ _ zero);
    }

pub returns-in_err-require-2 : goal.returns-in_err-require-2
returns-in_err-require-2 c =
    let k = refused _ _ c.require-2.ensures c.in_err-require-2.was in
    let other = eqb-false _ _ (sym c.is_integer_word.ensures ∙ c.if-is_integer_word.false) in
    rw (exit_is c.from_residual-in_err-require-2.ensures.1, k.0)
    (record {
      fine = tt;
      moves = λ g v x m heads e. object_misfits (qual_in c.args.index.now) c.args.h.now _ _ g v x m heads e other c.name_of.ensures c.read.ensures c.object_fits-fits.ensures k.1;
    })

pub returns-in_err-require-3 : goal.returns-in_err-require-3
returns-in_err-require-3 c =
    let k = refused _ _ c.require-3.ensures c.in_err-require-3.was in
    let other = eqb-false _ _ (sym c.is_integer_word.ensures ∙ c.if-is_integer_word.false) in
    let fits = passed _ _ c.require-2.ensures c.in_ok-require-2.was in
    rw (exit_is c.from_residual-in_err-require-3.ensures.1, k.0)
    (record {
      fine = tt;
      moves = λ g v x m heads e. object_without (qual_in c.args.index.now) c.args.h.now _ _ g v x m heads e other c.name_of.ensures c.read.ensures c.object_fits-fits.ensures fits (rights_there _ _ _ _ c.object_fits-fits.ensures fits c.rights_in-rights.ensures c.type_word_as-t.ensures) c.low_of-held.ensures c.is_within.ensures k.1;
    })

pub object_word-requires : goal.object_word-requires
unfolding payload
object_word-requires c = rw c.name_of-2.ensures (omega arith)

pub returns : goal.returns
returns c =
    let other = eqb-false _ _ (sym c.is_integer_word.ensures ∙ c.if-is_integer_word.false) in
    let fits = passed _ _ c.require-2.ensures c.in_ok-require-2.was in
    let enough = passed _ _ c.require-3.ensures c.in_ok-require-3.was in
    record {
      fine = λ k q. rw (c.object_word.ensures k q);
      moves = λ g v x m heads e. object_bound (qual_in c.args.index.now) c.args.h.now _ _ g v x m heads e other c.name_of.ensures c.read.ensures c.object_fits-fits.ensures fits (rights_there _ _ _ _ c.object_fits-fits.ensures fits c.rights_in-rights.ensures c.type_word_as-t.ensures) c.low_of-held.ensures c.is_within.ensures _ enough c.name_of-2.ensures (c.object_word.ensures watched (qual_in c.args.index.now));
    }
