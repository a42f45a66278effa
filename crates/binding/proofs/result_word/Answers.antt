-- A blank cell, no result, or what the test for integers or `bind_filled` ensures, handed over.
use borrow.Author.Tests.{eqb-true, eqb-false}
use Rattle.index.proofs.Ready.{of_sheet}
use Rattle.words.proofs.Laws.{told_blank, told_filled}
use Rattle.binding.proofs.Laws.{passed, refused, allowed, denied, exit_is, filled_of_sheet, result_blank, result_none, result_value}
use Rattle.binding.proofs.result_word.Goals as goal

pub returns-in_err-x : goal.returns-in_err-x
returns-in_err-x c =
    let k = told_blank c.filled.ensures c.in_err-x.was in
    rw (exit_is c.from_residual.ensures.1, k.0) (record { fine = tt; moves = λ v a heads at e. result_blank c.args.s.bytes.now v a k.1 e })

pub returns-in_err-require : goal.returns-in_err-require
returns-in_err-require c =
    let k = refused _ _ c.require.ensures c.in_err-require.was in
    let none = eqb-true _ _ (allowed _ k.1) in
    rw (exit_is c.from_residual-in_err-require.ensures.1, k.0)
    (record { fine = tt; moves = λ v a heads at e. result_none c.args.s.bytes.now v a at c.field-result.ensures none (told_filled c.filled.ensures c.in_ok-x.was) e })

pub returns-then-is_integer_bound : goal.returns-then-is_integer_bound
returns-then-is_integer_bound c =
    let s = c.args.s in
    let bound = filled_of_sheet (of_sheet s) (c.is_integer_bound.ensures c.args.c.name c.args.h.now c.if-is_integer_bound.true) in
    let some = eqb-false _ _ (denied _ (passed _ _ c.require.ensures c.in_ok-require.was)) in
    record { fine = bound.fine; moves = λ v a heads at e. result_value s.bytes.now v a _ (of_sheet s) at c.field-result.ensures some (told_filled c.filled.ensures c.in_ok-x.was) e (λ y m. bound.moves _ v y m heads) }

pub returns : goal.returns
returns c =
    let s = c.args.s in
    let bound = filled_of_sheet (of_sheet s) c.bind_filled.ensures in
    let some = eqb-false _ _ (denied _ (passed _ _ c.require.ensures c.in_ok-require.was)) in
    record { fine = bound.fine; moves = λ v a heads at e. result_value s.bytes.now v a _ (of_sheet s) at c.field-result.ensures some (told_filled c.filled.ensures c.in_ok-x.was) e (λ y m. bound.moves _ v y m heads) }
