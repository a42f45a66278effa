-- A stop stays what it is; an integer is the size of a declared array.
use Rattle.std.proofs.Common.{◌∙◌}
use Rattle.index.proofs.Ready.{of_sheet}
use Rattle.binding.proofs.Laws.{passed, refused, exit_is}
use Rattle.watched_plan.proofs.Laws.{array_in_type, size_halts, size_asked, size_refused}
use Rattle.watched_plan.proofs.sized.Goals as goal

pub returns-in_err-n : goal.returns-in_err-n
returns-in_err-n c =
    rw (exit_is c.from_residual.ensures.1)
    (λ g v h S. size_halts g v _ _ (c.integer_in.ensures _ g v h S) c.in_err-n.was)

pub returns-in_err-require : goal.returns-in_err-require
returns-in_err-require c =
    let s = c.args.s in
    let k = refused _ _ c.require.ensures c.in_err-require.was in
    rw (exit_is c.from_residual-in_err-require.ensures.1, k.0)
    (λ g v h S. size_refused g v _ _ (c.integer_in.ensures _ g v h S) c.in_ok-n.was (c.is_array.ensures ∙ array_in_type s.bytes.now c.args.p c.args.a (of_sheet s) c.inner_of-q.ensures) k.1)

pub returns : goal.returns
returns c =
    let s = c.args.s in
    λ g v h S. size_asked g v _ _ (c.integer_in.ensures _ g v h S) c.in_ok-n.was (c.is_array.ensures ∙ array_in_type s.bytes.now c.args.p c.args.a (of_sheet s) c.inner_of-q.ensures) (passed _ _ c.require.ensures c.in_ok-require.was)
