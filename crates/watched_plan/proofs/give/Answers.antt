-- An integer without rights fits the integer type alone.
use Rattle.std.proofs.Common.{sym, ◌∙◌}
use Rattle.sheet.specs.Meaning.{program_of}
use Rattle.index.proofs.Reading.{inner_read}
use Rattle.binding.proofs.Laws.{passed, refused, exit_is}
use Rattle.watched_plan.proofs.Laws.{gives_integer, gives_misfit}
use Rattle.watched_plan.proofs.give.Goals as goal

pub returns-in_err-require : goal.returns-in_err-require
returns-in_err-require c =
    let k = refused _ _ c.require.ensures c.in_err-require.was in
    rw (exit_is c.from_residual.ensures.1, k.0)
    (λ v at. gives_misfit (program_of c.args.s.bytes.now) v _ _ (sym (inner_read at _)) (sym c.takes_integer.ensures ∙ k.1))

pub returns : goal.returns
returns c =
    λ v at. gives_integer (program_of c.args.s.bytes.now) v _ _ (sym (inner_read at _)) (sym c.takes_integer.ensures ∙ passed _ _ c.require.ensures c.in_ok-require.was)
