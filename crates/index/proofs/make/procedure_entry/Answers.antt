-- The word is packed from what the PR says, each part within its bits.
use mathlib.Core.Path.{ap, ◌∙◌}
use Rattle.sheet.specs.Layout.{formals_at, variables_field, bound_size, start_at, instruction_at}
use Rattle.index.proofs.Filling.{entry}
use native.Mathlib.Omega.{arith}
use Rattle.index.proofs.make.procedure_entry.Goals as goal

pub returns : goal.returns
unfolding formals_at variables_field start_at instruction_at
returns c here =
    let first = c.instruction_from-first in
    let start = c.start_from in
    let bound = c.bound_size-bound in
    let formals = c.byte-formals in
    let variables = c.byte-variables in
    let args = c.args in
    let s = args.e.bytes.now in
    entry s args.k _ _ _ _ _ (omega arith) (omega arith) (omega arith) (omega (arith, bound.ensures.upper_bound)) (omega (arith, first.ensures.upper_bound, start.ensures.upper_bound))
    (variables.ensures ∙ ap (variables_field s) here) (formals.ensures ∙ ap (formals_at s) here) (bound.ensures.value ∙ ap (bound_size s args.k) here)
    (first.ensures.value ∙ rw (start.ensures.value, variables.ensures, here))
    c.procedure_word.ensures
