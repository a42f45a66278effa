-- The numbers of records are the bytes read.
use mathlib.Core.Path.{sym, ◌∙◌}
use Rattle.std.proofs.lemmas.Result.{err_from_is_err_and}
use Rattle.model.specs.Rules.{access_rules}
use Rattle.sheet.specs.Layout.{types_of, quals_of, procedures_of}
use Rattle.model.proofs.Verdicts.{first_refuses, second_says}
use Rattle.access.proofs.passes.access.Goals as goal

pub returns-in_err-types_access : goal.returns-in_err-types_access
unfolding access_rules types_of
returns-in_err-types_access c =
    let types = rw c.byte.ensures at c.types_access.ensures in
    let p = err_from_is_err_and c.from_residual.result c.from_residual.ensures.1 in
    rw (p.1, p.2) (first_refuses _ _ (sym c.in_err-types_access.was ∙ types))

pub returns-in_err-quals_access : goal.returns-in_err-quals_access
unfolding access_rules types_of quals_of
returns-in_err-quals_access c =
    let types = rw c.byte.ensures at c.types_access.ensures in
    let quals = rw c.byte-2.ensures at c.quals_access.ensures in
    let p = err_from_is_err_and c.from_residual-in_err-quals_access.result c.from_residual-in_err-quals_access.ensures.1 in
    rw (p.1, p.2) (second_says _ _ (sym c.in_ok-types_access.was ∙ types) (first_refuses _ _ (sym c.in_err-quals_access.was ∙ quals)))

pub returns : goal.returns
unfolding access_rules types_of quals_of procedures_of
returns c =
    let types = rw c.byte.ensures at c.types_access.ensures in
    let quals = rw c.byte-2.ensures at c.quals_access.ensures in
    let procedures = rw (c.from.ensures, c.byte-3.ensures) at c.procedures_access.ensures in
    second_says _ _ (sym c.in_ok-types_access.was ∙ types) (second_says _ _ (sym c.in_ok-quals_access.was ∙ quals) procedures)
