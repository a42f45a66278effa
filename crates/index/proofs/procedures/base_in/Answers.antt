-- The word says whether there is a GN, which has the base.
use mathlib.Core.Path.{sym, ap, ◌∙◌}
use Rattle.sheet.specs.Layout.{is_bounded}
use Rattle.index.proofs.Bounds.{base_some, base_none}
use Rattle.index.proofs.procedures.base_in.Goals as goal

pub returns-then-is_bounded_in : goal.returns-then-is_bounded_in
returns-then-is_bounded_in c k p e =
    c.field.ensures ∙ sym (base_some _ _ _ (ap (is_bounded _ k) e ∙ sym (c.is_bounded_in.ensures _ k p) ∙ c.if-is_bounded_in.true))

pub returns : goal.returns
returns c k p e =
    sym (base_none _ _ _ (ap (is_bounded _ k) e ∙ sym (c.is_bounded_in.ensures _ k p) ∙ c.if-is_bounded_in.false))
