-- The word says whether there is a GN, which has the least set.
use mathlib.Core.Path.{sym, ap, ◌∙◌}
use Rattle.sheet.specs.Layout.{rights_size, edition_in, is_bounded}
use Rattle.index.proofs.Bounds.{least_some, least_none}
use Rattle.index.proofs.procedures.least_in.Goals as goal

pub returns-then-is_bounded_in : goal.returns-then-is_bounded_in
returns-then-is_bounded_in c k p e =
    let told = sym (c.is_bounded_in.ensures _ k p) ∙ c.if-is_bounded_in.true in
    let size = rw (ap (λ (b : _). b.now) c.new-e.ensures) at c.new-e.result.by_edition in
    c.rights_at.ensures size ∙ sym (least_some _ _ _ (ap (is_bounded _ k) e ∙ told))

pub returns : goal.returns
returns c k p e = sym (least_none _ _ _ (ap (is_bounded _ k) e ∙ sym (c.is_bounded_in.ensures _ k p) ∙ c.if-is_bounded_in.false))
