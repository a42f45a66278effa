-- An array's head, or another: a record's, or none.
use mathlib.Core.Path.{sym, ◌∙◌}
use borrow.Author.Tests.{eqb-true, eqb-false}
use Rattle.binding.proofs.Laws.{fits_array, fits_other}
use Rattle.binding.proofs.object_fits.Goals as goal

pub returns-then-is_array_head : goal.returns-then-is_array_head
returns-then-is_array_head c =
    fits_array _ _ _ _ _ (eqb-true _ _ (sym c.is_array_head.ensures ∙ c.if-is_array_head.true)) c.requires c.shape_in-shape.ensures c.kind_in-kind.ensures c.object_name.ensures c.element_in-e.ensures c.rights_in.ensures c.has_right-stores.ensures c.elements_agree.ensures

pub returns : goal.returns
returns c =
    rw (c.from.ensures)
    (fits_other _ _ _ _ (eqb-false _ _ (sym c.is_array_head.ensures ∙ c.if-is_array_head.false)) c.is_record_head.ensures c.requires c.shape_in-shape.ensures c.kind_in-kind.ensures)
