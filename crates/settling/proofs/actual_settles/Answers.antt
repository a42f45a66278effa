-- The two bytes that are read are the fields of the definition.
use Rattle.sheet.proofs.Laws.{inner_field}
use Rattle.index.proofs.Ready.{of_sheet}
use Rattle.index.proofs.Reading.{inner_type, need_type}
use Rattle.settling.proofs.actual_settles.Goals as goal

pub returns : goal.returns
returns c =
    let a = c.args in
    let ready = of_sheet a.s in
    rw (c.need_of.ensures, c.field-actual.ensures, c.from.ensures, c.from-2.ensures, inner_field _ _ _, need_type ready a.to _, inner_type ready a.c _) at c.settles_in.ensures
