-- What the calls ensure.
use Rattle.std.proofs.Common.{sym, ap, ◌∙◌}
use Rattle.model.specs.Qualified.{element}
use Rattle.index.proofs.Reading.{type_element, type_read}
use Rattle.index.proofs.Ready.{of_sheet}
use Rattle.watched_plan.proofs.Laws.{type_in_lem}
use Rattle.watched_plan.proofs.declared_element.Goals as goal

pub returns : goal.returns
returns c =
    let s = c.args.s in
    sym (type_read (of_sheet s) _ _) ∙ type_element _ c.args.p.name c.element_of.ensures ∙ ap element (type_in_lem s.bytes.now c.args.p c.args.a (of_sheet s) c.inner_of.ensures)
