-- The parts are those that the callees ensure.
use mathlib.Core.Path.{ap, ◌∙◌}
use Rattle.model.specs.Generic.{bound_base, least, own}
use Rattle.sheet.specs.Meaning.{bound_in_sheet}
use Rattle.index.proofs.procedures.own_scope.Goals as goal

pub returns : goal.returns
unfolding own
returns c k p h =
    let s = c.args.s.now in
    let here = c.place_in-head.ensures ∙ p.place in
    let base = c.base_in.ensures k p here ∙ ap (λ (pr : _). bound_base (bound_in_sheet s k pr)) here in
    let set = c.least_in.ensures k p here ∙ ap (λ (pr : _). least (bound_in_sheet s k pr)) here in
    record {
      head = here;
      start = c.start_in-start.ensures ∙ p.start;
      name = c.own_name-name.ensures (rw base h.declared) (rw base h.small) ∙ rw (base, set);
    }
