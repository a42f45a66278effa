use Rattle.std.proofs.Common.{◌∙◌, sym, ap}
use Rattle.verdict_line.specs.Line.{line}
use Rattle.checker.specs.Said.{said}
use Rattle.checker.proofs.put_said.Goals as goal

pub returns-in-Whole-clause-line_after : goal.returns-in-Whole-clause-line_after
unfolding said
returns-in-Whole-clause-line_after c =
    c.put_line.ensures.out_after ∙ ap line c.check.ensures ∙ sym (ap (said c.args.buffer.now) c.in-Whole.is)

pub returns-in-Partial-clause-line_after : goal.returns-in-Partial-clause-line_after
unfolding said
returns-in-Partial-clause-line_after c = sym (ap (said c.args.buffer.now) c.in-Partial.is)

pub returns-in-Unread-clause-line_after : goal.returns-in-Unread-clause-line_after
unfolding said
returns-in-Unread-clause-line_after c = sym (ap (said c.args.buffer.now) c.in-Unread.is)
