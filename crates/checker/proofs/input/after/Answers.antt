use Rattle.std.proofs.Common.{◌∙◌, sym, ap}
use Rattle.checker.specs.Input.{after}
use Rattle.checker.proofs.input.after.Goals as goal

pub returns-in-Moved : goal.returns-in-Moved
unfolding after
returns-in-Moved c = c.reached.ensures ∙ sym (ap (after c.args.size c.args.done) c.in-Moved.is)

pub returns-in-Ended : goal.returns-in-Ended
unfolding after
returns-in-Ended c = sym (ap (after c.args.size c.args.done) c.in-Ended.is)

pub returns-in-Again : goal.returns-in-Again
unfolding after
returns-in-Again c = sym (ap (after c.args.size c.args.done) c.in-Again.is)

pub returns-in-Wait : goal.returns-in-Wait
unfolding after
returns-in-Wait c = sym (ap (after c.args.size c.args.done) c.in-Wait.is)

pub returns-in-Failed : goal.returns-in-Failed
unfolding after
returns-in-Failed c = sym (ap (after c.args.size c.args.done) c.in-Failed.is)
