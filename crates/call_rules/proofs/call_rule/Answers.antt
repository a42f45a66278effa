-- `call_passes`: what is settled is what the movements are read with.
use Rattle.index.specs.Scope.{inner_as}
use Rattle.settling.specs.Settles.{callee_as}
use Rattle.call_rules.proofs.Laws.{call_passes}
use Rattle.call_rules.proofs.call_rule.Goals as goal

pub returns : goal.returns
returns c bound of =
    let a = c.args in
    call_passes (inner_as a.s.bytes.now a.p) (callee_as a.s.bytes.now bound a.to) a.a a.b _ _ c.in_ok-name.was (c.settled_by.ensures bound of) (c.passing.ensures bound of.name)
