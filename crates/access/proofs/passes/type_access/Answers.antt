-- TY number i is that of type 2 + i, so it stands at 6 + 12 * i; the rest is what the calls ensure.
use Rattle.access.proofs.Places.{type_verdict}
use Rattle.access.proofs.passes.type_access.Goals as goal

pub returns : goal.returns
returns c = rw (c.record_verdict.ensures, c.slots_rule.ensures, c.from.ensures, type_verdict)
