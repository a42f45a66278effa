-- An index is ready for a sheet that has no more types and procedures than there is room for.
use Rattle.index.proofs.Ready.{ready}
use Rattle.index.proofs.sheets.AnySheet.bounded.Goals as goal

pub invariant_of-result : goal.invariant_of-result
invariant_of-result c =
    let s = c.args.self in
    record { by_edition = s.by_edition; few = s.few; ready = ready _ _ s.indexed c.requires.0 c.requires.1 }
