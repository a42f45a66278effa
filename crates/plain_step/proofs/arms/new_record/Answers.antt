-- The word of the running procedure has its owner, and so the slots.
use Rattle.plain_step.proofs.Laws.{performs_record}
use Rattle.plain_step.proofs.arms.new_record.Goals as goal

pub returns : goal.returns
returns c =
    let args = c.args in
    λ input out. performs_record args.s.now input _ _ out out args.r _ args.a _ _ c.place_in.ensures c.owner_slots-n.ensures (λ d. c.give_record.ensures d out)
