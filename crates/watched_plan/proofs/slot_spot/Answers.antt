-- A blank cell, or what `open_slot` ensures of a filled one.
use Rattle.binding.proofs.Laws.{exit_is}
use Rattle.watched_plan.proofs.Laws.{slot_blank, slot_found, blank_seen, filled_seen}
use Rattle.watched_plan.proofs.slot_spot.Goals as goal

pub returns-in_err-x : goal.returns-in_err-x
returns-in_err-x c =
    rw (exit_is c.from_residual.ensures.1)
    (record {
      inside = tt;
      finds = λ q g v S. let k = blank_seen S c.word_at.ensures c.filled.ensures c.in_err-x.was in rw k.0 (slot_blank g v _ _ _ k.1);
    })

pub returns : goal.returns
returns c =
    record {
      inside = c.open_slot.ensures.inside;
      finds = λ q g v S. slot_found g v _ _ _ _ (filled_seen S c.word_at.ensures c.filled.ensures c.in_ok-x.was) (λ z m. c.open_slot.ensures.finds q g v z m S.head);
    }
