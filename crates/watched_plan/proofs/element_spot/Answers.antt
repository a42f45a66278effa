-- Blanks first, b before c; then what `index_in` ensures.
use Rattle.words.proofs.Laws.{cell_blank, cell_filled}
use Rattle.watched_plan.proofs.Laws.{element_blank, element_blank_index, element_found, zero_seen, word_found}
use Rattle.watched_plan.proofs.element_spot.Goals as goal

pub returns-in_default : goal.returns-in_default
returns-in_default c =
    record {
      inside = tt;
      finds = λ q g v S. element_blank g v q _ _ _ _ (zero_seen S c.word_at.ensures (cell_blank c.cell_of.ensures c.in_default.is));
    }

pub returns-in_default-cell_of : goal.returns-in_default-cell_of
returns-in_default-cell_of c =
    record {
      inside = tt;
      finds = λ q g v S.
          element_blank_index g v q _ _ _ _ (word_found S c.word_at.ensures (cell_filled c.cell_of.ensures c.in-Some.is))
          (zero_seen S c.word_at-2.ensures (cell_blank c.cell_of-2.ensures c.in_default-cell_of.is));
    }

pub returns : goal.returns
returns c =
    record {
      inside = c.index_in.ensures.inside;
      finds = λ q g v S.
          element_found g v q _ _ _ _ _ (word_found S c.word_at.ensures (cell_filled c.cell_of.ensures c.in-Some.is))
          (word_found S c.word_at-2.ensures (cell_filled c.cell_of-2.ensures c.in-Some-cell_of.is)) (λ z u m n. c.index_in.ensures.finds q g v z u m n S.head);
    }
