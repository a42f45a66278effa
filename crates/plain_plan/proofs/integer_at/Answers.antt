-- The word read is that of the variable; where it is an object's the definition is stuck.
use Rattle.std.proofs.Common.{sym, ap, ◌∙◌}
use Rattle.model.specs.Outcome.{ok}
use Rattle.words.specs.Answers.{number_as}
use Rattle.words.proofs.Laws.{cell_blank, cell_filled}
use Rattle.plain_plan.proofs.Laws.{stuck_or, blank_read, word_there, one_filled}
use Rattle.plain_plan.proofs.integer_at.Goals as goal

pub returns-in_default : goal.returns-in_default
returns-in_default c = λ q g v h s. blank_read g _ c.word_at.ensures (cell_blank c.cell_of.ensures c.in_default.is) s

pub returns : goal.returns
unfolding number_as
returns c =
    λ q g v h s.
    stuck_or (one_filled g v _ (word_there s c.word_at.ensures (cell_filled c.cell_of.ensures c.in-Some.is))) (λ e. ap ok c.low_of.ensures ∙ sym e)
