-- The word taken is the first of those left; where none is left the machine stops.
use Rattle.model.specs.declared.Halt.TheVariants.{InputEnded}
use Rattle.model.specs.Machine.{word, filled}
use Rattle.model.specs.Modes.{carried}
use Rattle.sheet.specs.Meaning.{qual_of}
use Rattle.words.specs.Word.{slot_in}
use Rattle.writers.proofs.Effects.{puts, does_take, does_stop}
use Rattle.writers.proofs.Planned.{take_there, take_ended}
use Rattle.writers.proofs.take_input.Goals as goal

pub returns-then-input-at : goal.returns-then-input-at
returns-then-input-at c =
    λ m g out. rw (take_ended m _ _ _ c.if-input-at.true) (does_stop m g _ out c.args.r InputEnded)

pub returns : goal.returns
returns c =
    let s = c.args in
    λ m g out. rw (take_there m _ _ _ c.if-input-at.false)
    (does_take m g _ _ out s.r s.a (filled (word _) (carried m 0))
    (puts (slot_in m (qual_of g.sheet)) _ _ s.r s.a _ _ c.requires.sane c.requires.a_bound (c.integer_word.ensures m (qual_of g.sheet)) c.put_variable.ensures))
