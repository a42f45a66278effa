-- What is read is what the view sees; the writer does what is planned.
use Rattle.model.specs.Modes.{watched}
use Rattle.sheet.specs.Meaning.{qual_of}
use Rattle.words.specs.Answers.{stored}
use Rattle.frames.proofs.Performs.{sees, sees_parts}
use Rattle.watched_calls.proofs.Laws.{performs_exactly}
use Rattle.watched_objects.proofs.store.Goals as goal

pub returns : goal.returns
returns c =
    let a = c.args in
    let asked = c.store_guarded-m in
    λ s ready input out. performs_exactly s input a.memory.now c.store_cell.new.memory out out a.r c.store_cell.result _ (λ z. stored watched (qual_of z) asked.result) (λ d q. c.store_cell.ensures watched d out (rw c.parts.ensures.objects at (asked.ensures s ready).0))
    (λ d t q i S. (asked.ensures s ready).1 _ (sees_parts watched (qual_of s) _ a.memory.now a.r c.parts.ensures.frame c.parts.ensures.objects (sees watched d s a.memory.now out a.r t q S)))
