-- The size is that which is planned, and the free units are those of the view.
use mathlib.Core.Path.{sym}
use lib.ListN.{length}
use Rattle.model.specs.Modes.{watched}
use Rattle.model.specs.Machine.{view}
use Rattle.sheet.specs.Meaning.{qual_of, program_of}
use Rattle.index.proofs.Reading.{inner_read}
use Rattle.frames.proofs.Performs.{sees_parts}
use Rattle.watched_objects.specs.Objects.{array_for}
use Rattle.watched_calls.proofs.Laws.{in_scope}
use Rattle.watched_objects.proofs.Laws.{arrays, performs_roomy, framed}
use Rattle.watched_objects.proofs.new_array.Goals as goal

pub returns : goal.returns
returns c =
    let a = c.args in
    let s = a.s.bytes.now in
    λ input out. performs_roomy s input a.memory.now c.give_array.new.memory out out a.r c.give_array.result _ (λ z. array_for s a.p a.r a.a c.sized-n.result)
    (λ d q t S. c.give_array.ensures (framed (view (length a.memory.now) (length out) t) (in_scope c.requires.scope_here d out t q S)) d out q t S) c.requires.scope_here
    (λ v at free S. arrays (program_of s) v _ _ _ (sym (inner_read at _)) free (c.sized-n.ensures (program_of s) v _ (sees_parts watched (qual_of s) v a.memory.now a.r c.parts.ensures.frame c.parts.ensures.objects S)))
