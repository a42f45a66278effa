-- The slots are those of the owner's type, and the free units are those of the view.
use Prim.Native.Nat.{◌-◌}
use mathlib.Core.Path.{refl, sym, ◌∙◌}
use Rattle.std.specs.Prelude.{Err}
use Rattle.model.specs.Modes.{watched}
use Rattle.model.specs.declared.Halt.TheVariants.{MemoryFull}
use Rattle.model.specs.Outcome.{memory_full, stop}
use Rattle.sheet.specs.Meaning.{program_of}
use Rattle.index.specs.Scope.{inner_as}
use Rattle.index.proofs.Reading.{inner_read}
use Rattle.sheet.specs.Layout.{owner_at, named_of, slots_of}
use Rattle.writers.proofs.Planned.{record_full}
use Rattle.writers.proofs.Effects.{does_stop}
use Rattle.watched_objects.specs.Objects.{record_for}
use Rattle.watched_objects.proofs.Laws.{records, performs_roomy}
use Rattle.watched_objects.proofs.new_record.Goals as goal

pub returns-then-r-n : goal.returns-then-r-n
unfolding owner_at slots_of
returns-then-r-n c =
    let a = c.args in
    let s = a.s.bytes.now in
    λ input out. performs_roomy s input a.memory.now a.memory.now out out a.r (Err MemoryFull) _ (λ z. stop memory_full) (λ d q. does_stop watched d a.memory.now out a.r MemoryFull) c.requires.scope_here
    (λ v at free S.
    sym (record_full watched (a.r.base - a.r.used) a.a (inner_as s a.p a.a) (owner_at s a.p.head) (named_of s (owner_at s a.p.head)) _ c.if-r-n.true)
    ∙ records (program_of s) v _ (sym (inner_read at _)) free (rw (sym at.head)) refl (rw (c.from-n.ensures, c.byte.ensures, c.type_at.ensures, c.field.ensures)))

pub returns : goal.returns
unfolding owner_at slots_of
returns c =
    let a = c.args in
    let s = a.s.bytes.now in
    λ input out. performs_roomy s input a.memory.now c.make_record.new.memory out out a.r c.make_record.result _ (λ z. record_for s a.p a.r a.a _) (λ d q. c.make_record.ensures d out q) c.requires.scope_here
    (λ v at free S. records (program_of s) v _ (sym (inner_read at _)) free (rw (sym at.head)) refl (rw (c.from-n.ensures, c.byte.ensures, c.type_at.ensures, c.field.ensures)))
