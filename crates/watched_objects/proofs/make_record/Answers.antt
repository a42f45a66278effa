-- The answer is the declared rights, which the new name carries, or the stop.
use Prim.Native.Nat.{ℕ, ◌+◌, ◌≤◌}
use native.Mathlib.Omega.{arith}
use mathlib.Core.Path.{ap, ◌∙◌}
use Rattle.model.specs.Modes.{watched}
use Rattle.model.specs.Machine.{record_head}
use Rattle.sheet.specs.Layout.{owner_at}
use Rattle.sheet.specs.Meaning.{qual_of}
use Rattle.words.specs.Word.{head}
use Rattle.binding.proofs.Laws.{exit_is}
use Rattle.writers.proofs.Effects.{does_record, does_halt}
use Rattle.watched_objects.proofs.Laws.{record_made, record_refused}
use Rattle.watched_objects.proofs.make_record.Goals as goal

pub returns-in_err-record_made_as : goal.returns-in_err-record_made_as
returns-in_err-record_made_as c =
    rw (exit_is c.from_residual.ensures.1)
    (λ d out q. rw (record_refused _ _ _ _ c.requires.n_bound _ _ c.record_made_as.ensures c.in_err-record_made_as.was) (does_halt watched d _ out c.args.r _))

pub returns : goal.returns
unfolding owner_at
returns c =
    let a = c.args in
    let room : a.r.used + (a.n + 1) ≤ a.r.base = omega arith in
    λ d out q.
    rw (c.allot.ensures.value, record_made _ _ _ _ c.requires.n_bound _ _ c.record_made_as.ensures c.in_ok-record_made_as.was)
    (does_record watched d _ _ out a.r a.a _ _ _ _ room (rw c.declared_rights.ensures at (c.object_word-name.ensures watched (qual_of d.sheet))) (c.allot.ensures.allotted watched (qual_of d.sheet)) _
    (c.record_word-head.ensures watched (qual_of d.sheet) ∙ ap (λ (k : ℕ). head (record_head k a.n)) c.field.ensures))
