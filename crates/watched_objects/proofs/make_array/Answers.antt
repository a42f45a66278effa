-- The answer is the declared rights, which the new name carries, or the stop.
use Prim.Native.Nat.{ℕ, ◌+◌, ◌≤◌}
use native.Mathlib.Omega.{arith}
use mathlib.Core.Path.{ap, ◌∙◌}
use mathlib.Core.List.{List}
use Rattle.model.specs.Modes.{watched}
use Rattle.model.specs.Qualified.{Qual, declared}
use Rattle.model.specs.Generic.{read}
use Rattle.model.specs.Machine.{array_head}
use Rattle.sheet.specs.Meaning.{qual_of}
use Rattle.words.specs.Word.{head}
use Rattle.binding.proofs.Laws.{exit_is}
use Rattle.writers.proofs.Effects.{does_array, does_halt}
use Rattle.watched_objects.proofs.Laws.{array_made, array_refused, named_declared}
use Rattle.watched_objects.proofs.make_array.Goals as goal

pub returns-in_err-array_made_as : goal.returns-in_err-array_made_as
returns-in_err-array_made_as c =
    rw (exit_is c.from_residual.ensures.1)
    (λ plain d out q. rw (array_refused _ _ _ _ c.requires.n_bound c.array_made_as.ensures c.in_err-array_made_as.was) (does_halt watched d _ out c.args.r _))

pub returns : goal.returns
returns c =
    let a = c.args in
    let s = a.s.bytes.now in
    let room : a.r.used + (a.n + 1) ≤ a.r.base = omega arith in
    λ plain d out q.
    rw (c.allot.ensures.value, array_made _ _ _ _ c.requires.n_bound c.array_made_as.ensures c.in_ok-array_made_as.was)
    (does_array watched d _ _ out a.r a.a _ _ _ _ room (rw c.declared_rights.ensures at (c.object_word-name.ensures watched (qual_of d.sheet))) (c.allot.ensures.allotted watched (qual_of d.sheet)) _
    (c.array_word-head.ensures watched (qual_of d.sheet)
    ∙ ap (λ (e : Qual). head (array_head e a.n))
    (ap (λ (z : List ℕ). read (declared c.name_base.result c.name_rights.result) (qual_of z c.declared_element-element.result)) q
    ∙ ap (λ (ρ : Qual). read ρ (qual_of s c.declared_element-element.result)) (named_declared a.p.name plain c.name_base.ensures.value c.name_rights.ensures)
    ∙ c.declared_element-element.ensures)))
