-- Each arm is the line of its code; in the last the line is that of 17, or there is none.
use mathlib.Core.Path.{◌≡◌, refl}
use Rattle.model.specs.declared.Operation.TheVariants.{Return}
use Rattle.sheet.specs.Bytes.{byte_at}
use Rattle.sheet.specs.Layout.{code_at, k_at}
use Rattle.sheet.specs.Instructions.{table, line_in}
use Rattle.sheet.specs.Decode.{fields_at, operation_at, unlisted, operation_by, decode}
use Rattle.sheet.proofs.Instructions.{by_line}
use Rattle.sheet.proofs.fetch.operation_whole.Goals as goal

pub returns-in-1 : goal.returns-in-1
unfolding operation_at decode operation_by line_in table code_at k_at byte_at
returns-in-1 c =
    rw (c.in-1.is, c.word_whole.ensures)

pub returns-in-2 : goal.returns-in-2
unfolding operation_at decode operation_by line_in table code_at k_at byte_at
returns-in-2 c = rw c.in-2.is

pub returns-in-3 : goal.returns-in-3
unfolding operation_at decode operation_by line_in table code_at k_at byte_at
returns-in-3 c = rw c.in-3.is

pub returns-in-4 : goal.returns-in-4
unfolding operation_at decode operation_by line_in table code_at k_at byte_at
returns-in-4 c = rw c.in-4.is

pub returns-in-5 : goal.returns-in-5
unfolding operation_at decode operation_by line_in table code_at k_at byte_at
returns-in-5 c =
    rw (c.in-5.is, c.word_whole-in-5.ensures)

pub returns-in-6 : goal.returns-in-6
unfolding operation_at decode operation_by line_in table code_at k_at byte_at
returns-in-6 c = rw c.in-6.is

pub returns-in-7 : goal.returns-in-7
unfolding operation_at decode operation_by line_in table code_at k_at byte_at
returns-in-7 c = rw c.in-7.is

pub returns-in-8 : goal.returns-in-8
unfolding operation_at decode operation_by line_in table code_at k_at byte_at
returns-in-8 c = rw c.in-8.is

pub returns-in-9 : goal.returns-in-9
unfolding operation_at decode operation_by line_in table code_at k_at byte_at
returns-in-9 c = rw c.in-9.is

pub returns-in-10 : goal.returns-in-10
unfolding operation_at decode operation_by line_in table code_at k_at byte_at
returns-in-10 c = rw c.in-10.is

pub returns-in-11 : goal.returns-in-11
unfolding operation_at decode operation_by line_in table code_at k_at byte_at
returns-in-11 c = rw c.in-11.is

pub returns-in-12 : goal.returns-in-12
unfolding operation_at decode operation_by line_in table code_at k_at byte_at
returns-in-12 c = rw c.in-12.is

pub returns-in-13 : goal.returns-in-13
unfolding operation_at decode operation_by line_in table code_at k_at byte_at
returns-in-13 c = rw c.in-13.is

pub returns-in-14 : goal.returns-in-14
unfolding operation_at decode operation_by line_in table code_at k_at byte_at
returns-in-14 c =
    rw (c.in-14.is, c.word_whole-in-14.ensures)

pub returns-in-15 : goal.returns-in-15
unfolding operation_at decode operation_by line_in table code_at k_at byte_at
returns-in-15 c =
    rw (c.in-15.is, c.word_whole-in-15.ensures)

pub returns-in-16 : goal.returns-in-16
unfolding operation_at decode operation_by line_in table code_at k_at byte_at
returns-in-16 c =
    rw (c.in-16.is, c.word_whole-in-16.ensures)

pub returns-in_default : goal.returns-in_default
unfolding operation_at decode operation_by unlisted table code_at k_at byte_at
returns-in_default c =
    let a = c.args in
    let f = fields_at a.s.now a.at in
    let r = c.in_default.in_default-own.rest in
    by_line f.code (λ x. Return f.a ≡ operation_by f x)
    (λ e. absurd (r.0.0.0.0.0.0.0.0.0.0.0.0.0.0.0.1 e))
    (λ e. absurd (r.0.0.0.0.0.0.0.0.0.0.0.0.0.0.1 e))
    (λ e. absurd (r.0.0.0.0.0.0.0.0.0.0.0.0.0.1 e))
    (λ e. absurd (r.0.0.0.0.0.0.0.0.0.0.0.0.1 e))
    (λ e. absurd (r.0.0.0.0.0.0.0.0.0.0.0.1 e))
    (λ e. absurd (r.0.0.0.0.0.0.0.0.0.0.1 e))
    (λ e. absurd (r.0.0.0.0.0.0.0.0.0.1 e))
    (λ e. absurd (r.0.0.0.0.0.0.0.0.1 e))
    (λ e. absurd (r.0.0.0.0.0.0.0.1 e))
    (λ e. absurd (r.0.0.0.0.0.0.1 e))
    (λ e. absurd (r.0.0.0.0.0.1 e))
    (λ e. absurd (r.0.0.0.0.1 e))
    (λ e. absurd (r.0.0.0.1 e))
    (λ e. absurd (r.0.0.1 e))
    (λ e. absurd (r.0.1 e))
    (λ e. absurd (r.1 e))
    (λ e. refl)
    (λ n. refl)
