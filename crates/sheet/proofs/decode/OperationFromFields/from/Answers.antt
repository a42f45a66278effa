-- Each arm is the line of its code; in the last the line is that of 17, or there is none.
use mathlib.Core.Path.{◌≡◌, refl}
use Rattle.model.specs.declared.Operation.TheVariants.{Return}
use Rattle.sheet.specs.Instructions.{table, line_in}
use Rattle.sheet.specs.Decode.{unlisted, operation_by, decode}
use Rattle.sheet.proofs.Instructions.{by_line}
use Rattle.sheet.proofs.decode.OperationFromFields.from.Goals as goal

pub returns-in-1 : goal.returns-in-1
unfolding decode operation_by line_in table
returns-in-1 c = rw c.in-1.is

pub returns-in-2 : goal.returns-in-2
unfolding decode operation_by line_in table
returns-in-2 c = rw c.in-2.is

pub returns-in-3 : goal.returns-in-3
unfolding decode operation_by line_in table
returns-in-3 c = rw c.in-3.is

pub returns-in-4 : goal.returns-in-4
unfolding decode operation_by line_in table
returns-in-4 c = rw c.in-4.is

pub returns-in-5 : goal.returns-in-5
unfolding decode operation_by line_in table
returns-in-5 c = rw c.in-5.is

pub returns-in-6 : goal.returns-in-6
unfolding decode operation_by line_in table
returns-in-6 c = rw c.in-6.is

pub returns-in-7 : goal.returns-in-7
unfolding decode operation_by line_in table
returns-in-7 c = rw c.in-7.is

pub returns-in-8 : goal.returns-in-8
unfolding decode operation_by line_in table
returns-in-8 c = rw c.in-8.is

pub returns-in-9 : goal.returns-in-9
unfolding decode operation_by line_in table
returns-in-9 c = rw c.in-9.is

pub returns-in-10 : goal.returns-in-10
unfolding decode operation_by line_in table
returns-in-10 c = rw c.in-10.is

pub returns-in-11 : goal.returns-in-11
unfolding decode operation_by line_in table
returns-in-11 c = rw c.in-11.is

pub returns-in-12 : goal.returns-in-12
unfolding decode operation_by line_in table
returns-in-12 c = rw c.in-12.is

pub returns-in-13 : goal.returns-in-13
unfolding decode operation_by line_in table
returns-in-13 c = rw c.in-13.is

pub returns-in-14 : goal.returns-in-14
unfolding decode operation_by line_in table
returns-in-14 c = rw c.in-14.is

pub returns-in-15 : goal.returns-in-15
unfolding decode operation_by line_in table
returns-in-15 c = rw c.in-15.is

pub returns-in-16 : goal.returns-in-16
unfolding decode operation_by line_in table
returns-in-16 c = rw c.in-16.is

pub returns-in_default : goal.returns-in_default
unfolding decode operation_by unlisted table
returns-in_default c =
    let f = c.args.f in
    let r = c.in_default.in_default-own.rest in
    by_line f.code (λ x. Return f.a ≡ operation_by f x)
    (λ e. absurd (r.0.0.0.0.0.0.0.0.0.0.0.0.0.0.0.1 e))
    (λ e. absurd (r.0.0.0.0.0.0.0.0.0.0.0.0.0.0.1 e))
    (λ e. absurd (r.0.0.0.0.0.0.0.0.0.0.0.0.0.1 e))
    (λ e. absurd (r.0.0.0.0.0.0.0.0.0.0.0.0.1 e))
    (λ e. absurd (r.0.0.0.0.0.0.0.0.0.0.0.1 e))
    (λ e. absurd (r.0.0.0.0.0.0.0.0.0.0.1 e))
    (λ e. absurd (r.0.0.0.0.0.0.0.0.0.1 e))
    (λ e. absurd (r.0.0.0.0.0.0.0.0.1 e))
    (λ e. absurd (r.0.0.0.0.0.0.0.1 e))
    (λ e. absurd (r.0.0.0.0.0.0.1 e))
    (λ e. absurd (r.0.0.0.0.0.1 e))
    (λ e. absurd (r.0.0.0.0.1 e))
    (λ e. absurd (r.0.0.0.1 e))
    (λ e. absurd (r.0.0.1 e))
    (λ e. absurd (r.0.1 e))
    (λ e. absurd (r.1 e))
    (λ e. refl)
    (λ n. refl)
