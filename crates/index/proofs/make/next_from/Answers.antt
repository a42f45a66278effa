-- The next procedure starts where the instructions of this one end.
use mathlib.Core.Path.{◌∙◌}
use native.Mathlib.Omega.{arith}
use Rattle.sheet.specs.Layout.{variables_field, instructions_at}
use Rattle.sheet.proofs.Laws.{procedure_next}
use Rattle.index.proofs.make.next_from.Goals as goal

pub returns : goal.returns
unfolding variables_field instructions_at
returns c = record { value = λ here. c.instruction_from.ensures.value ∙ rw (c.start_from.ensures.value, c.byte-variables.ensures, c.word.ensures) (procedure_next _ _ _ here); upper_bound = omega (arith, c.instruction_from.ensures.upper_bound, c.start_from.ensures.upper_bound) }
