-- The sum is the definition, with what rights take put in.
use Rattle.sheet.specs.Layout.{qual_at, types_of}
use Rattle.sheet.proofs.Laws.{else_two}
use mathlib.Core.Path.{refl}
use Rattle.sheet.proofs.places.qual_at.Goals as goal

pub returns-then-e-eq4-clause-value : goal.returns-then-e-eq4-clause-value
unfolding qual_at types_of
returns-then-e-eq4-clause-value c = rw (← c.args.e.by_edition, c.if-e-eq4.true, c.byte.ensures) refl

pub returns-clause-value : goal.returns-clause-value
unfolding qual_at types_of
returns-clause-value c = rw (← c.args.e.by_edition, else_two _ _ c.args.e.by_edition c.if-e-eq4.false, c.byte.ensures) refl
