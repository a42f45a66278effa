-- The bytes read are those of the definition: rights in two of them, or in four.
use mathlib.Core.Path.{◌∙◌}
use native.Mathlib.Omega.{arith}
use Rattle.sheet.specs.Bytes.{byte_at}
use Rattle.sheet.proofs.Laws.{word_bytes, else_two, rights_wide, rights_narrow}
use Rattle.sheet.proofs.quals.qual_whole.Goals as goal

pub word_whole-requires : goal.word_whole-requires
word_whole-requires c = omega (arith, c.requires, c.args.e.few)

pub returns-then-e-eq4 : goal.returns-then-e-eq4
unfolding byte_at
returns-then-e-eq4 c =
    rw (← rights_wide _ _ _ c.args.e.by_edition c.if-e-eq4.true, ← c.args.e.by_edition, c.if-e-eq4.true, c.from.ensures ∙ c.word_whole-then-e-eq4.ensures ∙ word_bytes _ _ _, c.from-low.ensures ∙ c.word_whole.ensures ∙ word_bytes _ _ _)

pub bounds-s-at-2 : goal.bounds-s-at-2
bounds-s-at-2 c = omega (arith, c.requires, c.args.e.few)

pub returns : goal.returns
unfolding byte_at
returns c =
    rw (← rights_narrow _ _ _ c.args.e.by_edition c.if-e-eq4.false, ← c.args.e.by_edition, else_two _ _ c.args.e.by_edition c.if-e-eq4.false, c.from-low.ensures ∙ c.word_whole.ensures ∙ word_bytes _ _ _)
