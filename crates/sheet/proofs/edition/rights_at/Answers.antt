-- The two words that the definition reads as one number, or the first of them alone.
use mathlib.Core.Path.{◌∙◌}
use Rattle.sheet.proofs.Laws.{word_bytes, rights_wide, rights_narrow}
use Rattle.sheet.proofs.edition.rights_at.Goals as goal

pub returns-then-size-eq4 : goal.returns-then-size-eq4
returns-then-size-eq4 c h =
    rw (c.from.ensures ∙ c.word-then-size-eq4.ensures ∙ word_bytes _ _ _, c.from-low.ensures ∙ c.word.ensures ∙ word_bytes _ _ _) (rights_wide _ _ _ h c.if-size-eq4.true)

pub returns : goal.returns
returns c h = c.from-low.ensures ∙ c.word.ensures ∙ word_bytes _ _ _ ∙ rights_narrow _ _ _ h c.if-size-eq4.false
