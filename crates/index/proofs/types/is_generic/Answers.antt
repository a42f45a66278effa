-- The shape tells ?R from the others.
use mathlib.Core.Path.{sym}
use Rattle.index.proofs.Reading.{generic_as}
use Rattle.index.proofs.types.is_generic.Goals as goal

pub returns : goal.returns
returns c = rw (c.is_generic_type.ensures, c.type_word_as.ensures) (sym (generic_as _ _ _))
