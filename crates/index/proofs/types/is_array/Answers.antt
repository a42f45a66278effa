-- The shape tells an array from the others.
use mathlib.Core.Path.{sym}
use Rattle.index.proofs.Trees.{array_qual}
use Rattle.index.proofs.types.is_array.Goals as goal

pub returns : goal.returns
returns c = rw (c.is_array_type.ensures, c.type_word.ensures) (sym (array_qual _ _))
