-- The shape tells an integer from the others.
use mathlib.Core.Path.{sym}
use Rattle.index.proofs.Trees.{integer_qual}
use Rattle.index.proofs.types.is_integer.Goals as goal

pub returns : goal.returns
returns c = rw (c.is_integer_type.ensures, c.type_word.ensures) (sym (integer_qual _ _))
