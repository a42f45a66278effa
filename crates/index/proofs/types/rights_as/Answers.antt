-- The rights in the word are those of the tree.
use mathlib.Core.Path.{sym}
use Rattle.index.proofs.Reading.{rights_as}
use Rattle.index.proofs.types.rights_as.Goals as goal

pub returns : goal.returns
returns c = rw (c.rights_by.ensures, c.type_word_as.ensures) (sym (rights_as _ _ _))
