-- The rights in the word are those of the tree.
use mathlib.Core.Path.{sym}
use Rattle.index.proofs.Trees.{rights_qual}
use Rattle.index.proofs.types.rights_of.Goals as goal

pub returns : goal.returns
returns c = rw (c.rights_by.ensures, c.type_word.ensures) (sym (rights_qual _ _))
