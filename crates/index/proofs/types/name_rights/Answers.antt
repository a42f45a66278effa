-- Read as a type or as ?R, a name has the same rights.
use mathlib.Core.Path.{sym}
use Rattle.index.proofs.Reading.{rights_named}
use Rattle.index.proofs.types.name_rights.Goals as goal

pub returns : goal.returns
returns c = sym (rights_named _)
