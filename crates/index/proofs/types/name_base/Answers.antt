-- Read as a type or as ?R, a name has the same base.
use native.Mathlib.Omega.{arith}
use mathlib.Core.Path.{sym}
use Rattle.index.proofs.Reading.{base_named}
use Rattle.index.proofs.types.name_base.Goals as goal

pub returns : goal.returns
returns c = record { value = sym (base_named _); lower_bound = omega arith }
