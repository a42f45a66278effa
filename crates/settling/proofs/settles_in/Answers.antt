-- The need's innermost type is no array, and the two lead back.
use mathlib.Core.Path.{◌∙◌}
use Rattle.index.proofs.Reading.{type_array}
use Rattle.settling.proofs.settles_in.Goals as goal

pub settles_base-requires : goal.settles_base-requires
settles_base-requires c = type_array _ _ _ ∙ c.innermost-x.ensures.plain

pub returns : goal.returns
returns c = c.innermost-x.ensures.leads _ _ _ c.settles_base.ensures
