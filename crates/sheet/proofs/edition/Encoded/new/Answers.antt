-- Rights take two bytes or four.
use Rattle.sheet.proofs.Laws.{size_range}
use Rattle.sheet.proofs.edition.Encoded.new.Goals as goal

pub invariant_of-result : goal.invariant_of-result
invariant_of-result c = record { by_edition = c.rights_size-rights.ensures.value; few = size_range _ _ c.rights_size-rights.ensures.value }
