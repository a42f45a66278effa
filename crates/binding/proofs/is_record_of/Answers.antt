-- The tests of the two tags leave the definition's two.
use Rattle.binding.proofs.Laws.{own_record}
use Rattle.binding.proofs.is_record_of.Goals as goal

pub returns : goal.returns
returns c =
    λ q x m e. own_record q c.args.h.now _ _ e c.name_of.ensures c.read-head.ensures c.is_object_word.ensures c.is_record_head.ensures c.kind_in.ensures
