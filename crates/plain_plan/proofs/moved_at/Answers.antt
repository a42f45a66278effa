-- The word moved is that of the variable.
use Rattle.std.proofs.Common.{refl}
use Rattle.model.specs.Modes.{plain}
use Rattle.model.specs.Machine.{plan, declared_as}
use Rattle.model.specs.declared.Operation.TheVariants.{Bind}
use Rattle.plain_plan.proofs.Laws.{claimed, moved_is}
use Rattle.plain_plan.proofs.moved_at.Goals as goal

pub returns : goal.returns
unfolding plan
returns c =
    let x = c.args.x in
    λ q g v h a s. claimed (plan plain g v (Bind a x)) (moved_is q g v (declared_as plain g v a) a (s.variable x) c.word_at.ensures c.filled.ensures refl)
