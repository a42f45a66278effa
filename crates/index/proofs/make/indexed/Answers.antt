-- The words of the procedures leave those of the types as they were filled, and what was not filled is 0.
use mathlib.Core.Path.{◌∙◌, ap}
use Rattle.index.proofs.Filling.{zeros}
use Rattle.index.proofs.Uses.{told_same}
use Rattle.index.proofs.make.indexed.Goals as goal

pub returns : goal.returns
returns c =
    let p = c.fill_procedures.ensures in
    let q = c.fill_types.ensures in
    rw (← ap (λ (b : _). b.now) c.new-e.ensures) record {
      types = λ j h m. rw (p.below j m) (q.types j h m);
      uses_told = λ j h m. rw (p.below j m) (told_same _ _ j _ p.below (q.uses_told j h m));
      no_types = λ j h m. p.below j m ∙ q.others j h ∙ zeros 129 j;
      places = p.places;
      procedures = p.procedures;
    }
