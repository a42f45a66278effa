-- By computation alone.
use mathlib.Core.Path.{refl}
use Rattle.cases.specs.Editions.{Editions, sealing, InEditionOne, InEditionTwo}
use Rattle.cases.proofs.Computing.{computing}

pub editions : Editions
unfolding computing
editions = record { first = refl; second = refl; none = refl; third = refl }

pub in_edition_one : InEditionOne
unfolding computing sealing
in_edition_one = record { runs = record { accepted = refl; by_plain = refl; by_watched = refl }; settled_and_fetched = refl; amplified = refl }

pub in_edition_two : InEditionTwo
unfolding computing sealing
in_edition_two = record { runs = record { accepted = refl; by_plain = refl; by_watched = refl }; settled_and_fetched = refl; amplified = refl }
