-- By computation alone.
use mathlib.Core.Path.{refl}
use Rattle.cases.specs.Accepted.{counter, any-rights}
use Rattle.cases.specs.Chains.{filing, FilingRuns, FilingTraced, FilingAmplified, FilingReturned, FilingStopped, CounterTraced, AnyRightsTraced}
use Rattle.cases.proofs.Computing.{computing}

pub filing-runs : FilingRuns
unfolding computing filing
filing-runs = record { accepted = refl; by-plain = refl; by-watched = refl }

pub filing-traced : FilingTraced
unfolding computing filing
filing-traced = refl

pub filing-amplified : FilingAmplified
unfolding computing filing
filing-amplified = refl

pub filing-returned : FilingReturned
unfolding computing filing
filing-returned = refl

pub filing-stopped : FilingStopped
unfolding computing filing
filing-stopped = refl

pub counter-traced : CounterTraced
unfolding computing counter
counter-traced = refl

pub any-rights-traced : AnyRightsTraced
unfolding computing any-rights
any-rights-traced = refl
