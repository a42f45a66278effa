-- By computation alone.
use mathlib.Core.Path.{refl}
use Rattle.cases.specs.Accepted.{counter, CounterRuns, amplified, CounterRaised, sorter, SorterRuns, edges, EdgesRun, any_rights, AnyRightsRun, both_sets, AnyRightsSettled, reader, ReaderRuns, widened, ReaderWidened}
use Rattle.cases.proofs.Computing.{computing}

pub counter_runs : CounterRuns
unfolding computing counter
counter_runs = record { accepted = refl; by_plain = refl; by_watched = refl }

pub counter_raised : CounterRaised
unfolding computing counter amplified
counter_raised = refl

pub sorter_runs : SorterRuns
unfolding computing sorter
sorter_runs = record { accepted = refl; by_plain = refl; by_watched = refl }

pub edges_run : EdgesRun
unfolding computing edges
edges_run = record { accepted = refl; by_plain = refl; by_watched = refl }

pub any_rights_run : AnyRightsRun
unfolding computing any_rights
any_rights_run = record { accepted = refl; by_plain = refl; by_watched = refl }

pub any_rights_settled : AnyRightsSettled
unfolding computing any_rights both_sets
any_rights_settled = refl

pub reader_runs : ReaderRuns
unfolding computing reader
reader_runs = record { accepted = refl; by_plain = refl; by_watched = refl }

pub reader_widened : ReaderWidened
unfolding computing reader widened
reader_widened = refl
