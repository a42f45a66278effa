-- One of the four laws of an actual more.
use Rattle.settling.proofs.Actuals.{found_unused, found_nothing, found_first, found_again}
use Rattle.settling.proofs.found_with.Goals as goal

pub returns-in-Unused : goal.returns-in-Unused
returns-in-Unused c l ρ u f = found_unused l c.in-Unused.is f

pub returns-in-Nothing : goal.returns-in-Nothing
returns-in-Nothing c l ρ u f = found_nothing l c.in-Nothing.is f

pub returns-in_default : goal.returns-in_default
returns-in_default c l ρ u f = found_first l c.in-To.is c.in_default.is f

pub returns-in-Some : goal.returns-in-Some
returns-in-Some c l ρ u f = found_again l c.in-Some.first c.is_same_name.result c.in-To.is c.in-Some.is c.is_same_name.ensures f
