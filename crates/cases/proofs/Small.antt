-- Each input of the list has its result, by computation alone.
use mathlib.Core.Path.{◌≡◌, refl}
use mathlib.Core.List.{map}
use Rattle.cases.specs.Sheets.{studbook, smallest}
use Rattle.cases.specs.Small.{result, input_of, result_of, cases}
use Rattle.cases.proofs.Computing.{computing}

pub cases_hold : map (λ c. result (input_of c)) cases ≡ map result_of cases
unfolding computing studbook smallest cases
cases_hold = refl
