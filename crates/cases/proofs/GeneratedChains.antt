-- By computation alone: rust/tests, `exhibits proofs`.
use mathlib.Core.Path.{refl}
use Rattle.cases.specs.GeneratedChains.{sheet_1, sheet_2, sheet_3, sheet_4, sheet_5, sheet_6, sheet_7, sheet_8, sheet_9, sheet_10, sheet_11, sheet_12}
use Rattle.cases.specs.GeneratedChains.{GeneratedChains}
use Rattle.cases.proofs.Computing.{computing}

pub generated_chains : GeneratedChains
unfolding computing sheet_1 sheet_2 sheet_3 sheet_4 sheet_5 sheet_6 sheet_7 sheet_8 sheet_9 sheet_10 sheet_11 sheet_12
generated_chains = (refl, refl, refl, refl, refl, refl, refl, refl, refl, refl, refl, refl)
