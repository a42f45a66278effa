-- A verdict that gives the sheet on: where it accepts, as a well-formed one.
use Rattle.std.specs.Prelude.{◌≡◌, Result, Ok, Err}
use Rattle.model.specs.Refusal.{Verdict, Accepted}
use Rattle.model.specs.declared.Refusal.{Refusal}
use Rattle.index.specs.declared.sheets.AnySheet.{AnySheet}
use Rattle.form.specs.declared.FormedSheet.{FormedSheet}

abbrev pub Yields : Verdict → AnySheet → Result FormedSheet Refusal → Type 0
Yields v s (Ok f) = (v ≡ Accepted) × ((f.sheet.bytes ≡ s.bytes) × (f.sheet.index ≡ s.index))
Yields v s (Err r) = v ≡ Err r
