-- The cleared words are blank variables, and the two blank words that end the frame which no other waits for.
use mathlib.Core.Path.{refl}
use Rattle.form.proofs.WellFormed.{form_small}
use Rattle.index.proofs.Ready.{of_sheet}
use Rattle.run_by_frames.proofs.Begin.{begins}
use Rattle.run_by_frames.proofs.run.open_main.Goals as goal

pub returns : goal.returns
returns c =
    let args = c.args in
    let procedure_in = c.procedure_in in
    let clear = c.clear in
    let f = args.s in
    let s = f.sheet.bytes.now in
    record { steps_value = refl; stands_for = λ m input out. begins m s args.memory.now _ input out args.v _ f.formed (rw procedure_in.ensures ((of_sheet f.sheet).procedures 0 (form_small s f.formed).2)) c.requires.v_value.0 c.requires.v_in_bounds.0 c.requires.v_in_bounds.1 clear.ensures }
