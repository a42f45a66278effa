-- The tests are those of the definition, in its order; the word of the index has what they ask of the procedure.
use Prim.Native.Nat.{◌≤◌, ◌<◌}
use mathlib.Core.Path.{subst, ◌∙◌}
use Rattle.std.proofs.lemmas.Result.{err_from_is_err_and}
use Rattle.model.specs.Modes.{plain}
use Rattle.frames.proofs.Called.{loaded, formals_within, word_is}
use Rattle.frames.proofs.Calling.{actuals_fit, call_without_room, call_of_blank, call_goes}
use native.Mathlib.Omega.{arith}
use Rattle.frames.proofs.call.Goals as goal

pub returns-then-r-v : goal.returns-then-r-v
returns-then-r-v c =
    let args = c.args in
    let s = args.s.sheet.bytes.now in
    let L = loaded args.s in
    let C = c.requires.callable in
    let P = word_is s args.s.sheet.index.now L args.k C.procedure c.procedure_in-w.ensures in
    call_without_room s args.memory.now args.r args.a args.b args.k _ _ (c.variables_in-v.ensures ∙ P.variables) (c.formals_in-f.ensures ∙ P.formals) c.if-r-v.true

pub copy_filled-requires-clause-n_bound : goal.copy_filled-requires-clause-n_bound
copy_filled-requires-clause-n_bound c =
    let args = c.args in
    let s = args.s.sheet.bytes.now in
    let L = loaded args.s in
    let C = c.requires.callable in
    let P = word_is s args.s.sheet.index.now L args.k C.procedure c.procedure_in-w.ensures in
    let formals = c.formals_in-f.ensures ∙ P.formals in
    let few : c.formals_in-f.result ≤ c.variables_in-v.result = rw (formals, c.variables_in-v.ensures ∙ P.variables) (formals_within s args.s.sheet.index.now L args.k C.procedure) in
    let fits = actuals_fit args.b _ _ (λ j h. C.actuals j (subst (λ n. j < n) formals h)) in
    let room = c.if-r-v.false in
    (omega arith, omega arith)

pub returns-in_err-copy_filled : goal.returns-in_err-copy_filled
returns-in_err-copy_filled c =
    let args = c.args in
    let s = args.s.sheet.bytes.now in
    let L = loaded args.s in
    let C = c.requires.callable in
    let P = word_is s args.s.sheet.index.now L args.k C.procedure c.procedure_in-w.ensures in
    let formals = c.formals_in-f.ensures ∙ P.formals in
    let few : c.formals_in-f.result ≤ c.variables_in-v.result = rw (formals, c.variables_in-v.ensures ∙ P.variables) (formals_within s args.s.sheet.index.now L args.k C.procedure) in
    let p = err_from_is_err_and c.from_residual.result c.from_residual.ensures.1 in
    rw (p.1, p.2)
    (call_of_blank s args.memory.now args.r args.a args.b args.k _ _ (c.variables_in-v.ensures ∙ P.variables) formals c.if-r-v.false few (actuals_fit args.b _ _ (λ j h. C.actuals j (subst (λ n. j < n) formals h))) _ _ c.in_err-copy_filled.ensures)

pub open-requires-clause-f_le_v : goal.open-requires-clause-f_le_v
open-requires-clause-f_le_v c =
    let args = c.args in
    let s = args.s.sheet.bytes.now in
    let L = loaded args.s in
    let C = c.requires.callable in
    let P = word_is s args.s.sheet.index.now L args.k C.procedure c.procedure_in-w.ensures in
    rw (c.formals_in-f.ensures ∙ P.formals, c.variables_in-v.ensures ∙ P.variables) (formals_within s args.s.sheet.index.now L args.k C.procedure)

pub returns : goal.returns
returns c =
    let args = c.args in
    let s = args.s.sheet.bytes.now in
    let L = loaded args.s in
    let C = c.requires.callable in
    let P = word_is s args.s.sheet.index.now L args.k C.procedure c.procedure_in-w.ensures in
    let formals = c.formals_in-f.ensures ∙ P.formals in
    let few : c.formals_in-f.result ≤ c.variables_in-v.result = rw (formals, c.variables_in-v.ensures ∙ P.variables) (formals_within s args.s.sheet.index.now L args.k C.procedure) in
    call_goes s args.memory.now args.r args.a args.b args.k _ _ (c.variables_in-v.ensures ∙ P.variables) formals c.if-r-v.false few (actuals_fit args.b _ _ (λ j h. C.actuals j (subst (λ n. j < n) formals h))) _ c.in_ok-copy_filled.ensures _ _ _ (c.«open».ensures plain) C.here C.procedure P c.variables_in-v.ensures
