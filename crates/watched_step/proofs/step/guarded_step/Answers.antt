-- The operation at the place is the one matched, and its arm performs it.
use Rattle.index.proofs.Ready.{of_sheet}
use Rattle.frames.proofs.Fetched.{fetched, fetched_named, callable}
use Rattle.watched_step.proofs.step.guarded_step.Goals as goal

pub set-requires-clause-named : goal.set-requires-clause-named
set-requires-clause-named c = fetched_named _ c.args.r c.requires.fetchable c.requires.code_of c.operation_whole.ensures c.in-Set.is

pub arithmetic-requires-clause-named : goal.arithmetic-requires-clause-named
arithmetic-requires-clause-named c = fetched_named _ c.args.r c.requires.fetchable c.requires.code_of c.operation_whole.ensures c.in-Add.is

pub arithmetic-requires-in-Subtract-clause-named : goal.arithmetic-requires-in-Subtract-clause-named
arithmetic-requires-in-Subtract-clause-named c = fetched_named _ c.args.r c.requires.fetchable c.requires.code_of c.operation_whole.ensures c.in-Subtract.is

pub arithmetic-requires-in-Less-clause-named : goal.arithmetic-requires-in-Less-clause-named
arithmetic-requires-in-Less-clause-named c = fetched_named _ c.args.r c.requires.fetchable c.requires.code_of c.operation_whole.ensures c.in-Less.is

pub jump_zero-requires-clause-named : goal.jump_zero-requires-clause-named
jump_zero-requires-clause-named c = fetched_named _ c.args.r c.requires.fetchable c.requires.code_of c.operation_whole.ensures c.in-JumpZero.is

pub bind-requires-clause-named : goal.bind-requires-clause-named
bind-requires-clause-named c = fetched_named _ c.args.r c.requires.fetchable c.requires.code_of c.operation_whole.ensures c.in-Bind.is

pub take-requires-clause-named : goal.take-requires-clause-named
take-requires-clause-named c = fetched_named _ c.args.r c.requires.fetchable c.requires.code_of c.operation_whole.ensures c.in-Take.is

pub put-requires-clause-named : goal.put-requires-clause-named
put-requires-clause-named c = fetched_named _ c.args.r c.requires.fetchable c.requires.code_of c.operation_whole.ensures c.in-Put.is

pub new_array-requires-clause-named : goal.new_array-requires-clause-named
new_array-requires-clause-named c = fetched_named _ c.args.r c.requires.fetchable c.requires.code_of c.operation_whole.ensures c.in-NewArray.is

pub fetch-requires-clause-named : goal.fetch-requires-clause-named
fetch-requires-clause-named c = fetched_named _ c.args.r c.requires.fetchable c.requires.code_of c.operation_whole.ensures c.in-Fetch.is

pub store-requires-clause-named : goal.store-requires-clause-named
store-requires-clause-named c = fetched_named _ c.args.r c.requires.fetchable c.requires.code_of c.operation_whole.ensures c.in-Store.is

pub size-requires-clause-named : goal.size-requires-clause-named
size-requires-clause-named c = fetched_named _ c.args.r c.requires.fetchable c.requires.code_of c.operation_whole.ensures c.in-Size.is

pub new_record-requires-clause-named : goal.new_record-requires-clause-named
new_record-requires-clause-named c = fetched_named _ c.args.r c.requires.fetchable c.requires.code_of c.operation_whole.ensures c.in-NewRecord.is

pub get_slot-requires-clause-named : goal.get_slot-requires-clause-named
get_slot-requires-clause-named c = fetched_named _ c.args.r c.requires.fetchable c.requires.code_of c.operation_whole.ensures c.in-GetSlot.is

pub set_slot-requires-clause-named : goal.set_slot-requires-clause-named
set_slot-requires-clause-named c = fetched_named _ c.args.r c.requires.fetchable c.requires.code_of c.operation_whole.ensures c.in-SetSlot.is

pub call-requires-clause-callable : goal.call-requires-clause-callable
call-requires-clause-callable c =
    callable _ c.args.r _ _ _ c.requires.fetchable (fetched _ c.args.r c.requires.code_of c.operation_whole.ensures c.in-Call.is)

pub returns-in-Set : goal.returns-in-Set
returns-in-Set c =
    let args = c.args in
    rw (fetched _ args.r c.requires.code_of c.operation_whole.ensures c.in-Set.is) (c.set.ensures args.input.now args.output.now)

pub returns-in-Add : goal.returns-in-Add
returns-in-Add c =
    let args = c.args in
    rw (fetched _ args.r c.requires.code_of c.operation_whole.ensures c.in-Add.is) (c.arithmetic.ensures args.input.now args.output.now)

pub returns-in-Subtract : goal.returns-in-Subtract
returns-in-Subtract c =
    let args = c.args in
    rw (fetched _ args.r c.requires.code_of c.operation_whole.ensures c.in-Subtract.is) (c.arithmetic-in-Subtract.ensures args.input.now args.output.now)

pub returns-in-Less : goal.returns-in-Less
returns-in-Less c =
    let args = c.args in
    rw (fetched _ args.r c.requires.code_of c.operation_whole.ensures c.in-Less.is) (c.arithmetic-in-Less.ensures args.input.now args.output.now)

pub returns-in-JumpZero : goal.returns-in-JumpZero
returns-in-JumpZero c =
    let args = c.args in
    rw (fetched _ args.r c.requires.code_of c.operation_whole.ensures c.in-JumpZero.is) (c.jump_zero.ensures args.s.sheet.bytes.now args.input.now args.output.now)

pub returns-in-Bind : goal.returns-in-Bind
returns-in-Bind c =
    let args = c.args in
    rw (fetched _ args.r c.requires.code_of c.operation_whole.ensures c.in-Bind.is) (c.bind.ensures args.input.now args.output.now)

pub returns-in-Take : goal.returns-in-Take
returns-in-Take c =
    let args = c.args in
    rw (fetched _ args.r c.requires.code_of c.operation_whole.ensures c.in-Take.is) (c.take.ensures args.output.now)

pub returns-in-Put : goal.returns-in-Put
returns-in-Put c =
    let args = c.args in
    rw (fetched _ args.r c.requires.code_of c.operation_whole.ensures c.in-Put.is) (c.put.ensures args.s.sheet.bytes.now args.input.now)

pub returns-in-NewArray : goal.returns-in-NewArray
returns-in-NewArray c =
    let args = c.args in
    rw (fetched _ args.r c.requires.code_of c.operation_whole.ensures c.in-NewArray.is) (c.new_array.ensures args.input.now args.output.now)

pub returns-in-Fetch : goal.returns-in-Fetch
returns-in-Fetch c =
    let args = c.args in
    rw (fetched _ args.r c.requires.code_of c.operation_whole.ensures c.in-Fetch.is) (c.fetch.ensures args.input.now args.output.now)

pub returns-in-Store : goal.returns-in-Store
returns-in-Store c =
    let args = c.args in
    rw (fetched _ args.r c.requires.code_of c.operation_whole.ensures c.in-Store.is) (c.store.ensures args.s.sheet.bytes.now (of_sheet args.s.sheet) args.input.now args.output.now)

pub returns-in-Size : goal.returns-in-Size
returns-in-Size c =
    let args = c.args in
    rw (fetched _ args.r c.requires.code_of c.operation_whole.ensures c.in-Size.is) (c.size.ensures args.input.now args.output.now)

pub returns-in-NewRecord : goal.returns-in-NewRecord
returns-in-NewRecord c =
    let args = c.args in
    rw (fetched _ args.r c.requires.code_of c.operation_whole.ensures c.in-NewRecord.is) (c.new_record.ensures args.input.now args.output.now)

pub returns-in-GetSlot : goal.returns-in-GetSlot
returns-in-GetSlot c =
    let args = c.args in
    rw (fetched _ args.r c.requires.code_of c.operation_whole.ensures c.in-GetSlot.is) (c.get_slot.ensures args.input.now args.output.now)

pub returns-in-SetSlot : goal.returns-in-SetSlot
returns-in-SetSlot c =
    let args = c.args in
    rw (fetched _ args.r c.requires.code_of c.operation_whole.ensures c.in-SetSlot.is) (c.set_slot.ensures args.input.now args.output.now)

pub returns-in-Call : goal.returns-in-Call
returns-in-Call c =
    let args = c.args in
    rw (fetched _ args.r c.requires.code_of c.operation_whole.ensures c.in-Call.is) (c.call.ensures args.input.now args.output.now)

pub returns-in-Return : goal.returns-in-Return
returns-in-Return c =
    let args = c.args in
    rw (fetched _ args.r c.requires.code_of c.operation_whole.ensures c.in-Return.is) (c.give_back.ensures args.input.now args.output.now)
