-- By computation alone.
use mathlib.Core.Path.{refl}
use Rattle.cases.specs.Refused.{array-put, ArrayPut, integer-sized, IntegerSized, record-sized, RecordSized, array-opened, ArrayOpened, stranger-opened, StrangerOpened, nothing-kept, NothingKept, stored-unlicensed, StoredUnlicensed, two-settlings, TwoSettlings, short-settling, ShortSettling, storing-reader, StoringReader}
use Rattle.cases.proofs.Computing.{computing}

pub array-put-sticks : ArrayPut
unfolding computing array-put
array-put-sticks = record { well-formed = refl; refused = refl; on-plain = refl; on-watched = refl }

pub integer-sized-sticks : IntegerSized
unfolding computing integer-sized
integer-sized-sticks = record { well-formed = refl; refused = refl; on-plain = refl; on-watched = refl }

pub record-sized-sticks : RecordSized
unfolding computing record-sized
record-sized-sticks = record { well-formed = refl; refused = refl; on-plain = refl; on-watched = refl }

pub array-opened-sticks : ArrayOpened
unfolding computing array-opened
array-opened-sticks = record { well-formed = refl; refused = refl; on-plain = refl; on-watched = refl }

pub stranger-opened-sticks : StrangerOpened
unfolding computing stranger-opened
stranger-opened-sticks = record { well-formed = refl; refused = refl; on-plain = refl; on-watched = refl }

pub nothing-kept-sticks : NothingKept
unfolding computing nothing-kept
nothing-kept-sticks = record { well-formed = refl; refused = refl; on-plain = refl; on-watched = refl }

pub stored-unlicensed-stops : StoredUnlicensed
unfolding computing stored-unlicensed
stored-unlicensed-stops = record { well-formed = refl; refused = refl; on-plain = refl; on-watched = refl }

pub two-settlings-stop : TwoSettlings
unfolding computing two-settlings
two-settlings-stop = record { well-formed = refl; refused = refl; on-plain = refl; on-watched = refl }

pub short-settling-stops : ShortSettling
unfolding computing short-settling
short-settling-stops = record { well-formed = refl; refused = refl; on-plain = refl; on-watched = refl }

pub storing-reader-stops : StoringReader
unfolding computing storing-reader
storing-reader-stops = record { well-formed = refl; refused = refl; on-plain = refl; on-watched = refl }
