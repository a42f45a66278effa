-- The test is that of the definition: inner's rights, or what `bind_filled` ensures of any program.
use native.Mathlib.Omega.{arith}
use mathlib.Core.List.{[]}
use Rattle.model.specs.Modes.{watched}
use Rattle.sheet.specs.Meaning.{program_of}
use Rattle.index.specs.Types.{qual_in}
use Rattle.words.specs.Word.{payload}
use Rattle.binding.proofs.Laws.{raise_own, raise_bound}
use Rattle.binding.proofs.raise_filled.Goals as goal

pub object_word-requires : goal.object_word-requires
unfolding payload
object_word-requires c = rw c.name_of.ensures (omega arith)

pub returns-then-is_record_of-is_amplified : goal.returns-then-is_record_of-is_amplified
returns-then-is_record_of-is_amplified c =
    let object-word = c.object_word in
    let args = c.args in
    let is_record_of = c.is_record_of in
    let is-amplified = c.is_amplified in
    let first-test = c.if-is_record_of-is_amplified in
    let name_of = c.name_of in
    let rights_as = c.rights_as in
    record {
      fine = λ k q. rw (object-word.ensures k q);
      moves = λ v x m heads e. raise_own (qual_in args.index.now) args.h.now v _ _ _ _ x m heads (is_record_of.ensures _ x m e) is-amplified.ensures _ first-test.true e name_of.ensures rights_as.ensures (object-word.ensures watched (qual_in args.index.now));
    }

pub returns : goal.returns
returns c =
    let bind-filled = c.bind_filled in
    let args = c.args in
    let is_record_of = c.is_record_of in
    let is-amplified = c.is_amplified in
    let first-test = c.if-is_record_of-is_amplified in
    record {
      fine = bind-filled.ensures.fine;
      moves = λ v x m heads e. raise_bound (qual_in args.index.now) args.h.now v _ args.w _ _ x m heads (is_record_of.ensures _ x m e) is-amplified.ensures (program_of []) _ first-test.false (bind-filled.ensures.moves (program_of []) v x m heads e);
    }
