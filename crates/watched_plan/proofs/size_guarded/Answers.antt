-- A blank cell; then the two tags, the right, and what `give` ensures of the size.
use Rattle.sheet.specs.Meaning.{program_of}
use Rattle.binding.proofs.Laws.{passed, refused, exit_is}
use Rattle.watched_plan.proofs.Laws.{size_blank, size_misfit, size_without, size_given, blank_seen, filled_seen}
use Rattle.watched_plan.proofs.size_guarded.Goals as goal

pub returns-in_err-x : goal.returns-in_err-x
returns-in_err-x c =
    rw (exit_is c.from_residual.ensures.1)
    (λ v at S. let k = blank_seen S c.word_at.ensures c.filled.ensures c.in_err-x.was in rw k.0 (size_blank (program_of c.args.s.bytes.now) v _ _ k.1))

pub returns-in_err-require : goal.returns-in_err-require
returns-in_err-require c =
    let k = refused _ _ c.require.ensures c.in_err-require.was in
    rw (exit_is c.from_residual-in_err-require.ensures.1, k.0)
    (λ v at S.
    size_misfit (program_of c.args.s.bytes.now) v _ c.args.v.objects.now _ _ _ S.head (filled_seen S c.word_at.ensures c.filled.ensures c.in_ok-x.was) c.name_of.ensures c.read-head.ensures c.is_object_word.ensures c.is_array_head.ensures k.1)

pub returns-in_err-require-2 : goal.returns-in_err-require-2
returns-in_err-require-2 c =
    let kinds = passed _ _ c.require.ensures c.in_ok-require.was in
    let k = refused _ _ c.require-2.ensures c.in_err-require-2.was in
    rw (exit_is c.from_residual-in_err-require-2.ensures.1, k.0)
    (λ v at S.
    size_without (program_of c.args.s.bytes.now) v _ c.args.v.objects.now _ _ _ S.head (filled_seen S c.word_at.ensures c.filled.ensures c.in_ok-x.was) c.name_of.ensures c.read-head.ensures c.is_object_word.ensures c.is_array_head.ensures kinds c.low_of.ensures c.has_right.ensures k.1)

pub returns : goal.returns
returns c =
    let kinds = passed _ _ c.require.ensures c.in_ok-require.was in
    let licensed = passed _ _ c.require-2.ensures c.in_ok-require-2.was in
    λ v at S.
    size_given (program_of c.args.s.bytes.now) v _ c.args.v.objects.now _ _ _ S.head (filled_seen S c.word_at.ensures c.filled.ensures c.in_ok-x.was) c.name_of.ensures c.read-head.ensures c.is_object_word.ensures c.is_array_head.ensures kinds c.low_of.ensures c.has_right.ensures _ licensed c.size_of.ensures (c.give.ensures v at)
