-- The two tests are those that `bind_filled` makes of an integer.
use mathlib.Core.Path.{sym, ap, ◌∙◌}
use borrow.Author.Tests.{eqb-true}
use Rattle.model.proofs.Verdicts.{both_true}
use Rattle.index.specs.Types.{shape_of, qual_in}
use Rattle.words.proofs.Laws.{slot_integer}
use Rattle.binding.proofs.Laws.{integer_unread, bind_integer}
use Rattle.binding.proofs.is_integer_bound.Goals as goal

pub returns : goal.returns
returns c =
    λ n h t.
    let both = both_true _ _ t in
    let one = eqb-true _ _ (sym c.is_integer_word.ensures ∙ both.0) in
    let zero = sym (c.shape_in.ensures ∙ ap shape_of c.type_word.ensures) ∙ eqb-true _ _ both.1 in
    record {
      fine = λ k q. rw (slot_integer k q _ one);
      moves = λ g v x m heads e. bind_integer (qual_in c.args.index.now) h _ _ g v x m heads e one (integer_unread c.args.index.now n _ zero);
    }
