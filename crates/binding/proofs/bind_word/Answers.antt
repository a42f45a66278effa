-- A word of 0 is a blank cell, any other a filled one, of which the test for integers or `bind_filled` ensures it.
use Rattle.words.proofs.Laws.{cell_blank, cell_filled}
use Rattle.binding.proofs.Laws.{bind_blank, bind_value}
use Rattle.binding.proofs.bind_word.Goals as goal

pub returns-in_default : goal.returns-in_default
returns-in_default c = record { fine = tt; moves = λ g v d heads e. bind_blank _ g v _ (cell_blank c.cell_of.ensures c.in_default.is) e }

pub returns-then-is_integer_bound : goal.returns-then-is_integer_bound
returns-then-is_integer_bound c =
    let bound = c.is_integer_bound.ensures c.args.name c.args.h.now c.if-is_integer_bound.true in
    record { fine = bound.fine; moves = λ g v d heads e. bind_value _ g v _ _ (cell_filled c.cell_of.ensures c.in-Some.is) e (λ y m. bound.moves g v y m heads) }

pub returns : goal.returns
returns c =
    let bound = c.bind_filled.ensures in
    record { fine = bound.fine; moves = λ g v d heads e. bind_value _ g v _ _ (cell_filled c.cell_of.ensures c.in-Some.is) e (λ y m. bound.moves g v y m heads) }
