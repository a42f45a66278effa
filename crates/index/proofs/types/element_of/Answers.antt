-- An array's word says its element; 255 stands for that of any other type.
use mathlib.Core.Path.{sym, ◌∙◌}
use borrow.Author.Tests.{eqb-true, eqb-false}
use Rattle.index.proofs.Trees.{element_said, element_unsaid}
use Rattle.index.proofs.types.element_of.Goals as goal

pub returns-then-is_array_type : goal.returns-then-is_array_type
returns-then-is_array_type c =
    rw (c.element_in.ensures, c.type_word-w.ensures) (element_said _ _ (rw c.type_word-w.ensures at (eqb-true _ _ (sym c.is_array_type.ensures ∙ c.if-is_array_type.true))))

pub returns : goal.returns
returns c =
    element_unsaid _ _ (λ e. eqb-false _ _ (sym c.is_array_type.ensures ∙ c.if-is_array_type.false) (rw c.type_word-w.ensures e))
