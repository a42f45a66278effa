-- An array leads to its element, and one whose element does not fall nowhere. The measure falls with the number of the need's element.
use mathlib.Core.Path.{refl, sym, ◌∙◌}
use native.Mathlib.Omega.{arith}
use borrow.Author.Tests.{eqb-true, eqb-false, lt-ltb, le-ltb}
use Rattle.index.specs.Types.{element_below}
use Rattle.index.proofs.Trees.{element_falls}
use Rattle.settling.proofs.Laws.{inner_element, inner_none, inner_base}
use Rattle.settling.proofs.+innermost.Goals as goal

pub innermost-requires : goal.innermost-requires
unfolding element_below
innermost-requires t c =
    let a = c.args in
    let v = c.type_word-w.ensures in
    let b = rw v at (eqb-true _ _ (sym c.is_array_type.ensures ∙ c.if-is_array_type.true)) in
    let e = c.element_number-e.ensures in
    let l = lt-ltb _ _ (rw (e, v) at c.if-e-j.true) in
    (rw (e, v, sym c.decreases) (rw l at (element_falls a.index.now a.j b)), c.requires)

pub returns-then-e-j : goal.returns-then-e-j
returns-then-e-j t c =
    let a = c.args in
    let v = c.type_word-w.ensures in
    let b = rw v at (eqb-true _ _ (sym c.is_array_type.ensures ∙ c.if-is_array_type.true)) in
    let e = rw v at c.element_number-e.ensures in
    let l = lt-ltb _ _ (rw e at c.if-e-j.true) in
    inner_element a.index.now a.j a.i b l e c.element_of.ensures c.innermost.ensures

pub returns-then-is_array_type : goal.returns-then-is_array_type
returns-then-is_array_type t c =
    let a = c.args in
    let v = c.type_word-w.ensures in
    let b = rw v at (eqb-true _ _ (sym c.is_array_type.ensures ∙ c.if-is_array_type.true)) in
    inner_none a.index.now a.j a.i b (le-ltb _ _ (rw (c.element_number-e.ensures, v) at c.if-e-j.false))

pub returns : goal.returns
returns t c =
    let a = c.args in
    rw (c.from.ensures, c.from-2.ensures)
    (inner_base a.index.now a.j a.i (rw c.type_word-w.ensures at (eqb-false _ _ (sym c.is_array_type.ensures ∙ c.if-is_array_type.false))) (omega arith) refl)
