-- `moves_arrays`: the elements, by the store of the second array, then the rights.
use Rattle.std.proofs.lemmas.Grind.{common_steps}
use Rattle.std.proofs.Common.{arith}
use Rattle.order.proofs.Laws.{moves_arrays}
use Rattle.order.proofs.array_movement.Goals as goal

pub returns-in_err-require : goal.returns-in_err-require
returns-in_err-require c =
    let a = c.args in
    let m = moves_arrays a.index.now a.m a.i a.n a.j c.requires.v_value.0 c.requires.v_value.1 c.requires.v_value_2.0 c.requires.v_value_2.1 in
    let e = rw (c.element_in.ensures, c.element_in-2.ensures, c.has_right-stores.ensures, c.rights_in.ensures) at c.elements_agree-alike.ensures in
    let r = rw e at c.require.ensures in
    grind (arith, common_steps)

pub returns : goal.returns
returns c =
    let a = c.args in
    let m = moves_arrays a.index.now a.m a.i a.n a.j c.requires.v_value.0 c.requires.v_value.1 c.requires.v_value_2.0 c.requires.v_value_2.1 in
    let e = rw (c.element_in.ensures, c.element_in-2.ensures, c.has_right-stores.ensures, c.rights_in.ensures) at c.elements_agree-alike.ensures in
    let r = rw e at c.require.ensures in
    grind (arith, common_steps)
