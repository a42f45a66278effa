-- What was found, held to the bound.
use mathlib.Core.Path.{sym, ◌∙◌}
use Rattle.index.specs.Scope.{inner_as}
use Rattle.settling.specs.Settles.{callee_as}
use Rattle.settling.proofs.Actuals.{settled_found, enough_found, unbounded}
use Rattle.settling.proofs.settled_by.Goals as goal

pub returns-then-not-bounded : goal.returns-then-not-bounded
returns-then-not-bounded c bound of =
    let a = c.args in
    unbounded (inner_as a.s.bytes.now a.c) (callee_as a.s.bytes.now bound a.to) a.b _ c.least_name-least.ensures (rw c.if-not-bounded.true at of)

pub returns-then-not-x : goal.returns-then-not-x
returns-then-not-x c bound of =
    let g = settled_found _ _ (rw c.if-not-bounded.false at of) c.found_by-x.ensures in
    sym g.0 ∙ c.if-not-x.true

pub returns-then-not-is_within : goal.returns-then-not-is_within
returns-then-not-is_within c bound of =
    let g = settled_found _ _ (rw c.if-not-bounded.false at of) c.found_by-x.ensures in
    let name = rw c.least_name-least.ensures at c.unwrap_or-name.ensures in
    let held = rw (c.is_within.ensures, c.name_rights-2.ensures, c.name_rights.ensures, name) at c.if-not-is_within.true in
    (sym g.0 ∙ c.if-not-x.false, sym (enough_found bound _ _ _ of.name g.1) ∙ held)

pub returns : goal.returns
returns c bound of =
    let g = settled_found _ _ (rw c.if-not-bounded.false at of) c.found_by-x.ensures in
    let name = rw c.least_name-least.ensures at c.unwrap_or-name.ensures in
    let held = rw (c.is_within.ensures, c.name_rights-2.ensures, c.name_rights.ensures, name) at c.if-not-is_within.false in
    (sym g.0 ∙ c.if-not-x.false, sym (enough_found bound _ _ _ of.name g.1) ∙ held, rw name g.1)
