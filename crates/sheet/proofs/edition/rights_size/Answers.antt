-- Each way through the two tests is a way through the definition.
use mathlib.Core.Path.{sym, ◌∙◌}
use borrow.Author.Tests.{eq-eqb, ne_eqb}
use Rattle.sheet.specs.Layout.{rights_size, edition_of, edition_in}
use native.Mathlib.Omega.{arith}
use Rattle.sheet.proofs.edition.rights_size.Goals as goal

pub returns-then-marked : goal.returns-then-marked
unfolding rights_size edition_in edition_of
returns-then-marked c =
    record { value = rw (← c.byte.ensures, eq-eqb _ 2 c.if-byte-eq2.true, sym c.marked.ensures ∙ c.if-marked.true); upper_bound = omega arith }

pub returns-else-marked : goal.returns-else-marked
unfolding rights_size edition_in edition_of
returns-else-marked c =
    record { value = rw (← c.byte.ensures, eq-eqb _ 2 c.if-byte-eq2.true, sym c.marked.ensures ∙ c.if-marked.false); upper_bound = omega arith }

pub returns-else-byte-eq2 : goal.returns-else-byte-eq2
unfolding rights_size edition_in edition_of
returns-else-byte-eq2 c =
    record { value = rw (← c.byte.ensures, ne_eqb _ 2 c.if-byte-eq2.false); upper_bound = omega arith }
