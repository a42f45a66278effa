-- The test is the definition's.
use Rattle.index.specs.Procedures.{procedure_in}
use borrow.Author.Tests.{lt-ltb, le-ltb}
use Rattle.index.proofs.procedures.procedure_in.Goals as goal

pub returns-then-p-lt65 : goal.returns-then-p-lt65
unfolding procedure_in
returns-then-p-lt65 c = rw (lt-ltb _ _ c.if-p-lt65.true)

pub returns : goal.returns
unfolding procedure_in
returns c = rw (le-ltb _ _ c.if-p-lt65.false)
