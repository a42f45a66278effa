-- 10, or the machine's end: its reply, a memory of zeros, and the words put before the old ones.
use mathlib.Core.Path.{◌∙◌, ap}
use Prim.Native.Nat.{ℕ}
use lib.ListN.{replicate}
use borrow.Author.Tests.{lt-leb, le-leb}
use Rattle.run.specs.Run.{memory_fits, end}
use Rattle.run.proofs.Laws.{answers}
use Rattle.run.proofs.run_lent.Goals as goal

pub returns-then-memory-gt65536 : goal.returns-then-memory-gt65536
unfolding memory_fits
returns-then-memory-gt65536 g c =
    let f = lt-leb _ _ c.if-memory-gt65536.true in rw (f, c.from.ensures, c.at.ensures)

pub run_in-e-requires : goal.run_in-e-requires
unfolding end
run_in-e-requires g c =
    record { memory_len_bound = c.if-memory-gt65536.false; never_stuck = c.requires c.if-memory-gt65536.false }

pub returns : goal.returns
unfolding memory_fits end
returns g c =
    let f = le-leb _ _ c.if-memory-gt65536.false in
    let run_in = c.run_in-e in
    let zeros = c.clear.ensures ∙ ap (λ (n : ℕ). replicate n 0) run_in.auto.memory in
    rw f (answers _ _ _ _ _ _ _ c.from-2.ensures zeros run_in.ensures)
