-- Head and zeros are laid after the objects, below the running frame, and then the variable is written.
use Rattle.writers.proofs.Effects.{allots}
use Rattle.writers.proofs.allot.Goals as goal

pub returns-clause-allotted : goal.returns-clause-allotted
returns-clause-allotted c =
    let s = c.args in
    λ m q. allots m q s.memory.now _ _ s.r s.a s.head s.n s.name c.requires.sane c.requires.a_bound c.requires.n_bound c.clear.ensures c.put_variable.ensures
