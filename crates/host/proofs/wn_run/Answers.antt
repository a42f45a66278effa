use Rattle.host.proofs.wn_run.Goals as goal

pub returns : goal.returns
returns c = rw (c.run-r.ensures, ← c.put_reply.ensures)
