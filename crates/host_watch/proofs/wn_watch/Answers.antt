use Rattle.host_watch.proofs.wn_watch.Goals as goal

pub returns : goal.returns
returns c = rw (c.watch-r.ensures, ← c.put_reply.ensures)
