use Rattle.replies.proofs.put_reply.Goals as goal

pub returns : goal.returns
returns c =
    rw (c.write-5.ensures, c.write-4.ensures, c.write-3.ensures, c.write-2.ensures, c.write.ensures)
