-- The two bytes, low first.
use Rattle.sheet.proofs.Laws.{word_bytes}
use Rattle.sheet.proofs.bytes.word.Goals as goal

pub returns : goal.returns
returns c = rw (word_bytes, c.from-low.ensures, c.from-high.ensures, c.byte.ensures, c.byte-2.ensures)
