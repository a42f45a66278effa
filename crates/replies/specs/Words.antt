-- What C gets of an answer: its number, and the words of a reply.
use Rattle.std.specs.Prelude.{ℕ, List, set}
use Rattle.std.proofs.Math.Option.{Option, none, some}
use Rattle.run.specs.Run.{Answer}
use Rattle.run.specs.declared.Reply.{Reply}

-- place, steps, words put, procedure, instruction, as far as there are words; the others stay
abbrev pub reply_words : List ℕ → Reply → List ℕ
reply_words words r =
    set (set (set (set (set words 0 r.place) 1 r.steps) 2 r.put) 3 r.procedure) 4 r.instruction

-- the number, the reply's words, the memory and the output after a call
pub record Returned : Type 0 where
  pub number : ℕ
  pub reply : List ℕ
  pub memory : List ℕ
  pub output : List ℕ

abbrev pub returned : ℕ → (reply memory output : List ℕ) → Returned
returned n reply memory output = record { number = n; reply = reply; memory = memory; output = output }

-- an answer as C gets it, into a reply of these words
abbrev pub to_c : (words : List ℕ) → Option Answer → Option Returned
to_c words none = none
to_c words (some a) = some (returned a.reply.number (reply_words words a.reply) a.memory a.output)
