-- One step of a run and its counting (document 01): "A step that stops changes nothing and isn't counted; the return giving 11 is."
use Rattle.std.specs.Prelude.{ℕ, ◌+◌, ◌<◌, ◌^◌, ◌≡◌, List, length, Ok, Err}
use Rattle.model.specs.Modes.{Mode}
use Rattle.sheet.specs.Decode.{operation_at}
use Rattle.writers.specs.declared.Registers.{Registers}
use Rattle.writers.specs.declared.Next.TheVariants.{Go, Enter, Done}
use Rattle.writers.specs.Memory.{Sane}
use Rattle.writers.specs.Steps.{Stepped}
use Rattle.frames.specs.Performs.{Performs}
use Rattle.frames.specs.Fetch.{Fetchable, CodeOf, place_in}

-- what a step of a sheet is owed: the running procedure's part of it, registers inside it and inside the memory, and room to count
pub record Steppable (s code words : List ℕ) (r : Registers) : Type 0 where
  pub part : CodeOf s r code
  pub sane : Sane (length words) r
  pub fetchable : Fetchable s r
  pub countable : r.steps + 1 < 2 ^ 64

-- the registers q, one step after r
abbrev pub counted : (r q : Registers) → Registers
counted r q =
    record {
      procedure = q.procedure;
      next = q.next;
      base = q.base;
      used = q.used;
      taken = q.taken;
      put = q.put;
      steps = r.steps + 1;
    }

-- what a step of the machine comes to, counted where the run goes on
abbrev pub turned : Registers → Stepped → Stepped
turned r (Ok (Go q)) = Ok (Go (counted r q))
turned r (Ok (Enter q)) = Ok (Enter (counted r q))
turned r (Err k) = Err k
turned r (Ok Done) = Ok Done

-- the registers after a turn: as they were where it stopped
abbrev pub after_turn : Registers → Stepped → Registers
after_turn r (Ok (Go q)) = q
after_turn r (Ok (Enter q)) = q
after_turn r (Err k) = r
after_turn r (Ok Done) = counted r r

-- a turn is a step of the machine at the instruction that the registers name
pub record TurnIs (m : Mode) (s input words words' before output : List ℕ) (r : Registers) (o : Stepped) : Type 0 where
  pub stepped : Stepped
  pub performs : Performs m s input words words' before output r stepped (operation_at s (place_in r))
  pub counts : o ≡ turned r stepped
