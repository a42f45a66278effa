-- The one law of the table of instructions: what holds of each line for its code, and of no line for the other codes, holds of what is found.
use Prim.Native.Nat.{ℕ}
use mathlib.Core.Path.{◌≡◌, refl}
use mathlib.Core.List.{List, [], ◌∷◌}
use mathlib.Core.Bool.{Bool, true, false, cond}
use mathlib.Core.Option.{Option, none, some}
use lib.Dec.{eqb}
use borrow.Author.Tests.{eqb-true}
use Rattle.sheet.specs.Instructions.{Line, table, code_of, line_in, line_of}

module _ (code : ℕ) (P : Option Line → Type 0) where
  -- R, given P of each line for its code
  abbrev pub Given : List Line → Type 0 → Type 0
  Given [] R = R
  Given (l ∷ ls) R = (code ≡ code_of l → P (some l)) → Given ls R

  then : {R S : Type 0} (ls : List Line) → (R → S) → Given ls R → Given ls S
  then [] f r = f r
  then (l ∷ ls) f g = λ p. then ls f (g p)

  by_lines : (ls : List Line) → Given ls ((line_in ls code ≡ none → P none) → P (line_in ls code))
  unfolding line_in
  by_lines [] = λ n. n refl
  by_lines (l ∷ ls) = λ p. then ls (λ f n. go p f (eqb code (code_of l)) refl n) (by_lines ls)
    where
      go : (code ≡ code_of l → P (some l)) → ((line_in ls code ≡ none → P none) → P (line_in ls code)) → (t : Bool) → eqb code (code_of l) ≡ t
          → (cond t (some l) (line_in ls code) ≡ none → P none) → P (cond t (some l) (line_in ls code))
      go p f true h n = p (eqb-true code (code_of l) h)
      go p f false h n = f n

  pub by_line : Given table ((line_of code ≡ none → P none) → P (line_of code))
  by_line = by_lines table
