-- Laws of the tests of well-formedness, which the proofs of the passes and the layers above cite.
use Prim.Native.Nat.{ℕ, zero, suc, ◌+◌, ◌*◌, ◌-◌, ◌<◌, ◌≤◌}
use mathlib.Core.Path.{◌≡◌, sym, ap, ◌∙◌}
use mathlib.Core.List.{List, [], ◌++◌}
use mathlib.Core.Bool.{Bool, true, ◌&&◌, ◌||◌}
use native.Mathlib.Omega.{arith}
use native.Mathlib.Numerals.{add-one}
use lib.ListN.{length, get_or}
use lib.Dec.{eqb}
use borrow.Author.Count.{below_more}
use borrow.Author.Tests.{leb-true, ltb-true, le-leb}
use Rattle.model.specs.Refusal.{Accepted, verdict}
use Rattle.model.specs.declared.Reason.TheVariants.{Torn, StrayMark, BadEdition, OffScale}
use Rattle.model.proofs.Verdicts.{left_accepted, right_accepted, first_refuses, second_says, pass_start, pass_more, pass_refuses, accepted_tests, passed_test, both_true, all_held}
use Rattle.sheet.specs.Bytes.{byte_at, whole_at, Mark, mark, marked_at}
use Rattle.sheet.specs.Layout.{hd_mark, edition_of, types_of, quals_of, procedures_of, variables_field, start_from, instruction_from, procedure_at, start_at}
use Rattle.sheet.specs.Reader.{record_bytes, past_at, left_at}
use Rattle.sheet.proofs.Laws.{whole_true, record_inside, record_byte, hd_sized}
use Rattle.index.specs.Procedures.{procedure_in, start_of, place_of}
use Rattle.index.specs.Indexed.{ProcedureWord}
use Rattle.limits.specs.declared.Limits.{Limits}
use Rattle.limits.specs.Scale.{all_below, below_or_none, header_scale}
use Rattle.form.specs.WellFormed.{length_tests, record_tests, header_tests, layout_tests, limits_at, instruction_tests_at, instruction_tests}

-- ---- single tests
-- f holds of each number below n
pub all_below_true : (f : ℕ → Bool) (n : ℕ) → all_below n f ≡ true → (k : ℕ) → k < n → f k ≡ true
all_below_true f zero h = λ k l. absurd (omega arith)
all_below_true f (suc n) h =
    let m = both_true (all_below n f) (f n) h in
    rw (← add-one) (below_more (λ k. f k ≡ true) n (all_below_true f n m.0) m.1)

pub due_below : (n x : ℕ) (due : Bool) → below_or_none n due x ≡ true → due ≡ true → x < n
unfolding below_or_none
due_below n x due h e = ltb-true x n (rw e at h)

-- n bytes that end within the list stand whole
pub whole_here : (s : List ℕ) (at n : ℕ) → at + n ≤ length s → whole_at s at n ≡ true
unfolding whole_at
whole_here s at n h = le-leb (at + n) (length s) h

-- a mark by its two bytes
pub mark_here : (s : List ℕ) (at m n : ℕ) → marked_at s at (mark m n) ≡ eqb (get_or s at 0) m && eqb (get_or s (at + 1) 0) n
unfolding marked_at byte_at
mark_here s at m n = let e : at + 0 ≡ at = omega arith in rw e

-- ---- what a reader of records gives
-- the HD, where it stands whole under its mark, has the header's fields
pub header_field : (s hd : List ℕ) → hd ≡ record_bytes s 0 → whole_at s 0 6 ≡ true → marked_at s 0 hd_mark ≡ true → (k r : ℕ) → k < 6 → r ≡ byte_at hd 0 k → r ≡ byte_at s 0 k
header_field s hd e w m k r l h = h ∙ rw e (record_byte s 0 6 (hd_sized s 0 m) w k l)

-- nothing is left after a record of 8 bytes exactly where it ends with the sheet
module _ (s : List ℕ) (end n : ℕ) (b : 8 ≤ end) (e : past_at s (end - 8) ≡ end) (h : n ≡ left_at s (past_at s (end - 8))) where
  pub none_left : n ≡ 0 → end ≡ length s
  unfolding past_at left_at
  none_left z = omega (arith, record_inside s (end - 8), e, h)

  pub some_left : (n ≡ 0 → ⊥) → end ≡ length s → ⊥
  unfolding past_at left_at
  some_left z q = omega (arith, record_inside s (end - 8), e, h, z)

-- ---- places
-- counted from the first instruction's place
pub instruction_counted : (start v first i : ℕ) → first ≡ instruction_from start v 0 → first + 8 * i ≡ instruction_from start v i
unfolding instruction_from
instruction_counted start v first i e = omega arith

-- the tests of an instruction, from what was read of its procedure
pub instruction_here : (s : List ℕ) (pr start i at : ℕ) (l : Limits) → l ≡ limits_at s pr → at ≡ instruction_from start (variables_field s pr) i
    → instruction_tests_at s l i at ≡ instruction_tests s pr start i
unfolding instruction_tests
instruction_here s pr start i at l p e = rw (p, e)

-- where the records of a procedure stand, from its word in the index
module _ (s t : List ℕ) (p w : ℕ) (h : ProcedureWord s p (procedure_in t p)) (e : w ≡ procedure_in t p) (pr : ℕ) (f : pr ≡ place_of w) where
  pub placed : pr ≡ procedure_at s p
  placed = f ∙ ap place_of e ∙ h.place

  pub started : (start : ℕ) → start ≡ start_of w → start ≡ start_from s p pr
  unfolding start_at
  started start g = g ∙ ap start_of e ∙ h.start ∙ ap (start_from s p) (sym placed)

-- ---- what an accepted record says: it stands whole, within its limits
pub record_formed : (s : List ℕ) (at size : ℕ) (m : Mark) (scale : Bool) → verdict (record_tests s at size m scale) ≡ Accepted
    → (at + size ≤ length s) × (scale ≡ true)
unfolding record_tests
record_formed s at size m scale h =
    let w = passed_test Torn (whole_at s at size) _ (accepted_tests at _ h) in
    let k = passed_test StrayMark (marked_at s at m) _ w.1 in
    (whole_true s at size w.0, (passed_test OffScale scale [] k.1).0)

-- and under its mark
pub record_marked : (s : List ℕ) (at size : ℕ) (m : Mark) (scale : Bool) → verdict (record_tests s at size m scale) ≡ Accepted
    → (whole_at s at size ≡ true) × (marked_at s at m ≡ true)
unfolding record_tests
record_marked s at size m scale h =
    let w = passed_test Torn (whole_at s at size) _ (accepted_tests at _ h) in
    (w.0, (passed_test StrayMark (marked_at s at m) _ w.1).0)

-- few types, qualified types and procedures, and at least one procedure
pub header_small : (s : List ℕ) → verdict (header_tests s) ≡ Accepted
    → (types_of s ≤ 32) × (quals_of s ≤ 64) × (1 ≤ procedures_of s) × (procedures_of s ≤ 64)
unfolding header_tests header_scale
header_small s h =
    let w = passed_test Torn (whole_at s 0 6) _ (accepted_tests 0 _ h) in
    let k = passed_test StrayMark (marked_at s 0 hd_mark) _ w.1 in
    let e = passed_test BadEdition (eqb (edition_of s) 1 || eqb (edition_of s) 2) _ k.1 in
    let l = (all_held true _ (passed_test OffScale (header_scale (types_of s) (quals_of s) (procedures_of s)) [] e.1).0).1 in
    (leb-true (types_of s) 32 l.0, leb-true (quals_of s) 64 l.1.0, leb-true 1 (procedures_of s) l.1.1.0, leb-true (procedures_of s) 64 l.1.1.1.0)

pub layout_small : (s : List ℕ) → verdict (length_tests s ++ layout_tests s) ≡ Accepted
    → (types_of s ≤ 32) × (quals_of s ≤ 64) × (1 ≤ procedures_of s) × (procedures_of s ≤ 64)
unfolding layout_tests
layout_small s h = header_small s (left_accepted (header_tests s) _ (right_accepted (length_tests s) _ h))
