-- Main's frame at the end of the memory stands for the state that a run begins with.
use Prim.Native.Nat.{ℕ, zero, suc, ◌+◌, ◌-◌, ◌≤◌, zero-le}
use native.Mathlib.Omega.{arith}
use mathlib.Core.Path.{◌≡◌, refl, sym, ap, ◌∙◌}
use mathlib.Core.List.{List, [], ◌∷◌, ◌++◌, map, append-nil}
use borrow.Rule.Slice.PartMut.{mid_of, put_mid, post_of, mid_len, Post-is, same_len_mid}
use lib.ListN.{length, take, drop, replicate, length-replicate}
use lib.Seq.{drop_at, drop-length, length-take-le}
use Rattle.model.specs.Refusal.{Accepted, verdict}
use Rattle.model.specs.Modes.{Mode}
use Rattle.model.specs.Qualified.{Qual}
use Rattle.model.specs.Machine.{empty}
use Rattle.model.specs.Run.{opened}
use Rattle.sheet.specs.Layout.{variables_field, procedure_at}
use Rattle.index.specs.Indexed.{ProcedureWord}
use Rattle.sheet.specs.Meaning.{program_of, qual_of}
use Rattle.form.specs.WellFormed.{form_tests}
use Rattle.form.proofs.WellFormed.{form_small}
use Rattle.words.specs.Word.{cell, slot_in}
use Rattle.words.proofs.Laws.{slot_zero, no_other_procedure}
use Rattle.writers.specs.Memory.{AllSound, StandsFor, flat_objects, flat_frames}
use Rattle.writers.proofs.Change.{map_drop, map_replicate}

blank_after : {A : Type 0} (n : ℕ) (x : A) → replicate (suc (suc n)) x ≡ replicate n x ++ (x ∷ (x ∷ []))
blank_after zero x = refl
blank_after {A} (suc n) x = ap (λ (l : List A). x ∷ l) (blank_after n x)

-- the words with a blank frame of v variables at their end, as the code clears them
abbrev pub framed : (words zeros : List ℕ) (v : ℕ) → List ℕ
framed words zeros v = put_mid (length words - (v + 2)) (length words - (length words - (v + 2))) words zeros

module _ (words zeros : List ℕ) (v : ℕ) (room : v + 2 ≤ length words)
    (cleared : zeros ≡ replicate (length (mid_of (length words - (v + 2)) (length words - (length words - (v + 2))) words)) 0) where
  length_framed : length (framed words zeros v) ≡ length words
  length_framed =
      let at : ℕ = length words - (v + 2) in
      same_len_mid at (length words - at) words zeros (ap length cleared ∙ length-replicate _ 0)

  frame_of : (mode : Mode) (q : ℕ → Qual)
      → drop (length words - (v + 2)) (map (slot_in mode q) (framed words zeros v)) ≡ map cell (replicate v empty) ++ (cell empty ∷ (cell empty ∷ []))
  frame_of mode q =
      let at : ℕ = length words - (v + 2) in
      let m : length (mid_of at (length words - at) words) ≡ length words - at = mid_len at (length words) words (omega arith) in
      let k : length (mid_of at (length words - at) words) ≡ suc (suc v) = omega arith in
      let z : zeros ≡ replicate (suc (suc v)) 0 = cleared ∙ ap (λ (j : ℕ). replicate j 0) k in
      let p : post_of at (length words - at) words ≡ [] = Post-is at (length words) words (omega arith) ∙ drop-length words in
      let d : drop at (put_mid at (length words - at) words zeros) ≡ replicate (suc (suc v)) 0 =
      drop_at (take at words) (zeros ++ post_of at (length words - at) words) at (length-take-le at words (omega arith)) ∙ ap (λ (l : List ℕ). zeros ++ l) p ∙ append-nil zeros ∙ z in
      rw (← map_drop, d, map_replicate, slot_zero, map_replicate) (blank_after v (cell empty))

-- the registers of that frame
pub begins : (m : Mode) (s words zeros input out : List ℕ) (v w : ℕ) → verdict (form_tests s) ≡ Accepted → ProcedureWord s 0 w
    → v ≡ variables_field s (procedure_at s 0) → v + 2 ≤ length words → length words ≤ 65536
    → zeros ≡ replicate (length (mid_of (length words - (v + 2)) (length words - (length words - (v + 2))) words)) 0
    → StandsFor m (record { sheet = s; input = input; output = out }) (framed words zeros v) out
    (record { procedure = w; next = 0; base = length words - (v + 2); used = 0; taken = 0; put = 0; steps = 0 })
    (opened m (program_of s) (length words) (length out) input)
unfolding opened AllSound flat_objects flat_frames
begins m s words zeros input out v w wf of e room small cleared =
    let l = length_framed words zeros v room cleared in
    let has = of.variables in
    record {
      is_procedure = no_other_procedure _ of.is_procedure;
      procedure = of.number;
      next = refl;
      first = of.first;
      bound = of.bound;
      variables = has ∙ sym (length-replicate _ empty);
      sane = record { room = zero-le; frame = rw l (omega arith); small = rw l small };
      running = record { procedure = (form_small s wf).2; variables = length-replicate _ empty };
      waiting = refl;
      objects = refl;
      frames = rw (← e) (frame_of words zeros v room cleared m (qual_of s));
      input_left = refl;
      put_words = refl;
      output_is = refl;
      put_fits = zero-le;
    }
