-- What a procedure's word says of its bound, where a GN has it, and the names made of it.
use Prim.Native.Nat.{ℕ, ◌+◌, ◌*◌, ◌/◌, ◌%◌, ◌^◌, ◌<◌}
use mathlib.Core.Path.{◌≡◌, ap, ◌∙◌}
use mathlib.Core.List.{List}
use mathlib.Core.Bool.{true, false}
use native.Mathlib.Omega.{arith}
use Rattle.model.specs.Qualified.{declared, generic}
use Rattle.model.specs.Generic.{bound_base, least}
use lib.Dec.{ltb}
use Rattle.sheet.specs.Bytes.{byte_at}
use Rattle.sheet.specs.Layout.{rights_at, bound_base_at, least_at, is_bounded, procedure_at}
use Rattle.sheet.specs.Meaning.{bound_in_sheet}
use Rattle.sheet.proofs.Laws.{bound_told}
use Rattle.words.specs.Word.{bound_of}
use Rattle.index.specs.Types.{rights_of, named_as}
use Rattle.index.specs.Indexed.{PlacedWord}

-- its GN has a size exactly where there is one
pub bounded : {s : List ℕ} {k w : ℕ} → PlacedWord s k w → ltb 0 (bound_of w) ≡ is_bounded s k (procedure_at s k)
bounded {s} {k} p = ap (ltb 0) p.bound ∙ bound_told s k (procedure_at s k)

module _ (s : List ℕ) (k pr : ℕ) where
  pub base_some : is_bounded s k pr ≡ true → bound_base (bound_in_sheet s k pr) ≡ byte_at s pr 10
  unfolding bound_base bound_in_sheet bound_base_at byte_at
  base_some h = let e : pr + 8 + 2 ≡ pr + 10 = omega arith in rw (h, e)

  pub base_none : is_bounded s k pr ≡ false → bound_base (bound_in_sheet s k pr) ≡ 2
  unfolding bound_base bound_in_sheet
  base_none h = rw h

  pub least_some : is_bounded s k pr ≡ true → least (bound_in_sheet s k pr) ≡ rights_at s (pr + 8)
  unfolding least bound_in_sheet least_at
  least_some h = rw h

  pub least_none : is_bounded s k pr ≡ false → least (bound_in_sheet s k pr) ≡ 0
  unfolding least bound_in_sheet
  least_none h = rw h

-- a name packed from a base less 2 and rights
module _ (b t r : ℕ) (h : b + 2 ≡ t) (k : b < 32) (l : r < 2 ^ 32) where
  pub instance_named : named_as (b * 4294967296 + r) ≡ declared t r
  unfolding named_as rights_of
  instance_named =
      let flag : (b * 4294967296 + r) / 2 ^ 37 % 2 ≡ 0 = omega arith in
      let base : 2 + (b * 4294967296 + r) / 2 ^ 32 % 2 ^ 5 ≡ t = omega arith in
      let set : (b * 4294967296 + r) % 2 ^ 32 ≡ r = omega arith in
      rw (flag, base, set)

  pub own_named : named_as ((32 + b) * 4294967296 + r) ≡ generic t r
  unfolding named_as rights_of
  own_named =
      let flag : ((32 + b) * 4294967296 + r) / 2 ^ 37 % 2 ≡ 1 = omega arith in
      let base : 2 + ((32 + b) * 4294967296 + r) / 2 ^ 32 % 2 ^ 5 ≡ t = omega arith in
      let set : ((32 + b) * 4294967296 + r) % 2 ^ 32 ≡ r = omega arith in
      rw (flag, base, set)
