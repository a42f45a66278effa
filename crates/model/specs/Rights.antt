-- Sets of rights (document 01, "Bytes of a worksheet": "rights, bit i = right i"). No width is fixed here.
use Rattle.std.specs.Prelude.{ℕ, ◌+◌, ◌-◌, ◌*◌, ◌/◌, ◌%◌, ◌^◌, Bool, eqb}
use Rattle.std.specs.Int.Bits.{bit_and}

abbrev pub Rights : Type 0
Rights = ℕ

-- every right of `asked` is in `held`
unfoldable pub within : Rights → Rights → Bool
within asked held = eqb (bit_and asked held) asked

-- right i is in `held`
unfoldable pub has : ℕ → Rights → Bool
has i held = eqb (held / 2 ^ i % 2) 1

-- "open left out" (document 02, S-1)
unfoldable pub less_open : Rights → Rights
less_open held = 2 * (held / 2)

-- "Tray: bits 1 fetch, 2 store, 3 size"; "right 0 is open"
abbrev pub open_right : ℕ
open_right = 0

abbrev pub fetch_right : ℕ
fetch_right = 1

abbrev pub store_right : ℕ
store_right = 2

abbrev pub size_right : ℕ
size_right = 3

-- all rights of an array
abbrev pub array_rights : Rights
array_rights = 14

-- "Declared type: bits 0..n": no right above n is held; all rights of a type with n named rights
unfoldable pub none_above : ℕ → Rights → Bool
none_above n held = eqb (held / 2 ^ (n + 1)) 0

unfoldable pub record_rights : ℕ → Rights
record_rights n = 2 ^ (n + 1) - 1
