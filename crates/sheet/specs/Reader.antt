-- Document 01: "A reader of records gives back the bytes of one record, as part of the sheet."
use Rattle.std.specs.Prelude.{ℕ, ◌+◌, ◌-◌, List, cond, length, take, drop}
use Rattle.sheet.specs.Bytes.{whole_at, marked_at}
use Rattle.sheet.specs.Layout.{hd_mark, ty_mark, qt_mark, pr_mark, gn_mark, vr_mark, in_mark, hd_size, ty_size, qt_size, pr_size, gn_size, vr_size, in_size, edition_in}

-- the size of the record whose mark stands at `at`, 0 where no known mark does
unfoldable pub size_at : List ℕ → ℕ → ℕ
size_at s at =
    cond (marked_at s at hd_mark) hd_size
    (cond (marked_at s at ty_mark) ty_size
    (cond (marked_at s at qt_mark) (qt_size (edition_in s))
    (cond (marked_at s at pr_mark) pr_size
    (cond (marked_at s at gn_mark) (gn_size (edition_in s))
    (cond (marked_at s at vr_mark) vr_size
    (cond (marked_at s at in_mark) in_size
    0))))))

-- "Where no record with a known mark stands whole at the place given, that part is empty."
unfoldable pub record_bytes : List ℕ → ℕ → List ℕ
record_bytes s at = take (cond (whole_at s at (size_at s at)) (size_at s at) 0) (drop at s)

-- where the record at `at` ends; `at` itself where none stands whole there, so that a reader never moves past bytes that are no record
unfoldable pub past_at : List ℕ → ℕ → ℕ
past_at s at = at + length (record_bytes s at)

-- how many bytes are left from `at` on
unfoldable pub left_at : List ℕ → ℕ → ℕ
left_at s at = length s - at
