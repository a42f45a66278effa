-- What an answer of C's read or write asks for, by POSIX; and of std's, which give the same as a result.
use Rattle.std.specs.Prelude.{ℕ, suc, zero, cond, ℤ, pos, negsuc, eqb}
use Rattle.std.specs.declared.option.Option.{Option}
use Rattle.std.specs.declared.option.Option.TheVariants.{Some, None}
use Rattle.std.specs.declared.result.Result.{Result}
use Rattle.std.specs.declared.result.Result.TheVariants.{Ok, Err}
use Rattle.std.specs.IoError.{raw_os_error}
use Rattle.std.specs.declared.io.Error.{Error}
use Rattle.checker.specs.declared.calls.Answer.{Answer}
use Rattle.checker.specs.declared.calls.Answer.TheVariants.{Moved, Ended, Again, Wait, Failed}

-- "EINTR: the call was interrupted by a signal before any data was moved", 4 on Linux; "EAGAIN: the call would block", 11
unfoldable pub failed : ℤ → Answer
failed (pos error) = cond (eqb error 4) Again (cond (eqb error 11) Wait Failed)
failed (negsuc error) = Failed

-- "the number of bytes moved"; "0 at the end"; "-1 and errno set to indicate the error"
unfoldable pub meant : ℤ → ℤ → Answer
meant (pos zero) error = Ended
meant (pos (suc n)) error = Moved (suc n)
meant (negsuc n) error = failed error

-- the number after a failure, 0 where the system gave none
abbrev pub number : Option ℤ → ℤ
number (Some code) = code
number None = pos 0

abbrev pub errno : Error → ℤ
errno failure = number (raw_os_error failure)

-- std gives the number of bytes moved as `Ok`, and -1 with its errno as `Err`
abbrev pub answered : Result ℕ Error → Answer
answered (Ok n) = meant (pos n) (pos 0)
answered (Err failure) = meant (negsuc 0) (errno failure)
