-- Well-formedness first; where it accepts, it also gives what the access rules lean on: bounds of declared types, and callees that are there.
use Rattle.form.proofs.WellFormed.{bound_formed, callee_below}
use Rattle.access.specs.Inner.Callees.{CalleesAt}
use Rattle.checking.proofs.check_indexed.Goals as goal

pub access-requires : goal.access-requires
unfolding CalleesAt
access-requires c =
    let f = c.in_ok-formed.formed in
    let s = f.sheet.bytes.now in
    let there = callee_below s f.formed in record {
      callees = record {
        bounded = bound_formed s f.formed;
        each = λ p l i m. record { there = there p l i m; bounded = bound_formed s f.formed _ (there p l i m) };
      };
    }
