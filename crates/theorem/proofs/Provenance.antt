-- The watched machine gives no right but those of its bindings, whatever it runs, so that the chain is there for accepted sheets too.
use lib.ListN.{length}
use Rattle.provenance.proofs.Chains.{rights_traced}
use Rattle.sheet.specs.Meaning.{program_of}
use Rattle.theorem.specs.Provenance.{RightsClaim}

pub rights_traced_holds : RightsClaim
rights_traced_holds s h memory input output fuel = rights_traced (program_of s) memory (length output) input fuel
