-- 255 is no result; another byte is the result's number.
use borrow.Author.Tests.{ne_eqb}
use Rattle.model.specs.Rules.{closed_result}
use Rattle.sheet.specs.Layout.{result_at}
use Rattle.sheet.specs.Meaning.{result_in}
use Rattle.index.proofs.Ready.{of_sheet}
use Rattle.declaration_rules.proofs.has_closed_result.Goals as goal

pub returns-else-result : goal.returns-else-result
unfolding closed_result result_in result_at
returns-else-result c =
    rw (c.is_closed.ensures, (of_sheet c.args.s).types _, ← c.field-result.ensures, ne_eqb _ _ c.if-result.false)
