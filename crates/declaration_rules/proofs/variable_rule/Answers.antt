-- A variable below the number of formals is a formal; its need and inner are the bytes of its VR.
use borrow.Author.Tests.{lt-ltb, le-ltb}
use Rattle.model.specs.Rules.{declaration_rule}
use Rattle.sheet.specs.Layout.{owner_at, formals_at}
use Rattle.sheet.specs.Meaning.{inner_in, need_in}
use Rattle.index.proofs.Ready.{of_sheet}
use Rattle.declaration_rules.proofs.variable_rule.Goals as goal

pub returns-then-x-field : goal.returns-then-x-field
unfolding declaration_rule owner_at formals_at inner_in need_in
returns-then-x-field c =
    rw (
      c.formal_rule.ensures _ (of_sheet c.args.s),
      c.need_of.ensures,
      c.inner_of-inner.ensures,
      c.field-owner.ensures,
      ← c.field.ensures,
      lt-ltb _ _ c.if-x-field.true,
    )

pub returns : goal.returns
unfolding declaration_rule owner_at formals_at inner_in
returns c =
    let ready = of_sheet c.args.s in
    rw (c.local_rule.ensures, c.inner_of-inner.ensures, ready.types _, c.field-owner.ensures, ← c.field.ensures, le-ltb _ _ c.if-x-field.false)
