-- The branches are those of the definition; where ?R is read alike in both, two types are equal if they are so unread.
use mathlib.Core.Path.{◌≡◌, refl, sym, ◌∙◌}
use Rattle.model.specs.Qualified.{generic}
use Rattle.model.specs.Rules.{agrees}
use Rattle.index.specs.Types.{rights_of, named_as}
use Rattle.index.proofs.Reading.{type_read, same_unread}
use Rattle.declaration_rules.proofs.agree.Goals as goal

-- the name on both sides is ?R
name_is : named_as 137438953472 ≡ generic 2 0
unfolding named_as rights_of
name_is = refl

pub returns-then-is_amplified : goal.returns-then-is_amplified
unfolding agrees
returns-then-is_amplified c s ready =
    let a = c.args in
    rw (
      c.is_amplified-then-is_amplified.ensures,
      ← ready.types a.need,
      ← ready.types a.inner,
      sym c.is_amplified.ensures ∙ c.if-is_amplified.true,
    )

pub returns : goal.returns
unfolding agrees
returns c s ready =
    let a = c.args in
    rw (
      c.equal.ensures,
      type_read ready _ a.need,
      type_read ready _ a.inner,
      name_is,
      same_unread s 2 0 a.need a.inner,
      ← ready.types a.inner,
      sym c.is_amplified.ensures ∙ c.if-is_amplified.false,
    )
