-- The three parts of the sum are what the record says.
use mathlib.Core.Path.{sym, ap}
use Rattle.sheet.specs.Layout.{base_of, rights_field, element_field}
use Rattle.sheet.specs.declared.quals.QualFields.{QualFields}
use Rattle.index.proofs.Filling.{below_element, type_entry}
use native.Mathlib.Omega.{arith}
use Rattle.index.proofs.make.record_entry.Goals as goal

pub overflow_add-result : goal.overflow_add-result
overflow_add-result c =
    omega (arith, c.shape_and_rights.ensures, below_element c.qual_fields-q.result.base c.qual_fields-q.result.rights (omega arith) (omega arith))

pub returns : goal.returns
unfolding base_of rights_field element_field
returns c =
    let q = c.qual_fields-q.result in
    let is = c.qual_fields-q.ensures in
    let at = sym c.qual_at.ensures.value in
    let below = below_element q.base q.rights (omega arith) (omega arith) in record {
      type_word = type_entry q.base q.rights q.element (omega arith) (omega arith) (omega arith) _ _ _
          (rw at (ap (λ (f : QualFields). f.base) is)) (rw at (ap (λ (f : QualFields). f.rights) is)) (rw at (ap (λ (f : QualFields). f.element) is)) c.shape_and_rights.ensures;
      upper_bound = omega (arith, c.shape_and_rights.ensures, below);
    }
