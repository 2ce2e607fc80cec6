use Rattle.std.proofs.Common.{◌<◌, sym, ◌∙◌, arith}
use Rattle.cyclo24.specs.FieldLaws.{plus-cancel, nought-plus}
use Rattle.lin_alg.specs.SpanLaws.{unit-not-nought}
use Rattle.lin_alg.proofs.laws.law_of_no_forms.Goals as goal

pub returns-clause-zero_row : goal.returns-clause-zero_row
returns-clause-zero_row g c p rs r = unit-not-nought g.F.Field.field.laws (sym r.0.0)

pub returns-clause-pivot_of_two : goal.returns-clause-pivot_of_two
returns-clause-pivot_of_two g c p v rs e r =
    let f = g.F.Field.field.laws in
    unit-not-nought f (plus-cancel f f.unit f.nought f.unit (sym e ∙ r.0.0 ∙ sym (nought-plus f f.unit)))

pub returns-clause-one_column : goal.returns-clause-one_column
returns-clause-one_column g c p u v rs r = let l : p < p = r.1.0 in absurd (omega (arith, l))

pub returns-clause-falling : goal.returns-clause-falling
returns-clause-falling g c p q u v rs h r = let l : p < q = r.1.0 in absurd (omega (arith, l, h))
