use Rattle.lin_alg.specs.SpanLaws.{reduced-unique}
use Rattle.lin_alg.specs.FormLaws.{form-unique, equations-unique}
use Rattle.std.proofs.Common.{◌≡◌, true}
use Rattle.lin_alg.proofs.laws.law_of_unique_forms.Goals as goal

pub returns-clause-span : goal.returns-clause-span
returns-clause-span g c rs ss r s e = reduced-unique g.F.Field.field.laws rs ss r s (λ v. (e v).0) (λ v. (e v).1)

pub returns-clause-zeros : goal.returns-clause-zeros
returns-clause-zeros g c w = form-unique g.F.Field.field.laws w

pub returns-clause-equations : goal.returns-clause-equations
returns-clause-equations g c w u = equations-unique g.F.Field.field.laws w (λ v. u v ≡ true)
