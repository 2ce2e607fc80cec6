use Rattle.std.proofs.Common.{Err, refl}
use Rattle.induce.proofs.WeightLemmas.{wide_induced}
use Rattle.induce.proofs.induced.weights_of.Goals as goal

pub returns-in-Err-Wide-clause-cause : goal.returns-in-Err-Wide-clause-cause
returns-in-Err-Wide-clause-cause c = (refl, wide_induced c.args.quotient.now c.args.tables.now c.args.characters.now c.requires (c.in-Err-Wide.ensures.wide (λ t. Err (c.in-Err-Wide.field-0-is t))))
