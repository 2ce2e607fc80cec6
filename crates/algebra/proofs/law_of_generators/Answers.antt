use Rattle.algebra.specs.GeneratedLaws.{generated-test}
use Rattle.algebra.proofs.law_of_generators.Goals as goal

pub returns : goal.returns
returns c = generated-test
