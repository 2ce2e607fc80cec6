use Rattle.cyclo24.specs.ExactK24.{k24}
use Rattle.number_tests.specs.SignActionLaws.{sign_lawful}
use Rattle.number_tests.proofs.sign.sign.Goals as goal

pub invariant_of-result : goal.invariant_of-result
invariant_of-result c = record { lawful = sign_lawful k24 c.args.minus }
