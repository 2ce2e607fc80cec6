use Rattle.number_tests.proofs.sign.fixed_by_the_generator.Goals as goal

pub returns : goal.returns
returns c v h q l = c.law_of_fixed_vectors.ensures.generated v (λ i m. h) q l
