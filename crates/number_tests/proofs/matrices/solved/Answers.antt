use Rattle.number_tests.proofs.matrices.solved.Goals as goal

pub solve-requires-clause-independent : goal.solve-requires-clause-independent
solve-requires-clause-independent c = c.in-Ok-true.ensures.answer.0 c.in-Ok-true.field-0-test
