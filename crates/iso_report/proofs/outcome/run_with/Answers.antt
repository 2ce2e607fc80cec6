use Rattle.iso_report.proofs.SourceLemmas.{source-ends, generated-ends, number-below}
use Rattle.iso_report.proofs.outcome.run_with.Goals as goal

pub run_generated-requires : goal.run_generated-requires
run_generated-requires g c = record { number = number-below c.args.job.now c.in-Some.number c.requires.number c.in-Some.ensures }

pub returns-in-Some-clause-answer : goal.returns-in-Some-clause-answer
returns-in-Some-clause-answer g c = generated-ends c.args.job.now _ _ _ c.run_generated.result c.args.bytes.now c.in-Some.number c.in-Some.ensures c.run_generated.ensures.answer

pub returns-in-None-clause-answer : goal.returns-in-None-clause-answer
returns-in-None-clause-answer g c = source-ends c.args.job.now _ _ _ c.run_over.result c.args.bytes.now c.in-None.ensures c.run_over.ensures.answer
