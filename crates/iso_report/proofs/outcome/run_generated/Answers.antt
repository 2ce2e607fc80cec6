use Rattle.std.proofs.Common.{◌≤◌, List, ℕ, length, sym, subst}
use Rattle.iso_report.specs.Outcome.{IsFound}
use Rattle.iso_report.proofs.SourceLemmas.{file-ends}
use Rattle.iso_report.proofs.outcome.run_generated.Goals as goal

pub run_over-requires : goal.run_over-requires
run_over-requires g c = record { few = subst (λ (t : List ℕ). length t ≤ 1048576) (sym c.as_slice.ensures) (c.law_of_demo_files.ensures.short c.args.number c.in-Ok.text c.in-Ok.ensures) }

pub returns-in-Ok-clause-answer : goal.returns-in-Ok-clause-answer
returns-in-Ok-clause-answer g c = file-ends (IsFound c.args.job.now _ _) _ c.run_over.result c.args.number c.as_slice.result.now c.in-Ok.text c.as_slice.ensures c.in-Ok.ensures c.run_over.ensures.answer
