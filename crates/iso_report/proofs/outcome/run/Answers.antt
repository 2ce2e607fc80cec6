use Rattle.std.proofs.Common.{◌≡◌, ◌∙◌, length, arith}
use Rattle.iso_report.specs.Endings.{change}
use Rattle.iso_report.proofs.SourceLemmas.{moved-ends, written-back}
use Rattle.iso_report.proofs.outcome.run.Goals as goal

pub returns-clause-answer : goal.returns-clause-answer
returns-clause-answer g c =
    let v = c.args.watchers.now in
    let told = c.run_with.new.watchers in
    let k : length told ≡ v.len = c.run_with.auto.watchers ∙ c.deref_mut.ensures.len in
    let n : length v.items ≡ v.len = omega (arith, v.ok.0) in
    let out = change (g.O.Sink.written c.args.out.now) (g.O.Sink.written c.run_with.new.out) (g.O.Sink.faults c.args.out.now) (g.O.Sink.faults c.run_with.new.out) in
    moved-ends _ c.args.job.now out c.args.bytes.now c.run_with.result c.deref_mut.result.now told v.items _ c.deref_mut.ensures.value (written-back told v.items v.len k n) c.run_with.ensures.answer
