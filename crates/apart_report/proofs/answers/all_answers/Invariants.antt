use Rattle.std.proofs.Common.{◌≡◌, take, length}
use Rattle.report_steps.specs.IrrepSteps.{Each}
use Rattle.apart_report.specs.Held.{held_weights, IsAnswer}
use Rattle.apart_report.proofs.answers.all_answers.Given as goal

abbrev pub invariant-loop-k : goal.invariant-loop-k
invariant-loop-k l = record {
  end : l.k-end ≡ length l.pairs;
  done : Each (IsAnswer l.file.divided.quotient (held_weights l.file)) (take l.k l.pairs) l.answers.items;
}
