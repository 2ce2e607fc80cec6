use Rattle.std.proofs.Common.{◌≡◌, take, length, flat_map}
use Rattle.apart_report.specs.ApartReport.{pair_line}
use Rattle.apart_report.specs.Held.{told_in}
use Rattle.apart_report.proofs.report.lines_of.Given as goal

abbrev pub invariant-loop-k : goal.invariant-loop-k
invariant-loop-k l = record {
  end : l.k-end ≡ length l.answers;
  text : l.text ≡ flat_map pair_line (take l.k (told_in l.irreps l.pairs l.answers));
}
