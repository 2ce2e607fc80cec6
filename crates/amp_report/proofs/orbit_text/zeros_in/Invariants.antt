use Rattle.std.proofs.Common.{◌≡◌, ◌≤◌, take, length, count_by}
use Rattle.cyclo24.specs.ExactK24.{k24_laws}
use Rattle.cyclo24.specs.K24.{exact24}
use Rattle.amp_report.proofs.orbit_text.zeros_in.Given as goal

abbrev pub invariant-loop-m : goal.invariant-loop-m
invariant-loop-m l = record {
  end : l.m-end ≡ length l.row;
  few : l.zeros ≤ l.m;
  zeros : l.zeros ≡ count_by (λ x. k24_laws.is_nought (exact24 x)) (take l.m l.row);
}
