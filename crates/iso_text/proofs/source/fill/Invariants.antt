use Rattle.std.proofs.Common.{length, ◌-◌, ◌≡◌, ◌≤◌, IfSome}
use Rattle.iso_text.specs.Counts.{raised}
use Rattle.iso_text.specs.Streams.{Reads}
use Rattle.iso_text.proofs.source.fill.Given as goal

abbrev pub invariant-loop-got : goal.invariant-loop-got
invariant-loop-got g l = record {
  within : l.got ≤ length l.buf;
  faults : g.S.Source.faults l.fn.source ≤ g.S.Source.faults l.source;
  taken : g.S.Source.taken l.source ≡ raised l.got (g.S.Source.taken l.fn.source);
  read : IfSome (g.S.Source.left l.fn.source)
      (λ left. Reads l.got l.buf left (g.S.Source.left l.source));
}

abbrev pub decreases-loop-got : goal.decreases-loop-got
decreases-loop-got g l = length l.buf - l.got
