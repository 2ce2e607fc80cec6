use Rattle.std.proofs.Common.{length, ◌-◌, ◌≡◌, ◌++◌, ◌≤◌, Some, take, IfSome}
use Rattle.iso_text.proofs.sink.put_all.Given as goal

abbrev pub invariant-loop-done : goal.invariant-loop-done
invariant-loop-done g l = record {
  within : l.done ≤ length l.piece;
  faults : g.O.Sink.faults l.fn.sink ≤ g.O.Sink.faults l.sink;
  written : IfSome (g.O.Sink.written l.fn.sink)
      (λ held. g.O.Sink.written l.sink ≡ Some (held ++ take l.done l.piece));
}

abbrev pub decreases-loop-done : goal.decreases-loop-done
decreases-loop-done g l = length l.piece - l.done
