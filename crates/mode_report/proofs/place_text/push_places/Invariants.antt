use Rattle.std.proofs.Common.{◌≡◌, ◌++◌, take, length, flat_map}
use Rattle.std.specs.List.{enumerate_from}
use Rattle.mode_report.specs.ModesReport.{place_line}
use Rattle.mode_report.proofs.place_text.push_places.Given as goal

abbrev pub invariant-loop-i : goal.invariant-loop-i
invariant-loop-i l = record {
  end : l.i-end ≡ length l.orbit.places;
  text : l.text ≡ l.fn.text ++ flat_map place_line (enumerate_from 1 (take l.i l.orbit.places));
}
