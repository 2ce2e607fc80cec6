use Rattle.std.proofs.Common.{◌≡◌, ◌++◌, ◌+◌, flat_map}
use Rattle.std.specs.List.{enumerate_from}
use Rattle.cyclo24.specs.ExactK24.{k24_laws}
use Rattle.cyclo24.specs.K24.{exact24}
use Rattle.class_list.specs.Pages.{directions_at}
use Rattle.class_list.specs.Seen.{directions_of}
use Rattle.list_report.specs.ListReport.{direction_text}
use Rattle.list_report.proofs.report.push_places.Given as goal

abbrev pub invariant-loop-i : goal.invariant-loop-i
invariant-loop-i l = l.text ≡ l.fn.text ++ flat_map (direction_text l.quotient l.dim) (enumerate_from (l.first + 1) (directions_of k24_laws exact24 (directions_at l.listing (l.first, l.i))))
