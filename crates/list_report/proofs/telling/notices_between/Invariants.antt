use Rattle.std.proofs.Common.{◌≡◌, ◌+◌, map}
use Rattle.std.specs.List.{enumerate_from}
use Rattle.cyclo24.specs.ExactK24.{k24_laws}
use Rattle.cyclo24.specs.K24.{exact24}
use Rattle.class_list.specs.Pages.{directions_at}
use Rattle.class_list.specs.Seen.{directions_of}
use Rattle.list_report.specs.Telling.{notice_of}
use Rattle.list_report.proofs.telling.notices_between.Given as goal

abbrev pub invariant-loop-i : goal.invariant-loop-i
invariant-loop-i l = l.notices.items ≡ map (notice_of l.listed.quotient l.listed.dim) (enumerate_from (l.first + 1) (directions_of k24_laws exact24 (directions_at l.listed.listing (l.first, l.i))))
