use Rattle.std.proofs.Common.{◌≡◌, ◌++◌, flat_map}
use Rattle.couple_report.specs.FoundLink.{row_in}
use Rattle.couple_report.specs.LinkReport.{entry_text}
use Rattle.couple_report.proofs.link_text.push_entries.Given as goal

abbrev pub invariant-loop-j : goal.invariant-loop-j
invariant-loop-j l = l.text ≡ l.fn.text ++ flat_map entry_text (row_in l.matrix l.i l.j)
