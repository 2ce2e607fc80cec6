use Rattle.std.proofs.Common.{◌≡◌, drop}
use Rattle.std.specs.List.{list_any}
use Rattle.iso_text.specs.Cuts.{is_sign}
use Rattle.list_report.proofs.factor.has_later_sign.Given as goal

abbrev pub invariant-loop-i : goal.invariant-loop-i
invariant-loop-i l = list_any is_sign (drop l.i l.text) ≡ list_any is_sign (drop 1 l.text)
