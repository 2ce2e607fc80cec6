use Rattle.std.proofs.Common.{◌≡◌, ◌++◌, ◌/◌, nat_eq, take, length, filter, flat_map}
use Rattle.list_report.specs.StabiliserText.{kept_line}
use Rattle.list_report.proofs.stabiliser_text.push_kept_lines.Given as goal

abbrev pub invariant-loop-a : goal.invariant-loop-a
invariant-loop-a l = l.text ≡ l.fn.text ++ flat_map (kept_line l.quotient) (filter (λ a. nat_eq (a / length l.quotient.translations) 0) (take l.a-index l.members))
