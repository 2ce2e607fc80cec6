use Rattle.std.proofs.Common.{◌≡◌, ◌/◌, nat_eq, take, length, filter, map}
use Rattle.std.specs.List.{reduce}
use Rattle.list_report.specs.StabiliserText.{earlier_op, operation_of}
use Rattle.list_report.proofs.stabiliser_text.least_member.Given as goal

abbrev pub invariant-loop-a : goal.invariant-loop-a
invariant-loop-a l = l.least ≡ reduce earlier_op (map (operation_of l.quotient) (filter (λ a. nat_eq (a / length l.quotient.translations) l.rotation) (take l.a-index l.members)))
