use Rattle.std.proofs.Common.{map}
use Rattle.class_list.specs.Collected.{AreCollected}
use Rattle.class_list.proofs.least.collect.Given as goal

abbrev pub invariant-loop-i : goal.invariant-loop-i
invariant-loop-i g l = AreCollected g.F.Field.field.laws g.F.Field.value g.F.PartialEq.eq (g.G.Acts.action l.acts) l.order l.spaces.forms l.least l.i (map (λ r. ((r.first, r.second), r.direction)) l.entries.items)
