use Rattle.std.proofs.Common.{arith, ◌∙◌, ◌-◌, length, rules}
use Rattle.iso_text.proofs.LineLemmas.{trail_stops, trail_goes}
use Rattle.iso_text.proofs.lines.without_trail.Goals as goal

pub returns-then-not-is_blank : goal.returns-then-not-is_blank
returns-then-not-is_blank c =
    let stops = trail_stops c.loop-rest.rest.now (length c.loop-rest.rest.now - 1) (omega arith) (search rules) in cc

pub loop-rest-preserved : goal.loop-rest-preserved
loop-rest-preserved c =
    c.loop-rest.invariant ∙ trail_goes c.loop-rest.rest.now (length c.loop-rest.rest.now - 1) (omega arith) (search rules)
