use Rattle.short_listing.specs.CarriedLaws.{directions_next, widths_next}
use Rattle.short_listing.proofs.forms.lengthened_listing.Goals as goal

pub loop-i-preserved : goal.loop-i-preserved
loop-i-preserved g c =
    let new = c.push.new.self in
    let old = c.loop-i.copy in
    let made = c.in_ok-direction in
    let all = c.args.listing.now in (
      directions_next g.S.Short.exact new old made.direction all c.loop-i.i c.get.result.now c.in_ok-push.ensures c.get.ensures made.ensures.direction c.loop-i.invariant.0,
      widths_next new old made.direction all c.loop-i.i c.get.result.now c.in_ok-push.ensures c.get.ensures made.ensures.form c.loop-i.invariant.1,
    )
