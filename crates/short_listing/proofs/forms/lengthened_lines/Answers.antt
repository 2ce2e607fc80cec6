use Rattle.std.proofs.Common.{◌∙◌, ap, map, arith, [], ◌<◌, length}
use Rattle.short_listing.specs.CarriedLaws.{lines_pushed}
use Rattle.short_listing.proofs.forms.lengthened_lines.Goals as goal

pub loop-i-preserved : goal.loop-i-preserved
loop-i-preserved g c =
    let l : c.loop-i.i < length c.args.form.now.rows = omega (arith, c.loop-i-test.true, c.len-i-end.ensures) in
    lines_pushed g.S.Short.exact (λ r. (r.0, r.1.items)) c.push.new.self.items c.loop-i.lines.items (c.pivot-pivot.result, c.in_ok-row.row) c.args.form.now.rows c.loop-i.i (0, []) c.in-Ok.ensures.items l
    c.pivot-pivot.ensures (c.in_ok-row.ensures ∙ ap (map g.S.Short.exact) c.row.ensures) c.loop-i.invariant
