use Rattle.std.proofs.Common.{◌≡◌, ◌∙◌, ap, arith}
use Rattle.cyclo24.specs.K24.{exact24}
use Rattle.cyclo24.specs.ExactK24.{k24_laws}
use Rattle.real_form.specs.Bases.{unit_rows}
use Rattle.real_form.proofs.LineLemmas.{units-start, units-next}
use Rattle.real_form.proofs.basis.unit_lines.Goals as goal

pub loop-i-init : goal.loop-i-init
loop-i-init c = units-start k24_laws exact24 c.args.w c.new-lines.result.items c.new-lines.ensures.items

pub loop-i-preserved : goal.loop-i-preserved
loop-i-preserved c =
    units-next k24_laws exact24 c.args.w c.loop-i.i c.loop-i.lines.items c.push.new.self.items c.in_ok-row.row c.in-Ok.ensures.items c.loop-i-test.true c.in_ok-row.ensures.len c.in_ok-row.ensures.exact c.loop-i.invariant

pub returns : goal.returns
returns c =
    let e : c.loop-i.i ≡ c.args.w = omega (arith, c.loop-i-test.false, c.loop-i.auto.i-end) in
    record {
      rows = c.loop-i.invariant.rows ∙ ap (unit_rows k24_laws 0) e;
      width = c.loop-i.invariant.width;
      len = c.loop-i.invariant.count ∙ e;
    }
