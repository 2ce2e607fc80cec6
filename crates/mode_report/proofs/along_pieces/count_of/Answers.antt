use Rattle.std.proofs.Common.{◌<◌, ◌≤◌, length, arith}
use Rattle.mode_report.proofs.NamedRowLemmas.{count-next, count-whole}
use Rattle.mode_report.proofs.along_pieces.count_of.Goals as goal

pub loop-j-preserved : goal.loop-j-preserved
loop-j-preserved c =
    let l : c.loop-j.j < length c.args.matrices.now = omega (arith, c.loop-j-test.true, c.loop-j.invariant.end) in
    record { end = c.loop-j.invariant.end; count = λ irreps e. count-next irreps c.args.matrices.now c.loop-j.j c.loop-j.count c.rows.result _ c.index-matrices-j.result e l c.index-matrices-j.is c.rows.ensures.value (c.loop-j.invariant.count irreps e) c.in-Some.ensures.1 }

pub returns : goal.returns
returns c irreps e =
    let whole : length c.args.matrices.now ≤ c.loop-j.j = omega (arith, c.loop-j-test.false, c.loop-j.invariant.end) in
    count-whole irreps c.args.matrices.now c.loop-j.j c.loop-j.count e whole (c.loop-j.invariant.count irreps e)
