use Rattle.std.proofs.Common.{◌≡◌, ap, ◌∙◌, ◌+◌, length, None, get_or, arith}
use Rattle.algebra.specs.ListLaws.{length-more}
use Rattle.distort_match.proofs.FinishLemmas.{mark_free}
use Rattle.distort_match.proofs.marks.OrbitMarks.new.Goals as goal

pub loop-preserved : goal.loop-preserved
loop-preserved c =
    let e = c.in-Ok.ensures.items in
    let n : length c.push.new.self.items ≡ length c.loop.marks.items + 1 = ap length e ∙ length-more c.loop.marks.items None in
    (omega (arith, n, c.loop.invariant.0), λ i. ap (λ xs. get_or xs i None) e ∙ mark_free c.loop.marks.items c.loop.invariant.1 i)
