use Rattle.std.proofs.Common.{◌≡◌, subst, ℕ, List, IfOk}
use Rattle.cyclo24.specs.K24.{exact24}
use Rattle.cyclo24.specs.K24NumbersLaws.{passed_list}
use Rattle.report_steps.proofs.PlaceLemmas.{ratio_text-is}
use Rattle.report_steps.proofs.place.ratio_text.Goals as goal

pub returns : goal.returns
returns c =
    let n = c.args.n in
    let d = c.args.d in
    let x = exact24 c.ratio.result in
    subst (λ (z : List ℕ). IfOk c.print.result (λ text. text ≡ z)) (ratio_text-is x n d c.requires (passed_list n d x.0 c.ranges.n c.ranges.d c.ratio.ensures.numbers)) c.print.ensures
