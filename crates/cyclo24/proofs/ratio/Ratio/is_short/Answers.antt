use Rattle.std.proofs.Common.{◌∙◌, sym, ap}
use Rattle.std.specs.Prelude.{◌&&◌}
use Rattle.cyclo24.specs.Long.{is_short}
use Rattle.cyclo24.specs.RatioLaws.{two_short}
use Rattle.cyclo24.proofs.ratio.Ratio.is_short.Goals as goal

pub returns-then-is_short : goal.returns-then-is_short
returns-then-is_short c =
    let r = c.args.self in
    c.is_short-then-is_short.ensures ∙ ap (λ b. b && is_short r.d.n) (sym (sym c.is_short.ensures ∙ c.if-is_short.true)) ∙ two_short r.n.n r.d.n
