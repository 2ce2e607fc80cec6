use Rattle.std.proofs.Common.{ℕ, ◌<◌, ◌≤◌, ◌∙◌, refl, ap, List, length, map}
use Rattle.std.proofs.lemmas.List.{take_all, length-map}
use Rattle.cyclo24.specs.declared.k24.K24.{K24}
use Rattle.real_form.specs.Vectors.{lines_of}
use Rattle.real_form.proofs.LineLemmas.{item-at, map-next}
use Rattle.real_form.proofs.basis.pivots_of.Goals as goal

pub loop-line-preserved : goal.loop-line-preserved
loop-line-preserved c =
    let all = lines_of c.args.lines.now in
    let i = c.loop-line.line-index in
    let y : ℕ × List K24 = (c.line-item.result.0, c.line-item.result.1.items) in
    let l : i < length all = rw length-map c.loop-line-test.true in
    map-next (λ r. r.0) all c.push.new.self.items c.loop-line.pivots.items i y c.line-item.result.0 c.in-Ok.ensures.items refl l
    (item-at (λ r. (r.0, r.1.items)) c.args.lines.now i c.line-item.result c.loop-line-test.true c.line-item.is) c.loop-line.invariant

pub returns : goal.returns
returns c =
    let all = lines_of c.args.lines.now in
    let l : length all ≤ c.loop-line.line-index = rw length-map c.loop-line-test.false in
    c.loop-line.invariant ∙ ap (map (λ r. r.0)) (take_all c.loop-line.line-index all l)
