use Rattle.std.proofs.Common.{◌<◌, ℕ, List, map, length, sym}
use Rattle.std.proofs.lemmas.List.{length-map}
use Rattle.lin_alg.proofs.RowLemmas.{item-at}
use Rattle.lin_alg.proofs.FreeLemmas.{pivot-here, pivot-next}
use Rattle.lin_alg.proofs.echelon.free.has_pivot.Goals as goal

pub returns-then-p-line : goal.returns-then-p-line
returns-then-p-line g c =
    let all : List (ℕ × List _) = map (λ r. (r.0, r.1.items)) c.args.lines.now in
    let x : ℕ × List _ = (c.line-item.result.0, c.line-item.result.1.items) in
    let l : c.loop-line.line-index < length all = rw length-map c.loop-line-test.true in
    sym (pivot-here c.args.p all c.loop-line.line-index x l
    (item-at (λ r. (r.0, r.1.items)) c.args.lines.now c.loop-line.line-index c.line-item.result c.loop-line-test.true c.line-item.is) c.if-p-line.true c.loop-line.invariant)

pub loop-line-preserved : goal.loop-line-preserved
loop-line-preserved g c =
    let all : List (ℕ × List _) = map (λ r. (r.0, r.1.items)) c.args.lines.now in
    let x : ℕ × List _ = (c.line-item.result.0, c.line-item.result.1.items) in
    let l : c.loop-line.line-index < length all = rw length-map c.loop-line-test.true in
    pivot-next c.args.p all c.loop-line.line-index x l
    (item-at (λ r. (r.0, r.1.items)) c.args.lines.now c.loop-line.line-index c.line-item.result c.loop-line-test.true c.line-item.is) c.if-p-line.false c.loop-line.invariant
