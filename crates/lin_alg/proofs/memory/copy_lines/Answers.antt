use Rattle.std.proofs.Common.{◌≡◌, ◌<◌, ℕ, List, map, length, ◌∙◌, ap}
use Rattle.std.proofs.lemmas.List.{length-map}
use Rattle.lin_alg.proofs.RowLemmas.{item-at}
use Rattle.lin_alg.proofs.MemoryLemmas.{copied-next}
use Rattle.lin_alg.proofs.memory.copy_lines.Goals as goal

pub loop-line-preserved : goal.loop-line-preserved
loop-line-preserved g c =
    let all : List (ℕ × List _) = map (λ r. (r.0, r.1.items)) c.args.lines.now in
    let y : ℕ × List _ = (c.line-item.result.0, c.line-item.result.1.items) in
    let l : c.loop-line.line-index < length all = rw length-map c.loop-line-test.true in
    let s : c.in_ok-row.row.items ≡ c.line-item.result.1.items = c.in_ok-row.ensures.items ∙ c.deref.ensures.value in
    copied-next (λ r. (r.0, r.1.items)) all c.push.new.self.items c.loop-line.copies.items (c.line-item.result.0, c.in_ok-row.row) c.loop-line.line-index y c.in-Ok.ensures.items
    (ap (λ z. (c.line-item.result.0, z)) s) l
    (item-at (λ r. (r.0, r.1.items)) c.args.lines.now c.loop-line.line-index c.line-item.result c.loop-line-test.true c.line-item.is) c.loop-line.invariant
