use Rattle.std.proofs.Common.{◌≡◌, ◌<◌, ◌≤◌, ℕ, List, ◌++◌, map, take, length, fold, sym, ◌∙◌}
use Rattle.std.proofs.lemmas.List.{length-map, take_all}
use Rattle.std.specs.Hash as fed
use Rattle.std.specs.List.{flat_map}
use Rattle.lin_alg.proofs.RowLemmas.{item-at}
use Rattle.lin_alg.proofs.HashLemmas.{fed-next}
use Rattle.lin_alg.proofs.echelon.compare.hash_lines.Goals as goal

pub loop-line-preserved : goal.loop-line-preserved
loop-line-preserved g c =
    let all : List (ℕ × List _) = map (λ r. (r.0, r.1.items)) c.args.lines.now in
    let x : ℕ × List _ = (c.line-item.result.0, c.line-item.result.1.items) in
    let l : c.loop-line.line-index < length all = rw length-map c.loop-line-test.true in
    fed-next g.H.Hasher.write c.args.state.now c.loop-line.state c.hash-in-loop-line.new.state (fed.usize (length c.args.lines.now)) (λ (r : ℕ × List _). fed.slice g.F.Hash.hash_input r.1) all
    c.loop-line.line-index x l (item-at (λ r. (r.0, r.1.items)) c.args.lines.now c.loop-line.line-index c.line-item.result c.loop-line-test.true c.line-item.is)
    c.loop-line.invariant c.hash-in-loop-line.ensures

pub returns : goal.returns
returns g c =
    let all : List (ℕ × List _) = map (λ r. (r.0, r.1.items)) c.args.lines.now in
    let long : length all ≡ length c.args.lines.now = length-map c.args.lines.now (λ r. (r.0, r.1.items)) in
    let l : length all ≤ c.loop-line.line-index = rw length-map c.loop-line-test.false in
    let whole : take c.loop-line.line-index all ≡ all = take_all c.loop-line.line-index all l in
    c.loop-line.invariant
    ∙ (λ z. fold g.H.Hasher.write c.args.state.now (fed.usize (sym long z) ++ flat_map (λ (r : ℕ × List _). fed.slice g.F.Hash.hash_input r.1) (whole z)))
