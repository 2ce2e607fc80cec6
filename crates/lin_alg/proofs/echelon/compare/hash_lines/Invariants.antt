use Rattle.std.proofs.Common.{◌≡◌, ℕ, List, ◌++◌, map, take, length, fold}
use Rattle.std.specs.Hash as fed
use Rattle.std.specs.List.{flat_map}
use Rattle.lin_alg.proofs.echelon.compare.hash_lines.Given as goal

abbrev pub invariant-loop-line : goal.invariant-loop-line
invariant-loop-line g l =
    l.state ≡ fold g.H.Hasher.write l.fn.state (fed.usize (length l.lines) ++ flat_map {X = ℕ × List _} (λ r. fed.slice g.F.Hash.hash_input r.1) (take l.line-index (map (λ r. (r.0, r.1.items)) l.lines)))
