use Rattle.std.proofs.Common.{◌≡◌, map, take}
use Rattle.real_form.specs.Vectors.{lines_of}
use Rattle.real_form.proofs.basis.pivots_of.Given as goal

abbrev pub invariant-loop-line : goal.invariant-loop-line
invariant-loop-line l = l.pivots.items ≡ map (λ r. r.0) (take l.line-index (lines_of l.lines))
