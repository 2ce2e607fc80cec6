use Rattle.std.proofs.Common.{◌≤◌, ℕ, length, sym, subst}
use Rattle.cyclo24.specs.ExactK24.{k24, k24_laws}
use Rattle.cyclo24.specs.K24.{exact24}
use Rattle.mode_project.specs.AtomSpace.{space_of}
use Rattle.mode_project.specs.ModeLaws.{modes-sums}
use Rattle.mode_project.specs.ModesView.{irrep_modes_in}
use Rattle.mode_project.specs.Weights.{exact_weights}
use Rattle.mode_project.proofs.FinalLemmas.{final-count, final-independent, final-span}
use Rattle.mode_project.proofs.JointLemmas.{lists-length}
use Rattle.mode_project.proofs.basis.modes_in.Goals as goal

pub returns-in-Ok-clause-count : goal.returns-in-Ok-clause-count
returns-in-Ok-clause-count g c =
    let m = c.in-Ok.found in
    final-count k24 exact24 (space_of c.args.quotient.now c.args.orbit.now (g.K.AtomQuantity.quantity c.args.kind.now)) (exact_weights c.args.weights.now) m.rows m.sites c.in-Ok.ensures.modes

pub returns-in-Ok-clause-independent : goal.returns-in-Ok-clause-independent
returns-in-Ok-clause-independent g c =
    let m = c.in-Ok.found in
    final-independent k24 exact24 (space_of c.args.quotient.now c.args.orbit.now (g.K.AtomQuantity.quantity c.args.kind.now)) (exact_weights c.args.weights.now) m.rows m.sites c.in-Ok.ensures.modes

pub returns-in-Ok-clause-spanning : goal.returns-in-Ok-clause-spanning
returns-in-Ok-clause-spanning g c =
    let m = c.in-Ok.found in
    final-span k24 exact24 (space_of c.args.quotient.now c.args.orbit.now (g.K.AtomQuantity.quantity c.args.kind.now)) (exact_weights c.args.weights.now) m.rows m.sites c.in-Ok.ensures.modes

pub returns-in-Ok-clause-sums : goal.returns-in-Ok-clause-sums
returns-in-Ok-clause-sums g c j l =
    let m = c.in-Ok.found in
    let n : j ≤ length (exact_weights c.args.weights.now) = subst (λ (k : ℕ). j ≤ k) (sym (lists-length k24 exact24 c.args.weights.now)) l in
    modes-sums k24_laws (space_of c.args.quotient.now c.args.orbit.now (g.K.AtomQuantity.quantity c.args.kind.now)) (exact_weights c.args.weights.now) (irrep_modes_in m) m.sites c.in-Ok.ensures.modes j n
