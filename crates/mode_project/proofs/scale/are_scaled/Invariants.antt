use Rattle.std.proofs.Common.{◌≡◌, ◌<◌, ℕ, true, false}
use Rattle.std.specs.Prelude.{slice_index_or}
use Rattle.lin_alg.specs.Rows.{vector}
use Rattle.mode_project.specs.Scaled.{IsScaledAt}
use Rattle.mode_project.proofs.scale.are_scaled.Given as goal

abbrev pub invariant-loop-q : goal.invariant-loop-q
invariant-loop-q g l =
    let f = g.F.Field.field.laws in
    let w = vector f g.F.Field.value l.weights in
    let group = g.S.OfSpace.space.group in
    record {
      known : (p : ℕ) → slice_index_or l.done p false ≡ true → IsScaledAt f group w (g.F.Field.value l.scale) p;
      first : (p : ℕ) → p < l.q → IsScaledAt f group w (g.F.Field.value l.scale) p;
    }
