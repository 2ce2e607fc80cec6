use Rattle.std.proofs.Common.{◌≡◌, ◌<◌, ◌⊎◌, ℕ, true, false}
use Rattle.std.specs.Prelude.{slice_index_or}
use Rattle.mode_project.specs.Scaled.{conjugate_of}
use Rattle.mode_project.proofs.scale.mark_class.Given as goal

abbrev pub invariant-loop-a : goal.invariant-loop-a
invariant-loop-a g l =
    let group = g.S.OfSpace.space.group in
    (p : ℕ) → slice_index_or l.done p false ≡ true → (slice_index_or l.fn.done p false ≡ true) ⊎ ((a : ℕ) × (a < group.order) × (p ≡ conjugate_of group a l.q))
