use Rattle.std.proofs.Common.{◌≡◌, ℕ, ◌<◌, false, nat_eq, []}
use Rattle.std.specs.Prelude.{slice_index_or}
use Rattle.mode_project.proofs.sites.has_pivot.Given as goal

abbrev pub invariant-loop-i : goal.invariant-loop-i
invariant-loop-i g l = (k : ℕ) → k < l.i → nat_eq l.p (slice_index_or l.form.rows k (0, [])).0 ≡ false
