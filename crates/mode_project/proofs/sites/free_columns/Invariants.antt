use Rattle.std.proofs.Common.{◌≡◌}
use Rattle.lin_alg.specs.Reduced.{free_columns}
use Rattle.mode_project.proofs.sites.free_columns.Given as goal

abbrev pub invariant-loop-j : goal.invariant-loop-j
invariant-loop-j g l = l.columns.items ≡ free_columns l.j l.form.rows
