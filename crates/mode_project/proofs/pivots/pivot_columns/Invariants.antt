use Rattle.mode_project.specs.AmplitudeParts.{IsWalk}
use Rattle.mode_project.proofs.pivots.pivot_columns.Given as goal

abbrev pub invariant-loop-j : goal.invariant-loop-j
invariant-loop-j l = IsWalk l.sites l.j l.next l.columns.items
