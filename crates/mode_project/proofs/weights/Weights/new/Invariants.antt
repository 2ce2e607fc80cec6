use Rattle.std.proofs.Common.{◌≡◌, map, take}
use Rattle.mode_project.specs.Parts.{rows_in}
use Rattle.mode_project.specs.Weights.{weights_in}
use Rattle.mode_project.proofs.weights.Weights.new.Given as goal

abbrev pub invariant-loop-one : goal.invariant-loop-one
invariant-loop-one l = rows_in l.lists.items ≡ take l.one-index (map weights_in l.induced)
