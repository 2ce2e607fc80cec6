use Rattle.std.proofs.Common.{◌≡◌, length, map, take}
use Rattle.cyclo24.specs.ExactK24.{k24_laws}
use Rattle.cyclo24.specs.K24.{exact24}
use Rattle.lin_alg.specs.Rows.{vector}
use Rattle.mode_project.specs.Parts.{rows_in}
use Rattle.mode_project.proofs.short.short_lists.Given as goal

abbrev pub invariant-loop-list : goal.invariant-loop-list
invariant-loop-list g l =
    let front = rows_in (take l.list-index l.lists) in
    record {
      long : map length (rows_in l.shorts.items) ≡ map length front;
      exact : map (vector k24_laws g.S.Short.exact) (rows_in l.shorts.items) ≡ map (vector k24_laws exact24) front;
    }
