use Rattle.std.proofs.Common.{◌≡◌, ℕ, take}
use Rattle.cyclo24.specs.ExactK24.{k24_laws}
use Rattle.cyclo24.specs.K24.{exact24}
use Rattle.mode_project.specs.Joined.{lines_in, joined_rows_in, AreLong}
use Rattle.mode_project.proofs.short.lengthened_rows.Given as goal

abbrev pub invariant-loop-row : goal.invariant-loop-row
invariant-loop-row g l =
    let front = take l.row-index l.rows in
    record {
      rows : joined_rows_in k24_laws exact24 l.copy.items ≡ joined_rows_in k24_laws g.S.Short.exact front;
      long : (n : ℕ) → AreLong n (lines_in front) → AreLong n (lines_in l.copy.items);
    }
