use Rattle.std.proofs.Common.{◌≡◌, map, take}
use Rattle.cyclo24.specs.K24.{exact24}
use Rattle.short_rows.proofs.rows.lengthened.Given as goal

abbrev pub invariant-loop-entry : goal.invariant-loop-entry
invariant-loop-entry g l = map exact24 l.values.items ≡ map g.S.Short.exact (take l.entry-index l.row)
