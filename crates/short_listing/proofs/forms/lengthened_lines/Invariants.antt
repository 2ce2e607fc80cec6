use Rattle.std.proofs.Common.{◌≡◌, map, take}
use Rattle.cyclo24.specs.K24.{exact24}
use Rattle.short_listing.specs.Carried.{exact_lines}
use Rattle.short_listing.proofs.forms.lengthened_lines.Given as goal

abbrev pub invariant-loop-i : goal.invariant-loop-i
invariant-loop-i g l = exact_lines exact24 (map (λ r. (r.0, r.1.items)) l.lines.items) ≡ exact_lines g.S.Short.exact (take l.i l.form.rows)
