use Rattle.std.proofs.Common.{◌≡◌, map, take}
use Rattle.cyclo24.specs.ExactK24.{k24_laws}
use Rattle.cyclo24.specs.K24.{exact24}
use Rattle.class_list.specs.Seen.{directions_of}
use Rattle.short_listing.specs.Carried.{AreForms}
use Rattle.short_listing.proofs.forms.lengthened_listing.Given as goal

abbrev pub invariant-loop-i : goal.invariant-loop-i
invariant-loop-i g l =
    (directions_of k24_laws exact24 l.copy ≡ directions_of k24_laws g.S.Short.exact (take l.i l.listing))
    × AreForms (map (λ d. d.equations.width) (take l.i l.listing)) (map (λ d. d.equations) l.copy)
