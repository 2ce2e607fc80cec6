use Rattle.std.proofs.Common.{◌≡◌, to_z, of_z}
use Rattle.std.proofs.lemmas.Int.{to_z-of_z}
use Rattle.std.specs.Int.{w64}
use Rattle.cyclo24.specs.ExactK24.{k24, k24_laws}
use Rattle.cyclo24.specs.K24.{exact24}
use Rattle.cyclo24.specs.Numerals.{of_whole}
use Rattle.mode_project.proofs.OrbitLemmas.{quotient-passed, positive-some}
use Rattle.mode_project.proofs.orbit_amplitudes.quotient.Goals as goal

pub returns : goal.returns
returns c =
    let n = c.args.n in
    let d = c.args.d in
    let e : k24_laws.times (exact24 c.ratio.result) (of_whole k24_laws (to_z w64 (of_z w64 d))) ≡ of_whole k24_laws (to_z w64 (of_z w64 n)) = c.ratio.ensures.value in
    quotient-passed k24_laws n d (to_z w64 (of_z w64 n)) (to_z w64 (of_z w64 d)) (exact24 c.ratio.result) (to_z-of_z w64 n c.ranges.n) (to_z-of_z w64 d c.ranges.d) (positive-some k24 d c.requires) e
