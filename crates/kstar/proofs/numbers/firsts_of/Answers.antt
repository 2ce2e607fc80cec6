use Rattle.std.proofs.Common.{ℕ, ◌<◌}
use Rattle.kstar.specs.WaveVector.{AreEquivalent}
use Rattle.kstar.specs.Star.{row_in}
use Rattle.algebra.specs.RisingListLaws.{list-grows}
use Rattle.kstar.proofs.numbers.firsts_of.Goals as goal

pub loop-r-preserved : goal.loop-r-preserved
loop-r-preserved c =
    list-grows c.is_first-is_listed.result c.loop-r.r (λ r. (s : ℕ) → s < r → AreEquivalent c.args.lattice (row_in c.args.images.now s) (row_in c.args.images.now r) → ⊥)
    c.loop-r.firsts.items c.add.new.numbers.items c.loop-r.invariant c.in_ok-add.ensures.yes c.in_ok-add.ensures.no
    c.is_first-is_listed.ensures.yes
    (λ e h. let w = c.is_first-is_listed.ensures.no e in h w.0 w.1 w.2)
