use Rattle.std.proofs.Common.{◌∙◌, sym, refl}
use Rattle.cyclo24.specs.Written4.{numbers4}
use Rattle.cyclo24.specs.Short4.{rational}
use Rattle.cyclo24.specs.Short4Laws.{lowest_over_one, lowest-rational}
use Rattle.cyclo24.specs.Ratio.{ratio4}
use Rattle.cyclo24.proofs.ratio.Ratio.lowered.Goals as goal

pub returns-then-is_one : goal.returns-then-is_one
returns-then-is_one c = let r = c.args.self in lowest_over_one (rational r.n.n) (numbers4 (ratio4 r)) r.d.n (sym c.is_one.ensures ∙ c.if-is_one.true) refl

pub returns : goal.returns
returns c =
    let p = c.divided.result in let q = c.divided-2.result in
    lowest-rational c.args.self.n.n c.args.self.d.n c.common-common.result p q (record { n = p.n }) (record { n = q.n }) c.requires.positive c.common-common.ensures.value c.divided.ensures.value refl c.divided-2.ensures.value refl
