use Rattle.std.proofs.Common.{◌∙◌, refl, subst, ◌≤◌, ◌*◌, ℕ}
use Rattle.cyclo24.specs.ExactZ24.{z24_laws}
use Rattle.cyclo24.specs.Z24.{exact_z24}
use Rattle.small_rep.specs.Rep.{matrices_of}
use Rattle.induce.proofs.ProductLemmas.{filled-more, filled-all, wide_multiple}
use Rattle.induce.proofs.products.phased_matrix.Goals as goal

pub returns-in-Err-clause-wide : goal.returns-in-Err-clause-wide
returns-in-Err-clause-wide c q =
    wide_multiple c.args.rep.now.rep.size (matrices_of c.args.rep.now.rep) c.args.power c.args.rotation c.loop-e.e c.size-size.result (exact_z24 c.root-factor.result) (exact_z24 c.get.result) c.size-size.ensures.value
    c.loop-e-test.true c.root-factor.ensures c.get.ensures (c.in-Err.ensures.wide.0 refl)

pub loop-e-preserved : goal.loop-e-preserved
loop-e-preserved c =
    filled-more c.args.rep.now.rep.size (matrices_of c.args.rep.now.rep) c.args.power c.args.rotation c.loop-e.matrix c.set.new.self c.loop-e.e c.size-size.result c.in-Ok.entry c.size-size.ensures.value c.loop-e.invariant
    c.set.ensures.rows c.set.ensures.cols (c.in-Ok.ensures.exact ∙ (λ t. z24_laws.times (c.root-factor.ensures t) (c.get.ensures t))) c.set.ensures.entries

pub returns-clause-phased : goal.returns-clause-phased
returns-clause-phased c =
    let l : c.args.rep.now.rep.size * c.args.rep.now.rep.size ≤ c.loop-e.e = subst (λ (n : ℕ). n * n ≤ c.loop-e.e) c.size-size.ensures.value c.loop-e-test.false in
    filled-all c.args.rep.now.rep.size (matrices_of c.args.rep.now.rep) c.args.power c.args.rotation c.loop-e.matrix c.loop-e.e l c.loop-e.invariant
