use Rattle.std.proofs.Common.{◌∙◌, ap, refl, inl, inr, subst, IsTrue}
use Rattle.cyclo24.specs.ExactZ24.{ExactZ24, z24_laws, real_part, is_wide_sum_z24, is_wide_real_part}
use Rattle.cyclo24.specs.Z24.{exact_z24}
use Rattle.induce.specs.Wide.{IsWideWeight}
use Rattle.induce.proofs.CharacterLemmas.{on_err}
use Rattle.induce.proofs.weights.weight_of_character.Goals as goal

pub returns-clause-exact : goal.returns-clause-exact
returns-clause-exact c = c.in_ok-weight.ensures.exact ∙ ap real_part (c.in_ok-sum.ensures.exact ∙ ap (z24_laws.plus (exact_z24 c.args.x)) c.in_ok-conjugate.ensures.exact)

pub returns-in_err-conjugate-clause-wide : goal.returns-in_err-conjugate-clause-wide
returns-in_err-conjugate-clause-wide c = on_err c.from_residual.result (IsWideWeight (exact_z24 c.args.x)) (inl (c.in_err-conjugate.ensures.wide.0 refl))

pub returns-in_err-sum-clause-wide : goal.returns-in_err-sum-clause-wide
returns-in_err-sum-clause-wide c =
    on_err c.from_residual-in_err-sum.result (IsWideWeight (exact_z24 c.args.x))
    (inr (inl (subst (λ (y : ExactZ24). IsTrue (is_wide_sum_z24 (exact_z24 c.args.x) y)) c.in_ok-conjugate.ensures.exact (c.in_err-sum.ensures.wide.0 refl))))

pub returns-in_err-weight-clause-wide : goal.returns-in_err-weight-clause-wide
returns-in_err-weight-clause-wide c =
    on_err c.from_residual-in_err-weight.result (IsWideWeight (exact_z24 c.args.x))
    (inr (inr (subst (λ (y : ExactZ24). IsTrue (is_wide_real_part y)) (c.in_ok-sum.ensures.exact ∙ ap (z24_laws.plus (exact_z24 c.args.x)) c.in_ok-conjugate.ensures.exact) (c.in_err-weight.ensures.wide.0 refl))))
