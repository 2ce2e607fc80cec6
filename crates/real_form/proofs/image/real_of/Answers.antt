use Rattle.std.proofs.Common.{◌≡◌, refl, sym, ◌∙◌, true, IsTrue}
use Rattle.cyclo24.specs.Z24.{exact_z24}
use Rattle.cyclo24.specs.ExactZ24.{z24_laws, is_wide_real_part}
use Rattle.real_form.proofs.TermLemmas.{on-err}
use Rattle.real_form.proofs.SparseLemmas.{real_part-nought}
use Rattle.real_form.proofs.image.real_of.Goals as goal

pub returns-then-is_zero-clause-exact : goal.returns-then-is_zero-clause-exact
returns-then-is_zero-clause-exact c =
    let z : z24_laws.is_nought (exact_z24 c.args.x) ≡ true = sym c.is_zero.ensures ∙ c.if-is_zero.true in
    c.zero.ensures ∙ real_part-nought (exact_z24 c.args.x) (z24_laws.is_nought-true (exact_z24 c.args.x) z)

pub returns-in_err-part-clause-wide : goal.returns-in_err-part-clause-wide
returns-in_err-part-clause-wide c = on-err c.from_residual.result (IsTrue (is_wide_real_part (exact_z24 c.args.x))) (c.in_err-part.ensures.wide.0 refl)
