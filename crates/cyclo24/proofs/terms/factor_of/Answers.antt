use Rattle.std.proofs.Common.{rules, subst, sym, ◌≤◌}
use Rattle.std.specs.Int.RustNames.{unsigned_abs}
use Rattle.cyclo24.specs.declared.whole.Whole.{Whole}
use Rattle.cyclo24.specs.TermsLaws.{factor_most}
use Rattle.cyclo24.proofs.terms.factor_of.Goals as goal

pub returns-clause-value : goal.returns-clause-value
returns-clause-value c = search rules

pub returns-clause-most : goal.returns-clause-most
returns-clause-most c = subst (λ (w : Whole). unsigned_abs w.n ≤ 240000) (sym (returns-clause-value c)) (factor_most c.args.term c.requires)
