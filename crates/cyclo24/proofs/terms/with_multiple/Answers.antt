use Rattle.std.proofs.Common.{subst, sym, ap, ◌≤◌, ◌+◌, ◌*◌, ℤ}
use Rattle.std.specs.Int.RustNames.{unsigned_abs}
use Rattle.cyclo24.specs.declared.whole.Whole.{Whole}
use Rattle.cyclo24.specs.TermsLaws.{multiple_is, multiple_most}
use Rattle.cyclo24.proofs.terms.with_multiple.Goals as goal

pub returns-clause-value : goal.returns-clause-value
returns-clause-value c = let whole : ℤ → Whole = λ z. record { n = z } in ap whole (multiple_is c.args.sum.n c.args.factor.n c.args.coefficient.n c.requires.sum c.requires.factor c.requires.coefficient)

pub returns-clause-most : goal.returns-clause-most
returns-clause-most c =
    subst (λ (w : Whole). unsigned_abs w.n ≤ unsigned_abs c.args.sum.n + 128 * unsigned_abs c.args.factor.n) (sym (returns-clause-value c)) (multiple_most c.args.sum.n c.args.factor.n c.args.coefficient.n c.requires.coefficient)
