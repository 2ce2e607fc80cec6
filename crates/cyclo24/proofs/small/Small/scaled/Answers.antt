use Rattle.std.proofs.Common.{◌≤◌, ◌^◌, ◌*◌, ℤ, subst, sym, ap, lit≤, arith}
use Rattle.std.specs.Prelude.{FitsSigned, ◌*ℤ◌}
use Rattle.std.specs.Int.{w64}
use Rattle.std.specs.Int.RustNames.{unsigned_abs}
use Rattle.cyclo24.specs.declared.small.Small.{Small}
use Rattle.cyclo24.specs.SmallLaws.{product_kept, factor_fits, factor_most}
use Rattle.cyclo24.proofs.small.Small.scaled.Goals as goal

fits : (f z : ℤ) → unsigned_abs f ≤ (2 ^ 11) → unsigned_abs z ≤ 2 ^ 50 → FitsSigned w64 (f *ℤ z)
fits f z h k = factor_fits (2 ^ 11) f z h (omega (arith, k))

pub returns-clause-value : goal.returns-clause-value
returns-clause-value c =
    let over : ℤ → Small = λ z. record { n = z } in
    ap over (product_kept c.args.factor.n c.args.self.n (2 ^ 11) (2 ^ 50) c.requires.factor (lit≤ tt) c.requires.most (lit≤ tt) (fits c.args.factor.n c.args.self.n c.requires.factor c.requires.most))

pub returns-clause-most : goal.returns-clause-most
returns-clause-most c = subst (λ (z : Small). unsigned_abs z.n ≤ (2 ^ 11) * unsigned_abs c.args.self.n) (sym (returns-clause-value c)) (factor_most (2 ^ 11) c.args.factor.n c.args.self.n c.requires.factor)
