use Rattle.std.proofs.Common.{◌<◌, ◌≤◌, ◌^◌, ℕ, ℤ, pos, subst, sym, ap, ◌∙◌, to_z}
use Rattle.std.specs.Prelude.{FitsSigned}
use Rattle.std.specs.Int.{w64}
use Rattle.std.specs.Int.RustNames.{unsigned_abs}
use Rattle.cyclo24.specs.GcdLaws.{gcd_positive}
use Rattle.cyclo24.specs.declared.small.Small.{Small}
use Rattle.cyclo24.specs.SmallLaws.{common_is, common_most, common_fits, common_kept, gcd_one}
use Rattle.cyclo24.proofs.small.Small.common.Goals as goal

pub overflow_cast-result : goal.overflow_cast-result
overflow_cast-result c =
    let e = common_is c.args.self.n c.args.other.n c.unsigned_abs.result c.unsigned_abs-2.result c.short_common.result c.requires.left c.requires.right c.short_common.ensures c.unsigned_abs.ensures.value c.unsigned_abs-2.ensures.value in
    subst (λ (n : ℕ). FitsSigned w64 (pos n)) (sym e) (common_fits _ (common_most c.args.self.n c.args.other.n c.requires.left c.requires.right))

pub returns-clause-value : goal.returns-clause-value
returns-clause-value c =
    let e = common_is c.args.self.n c.args.other.n c.unsigned_abs.result c.unsigned_abs-2.result c.short_common.result c.requires.left c.requires.right c.short_common.ensures c.unsigned_abs.ensures.value c.unsigned_abs-2.ensures.value in
    let over : ℤ → Small = λ z. record { n = z } in
    ap (λ (n : ℕ). over (to_z w64 n)) e ∙ ap over (common_kept _ (common_most c.args.self.n c.args.other.n c.requires.left c.requires.right))

pub returns-clause-positive : goal.returns-clause-positive
returns-clause-positive c h = subst (λ (z : Small). 0 < unsigned_abs z.n) (sym (returns-clause-value c)) (gcd_positive (unsigned_abs c.args.self.n) (unsigned_abs c.args.other.n) h)

pub returns-clause-most : goal.returns-clause-most
returns-clause-most c = subst (λ (z : Small). unsigned_abs z.n ≤ 2 ^ 62) (sym (returns-clause-value c)) (common_most c.args.self.n c.args.other.n c.requires.left c.requires.right)

pub returns-then-is_one-clause-value : goal.returns-then-is_one-clause-value
returns-then-is_one-clause-value c = let over : ℤ → Small = λ z. record { n = z } in ap over (gcd_one (unsigned_abs c.args.self.n) c.args.other.n (sym c.is_one.ensures ∙ c.if-is_one.true))
