use Rattle.std.proofs.Common.{ap, ◌∙◌, sym, subst, pos, to_z}
use Rattle.std.specs.Prelude.{ℤ, ℕ, FitsSigned}
use Rattle.std.specs.Int.{w128}
use Rattle.std.specs.Int.RustNames.{unsigned_abs}
use Rattle.cyclo24.specs.GcdLaws.{gcd_positive}
use Rattle.cyclo24.specs.declared.whole.Whole.{Whole}
use Rattle.cyclo24.specs.CheckedLaws.{common_is, common_below, small_fits, small_is, small_narrow}
use Rattle.cyclo24.specs.Checked.{is_wide}
use Rattle.std.proofs.Common.{◌≡◌, ◌<◌, false}
use Rattle.cyclo24.proofs.whole.Whole.common.Goals as goal

pub overflow_cast-result : goal.overflow_cast-result
overflow_cast-result c =
    let e = common_is c.args.self.n c.args.other.n c.unsigned_abs.result c.unsigned_abs-2.result c.greatest_common.result c.requires.narrow c.requires.narrow_other c.greatest_common.ensures c.unsigned_abs.ensures.value c.unsigned_abs-2.ensures.value in
    let P : ℕ → Type 0 = λ n. FitsSigned w128 (pos n) in
    subst P (sym e) (small_fits _ (common_below c.args.self.n c.args.other.n c.requires.narrow c.requires.narrow_other))

pub returns-clause-value : goal.returns-clause-value
returns-clause-value c =
    let e = common_is c.args.self.n c.args.other.n c.unsigned_abs.result c.unsigned_abs-2.result c.greatest_common.result c.requires.narrow c.requires.narrow_other c.greatest_common.ensures c.unsigned_abs.ensures.value c.unsigned_abs-2.ensures.value in
    let whole : ℤ → Whole = λ z. record { n = z } in
    ap (λ n. whole (to_z w128 n)) e ∙ ap whole (small_is _ (common_below c.args.self.n c.args.other.n c.requires.narrow c.requires.narrow_other))

pub returns-clause-narrow : goal.returns-clause-narrow
returns-clause-narrow c =
    let e = returns-clause-value c in
    let P : Whole → Type 0 = λ w. is_wide w.n ≡ false in
    subst P (sym e) (small_narrow _ (common_below c.args.self.n c.args.other.n c.requires.narrow c.requires.narrow_other))

pub returns-clause-positive : goal.returns-clause-positive
returns-clause-positive c h =
    let e = returns-clause-value c in
    let P : Whole → Type 0 = λ w. 0 < unsigned_abs w.n in
    subst P (sym e) (gcd_positive (unsigned_abs c.args.self.n) (unsigned_abs c.args.other.n) h)
