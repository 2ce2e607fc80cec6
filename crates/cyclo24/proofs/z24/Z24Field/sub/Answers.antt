use Rattle.std.proofs.Common.{◌≡◌, ◌∙◌, sym, ap, subst, refl}
use Rattle.std.specs.Prelude.{IsErr, IsTrue}
use Rattle.cyclo24.specs.declared.fraction8.Fraction8.{Fraction8}
use Rattle.cyclo24.specs.Checked.{any_wide}
use Rattle.cyclo24.specs.Written8.{fraction8_of, sum, negated}
use Rattle.cyclo24.specs.ExactZ24.{ExactZ24}
use Rattle.cyclo24.specs.Z24CallsLaws.{negated_z24}
use Rattle.cyclo24.proofs.z24.Z24Field.sub.Goals as goal

pub returns-clause-wide : goal.returns-clause-wide
returns-clause-wide c =
    let b = c.args.other.fraction in
    let e : c.neg-negative.result.fraction ≡ negated b = ap (λ (x : ExactZ24). fraction8_of x.0) c.neg-negative.ensures ∙ ap fraction8_of (sym (negated_z24 b (negated b) c.args.other.lowest refl)) in
    subst (λ (w : Fraction8). (IsErr c.add.result → IsTrue (any_wide (sum c.args.self.fraction w).written)) × (IsTrue (any_wide (sum c.args.self.fraction w).written) → IsErr c.add.result)) e c.add.ensures.wide
