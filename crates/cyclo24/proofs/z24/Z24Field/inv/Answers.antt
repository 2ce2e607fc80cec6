use Rattle.std.proofs.Common.{rules, ◌≡◌, subst, Bool}
use Rattle.std.specs.Prelude.{IfOk, IsErr, IsTrue, ◌↔◌, refl}
use Rattle.cyclo24.specs.Z24.{exact_z24}
use Rattle.cyclo24.specs.K24.{exact24}
use Rattle.cyclo24.specs.ExactZ24.{ExactZ24}
use Rattle.cyclo24.specs.Z24Inverse.{IsSteps}
use Rattle.cyclo24.specs.Z24InverseLaws.{wide_square, wide_over, wide_factor, wide_last, square_step, value_step}
use Rattle.cyclo24.proofs.z24.Z24Field.inv.Goals as goal

pub returns-in_err-square-clause-wide : goal.returns-in_err-square-clause-wide
returns-in_err-square-clause-wide c = (
  λ _. wide_square (exact_z24 c.args.self) (exact_z24 c.in_ok-conjugate.conjugate) (exact_z24 c.in_ok-norm.norm) c.in_ok-conjugate.ensures.exact c.in_ok-norm.ensures.exact (c.in_err-square.ensures.wide.0 refl),
  λ _. search rules,
)

pub inv-requires : goal.inv-requires
inv-requires c = square_step (exact_z24 c.args.self) (exact_z24 c.in_ok-conjugate.conjugate) (exact_z24 c.in_ok-norm.norm) (exact24 c.in_ok-square.square) c.in_ok-conjugate.ensures.exact c.in_ok-norm.ensures.exact c.in_ok-square.ensures.exact c.requires

pub returns-in_err-inverse-clause-wide : goal.returns-in_err-inverse-clause-wide
returns-in_err-inverse-clause-wide c = (
  λ _. wide_over (exact_z24 c.args.self) (exact_z24 c.in_ok-conjugate.conjugate) (exact_z24 c.in_ok-norm.norm) (exact24 c.in_ok-square.square) c.in_ok-conjugate.ensures.exact c.in_ok-norm.ensures.exact c.in_ok-square.ensures.exact
      (c.in_err-inverse.ensures.wide.0 refl),
  λ _. search rules,
)

pub returns-in_err-factor-clause-wide : goal.returns-in_err-factor-clause-wide
returns-in_err-factor-clause-wide c = (
  λ _. wide_factor (exact_z24 c.args.self) (exact_z24 c.in_ok-conjugate.conjugate) (exact_z24 c.in_ok-norm.norm) (exact24 c.in_ok-square.square) (exact24 c.in_ok-inverse.inverse) c.in_ok-conjugate.ensures.exact
      c.in_ok-norm.ensures.exact c.in_ok-square.ensures.exact c.in_ok-inverse.ensures.exact (c.in_err-factor.ensures.wide.0 refl),
  λ _. search rules,
)

pub returns-clause-exact : goal.returns-clause-exact
returns-clause-exact c =
    let s : IsSteps (exact_z24 c.args.self) (exact_z24 c.in_ok-conjugate.conjugate) (exact_z24 c.in_ok-norm.norm) (exact24 c.in_ok-square.square) (exact24 c.in_ok-inverse.inverse) (exact_z24 c.in_ok-factor.factor) = record {
      conjugate = c.in_ok-conjugate.ensures.exact;
      norm = c.in_ok-norm.ensures.exact;
      square = c.in_ok-square.ensures.exact;
      inverse = c.in_ok-inverse.ensures.exact;
      factor = c.in_ok-factor.ensures.exact;
    } in
    subst (λ (t : ExactZ24). IfOk c.mul-2.result (λ r. exact_z24 r ≡ t)) (value_step _ _ _ _ _ _ s c.requires) c.mul-2.ensures.exact

pub returns-clause-wide : goal.returns-clause-wide
returns-clause-wide c =
    let s : IsSteps (exact_z24 c.args.self) (exact_z24 c.in_ok-conjugate.conjugate) (exact_z24 c.in_ok-norm.norm) (exact24 c.in_ok-square.square) (exact24 c.in_ok-inverse.inverse) (exact_z24 c.in_ok-factor.factor) = record {
      conjugate = c.in_ok-conjugate.ensures.exact;
      norm = c.in_ok-norm.ensures.exact;
      square = c.in_ok-square.ensures.exact;
      inverse = c.in_ok-inverse.ensures.exact;
      factor = c.in_ok-factor.ensures.exact;
    } in
    subst (λ (w : Bool). IsErr c.mul-2.result ↔ IsTrue w)
    (wide_last _ _ _ _ _ _ s c.in_ok-conjugate.ensures.wide.1 c.in_ok-norm.ensures.wide.1 c.in_ok-square.ensures.wide.1 c.in_ok-inverse.ensures.wide.1 c.in_ok-factor.ensures.wide.1) c.mul-2.ensures.wide
