use Rattle.std.proofs.Common.{◌≡◌, sym, ap, ◌∙◌, ◌++◌, IfOk, subst, List, ℕ}
use Rattle.std.specs.Prelude.{codes}
use Rattle.cyclo24.specs.K24.{exact24}
use Rattle.list_report.proofs.FactorLemmas.{factor-one, factor-minus, factor-number, signs-text}
use Rattle.list_report.proofs.factor.factor_text.Goals as goal

pub returns-then-is_one : goal.returns-then-is_one
returns-then-is_one c = c.new-text.ensures ∙ factor-one (exact24 c.args.x) (sym c.is_one.ensures ∙ c.if-is_one.true)

pub returns-then-is_minus_one : goal.returns-then-is_minus_one
returns-then-is_minus_one c =
    c.in_ok-push.ensures.ok ∙ ap (λ t. t ++ codes "-") c.new-text.ensures
    ∙ factor-minus (exact24 c.args.x) (sym c.is_one.ensures ∙ c.if-is_one.false) (sym c.is_minus_one.ensures ∙ c.if-is_minus_one.true)

pub returns : goal.returns
returns c =
    let x = exact24 c.args.x in
    let e = factor-number x c.as_slice.result.now (sym c.is_one.ensures ∙ c.if-is_one.false) (sym c.is_minus_one.ensures ∙ c.if-is_minus_one.false)
    (c.as_slice.ensures ∙ c.in_ok-number.ensures) (signs-text c.args.x) in
    subst (λ (z : List ℕ). IfOk c.multiple_text.result (λ text. text ≡ z)) e c.multiple_text.ensures
