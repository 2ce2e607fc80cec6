use Rattle.std.proofs.Common.{rules, ◌∙◌, ap, refl, pos, ◌*ℤ◌, w32, arith}
use Rattle.std.proofs.lemmas.Int.{to_z-of_z}
use Rattle.iso_text.specs.Fractions.{IsLowest}
use Rattle.iso_text.specs.declared.numbers.Frac.{Frac}
use Rattle.algebra.specs.PassedLaws.{passed, passed-from}
use Rattle.kstar.proofs.Lowest.{least-lowest}
use Rattle.kstar.proofs.fraction.lowest.Goals as goal

pub returns-in-Some : goal.returns-in-Some
returns-in-Some c =
    let f : Frac = record { num = passed w32 c.in-Some.num; den = c.loop-den.den } in
    passed-from w32 (λ z. IsLowest z c.args.d f) c.args.n c.ranges.n
    (least-lowest (passed w32 c.args.n) c.args.d f (omega arith)
    (ap (λ x. x *ℤ pos c.args.d) (to_z-of_z w32 c.in-Some.num (search rules)) ∙ c.in-Some.ensures ∙ to_z-of_z w32 c.product.result (search rules) ∙ c.product.ensures.value)
    c.loop-den.invariant)

pub returns : goal.returns
returns c =
    let f : Frac = record { num = passed w32 c.args.n; den = c.args.d } in
    passed-from w32 (λ z. IsLowest z c.args.d f) c.args.n c.ranges.n
    (least-lowest (passed w32 c.args.n) c.args.d f c.requires.positive refl (λ m some less x. c.loop-den.invariant m some (omega arith) x))
