use Rattle.std.proofs.Common.{rules, ◌≡◌, refl}
use Rattle.cyclo24.specs.declared.fraction8.Fraction8.{Fraction8}
use Rattle.cyclo24.specs.ExactZ24.{z24_laws}
use Rattle.cyclo24.specs.Written8.{numbers8}
use Rattle.cyclo24.specs.Written8Products.{product}
use Rattle.cyclo24.specs.Lowest8Laws.{IsAnswer}
use Rattle.cyclo24.specs.Z24Calls.{IsLow8, exact_of8}
use Rattle.cyclo24.specs.Z24CallsLaws.{low_positive8, made_low8, made_value8, wide_ok, product_z24}
use Rattle.cyclo24.proofs.z24.Z24Field.mul.Goals as goal

-- an answer is the exact result
numbers : (a b s : Fraction8) (h : IsLow8 a) (k : IsLow8 b) → IsAnswer (product a b) s → numbers8 s ≡ (z24_laws.times (exact_of8 a h) (exact_of8 b k)).0
numbers a b s h k e = product_z24 a b (product a b).value s h k refl e.lowest

pub product-requires-clause-positive : goal.product-requires-clause-positive
product-requires-clause-positive c = low_positive8 c.args.self.fraction c.args.self.lowest

pub product-requires-clause-positive_other : goal.product-requires-clause-positive_other
product-requires-clause-positive_other c = low_positive8 c.args.other.fraction c.args.other.lowest

pub returns-in_err-fraction-clause-wide : goal.returns-in_err-fraction-clause-wide
returns-in_err-fraction-clause-wide c = let h = c.in_err-fraction.ensures.wide in search (rules, h)

pub invariant_of-result-2 : goal.invariant_of-result-2
invariant_of-result-2 c =
    let e = c.in_ok-fraction.ensures.ok in
    record { narrow = e.narrow; lowest = made_low8 c.in_ok-fraction.fraction (z24_laws.times (exact_of8 c.args.self.fraction c.args.self.lowest) (exact_of8 c.args.other.fraction c.args.other.lowest)) (numbers c.args.self.fraction c.args.other.fraction c.in_ok-fraction.fraction c.args.self.lowest c.args.other.lowest e) }

pub returns-clause-exact : goal.returns-clause-exact
returns-clause-exact c = let h = made_value8 c.in_ok-fraction.fraction (z24_laws.times (exact_of8 c.args.self.fraction c.args.self.lowest) (exact_of8 c.args.other.fraction c.args.other.lowest)) (numbers c.args.self.fraction c.args.other.fraction c.in_ok-fraction.fraction c.args.self.lowest c.args.other.lowest c.in_ok-fraction.ensures.ok) in search h

pub returns-clause-wide : goal.returns-clause-wide
returns-clause-wide c = let h = c.in_ok-fraction.ensures.ok.written in wide_ok _ h

pub rational_product-rational-requires-clause-positive : goal.rational_product-rational-requires-clause-positive
rational_product-rational-requires-clause-positive c = low_positive8 c.args.self.fraction c.args.self.lowest

pub rational_product-rational-requires-clause-positive_other : goal.rational_product-rational-requires-clause-positive_other
rational_product-rational-requires-clause-positive_other c = low_positive8 c.args.other.fraction c.args.other.lowest

pub invariant_of-result : goal.invariant_of-result
invariant_of-result c =
    let e = c.rational_product-rational.ensures in
    record { narrow = e.narrow; lowest = made_low8 c.rational_product-rational.result (z24_laws.times (exact_of8 c.args.self.fraction c.args.self.lowest) (exact_of8 c.args.other.fraction c.args.other.lowest)) (numbers c.args.self.fraction c.args.other.fraction c.rational_product-rational.result c.args.self.lowest c.args.other.lowest e) }

pub returns-then-are_rational-clause-exact : goal.returns-then-are_rational-clause-exact
returns-then-are_rational-clause-exact c = let h = made_value8 c.rational_product-rational.result (z24_laws.times (exact_of8 c.args.self.fraction c.args.self.lowest) (exact_of8 c.args.other.fraction c.args.other.lowest)) (numbers c.args.self.fraction c.args.other.fraction c.rational_product-rational.result c.args.self.lowest c.args.other.lowest c.rational_product-rational.ensures) in search h

pub returns-then-are_rational-clause-wide : goal.returns-then-are_rational-clause-wide
returns-then-are_rational-clause-wide c = let h = c.rational_product-rational.ensures.written in wide_ok _ h
