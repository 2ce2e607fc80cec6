use Rattle.std.proofs.Common.{rules, ◌≡◌, refl, negsuc}
use Rattle.cyclo24.specs.declared.fraction4.Fraction4.{Fraction4}
use Rattle.cyclo24.specs.ExactK24.{k24_laws}
use Rattle.cyclo24.specs.Written4.{numbers4, sum}
use Rattle.cyclo24.specs.Lowest4Laws.{IsAnswer}
use Rattle.cyclo24.specs.K24Laws.{exact_of, IsLow, made_low, made_value, low_positive, difference24}
use Rattle.cyclo24.proofs.k24.K24Field.sub.Goals as goal

-- an answer is the exact result
numbers : (a b s : Fraction4) (h : IsLow a) (k : IsLow b) → IsAnswer (sum (record { n = negsuc 0 }) a b) s → numbers4 s ≡ (k24_laws.plus (exact_of a h) (k24_laws.neg (exact_of b k))).0
numbers a b s h k e = difference24 a b (sum (record { n = negsuc 0 }) a b).value s h k refl e.lowest

pub sum-requires-clause-positive : goal.sum-requires-clause-positive
sum-requires-clause-positive c = low_positive c.args.self.fraction c.args.self.lowest

pub sum-requires-clause-positive_other : goal.sum-requires-clause-positive_other
sum-requires-clause-positive_other c = low_positive c.args.other.fraction c.args.other.lowest

pub returns-in_err-fraction-clause-wide : goal.returns-in_err-fraction-clause-wide
returns-in_err-fraction-clause-wide c = let h = c.in_err-fraction.ensures.wide in search (rules, h)

pub invariant_of-result-2 : goal.invariant_of-result-2
invariant_of-result-2 c =
    let e = c.in_ok-fraction.ensures.ok in
    record { narrow = e.narrow; lowest = made_low c.in_ok-fraction.fraction (k24_laws.plus (exact_of c.args.self.fraction c.args.self.lowest) (k24_laws.neg (exact_of c.args.other.fraction c.args.other.lowest))) (numbers c.args.self.fraction c.args.other.fraction c.in_ok-fraction.fraction c.args.self.lowest c.args.other.lowest e) }

pub returns-clause-exact : goal.returns-clause-exact
returns-clause-exact c = let h = made_value c.in_ok-fraction.fraction (k24_laws.plus (exact_of c.args.self.fraction c.args.self.lowest) (k24_laws.neg (exact_of c.args.other.fraction c.args.other.lowest))) (numbers c.args.self.fraction c.args.other.fraction c.in_ok-fraction.fraction c.args.self.lowest c.args.other.lowest c.in_ok-fraction.ensures.ok) in search h

pub returns-clause-wide : goal.returns-clause-wide
returns-clause-wide c = let h = c.in_ok-fraction.ensures.ok.written in search (rules, h)

pub rational_sum-rational-requires-clause-positive : goal.rational_sum-rational-requires-clause-positive
rational_sum-rational-requires-clause-positive c = low_positive c.args.self.fraction c.args.self.lowest

pub rational_sum-rational-requires-clause-positive_other : goal.rational_sum-rational-requires-clause-positive_other
rational_sum-rational-requires-clause-positive_other c = low_positive c.args.other.fraction c.args.other.lowest

pub invariant_of-result : goal.invariant_of-result
invariant_of-result c =
    let e = c.rational_sum-rational.ensures in
    record { narrow = e.narrow; lowest = made_low c.rational_sum-rational.result (k24_laws.plus (exact_of c.args.self.fraction c.args.self.lowest) (k24_laws.neg (exact_of c.args.other.fraction c.args.other.lowest))) (numbers c.args.self.fraction c.args.other.fraction c.rational_sum-rational.result c.args.self.lowest c.args.other.lowest e) }

pub returns-then-are_rational-clause-exact : goal.returns-then-are_rational-clause-exact
returns-then-are_rational-clause-exact c = let h = made_value c.rational_sum-rational.result (k24_laws.plus (exact_of c.args.self.fraction c.args.self.lowest) (k24_laws.neg (exact_of c.args.other.fraction c.args.other.lowest))) (numbers c.args.self.fraction c.args.other.fraction c.rational_sum-rational.result c.args.self.lowest c.args.other.lowest c.rational_sum-rational.ensures) in search h

pub returns-then-are_rational-clause-wide : goal.returns-then-are_rational-clause-wide
returns-then-are_rational-clause-wide c = let h = c.rational_sum-rational.ensures.written in search (rules, h)
