use Rattle.std.proofs.Common.{rules, ◌≡◌, ◌∙◌, sym, ap, drop, get_or, length, arith, List, ◌∷◌, ℕ, ◌+◌, ◌<◌, ◌≤◌, suc, pos, Ok}
use Rattle.std.proofs.Math.Seq.{drop-cons}
use Rattle.std.proofs.Math.ListN.{drop_of_length-le}
use Rattle.cyclo24.specs.declared.whole.Whole.{Whole}
use Rattle.cyclo24.specs.declared.whole.Product.{Product}
use Rattle.cyclo24.specs.Checked.{answer, sum_from}
use Rattle.cyclo24.specs.CheckedLaws.{sum_step, sum_err_term, sum_err_plus, sum_end}
use Rattle.cyclo24.proofs.whole.sum_of.Goals as goal

abbrev none : Product
none = record { factor = record { n = pos 0 }; x = record { n = pos 0 }; y = record { n = pos 0 } }

at_place : (s : Whole) (ps : List Product) (i : ℕ) → i < length ps → answer (sum_from s (drop i ps)) ≡ answer (sum_from s (get_or ps i none ∷ drop (i + 1) ps))
at_place s ps i h = let e : suc i ≡ i + 1 = omega arith in ap (λ xs. answer (sum_from s xs)) (drop-cons ps i none h ∙ ap (λ k. get_or ps i none ∷ drop k ps) e)

at_end : (s : Whole) (ps : List Product) (i : ℕ) → length ps ≤ i → answer (sum_from s (drop i ps)) ≡ Ok s
at_end s ps i h = ap (λ xs. answer (sum_from s xs)) (drop_of_length-le ps h) ∙ sum_end s

pub returns-in_err-value : goal.returns-in_err-value
returns-in_err-value c =
    let e = c.loop-term.invariant ∙ at_place c.loop-term.sum c.args.terms.now c.loop-term.term-index c.loop-term-test.true
    ∙ sum_err_term c.loop-term.sum _ (get_or c.args.terms.now c.loop-term.term-index none) (drop (c.loop-term.term-index + 1) c.args.terms.now) (sym c.value.ensures ∙ c.in_err-value.was) in
    search rules ∙ sym e

pub returns-in_err-sum : goal.returns-in_err-sum
returns-in_err-sum c =
    let e = c.loop-term.invariant ∙ at_place c.loop-term.sum c.args.terms.now c.loop-term.term-index c.loop-term-test.true
    ∙ sum_err_plus c.loop-term.sum c.in_ok-value.value _ (get_or c.args.terms.now c.loop-term.term-index none) (drop (c.loop-term.term-index + 1) c.args.terms.now) (sym c.value.ensures ∙ c.in_ok-value.was) (sym c.plus.ensures ∙ c.in_err-sum.was) in
    search rules ∙ sym e

pub loop-term-preserved : goal.loop-term-preserved
loop-term-preserved c =
    c.loop-term.invariant ∙ at_place c.loop-term.sum c.args.terms.now c.loop-term.term-index c.loop-term-test.true
    ∙ sum_step c.loop-term.sum c.in_ok-value.value c.in_ok-sum.sum (get_or c.args.terms.now c.loop-term.term-index none) (drop (c.loop-term.term-index + 1) c.args.terms.now) (sym c.value.ensures ∙ c.in_ok-value.was) (sym c.plus.ensures ∙ c.in_ok-sum.was)

pub returns : goal.returns
returns c = sym (c.loop-term.invariant ∙ at_end c.loop-term.sum c.args.terms.now c.loop-term.term-index c.loop-term-test.false)
