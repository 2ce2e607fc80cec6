use Rattle.std.proofs.Common.{rules, ◌≡◌, ◌∙◌, sym, ap, drop, get_or, length, arith, List, ◌∷◌, ℕ, ◌+◌, ◌<◌, ◌≤◌, suc, pos, Ok}
use Rattle.std.proofs.Math.Seq.{drop-cons}
use Rattle.std.proofs.Math.ListN.{drop_of_length-le}
use Rattle.cyclo24.specs.declared.whole.Whole.{Whole}
use Rattle.cyclo24.specs.Checked.{answer}
use Rattle.cyclo24.specs.Written8.{dot_from}
use Rattle.cyclo24.specs.Written8Laws.{dot_step, dot_err_times, dot_err_plus, dot_end}
use Rattle.cyclo24.proofs.fraction8.dot.Goals as goal

abbrev none : Whole
none = record { n = pos 0 }

-- the numbers at the place and those behind it
at_place : (s : Whole) (xs ys : List Whole) (i : ℕ) → i < length xs → i < length ys
    → answer (dot_from s (drop i xs) (drop i ys)) ≡ answer (dot_from s (get_or xs i none ∷ drop (i + 1) xs) (get_or ys i none ∷ drop (i + 1) ys))
at_place s xs ys i h k =
    let e : suc i ≡ i + 1 = omega arith in
    let p : drop i xs ≡ get_or xs i none ∷ drop (i + 1) xs = drop-cons xs i none h ∙ ap (λ n. get_or xs i none ∷ drop n xs) e in
    let q : drop i ys ≡ get_or ys i none ∷ drop (i + 1) ys = drop-cons ys i none k ∙ ap (λ n. get_or ys i none ∷ drop n ys) e in
    λ j. answer (dot_from s (p j) (q j))

at_end : (s : Whole) (xs ys : List Whole) (i : ℕ) → length xs ≤ i → answer (dot_from s (drop i xs) (drop i ys)) ≡ Ok s
at_end s xs ys i h = ap (λ zs. answer (dot_from s zs (drop i ys))) (drop_of_length-le xs h) ∙ dot_end s (drop i ys)

pub returns-in_err-product : goal.returns-in_err-product
returns-in_err-product c =
    let xs = c.args.xs.now in let ys = c.args.ys.now in let i = c.loop-i.i in
    let below : i < length ys = omega (arith, c.requires) in
    let e = c.loop-i.invariant ∙ at_place c.loop-i.sum xs ys i c.loop-i-test.true below
    ∙ dot_err_times c.loop-i.sum (get_or xs i none) (get_or ys i none) _ (drop (i + 1) xs) (drop (i + 1) ys) (sym c.times.ensures ∙ c.in_err-product.was) in
    search rules ∙ sym e

pub returns-in_err-sum : goal.returns-in_err-sum
returns-in_err-sum c =
    let xs = c.args.xs.now in let ys = c.args.ys.now in let i = c.loop-i.i in
    let below : i < length ys = omega (arith, c.requires) in
    let e = c.loop-i.invariant ∙ at_place c.loop-i.sum xs ys i c.loop-i-test.true below
    ∙ dot_err_plus c.loop-i.sum c.in_ok-product.product (get_or xs i none) (get_or ys i none) _ (drop (i + 1) xs) (drop (i + 1) ys) (sym c.times.ensures ∙ c.in_ok-product.was) (sym c.plus.ensures ∙ c.in_err-sum.was) in
    search rules ∙ sym e

pub loop-i-preserved : goal.loop-i-preserved
loop-i-preserved c =
    let xs = c.args.xs.now in let ys = c.args.ys.now in let i = c.loop-i.i in
    let below : i < length ys = omega (arith, c.requires) in
    c.loop-i.invariant ∙ at_place c.loop-i.sum xs ys i c.loop-i-test.true below
    ∙ dot_step c.loop-i.sum c.in_ok-product.product c.in_ok-sum.sum (get_or xs i none) (get_or ys i none) (drop (i + 1) xs) (drop (i + 1) ys) (sym c.times.ensures ∙ c.in_ok-product.was) (sym c.plus.ensures ∙ c.in_ok-sum.was)

pub returns : goal.returns
returns c = sym (c.loop-i.invariant ∙ at_end c.loop-i.sum c.args.xs.now c.args.ys.now c.loop-i.i c.loop-i-test.false)
