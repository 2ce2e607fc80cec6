use Rattle.std.proofs.Common.{◌≡◌, ◌<◌, ◌≤◌, ◌/◌, ◌%◌, ℕ, true, sym, ◌∙◌, subst, arith, below_more}
use Rattle.std.proofs.lemmas.Bool.{true≢false}
use Rattle.std.proofs.lemmas.Nat.{div_below, mod_below}
use Rattle.lin_alg.specs.Matrix.{entry}
use Rattle.couple.specs.Links.{IsZero, average}
use Rattle.couple.specs.Listed.{lifted}
use Rattle.couple.specs.SpreadLaws.{zero-spread}
use Rattle.couple.specs.Wide.{IsWideAverages}
use Rattle.couple.proofs.EntryLemmas.{entry-right}
use Rattle.couple.proofs.FirstLemmas.{product-small, some-columns, zero-before, zero-first, found-link}
use Rattle.couple.proofs.TermLemmas.{on-err}
use Rattle.couple.proofs.averages.first_average.Goals as goal

pub overflow_mul-p-end : goal.overflow_mul-p-end
overflow_mul-p-end g c =
    let l = product-small c.first.result c.cols-cols.result (omega (arith, c.first.ensures.few, c.rows-rows.ensures.value, c.rows-rows.ensures.few)) c.cols-cols.ensures.few in
    omega (arith, l)

pub returns-in_err-add_average-clause-wide : goal.returns-in_err-add_average-clause-wide
returns-in_err-add_average-clause-wide g c =
    let f = g.F.Field.field in
    let p = lifted f.laws (g.P.Pairs.pair c.args.pairs.now) in
    let m = c.loop-p.p in
    let k = c.cols-cols.result in
    let ek : k ≡ p.cols = c.cols-cols.ensures.value in
    let some = some-columns m c.first.result k c.loop-p-test.true in
    let li : m / k < c.first.result = div_below m k c.first.result some c.loop-p-test.true in
    let lr : m / k < p.rows = omega (arith, li, c.first.ensures.few) in
    on-err c.from_residual.result (IsWideAverages f p)
    (m / k, lr, m % k, subst (λ (x : ℕ). m % k < x) ek (mod_below m k some), zero-before f.laws p k ek m c.loop-p.invariant.4, c.in_err-add_average.ensures.wide)

pub returns-then-not-is_zero-clause-found : goal.returns-then-not-is_zero-clause-found
returns-then-not-is_zero-clause-found g c _ =
    let f = g.F.Field.field in
    let v = g.F.Field.value in
    let p = lifted f.laws (g.P.Pairs.pair c.args.pairs.now) in
    let m = c.loop-p.p in
    let k = c.cols-cols.result in
    let new = c.add_average.new.sums in
    let er : new.rows ≡ p.rows = c.add_average.ensures.rows ∙ c.loop-p.invariant.0 ∙ c.requires.rows in
    let ec : new.cols ≡ p.cols = c.add_average.ensures.cols ∙ c.loop-p.invariant.1 ∙ c.requires.cols in
    found-link f.laws p k c.cols-cols.ensures.value m c.first.result (entry f.laws v new) c.first.ensures.few c.loop-p-test.true (some-columns m c.first.result k c.loop-p-test.true) c.loop-p.invariant.4 c.in_ok-add_average.ensures.exact
    (λ a b l. entry-right f v new a b (subst (λ (x : ℕ). x ≤ b) (sym ec) l))
    (λ z. true≢false (sym (c.is_zero.ensures.other (λ a b la lb. z a b (subst (λ (x : ℕ). a < x) er la) (subst (λ (x : ℕ). b < x) ec lb))) ∙ c.if-not-is_zero.true))

pub loop-p-preserved : goal.loop-p-preserved
loop-p-preserved g c =
    let f = g.F.Field.field in
    let v = g.F.Field.value in
    let p = lifted f.laws (g.P.Pairs.pair c.args.pairs.now) in
    let k = c.cols-cols.result in
    let new = c.add_average.new.sums in
    let er : new.rows ≡ p.rows = c.add_average.ensures.rows ∙ c.loop-p.invariant.0 ∙ c.requires.rows in
    let ec : new.cols ≡ p.cols = c.add_average.ensures.cols ∙ c.loop-p.invariant.1 ∙ c.requires.cols in
    let t : c.is_zero.result ≡ true = c.if-not-is_zero.false in
    let z : IsZero f.laws p (entry f.laws v new) = λ a b la lb. c.is_zero.ensures.zero t a b (subst (λ (x : ℕ). a < x) (sym er) la) (subst (λ (x : ℕ). b < x) (sym ec) lb) in (
      c.add_average.ensures.rows ∙ c.loop-p.invariant.0,
      c.add_average.ensures.cols ∙ c.loop-p.invariant.1,
      c.add_average.auto.row ∙ c.loop-p.invariant.2,
      z,
      below_more (λ n. IsZero f.laws p (average f.laws p (n / k) (n % k))) c.loop-p.p c.loop-p.invariant.4 (λ a b la lb. sym (c.in_ok-add_average.ensures.exact a b la lb) ∙ z a b la lb),
    )

pub returns-clause-none : goal.returns-clause-none
returns-clause-none g c _ =
    let f = g.F.Field.field in
    let p = lifted f.laws (g.P.Pairs.pair c.args.pairs.now) in
    zero-spread f.laws p c.requires.lawful c.first.result c.first.ensures.reached
    (zero-first f.laws p c.cols-cols.result c.cols-cols.ensures.value c.first.result c.loop-p.p c.loop-p-test.false c.loop-p.invariant.4)
