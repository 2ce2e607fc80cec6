use Rattle.std.proofs.Common.{◌≡◌, ℕ, ◌<◌, ◌≤◌, ◌*◌, ◌/◌, ◌%◌, IsTrue, true, refl, sym, ◌∙◌, ap, subst, arith}
use Rattle.cyclo24.specs.ExactField.{Value}
use Rattle.lin_alg.specs.Matrix.{entry, IsWideMultiple}
use Rattle.lin_alg.specs.Matrices.{AreEqualBelow, multiple}
use Rattle.lin_alg.proofs.SquareLemmas.{on_err, row_below, column_below, equal-more, equal-all, equal-at}
use Rattle.lin_alg.proofs.matrix.Matrix.is_multiple.Goals as goal

pub returns-in_err-wanted-clause-wide : goal.returns-in_err-wanted-clause-wide
returns-in_err-wanted-clause-wide g c =
    let f = g.F.Field.field in
    let v = g.F.Field.value in
    let n : ℕ = c.rows-size.result in
    let e : ℕ = c.loop-e.e in
    let l : e < n * n = c.loop-e-test.true in
    let w : IsTrue (f.is_wide_product (v c.args.factor) (entry f.laws v c.args.other.now (e / n) (e % n))) =
    subst (λ (y : Value f). IsTrue (f.is_wide_product (v c.args.factor) y)) c.get.ensures (c.in_err-wanted.ensures.wide.0 refl) in
    on_err c.from_residual.result _ (subst (λ (m : ℕ). IsWideMultiple f m (v c.args.factor) (entry f.laws v c.args.other.now)) c.rows-size.ensures.value (e / n, row_below n e l, e % n, column_below n e l, w))

pub returns-then-not-are_equal-clause-no : goal.returns-then-not-are_equal-clause-no
returns-then-not-are_equal-clause-no g c _ h =
    let f = g.F.Field.field in
    let v = g.F.Field.value in
    let n : ℕ = c.rows-size.result in
    let e : ℕ = c.loop-e.e in
    let l : e < n * n = c.loop-e-test.true in
    let a : ℕ → ℕ → Value f = entry f.laws v c.args.self.now in
    let b : ℕ → ℕ → Value f = multiple f.laws (v c.args.factor) (entry f.laws v c.args.other.now) in
    let all : AreEqualBelow n a b = subst (λ (m : ℕ). AreEqualBelow m a b) (sym c.rows-size.ensures.value) h in
    c.are_equal.ensures.no c.if-not-are_equal.true
    (c.get-in-loop-e.ensures ∙ equal-at n a b e l all ∙ sym (c.in_ok-wanted.ensures.exact ∙ ap (f.laws.times (v c.args.factor)) c.get.ensures))

pub loop-e-preserved : goal.loop-e-preserved
loop-e-preserved g c =
    let f = g.F.Field.field in
    let v = g.F.Field.value in
    let a : ℕ → ℕ → Value f = entry f.laws v c.args.self.now in
    let b : ℕ → ℕ → Value f = multiple f.laws (v c.args.factor) (entry f.laws v c.args.other.now) in
    let t : c.are_equal.result ≡ true = c.if-not-are_equal.false in
    equal-more c.args.self.now.rows a b c.loop-e.e c.loop-e.invariant
    (subst (λ (n : ℕ). a (c.loop-e.e / n) (c.loop-e.e % n) ≡ b (c.loop-e.e / n) (c.loop-e.e % n)) c.rows-size.ensures.value
    (sym c.get-in-loop-e.ensures ∙ c.are_equal.ensures.yes t ∙ c.in_ok-wanted.ensures.exact ∙ ap (f.laws.times (v c.args.factor)) c.get.ensures))

pub returns-clause-yes : goal.returns-clause-yes
returns-clause-yes g c _ =
    let f = g.F.Field.field in
    let v = g.F.Field.value in
    let s : ℕ = c.rows-size.result in
    let k : s * s ≤ c.loop-e.e = omega (arith, c.loop-e-test.false) in
    equal-all c.args.self.now.rows (entry f.laws v c.args.self.now) (multiple f.laws (v c.args.factor) (entry f.laws v c.args.other.now)) c.loop-e.e
    (subst (λ (m : ℕ). m * m ≤ c.loop-e.e) c.rows-size.ensures.value k) c.loop-e.invariant
