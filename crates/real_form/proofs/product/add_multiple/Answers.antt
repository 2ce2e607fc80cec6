use Rattle.std.proofs.Common.{◌≡◌, ◌<◌, ℕ, true, refl, sym, ◌∙◌, arith, length, below_more}
use Rattle.lin_alg.specs.Rows.{vector}
use Rattle.lin_alg.specs.Matrix.{entry, IsWideTerm}
use Rattle.real_form.proofs.VectorLemmas.{vector-at}
use Rattle.real_form.proofs.WriteLemmas.{written-start, written-set}
use Rattle.real_form.proofs.TermLemmas.{add-left_nought, term-moved, on-err}
use Rattle.real_form.proofs.product.add_multiple.Goals as goal

pub returns-then-is_zero-clause-exact : goal.returns-then-is_zero-clause-exact
returns-then-is_zero-clause-exact g c j l =
    let f = g.F.Field.field in
    let v = g.F.Field.value in
    let z : f.laws.is_nought (v c.args.x) ≡ true = sym c.is_zero.ensures ∙ c.if-is_zero.true in
    add-left_nought f.laws (vector f.laws v c.args.into.now j) (v c.args.x) (entry f.laws v c.args.right.now c.args.k j) z

pub loop-j-init : goal.loop-j-init
loop-j-init g c =
    let f = g.F.Field.field in
    let v = g.F.Field.value in
    (written-start f v (λ j. f.laws.plus (vector f.laws v c.args.into.now j) (f.laws.times (v c.args.x) (entry f.laws v c.args.right.now c.args.k j))) c.args.into.now, λ j l. absurd (omega arith))

pub loop-j-preserved : goal.loop-j-preserved
loop-j-preserved g c =
    let f = g.F.Field.field in
    let v = g.F.Field.value in
    let j = c.loop-j.j in
    let s : ℕ → _ = vector f.laws v c.args.into.now in
    let y : ℕ → _ = entry f.laws v c.args.right.now c.args.k in
    let t : ℕ → _ = λ j. f.laws.plus (s j) (f.laws.times (v c.args.x) (y j)) in
    let l : j < length c.loop-j.into = omega arith in
    let es : v c.index-into-j.result ≡ s j = sym (vector-at f v c.loop-j.into j c.index-into-j.result l c.index-into-j.is) ∙ c.loop-j.invariant.0.ahead j (omega arith) in
    let eg : v c.get.result ≡ y j = c.get.ensures in (
      written-set f v t s c.loop-j.into j c.in_ok-into.field-0 l (c.in_ok-into.ensures.exact ∙ (λ z. f.laws.plus (es z) (f.laws.times (v c.args.x) (eg z)))) c.loop-j.invariant.0,
      below_more (λ j. IsWideTerm f (s j) (v c.args.x) (y j) → ⊥) j c.loop-j.invariant.1
          (λ h. c.in_ok-into.ensures.narrow (term-moved f (s j) (v c.index-into-j.result) (v c.args.x) (v c.args.x) (y j) (v c.get.result) (sym es) refl (sym eg) h)),
    )

pub returns-in_err-into-clause-wide : goal.returns-in_err-into-clause-wide
returns-in_err-into-clause-wide g c =
    let f = g.F.Field.field in
    let v = g.F.Field.value in
    let j = c.loop-j.j in
    let s : ℕ → _ = vector f.laws v c.args.into.now in
    let y : ℕ → _ = entry f.laws v c.args.right.now c.args.k in
    let l : j < length c.loop-j.into = omega arith in
    let b : j < c.args.right.now.cols = omega (arith, l, c.loop-j.auto.into, c.requires.room) in
    let es : v c.index-into-j.result ≡ s j = sym (vector-at f v c.loop-j.into j c.index-into-j.result l c.index-into-j.is) ∙ c.loop-j.invariant.0.ahead j (omega arith) in
    let eg : v c.get.result ≡ y j = c.get.ensures in
    on-err c.from_residual.result ((j : ℕ) × (j < c.args.right.now.cols) × IsWideTerm f (s j) (v c.args.x) (y j))
    (j, b, term-moved f (v c.index-into-j.result) (s j) (v c.args.x) (v c.args.x) (v c.get.result) (y j) es refl eg c.in_err-into.ensures.wide)

pub returns-clause-exact : goal.returns-clause-exact
returns-clause-exact g c j l = c.loop-j.invariant.0.done j (omega (arith, l, c.loop-j-test.false, c.loop-j.auto.into, c.requires.room))

pub returns-clause-narrow : goal.returns-clause-narrow
returns-clause-narrow g c j l = c.loop-j.invariant.1 j (omega (arith, l, c.loop-j-test.false, c.loop-j.auto.into, c.requires.room))
