use Rattle.std.proofs.Common.{◌≡◌, ◌<◌, ℕ, IsTrue, sym, ◌∙◌, subst, arith, below_more, length, set}
use Rattle.lin_alg.specs.Rows.{vector}
use Rattle.mode_project.specs.Parts.{rows_in, row_in}
use Rattle.mode_project.proofs.TermLemmas.{on-err}
use Rattle.mode_project.proofs.VectorLemmas.{vector-set_same, vector-set_other}
use Rattle.mode_project.proofs.VectorsLemmas.{item-is}
use Rattle.mode_project.proofs.left.fill_left.Goals as goal

pub difference-requires-clause-first : goal.difference-requires-clause-first
difference-requires-clause-first g c =
    let l : c.loop-k.k < length c.args.rows.now = subst (λ (n : ℕ). c.loop-k.k < n) c.requires.room c.loop-k-test.true in
    let lv : c.loop-k.k < length c.args.images.now = subst (λ (n : ℕ). c.loop-k.k < n) (sym c.requires.count) l in
    let e = item-is c.args.images.now c.loop-k.k c.index-images-k.result lv c.index-images-k.is in
    subst (λ xs. c.args.i < length xs) (e ∙ sym c.deref.ensures.value) (c.requires.moved c.loop-k.k l)

pub difference-requires-clause-second : goal.difference-requires-clause-second
difference-requires-clause-second g c =
    let l : c.loop-k.k < length c.args.rows.now = subst (λ (n : ℕ). c.loop-k.k < n) c.requires.room c.loop-k-test.true in
    let e = item-is c.args.rows.now c.loop-k.k c.index-rows-k.result l c.index-rows-k.is in
    subst (λ xs. c.args.i < length xs) (e ∙ sym c.deref-in-loop-k.ensures.value) (c.requires.long c.loop-k.k l)

pub loop-k-preserved : goal.loop-k-preserved
loop-k-preserved g c =
    let f = g.F.Field.field in
    let value = g.F.Field.value in
    let k = c.loop-k.k in
    let i = c.args.i in
    let y = c.in_ok-row.field-0 in
    let images = row_in f.laws value (rows_in c.args.images.now) in
    let rows = row_in f.laws value (rows_in c.args.rows.now) in
    let l : k < length c.args.rows.now = subst (λ (n : ℕ). k < n) c.requires.room c.loop-k-test.true in
    let lv : k < length c.args.images.now = subst (λ (n : ℕ). k < n) (sym c.requires.count) l in
    let lr : k < length c.loop-k.row = omega (arith, c.loop-k.auto.row, c.loop-k-test.true) in
    let e = c.deref.ensures.value ∙ sym (item-is c.args.images.now k c.index-images-k.result lv c.index-images-k.is) in
    let h = c.deref-in-loop-k.ensures.value ∙ sym (item-is c.args.rows.now k c.index-rows-k.result l c.index-rows-k.is) in
    let own : value y ≡ f.laws.plus (images k i) (f.laws.neg (rows k i)) =
    c.in_ok-row.ensures.exact ∙ (λ t. f.laws.plus (vector f.laws value (e t) i) (f.laws.neg (vector f.laws value (h t) i))) in
    below_more (λ j. vector f.laws value (set c.loop-k.row k y) j ≡ f.laws.plus (images j i) (f.laws.neg (rows j i))) k
    (λ j m. let n : j ≡ k → ⊥ = λ q. absurd (omega (arith, q, m)) in vector-set_other f value c.loop-k.row k j y n ∙ c.loop-k.invariant j m)
    (vector-set_same f value c.loop-k.row k y lr ∙ own)

pub returns-in_err-row-clause-wide : goal.returns-in_err-row-clause-wide
returns-in_err-row-clause-wide g c =
    let f = g.F.Field.field in
    let value = g.F.Field.value in
    let k = c.loop-k.k in
    let i = c.args.i in
    let images = row_in f.laws value (rows_in c.args.images.now) in
    let rows = row_in f.laws value (rows_in c.args.rows.now) in
    let l : k < length c.args.rows.now = subst (λ (n : ℕ). k < n) c.requires.room c.loop-k-test.true in
    let lv : k < length c.args.images.now = subst (λ (n : ℕ). k < n) (sym c.requires.count) l in
    let e = c.deref.ensures.value ∙ sym (item-is c.args.images.now k c.index-images-k.result lv c.index-images-k.is) in
    let h = c.deref-in-loop-k.ensures.value ∙ sym (item-is c.args.rows.now k c.index-rows-k.result l c.index-rows-k.is) in
    on-err c.from_residual.result ((j : ℕ) × (j < length c.args.rows.now) × IsTrue (f.is_wide_difference (images j i) (rows j i))) (
      k,
      l,
      subst (λ xs. IsTrue (f.is_wide_difference (vector f.laws value xs i) (rows k i))) e
          (subst (λ xs. IsTrue (f.is_wide_difference (vector f.laws value c.deref.result.now i) (vector f.laws value xs i))) h c.in_err-row.ensures.wide),
    )

pub returns-clause-exact : goal.returns-clause-exact
returns-clause-exact g c k l = c.loop-k.invariant k (omega (arith, l, c.requires.room, c.loop-k-test.false))
