use Rattle.std.proofs.Common.{◌≡◌, ◌<◌, ◌+◌, ◌/◌, ℕ, sym, ◌∙◌, ap, subst, arith, length}
use Rattle.std.proofs.lemmas.Nat.{div_below}
use Rattle.cyclo24.specs.K24.{exact24}
use Rattle.cyclo24.specs.Z24.{exact_z24}
use Rattle.cyclo24.specs.ExactK24.{k24_laws}
use Rattle.cyclo24.specs.ExactZ24.{z24_laws}
use Rattle.lin_alg.specs.Rows.{vector}
use Rattle.small_rep.specs.RepCheck.{CheckedView}
use Rattle.induce.specs.Tables.{dimension_in, matrix_in, size_in}
use Rattle.induce.specs.InducedView.{star_in}
use Rattle.real_form.specs.Wide.{IsWideImage}
use Rattle.real_form.proofs.TermLemmas.{on-err}
use Rattle.real_form.proofs.SparseLemmas.{first-inside, sparse-image, products-sparse, products-first, products-last}
use Rattle.real_form.proofs.sparse.fill_sparse.Goals as goal

pub moved-arm-requires-clause-arm : goal.moved-arm-requires-clause-arm
moved-arm-requires-clause-arm c =
    let s = size_in c.args.induced.now.tables in
    let es = (c.size-size.ensures.value ∙ ap (λ (x : CheckedView). x.rep.size) c.rep.ensures) in
    let some = c.size-size.ensures.some in
    let a = c.requires.sparse.rises in
    let b = c.requires.sparse.inside in
    subst (λ (z : ℕ). c.args.places.first / z < length (star_in c.args.induced.now).by) (sym es) (div_below c.args.places.first s (length (star_in c.args.induced.now).by) (omega (arith, some, es)) (omega (arith, a, b)))

pub moved-other-requires-clause-arm : goal.moved-other-requires-clause-arm
moved-other-requires-clause-arm c =
    let s = size_in c.args.induced.now.tables in
    let es = (c.size-size.ensures.value ∙ ap (λ (x : CheckedView). x.rep.size) c.rep.ensures) in
    let some = c.size-size.ensures.some in
    let a = c.requires.sparse.rises in
    let b = c.requires.sparse.inside in
    subst (λ (z : ℕ). c.args.places.last / z < length (star_in c.args.induced.now).by) (sym es) (div_below c.args.places.last s (length (star_in c.args.induced.now).by) (omega (arith, some, es)) (omega (arith, a, b)))

pub write_arm-requires-clause-sparse : goal.write_arm-requires-clause-sparse
write_arm-requires-clause-sparse c a l e =
    let n = (dimension_in c.args.induced.now.tables) in
    let D = matrix_in c.args.quotient.now c.args.induced.now.tables in
    let w = vector z24_laws exact_z24 c.args.w.now in
    let i = c.args.places.first in
    let j = c.args.places.last in
    products-sparse z24_laws n (D c.args.q a) w i j c.requires.sparse

pub write_arm-requires-2-clause-sparse : goal.write_arm-requires-2-clause-sparse
write_arm-requires-2-clause-sparse c a l e =
    let n = (dimension_in c.args.induced.now.tables) in
    let D = matrix_in c.args.quotient.now c.args.induced.now.tables in
    let w = vector z24_laws exact_z24 c.args.w.now in
    let i = c.args.places.first in
    let j = c.args.places.last in
    let es = (c.size-size.ensures.value ∙ ap (λ (x : CheckedView). x.rep.size) c.rep.ensures) in
    products-first z24_laws n (D c.args.q a) w i j c.requires.sparse
    (c.moved-other.ensures.zero a j l c.requires.sparse.inside (ap (λ z. j / z) (sym es)) (λ d. c.if-other-arm.false (sym d ∙ e)))

pub write_arm-requires-3-clause-sparse : goal.write_arm-requires-3-clause-sparse
write_arm-requires-3-clause-sparse c a l e =
    let n = (dimension_in c.args.induced.now.tables) in
    let D = matrix_in c.args.quotient.now c.args.induced.now.tables in
    let w = vector z24_laws exact_z24 c.args.w.now in
    let i = c.args.places.first in
    let j = c.args.places.last in
    let es = (c.size-size.ensures.value ∙ ap (λ (x : CheckedView). x.rep.size) c.rep.ensures) in
    products-last z24_laws n (D c.args.q a) w i j c.requires.sparse
    (c.moved-arm.ensures.zero a i l (first-inside n w i j c.requires.sparse) (ap (λ z. i / z) (sym es)) (λ d. c.if-other-arm.false (sym e ∙ d)))

pub returns-in_err-write_arm-clause-wide : goal.returns-in_err-write_arm-clause-wide
returns-in_err-write_arm-clause-wide c =
    let n = (dimension_in c.args.induced.now.tables) in
    let D = matrix_in c.args.quotient.now c.args.induced.now.tables in
    let w = vector z24_laws exact_z24 c.args.w.now in
    on-err c.from_residual.result (IsWideImage n D c.args.q w) c.in_err-write_arm.ensures.wide

pub returns-in_err-write_arm-2-clause-wide : goal.returns-in_err-write_arm-2-clause-wide
returns-in_err-write_arm-2-clause-wide c =
    let n = (dimension_in c.args.induced.now.tables) in
    let D = matrix_in c.args.quotient.now c.args.induced.now.tables in
    let w = vector z24_laws exact_z24 c.args.w.now in
    on-err c.from_residual-in_err-write_arm-2.result (IsWideImage n D c.args.q w) c.in_err-write_arm-2.ensures.wide

pub returns-in_err-write_arm-3-clause-wide : goal.returns-in_err-write_arm-3-clause-wide
returns-in_err-write_arm-3-clause-wide c =
    let n = (dimension_in c.args.induced.now.tables) in
    let D = matrix_in c.args.quotient.now c.args.induced.now.tables in
    let w = vector z24_laws exact_z24 c.args.w.now in
    on-err c.from_residual-in_err-write_arm-3.result (IsWideImage n D c.args.q w) c.in_err-write_arm-3.ensures.wide

pub returns-then-other-arm-clause-exact : goal.returns-then-other-arm-clause-exact
returns-then-other-arm-clause-exact c =
    let n = (dimension_in c.args.induced.now.tables) in
    let D = matrix_in c.args.quotient.now c.args.induced.now.tables in
    let w = vector z24_laws exact_z24 c.args.w.now in
    let s = size_in c.args.induced.now.tables in
    let es = (c.size-size.ensures.value ∙ ap (λ (x : CheckedView). x.rep.size) c.rep.ensures) in
    let i = c.args.places.first in
    let j = c.args.places.last in
    let zi : (a : ℕ) → a < n → (a / s ≡ c.moved-arm.result → ⊥) → D c.args.q a i ≡ z24_laws.nought = λ a l d. c.moved-arm.ensures.zero a i l (first-inside n w i j c.requires.sparse) (ap (λ z. i / z) (sym es)) d in
    let zj : (a : ℕ) → a < n → (a / s ≡ c.moved-arm.result → ⊥) → D c.args.q a j ≡ z24_laws.nought = λ a l d. c.moved-other.ensures.zero a j l c.requires.sparse.inside (ap (λ z. j / z) (sym es)) (λ e. d (e ∙ c.if-other-arm.true)) in
    let o1 = c.in_ok-write_arm.ensures.first in
    let o2 = c.in_ok-write_arm.ensures.second in
    sparse-image n s D w c.args.q i j c.requires.sparse c.moved-arm.result c.moved-arm.result (vector k24_laws exact24 c.write_arm.new.row) zi zj
    (o1) (o2) (o1) (o2)
    (λ k e. c.in_ok-write_arm.ensures.kept k (ap (λ z. z k) c.clear.ensures ∙ e))

pub returns-clause-exact : goal.returns-clause-exact
returns-clause-exact c =
    let n = (dimension_in c.args.induced.now.tables) in
    let D = matrix_in c.args.quotient.now c.args.induced.now.tables in
    let w = vector z24_laws exact_z24 c.args.w.now in
    let s = size_in c.args.induced.now.tables in
    let es = (c.size-size.ensures.value ∙ ap (λ (x : CheckedView). x.rep.size) c.rep.ensures) in
    let i = c.args.places.first in
    let j = c.args.places.last in
    let zi : (a : ℕ) → a < n → (a / s ≡ c.moved-arm.result → ⊥) → D c.args.q a i ≡ z24_laws.nought = λ a l d. c.moved-arm.ensures.zero a i l (first-inside n w i j c.requires.sparse) (ap (λ z. i / z) (sym es)) d in
    let zj : (a : ℕ) → a < n → (a / s ≡ c.moved-other.result → ⊥) → D c.args.q a j ≡ z24_laws.nought = λ a l d. c.moved-other.ensures.zero a j l c.requires.sparse.inside (ap (λ z. j / z) (sym es)) d in
    sparse-image n s D w c.args.q i j c.requires.sparse c.moved-arm.result c.moved-other.result (vector k24_laws exact24 c.write_arm-3.new.row) zi zj
    (λ k l e. c.in_ok-write_arm-3.ensures.kept k (c.in_ok-write_arm-2.ensures.first k l e)) (λ k l e. c.in_ok-write_arm-3.ensures.kept (n + k) (c.in_ok-write_arm-2.ensures.second k l e)) (c.in_ok-write_arm-3.ensures.first) (c.in_ok-write_arm-3.ensures.second)
    (λ k e. c.in_ok-write_arm-3.ensures.kept k (c.in_ok-write_arm-2.ensures.kept k (ap (λ z. z k) c.clear.ensures ∙ e)))
