use Rattle.std.proofs.Common.{◌≡◌, arith}
use Rattle.cyclo24.specs.Z24.{exact_z24}
use Rattle.cyclo24.specs.ExactZ24.{z24, z24_laws}
use Rattle.lin_alg.specs.Rows.{vector}
use Rattle.induce.specs.Tables.{dimension_in, matrix_in}
use Rattle.lin_alg.specs.Matrix.{IsWideDot}
use Rattle.real_form.proofs.TermLemmas.{on-err}
use Rattle.real_form.proofs.ImageLemmas.{ok-map, err-map}
use Rattle.real_form.proofs.SparseLemmas.{one-term, two-terms, wide-first, wide-last}
use Rattle.real_form.proofs.sparse.sparse_entry.Goals as goal

pub add_term-requires-clause-column : goal.add_term-requires-clause-column
add_term-requires-clause-column c = let a = c.requires.sparse.rises in let b = c.requires.sparse.inside in omega (arith, a, b)

pub returns-in_err-x-clause-wide : goal.returns-in_err-x-clause-wide
returns-in_err-x-clause-wide c =
    let n = (dimension_in c.args.induced.now.tables) in
    let D = matrix_in c.args.quotient.now c.args.induced.now.tables in
    let w = vector z24_laws exact_z24 c.args.w.now in
    let x = D c.args.q c.args.a in
    on-err c.from_residual.result (IsWideDot z24 n x w) (wide-first z24 n x w c.args.places.first c.args.places.last c.requires.sparse (exact_z24 c.zero.result) c.zero.ensures c.in_err-x.ensures.wide)

pub returns-then-places-clause-exact : goal.returns-then-places-clause-exact
returns-then-places-clause-exact c =
    let n = (dimension_in c.args.induced.now.tables) in
    let D = matrix_in c.args.quotient.now c.args.induced.now.tables in
    let w = vector z24_laws exact_z24 c.args.w.now in
    one-term z24 n (D c.args.q c.args.a) w c.args.places.first c.args.places.last c.requires.sparse (exact_z24 c.zero.result) (exact_z24 c.in_ok-x.x) c.zero.ensures c.if-places.true c.in_ok-x.ensures.exact

pub returns-clause-exact : goal.returns-clause-exact
returns-clause-exact c =
    let n = (dimension_in c.args.induced.now.tables) in
    let D = matrix_in c.args.quotient.now c.args.induced.now.tables in
    let w = vector z24_laws exact_z24 c.args.w.now in
    let i = c.args.places.first in
    let j = c.args.places.last in
    let x = D c.args.q c.args.a in
    let s = exact_z24 c.in_ok-x.x in
    ok-map c.add_term-2.result (λ r. exact_z24 r ≡ z24_laws.plus s (z24_laws.times (x j) (w j))) (λ r. exact_z24 r ≡ _)
    (λ r e. two-terms z24 n x w i j c.requires.sparse (exact_z24 c.zero.result) s (exact_z24 r) c.zero.ensures c.if-places.false c.in_ok-x.ensures.exact e) c.add_term-2.ensures.exact

pub returns-clause-wide : goal.returns-clause-wide
returns-clause-wide c =
    let n = (dimension_in c.args.induced.now.tables) in
    let D = matrix_in c.args.quotient.now c.args.induced.now.tables in
    let w = vector z24_laws exact_z24 c.args.w.now in
    let i = c.args.places.first in
    let j = c.args.places.last in
    let x = D c.args.q c.args.a in
    err-map c.add_term-2.result _ (IsWideDot z24 n x w)
    (wide-last z24 n x w i j c.requires.sparse (exact_z24 c.zero.result) (exact_z24 c.in_ok-x.x) c.zero.ensures c.if-places.false c.in_ok-x.ensures.exact) c.add_term-2.ensures.wide
