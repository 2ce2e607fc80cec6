use Rattle.std.proofs.Common.{◌<◌, ℕ, sym, ◌∙◌, subst, length}
use Rattle.cyclo24.specs.Z24.{exact_z24}
use Rattle.cyclo24.specs.ExactZ24.{z24, z24_laws}
use Rattle.lin_alg.specs.Rows.{vector}
use Rattle.induce.specs.Tables.{matrix_in}
use Rattle.real_form.proofs.VectorLemmas.{vector-at}
use Rattle.real_form.proofs.TermLemmas.{term-exact, term-wide, term-zero, term-alone}
use Rattle.real_form.proofs.image.add_term.Goals as goal

pub returns-then-is_zero-clause-exact : goal.returns-then-is_zero-clause-exact
returns-then-is_zero-clause-exact c =
    let l : c.args.j < length c.args.w.now = subst (λ (k : ℕ). c.args.j < k) (sym c.requires.length) c.requires.column in
    let at = vector-at z24 exact_z24 c.args.w.now c.args.j c.index-w-j.result l c.index-w-j.is in
    term-zero z24 exact_z24 (exact_z24 c.args.sum) (matrix_in c.args.quotient.now c.args.induced.now.tables c.args.q c.args.i c.args.j) (exact_z24 c.index-w-j.result) (vector z24_laws exact_z24 c.args.w.now c.args.j) (sym at)
    (sym c.is_zero.ensures ∙ c.if-is_zero.true)

pub returns-then-is_entry_alone-clause-exact : goal.returns-then-is_entry_alone-clause-exact
returns-then-is_entry_alone-clause-exact c =
    let l : c.args.j < length c.args.w.now = subst (λ (k : ℕ). c.args.j < k) (sym c.requires.length) c.requires.column in
    let at = vector-at z24 exact_z24 c.args.w.now c.args.j c.index-w-j.result l c.index-w-j.is in
    term-alone z24 exact_z24 (exact_z24 c.args.sum) (exact_z24 c.entry-entry.result) (matrix_in c.args.quotient.now c.args.induced.now.tables c.args.q c.args.i c.args.j) (exact_z24 c.index-w-j.result) (vector z24_laws exact_z24 c.args.w.now c.args.j)
    (c.is_entry_alone.ensures.sum c.if-is_entry_alone.true) (c.is_entry_alone.ensures.factor c.if-is_entry_alone.true) c.entry-entry.ensures (sym at)

pub returns-clause-exact : goal.returns-clause-exact
returns-clause-exact c =
    let l : c.args.j < length c.args.w.now = subst (λ (k : ℕ). c.args.j < k) (sym c.requires.length) c.requires.column in
    let at = vector-at z24 exact_z24 c.args.w.now c.args.j c.index-w-j.result l c.index-w-j.is in
    term-exact z24 exact_z24 c.add_product.result (exact_z24 c.args.sum) (exact_z24 c.entry-entry.result) (exact_z24 c.index-w-j.result)
    (matrix_in c.args.quotient.now c.args.induced.now.tables c.args.q c.args.i c.args.j) (vector z24_laws exact_z24 c.args.w.now c.args.j) c.entry-entry.ensures (sym at) c.add_product.ensures.exact

pub returns-clause-wide : goal.returns-clause-wide
returns-clause-wide c =
    let l : c.args.j < length c.args.w.now = subst (λ (k : ℕ). c.args.j < k) (sym c.requires.length) c.requires.column in
    let at = vector-at z24 exact_z24 c.args.w.now c.args.j c.index-w-j.result l c.index-w-j.is in
    term-wide z24 exact_z24 c.add_product.result (exact_z24 c.args.sum) (exact_z24 c.entry-entry.result) (exact_z24 c.index-w-j.result)
    (matrix_in c.args.quotient.now c.args.induced.now.tables c.args.q c.args.i c.args.j) (vector z24_laws exact_z24 c.args.w.now c.args.j) c.entry-entry.ensures (sym at) c.add_product.ensures.wide
