use Rattle.std.proofs.Common.{◌≡◌, ◌+◌, ◌≤◌, ℕ, sym, ◌∙◌, subst, length}
use Rattle.std.specs.Option.{option_copied}
use Rattle.cyclo24.specs.K24.{exact24}
use Rattle.cyclo24.specs.ExactK24.{k24_laws}
use Rattle.lin_alg.specs.Rows.{exact_rows}
use Rattle.super_group.specs.Quotient.{order_of}
use Rattle.induce.specs.Kinds.{real_dimension}
use Rattle.induce.specs.Tables.{dimension_in, matrix_in}
use Rattle.real_form.specs.declared.errors.FormError.TheVariants.{NoRealBasis, Wide, NoMemory}
use Rattle.real_form.specs.Bases.{unit_rows}
use Rattle.real_form.specs.Candidates.{tried}
use Rattle.real_form.specs.Orbits.{FirstOf}
use Rattle.real_form.specs.RealBasis.{IsBasisOf, FitsNot, IsRealBasis}
use Rattle.real_form.specs.Vectors.{lines_of}
use Rattle.real_form.proofs.ImageLemmas.{ok-map}
use Rattle.real_form.proofs.KeptLemmas.{basis-real, basis-complex, basis-pseudoreal, few-real, few-complex, few-pseudoreal, count-real, count-complex, count-pseudoreal}
use Rattle.real_form.proofs.real_basis.basis_lines.Goals as goal

real-basis-memory : NoRealBasis ≡ NoMemory → ⊥
real-basis-memory e = cc

wide-memory : (f : ℕ) → Wide f ≡ NoMemory → ⊥
wide-memory f e = cc

pub returns-in-Real-clause-basis : goal.returns-in-Real-clause-basis
returns-in-Real-clause-basis c =
    let n = dimension_in c.args.induced.now.tables in
    let m = order_of c.args.quotient.now in
    let D = matrix_in c.args.quotient.now c.args.induced.now.tables in
    let cs = tried n (option_copied c.args.given) in
    let kind = sym c.kind.ensures ∙ c.in-Real.is in
    ok-map c.spanned_lines.result (λ lines. FirstOf (IsBasisOf n m D (exact_rows k24_laws exact24 (lines_of lines.items))) (FitsNot n m D) cs)
    (λ lines. IsRealBasis c.args.induced.now.kind n m D cs (exact_rows k24_laws exact24 (lines_of lines.items)))
    (λ lines h. basis-real c.args.induced.now.kind n m D cs (exact_rows k24_laws exact24 (lines_of lines.items)) kind h) c.spanned_lines.ensures.basis

pub returns-in-Complex-clause-basis : goal.returns-in-Complex-clause-basis
returns-in-Complex-clause-basis c =
    let n = dimension_in c.args.induced.now.tables in
    let m = order_of c.args.quotient.now in
    let D = matrix_in c.args.quotient.now c.args.induced.now.tables in
    let cs = tried n (option_copied c.args.given) in
    let kind = sym c.kind.ensures ∙ c.in-Complex.is in
    ok-map c.doubled_lines.result (λ lines. exact_rows k24_laws exact24 (lines_of lines.items) ≡ unit_rows k24_laws 0 (n + n))
    (λ lines. IsRealBasis c.args.induced.now.kind n m D cs (exact_rows k24_laws exact24 (lines_of lines.items)))
    (λ lines h. basis-complex c.args.induced.now.kind n m D cs (exact_rows k24_laws exact24 (lines_of lines.items)) kind h) c.doubled_lines.ensures.rows

pub returns-in-Pseudoreal-clause-basis : goal.returns-in-Pseudoreal-clause-basis
returns-in-Pseudoreal-clause-basis c =
    let n = dimension_in c.args.induced.now.tables in
    let m = order_of c.args.quotient.now in
    let D = matrix_in c.args.quotient.now c.args.induced.now.tables in
    let cs = tried n (option_copied c.args.given) in
    let kind = sym c.kind.ensures ∙ c.in-Pseudoreal.is in
    ok-map c.doubled_lines-in-Pseudoreal.result (λ lines. exact_rows k24_laws exact24 (lines_of lines.items) ≡ unit_rows k24_laws 0 (n + n))
    (λ lines. IsRealBasis c.args.induced.now.kind n m D cs (exact_rows k24_laws exact24 (lines_of lines.items)))
    (λ lines h. basis-pseudoreal c.args.induced.now.kind n m D cs (exact_rows k24_laws exact24 (lines_of lines.items)) kind h) c.doubled_lines-in-Pseudoreal.ensures.rows

pub returns-in-Real-clause-kept : goal.returns-in-Real-clause-kept
returns-in-Real-clause-kept c = c.spanned_lines.ensures.kept

pub returns-in-Complex-clause-kept : goal.returns-in-Complex-clause-kept
returns-in-Complex-clause-kept c = c.doubled_lines.ensures.kept

pub returns-in-Pseudoreal-clause-kept : goal.returns-in-Pseudoreal-clause-kept
returns-in-Pseudoreal-clause-kept c = c.doubled_lines-in-Pseudoreal.ensures.kept

pub returns-in-Real-clause-few : goal.returns-in-Real-clause-few
returns-in-Real-clause-few c =
    let n = dimension_in c.args.induced.now.tables in
    let few : n ≤ 24 = few-real c.args.induced.now.kind n c.real_dim-dim.result c.real_dim-dim.ensures.kind c.real_dim-dim.ensures.few (sym c.kind.ensures ∙ c.in-Real.is) in
    ok-map c.spanned_lines.result (λ lines. length lines.items ≡ n) (λ lines. length lines.items ≤ 24) (λ lines h. subst (λ (k : ℕ). k ≤ 24) (sym h) few) c.spanned_lines.ensures.count

pub returns-in-Complex-clause-few : goal.returns-in-Complex-clause-few
returns-in-Complex-clause-few c =
    let n = dimension_in c.args.induced.now.tables in
    let few : n + n ≤ 24 = few-complex c.args.induced.now.kind n c.real_dim-dim.result c.real_dim-dim.ensures.kind c.real_dim-dim.ensures.few (sym c.kind.ensures ∙ c.in-Complex.is) in
    ok-map c.doubled_lines.result (λ lines. length lines.items ≡ n + n) (λ lines. length lines.items ≤ 24) (λ lines h. subst (λ (k : ℕ). k ≤ 24) (sym h) few) c.doubled_lines.ensures.count

pub returns-in-Pseudoreal-clause-few : goal.returns-in-Pseudoreal-clause-few
returns-in-Pseudoreal-clause-few c =
    let n = dimension_in c.args.induced.now.tables in
    let few : n + n ≤ 24 = few-pseudoreal c.args.induced.now.kind n c.real_dim-dim.result c.real_dim-dim.ensures.kind c.real_dim-dim.ensures.few (sym c.kind.ensures ∙ c.in-Pseudoreal.is) in
    ok-map c.doubled_lines-in-Pseudoreal.result (λ lines. length lines.items ≡ n + n) (λ lines. length lines.items ≤ 24) (λ lines h. subst (λ (k : ℕ). k ≤ 24) (sym h) few) c.doubled_lines-in-Pseudoreal.ensures.count

pub returns-in-Real-clause-none : goal.returns-in-Real-clause-none
returns-in-Real-clause-none c e = (sym c.kind.ensures ∙ c.in-Real.is, c.spanned_lines.ensures.none e)

pub returns-in-Complex-clause-none : goal.returns-in-Complex-clause-none
returns-in-Complex-clause-none c e = absurd (real-basis-memory (c.doubled_lines.ensures.memory NoRealBasis e))

pub returns-in-Pseudoreal-clause-none : goal.returns-in-Pseudoreal-clause-none
returns-in-Pseudoreal-clause-none c e = absurd (real-basis-memory (c.doubled_lines-in-Pseudoreal.ensures.memory NoRealBasis e))

pub returns-in-Real-clause-wide : goal.returns-in-Real-clause-wide
returns-in-Real-clause-wide c f e = let w = c.spanned_lines.ensures.wide f e in (w.0, sym c.kind.ensures ∙ c.in-Real.is, w.1)

pub returns-in-Complex-clause-wide : goal.returns-in-Complex-clause-wide
returns-in-Complex-clause-wide c f e = absurd (wide-memory f (c.doubled_lines.ensures.memory (Wide f) e))

pub returns-in-Pseudoreal-clause-wide : goal.returns-in-Pseudoreal-clause-wide
returns-in-Pseudoreal-clause-wide c f e = absurd (wide-memory f (c.doubled_lines-in-Pseudoreal.ensures.memory (Wide f) e))

pub returns-in-Real-clause-count : goal.returns-in-Real-clause-count
returns-in-Real-clause-count c =
    let n = dimension_in c.args.induced.now.tables in
    let e = count-real c.args.induced.now.kind n (sym c.kind.ensures ∙ c.in-Real.is) in
    ok-map c.spanned_lines.result (λ lines. length lines.items ≡ n) (λ lines. length lines.items ≡ real_dimension c.args.induced.now.kind n) (λ lines h. h ∙ e) c.spanned_lines.ensures.count

pub returns-in-Complex-clause-count : goal.returns-in-Complex-clause-count
returns-in-Complex-clause-count c =
    let n = dimension_in c.args.induced.now.tables in
    let e = count-complex c.args.induced.now.kind n (sym c.kind.ensures ∙ c.in-Complex.is) in
    ok-map c.doubled_lines.result (λ lines. length lines.items ≡ n + n) (λ lines. length lines.items ≡ real_dimension c.args.induced.now.kind n) (λ lines h. h ∙ e) c.doubled_lines.ensures.count

pub returns-in-Pseudoreal-clause-count : goal.returns-in-Pseudoreal-clause-count
returns-in-Pseudoreal-clause-count c =
    let n = dimension_in c.args.induced.now.tables in
    let e = count-pseudoreal c.args.induced.now.kind n (sym c.kind.ensures ∙ c.in-Pseudoreal.is) in
    ok-map c.doubled_lines-in-Pseudoreal.result (λ lines. length lines.items ≡ n + n) (λ lines. length lines.items ≡ real_dimension c.args.induced.now.kind n) (λ lines h. h ∙ e) c.doubled_lines-in-Pseudoreal.ensures.count
