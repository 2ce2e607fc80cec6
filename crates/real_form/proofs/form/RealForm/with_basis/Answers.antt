use Rattle.std.proofs.Common.{◌≡◌, ◌<◌, ◌+◌, ◌*◌, ℕ, refl, sym, ◌∙◌, ap, subst, length}
use Rattle.std.proofs.lemmas.List.{length-map}
use Rattle.std.specs.Prelude.{Err}
use Rattle.lin_alg.specs.declared.errors.LinError.TheVariants.{Wide}
use Rattle.cyclo24.specs.K24.{exact24}
use Rattle.cyclo24.specs.ExactK24.{k24, k24_laws}
use Rattle.cyclo24.specs.ExactZ24.{z24_laws}
use Rattle.lin_alg.specs.Matrices.{IsRepresentation, AreEqualBelow, unit_entry}
use Rattle.lin_alg.specs.Matrix.{entry, IsWideDot}
use Rattle.lin_alg.specs.Rows.{exact_rows}
use Rattle.super_group.specs.Quotient.{SupercellGroup, order_of, quotient_group}
use Rattle.induce.specs.Tables.{dimension_in, matrix_in}
use Rattle.real_form.specs.Held.{IsHeld, entry_in}
use Rattle.real_form.specs.KeptBasis.{AreFactorsOf}
use Rattle.real_form.specs.RealBasis.{IsWideFactors}
use Rattle.real_form.specs.Vectors.{lines_of}
use Rattle.real_form.proofs.KeepLemmas.{keepable, wide-products, wide-factors, shown}
use Rattle.real_form.proofs.form.RealForm.with_basis.Goals as goal

pub keep-requires : goal.keep-requires
keep-requires c =
    let s = c.args.quotient.now in
    let n = dimension_in c.args.induced.now.tables in
    let D = matrix_in s c.args.induced.now.tables in
    let rows = lines_of c.args.lines.items in
    let left = c.in-Ok.factors.0 in
    let right = c.in-Ok.factors.1 in
    let d : ℕ = length c.args.lines.items in
    let e = c.dim-dim.ensures.value in
    let rep : IsRepresentation z24_laws (quotient_group s) n D = subst (λ (k : ℕ). IsRepresentation z24_laws (quotient_group s) k D) e (c.dim-dim.ensures.multiplies s c.requires.of) in
    let one : AreEqualBelow n (D 0) (unit_entry z24_laws) = subst (λ (k : ℕ). AreEqualBelow k (D 0) (unit_entry z24_laws)) e (c.dim-dim.ensures.identity s c.requires.of) in
    let factors : AreFactorsOf s n D rows left right = subst (λ xs. AreFactorsOf s n D (lines_of xs) left right) c.deref.ensures.value c.in-Ok.ensures.factors in
    let ops : c.len-listed.result ≡ length s.parent.ops = c.len-listed.ensures.value ∙ ap (λ g. length g.ops) c.group.ensures in
    let narrow : (p r j : ℕ) → p < left.rows → r < length s.parent.ops → j < left.cols → IsWideDot k24 left.cols (entry k24_laws exact24 left p) (λ k. entry k24_laws exact24 right (r * left.cols + k) j) → ⊥ =
    λ p r j lp lr lj. c.in-Ok-check_matrices.ensures.narrow p r j lp (subst (λ (k : ℕ). r < k) (sym ops) lr) lj in
    let k = keepable s c.order-order.ensures.quotient n D rep one rows c.requires.basis left right factors narrow d (rw length-map refl) in
    subst (λ (q : SupercellGroup). IsHeld q d left right) (sym c.in_ok-copy.ensures) k.held

pub returns-in-Err-clause-wide : goal.returns-in-Err-clause-wide
returns-in-Err-clause-wide c w =
    let s = c.args.quotient.now in
    let n = dimension_in c.args.induced.now.tables in
    let D = matrix_in s c.args.induced.now.tables in
    let rows = lines_of c.args.lines.items in
    let e = c.dim-dim.ensures.value in
    let rep : IsRepresentation z24_laws (quotient_group s) n D = subst (λ (k : ℕ). IsRepresentation z24_laws (quotient_group s) k D) e (c.dim-dim.ensures.multiplies s c.requires.of) in
    let one : AreEqualBelow n (D 0) (unit_entry z24_laws) = subst (λ (k : ℕ). AreEqualBelow k (D 0) (unit_entry z24_laws)) e (c.dim-dim.ensures.identity s c.requires.of) in
    wide-factors s c.order-order.ensures.quotient n D rep one rows c.requires.basis
    (subst (λ xs. IsWideFactors n (order_of s) D (exact_rows k24_laws exact24 (lines_of xs))) c.deref.ensures.value (let same : c.in-Err.error ≡ Wide = cc in c.in-Err.ensures.wide (ap Err same)))

pub returns-in-Err-check_matrices-clause-wide : goal.returns-in-Err-check_matrices-clause-wide
returns-in-Err-check_matrices-clause-wide c _ =
    let s = c.args.quotient.now in
    let n = dimension_in c.args.induced.now.tables in
    let D = matrix_in s c.args.induced.now.tables in
    let rows = lines_of c.args.lines.items in
    let e = c.dim-dim.ensures.value in
    let rep : IsRepresentation z24_laws (quotient_group s) n D = subst (λ (k : ℕ). IsRepresentation z24_laws (quotient_group s) k D) e (c.dim-dim.ensures.multiplies s c.requires.of) in
    let one : AreEqualBelow n (D 0) (unit_entry z24_laws) = subst (λ (k : ℕ). AreEqualBelow k (D 0) (unit_entry z24_laws)) e (c.dim-dim.ensures.identity s c.requires.of) in
    let left = c.in-Ok.factors.0 in
    let right = c.in-Ok.factors.1 in
    let factors : AreFactorsOf s n D rows left right = subst (λ xs. AreFactorsOf s n D (lines_of xs) left right) c.deref.ensures.value c.in-Ok.ensures.factors in
    let ops : c.len-listed.result ≡ length s.parent.ops = c.len-listed.ensures.value ∙ ap (λ g. length g.ops) c.group.ensures in
    let w = c.in-Err-check_matrices.ensures.wide in
    wide-products s c.order-order.ensures.quotient n D rep one rows c.requires.basis left right factors (w.0, w.1, w.2, w.3, subst (λ (k : ℕ). w.1 < k) ops w.4, w.5, w.6)

pub returns-clause-matrices : goal.returns-clause-matrices
returns-clause-matrices c =
    let s = c.args.quotient.now in
    let n = dimension_in c.args.induced.now.tables in
    let D = matrix_in s c.args.induced.now.tables in
    let rows = lines_of c.args.lines.items in
    let e = c.dim-dim.ensures.value in
    let rep : IsRepresentation z24_laws (quotient_group s) n D = subst (λ (k : ℕ). IsRepresentation z24_laws (quotient_group s) k D) e (c.dim-dim.ensures.multiplies s c.requires.of) in
    let one : AreEqualBelow n (D 0) (unit_entry z24_laws) = subst (λ (k : ℕ). AreEqualBelow k (D 0) (unit_entry z24_laws)) e (c.dim-dim.ensures.identity s c.requires.of) in
    let left = c.in-Ok.factors.0 in
    let right = c.in-Ok.factors.1 in
    let factors : AreFactorsOf s n D rows left right = subst (λ xs. AreFactorsOf s n D (lines_of xs) left right) c.deref.ensures.value c.in-Ok.ensures.factors in
    let ops : c.len-listed.result ≡ length s.parent.ops = c.len-listed.ensures.value ∙ ap (λ g. length g.ops) c.group.ensures in
    let narrow : (p r j : ℕ) → p < left.rows → r < length s.parent.ops → j < left.cols → IsWideDot k24 left.cols (entry k24_laws exact24 left p) (λ k. entry k24_laws exact24 right (r * left.cols + k) j) → ⊥ =
    λ p r j lp lr lj. c.in-Ok-check_matrices.ensures.narrow p r j lp (subst (λ (k : ℕ). r < k) (sym ops) lr) lj in
    let k = keepable s c.order-order.ensures.quotient n D rep one rows c.requires.basis left right factors narrow (length c.args.lines.items) (rw length-map refl) in
    let form = c.keep.result in
    let same_quotient : s ≡ form.quotient = sym (c.keep.ensures.quotient ∙ c.in_ok-copy.ensures) in
    let same_lines = sym c.keep.ensures.lines in
    shown n (order_of s) D (exact_rows k24_laws exact24 rows) (exact_rows k24_laws exact24 (lines_of form.lines.items)) (entry_in s (length c.args.lines.items) left right)
    (entry_in form.quotient (length form.lines.items) form.translations form.rotations) (ap (λ v. exact_rows k24_laws exact24 (lines_of v.items)) same_lines)
    (λ z. entry_in (same_quotient z) (length (same_lines z).items) (sym c.keep.ensures.translations z) (sym c.keep.ensures.rotations z)) k.matrices
