use Rattle.std.proofs.Common.{◌≡◌, ◌<◌, ◌≤◌, ℕ, List, inl, sym, ◌∙◌, ap, subst, arith, length, IfSome}
use Rattle.std.specs.Prelude.{Err}
use Rattle.lin_alg.specs.Matrix.{entry}
use Rattle.lin_alg.specs.RowLaws.{vector-past}
use Rattle.lin_alg.specs.Rows.{vector}
use Rattle.lin_alg.specs.Solving.{combination, AreIndependent}
use Rattle.lin_alg.specs.declared.errors.LinError.TheVariants.{Wide}
use Rattle.mode_project.specs.Amplitudes.{ArePivotColumns, cut_to, cut_row}
use Rattle.mode_project.specs.Joined.{joined_rows_in}
use Rattle.mode_project.proofs.AmplitudeLemmas.{cut-independent, cut-solvable, rising-few, few-entries}
use Rattle.mode_project.proofs.SolvedLemmas.{joined-length, same-sum, same-independent, wide-solve}
use Rattle.mode_project.proofs.solved.front.Goals as goal

pub cut_table-requires-clause-small : goal.cut_table-requires-clause-small
cut_table-requires-clause-small g c =
    let d = length c.args.target.now in
    let p : ArePivotColumns d c.args.sites.now c.deref.result.now = subst (λ (xs : List ℕ). ArePivotColumns d c.args.sites.now xs) (sym c.deref.ensures.value) c.in-Ok.ensures in
    let n = joined-length g.F.Field.field g.F.Field.value c.args.rows.now in
    let rows : length c.args.rows.now ≤ d = omega (arith, n, c.requires.basis.count) in
    few-entries d (length c.args.rows.now) (length c.deref.result.now) rows (rising-few d c.deref.result.now p.rising p.below) c.requires.small

pub cut_table-requires-clause-inside : goal.cut_table-requires-clause-inside
cut_table-requires-clause-inside g c =
    let d = length c.args.target.now in
    let p : ArePivotColumns d c.args.sites.now c.deref.result.now = subst (λ (xs : List ℕ). ArePivotColumns d c.args.sites.now xs) (sym c.deref.ensures.value) c.in-Ok.ensures in
    (d, c.requires.long, p.below)

pub solve-requires-clause-independent : goal.solve-requires-clause-independent
solve-requires-clause-independent g c =
    let f = g.F.Field.field in
    let value = g.F.Field.value in
    let d = length c.args.target.now in
    let ms = joined_rows_in f.laws value c.args.rows.now in
    let columns = c.deref.result.now in
    let n = length c.args.rows.now in
    let p : ArePivotColumns d c.args.sites.now columns = subst (λ (xs : List ℕ). ArePivotColumns d c.args.sites.now xs) (sym c.deref.ensures.value) c.in-Ok.ensures in
    let table = c.in_ok-table.table in
    let ind : AreIndependent f.laws n (cut_row f.laws columns ms) =
    subst (λ (k : ℕ). AreIndependent f.laws k (cut_row f.laws columns ms)) (joined-length f value c.args.rows.now) (cut-independent f.laws d ms c.args.sites.now c.requires.basis columns p) in
    same-independent f n table.rows (entry f.laws value table) (cut_row f.laws columns ms) c.in_ok-table.ensures.rows c.in_ok-table.ensures.entries ind

pub returns-in-Ok-Some-clause-amplitudes : goal.returns-in-Ok-Some-clause-amplitudes
returns-in-Ok-Some-clause-amplitudes g c =
    let f = g.F.Field.field in
    let value = g.F.Field.value in
    let d = length c.args.target.now in
    let ms = joined_rows_in f.laws value c.args.rows.now in
    let columns = c.deref.result.now in
    let n = length c.args.rows.now in
    let t = vector f.laws value c.args.target.now in
    let p : ArePivotColumns d c.args.sites.now columns = subst (λ (xs : List ℕ). ArePivotColumns d c.args.sites.now xs) (sym c.deref.ensures.value) c.in-Ok.ensures in
    let table = c.in_ok-table.table in
    let target : vector f.laws value c.deref-3.result.now ≡ cut_to f.laws columns t =
    ap (vector f.laws value) c.deref-3.ensures.value ∙ c.in_ok-entries.ensures.entries ∙ ap (λ (xs : List ℕ). cut_to f.laws xs t) (c.deref-2.ensures.value ∙ sym c.deref.ensures.value) in
    let solution : (j : ℕ) → combination f.laws table.rows (vector f.laws value c.in-Ok-Some.x) (entry f.laws value table) j ≡ vector f.laws value c.deref-3.result.now j =
    subst (λ o. IfSome o (λ x. (j : ℕ) → combination f.laws table.rows (vector f.laws value x) (entry f.laws value table) j ≡ vector f.laws value c.deref-3.result.now j)) c.in-Ok-Some.field-0-is c.in-Ok-Some.ensures.solution in (
      columns,
      p,
      λ j l. sym (same-sum f n table.rows (entry f.laws value table) (cut_row f.laws columns ms) (vector f.laws value c.in-Ok-Some.x) j c.in_ok-table.ensures.rows c.in_ok-table.ensures.entries)
          ∙ solution j ∙ ap (λ (u : ℕ → _). u j) target,
    )

pub unreachable-requires : goal.unreachable-requires
unreachable-requires g c =
    let f = g.F.Field.field in
    let value = g.F.Field.value in
    let d = length c.args.target.now in
    let ms = joined_rows_in f.laws value c.args.rows.now in
    let columns = c.deref.result.now in
    let t = vector f.laws value c.args.target.now in
    let p : ArePivotColumns d c.args.sites.now columns = subst (λ (xs : List ℕ). ArePivotColumns d c.args.sites.now xs) (sym c.deref.ensures.value) c.in-Ok.ensures in
    let table = c.in_ok-table.table in
    let target : vector f.laws value c.deref-3.result.now ≡ cut_to f.laws columns t =
    ap (vector f.laws value) c.deref-3.ensures.value ∙ c.in_ok-entries.ensures.entries ∙ ap (λ (xs : List ℕ). cut_to f.laws xs t) (c.deref-2.ensures.value ∙ sym c.deref.ensures.value) in
    let rows : table.rows ≡ length ms = c.in_ok-table.ensures.rows ∙ sym (joined-length f value c.args.rows.now) in
    let entries : (i : ℕ) → i < length ms → entry f.laws value table i ≡ cut_row f.laws columns ms i =
    λ i l. c.in_ok-table.ensures.entries i (subst (λ (k : ℕ). i < k) (joined-length f value c.args.rows.now) l) in
    let y = cut-solvable f.laws d ms c.args.sites.now c.requires.basis columns p t (λ j l. vector-past f value c.args.target.now j l) in
    c.in-Ok-None.ensures.none c.in-Ok-None.field-0-is y.0
    (λ j. same-sum f (length ms) table.rows (entry f.laws value table) (cut_row f.laws columns ms) y.0 j rows entries ∙ y.1 j ∙ sym (ap (λ (u : ℕ → _). u j) target))

pub returns-clause-wide : goal.returns-clause-wide
returns-clause-wide g c w =
    let f = g.F.Field.field in
    let value = g.F.Field.value in
    let d = length c.args.target.now in
    let ms = joined_rows_in f.laws value c.args.rows.now in
    let columns = c.deref.result.now in
    let t = vector f.laws value c.args.target.now in
    let p : ArePivotColumns d c.args.sites.now columns = subst (λ (xs : List ℕ). ArePivotColumns d c.args.sites.now xs) (sym c.deref.ensures.value) c.in-Ok.ensures in
    let table = c.in_ok-table.table in
    let target : vector f.laws value c.deref-3.result.now ≡ cut_to f.laws columns t =
    ap (vector f.laws value) c.deref-3.ensures.value ∙ c.in_ok-entries.ensures.entries ∙ ap (λ (xs : List ℕ). cut_to f.laws xs t) (c.deref-2.ensures.value ∙ sym c.deref.ensures.value) in
    let rows : table.rows ≡ length ms = c.in_ok-table.ensures.rows ∙ sym (joined-length f value c.args.rows.now) in
    let entries : (i : ℕ) → i < length ms → entry f.laws value table i ≡ cut_row f.laws columns ms i =
    λ i l. c.in_ok-table.ensures.entries i (subst (λ (k : ℕ). i < k) (joined-length f value c.args.rows.now) l) in (
      columns,
      p,
      inl (wide-solve f (length ms) table.rows (entry f.laws value table) (cut_row f.laws columns ms) (vector f.laws value c.deref-3.result.now) (cut_to f.laws columns t) rows entries target
          (c.in-Err-solve.ensures.wide (ap Err (let k : c.in-Err-solve.error ≡ Wide = cc in k)))),
    )
