use Rattle.std.proofs.Common.{◌≡◌, ◌<◌, ◌+◌, ◌-◌, ◌*◌, ◌^◌, arith, ℕ, List, map, length, sym, ◌∙◌, ap, subst, true, false}
use Rattle.lin_alg.specs.Spans.{row_vectors}
use Rattle.std.specs.List.{slice_index}
use Rattle.lin_alg.specs.Reduced.{IsForm, is_pivot, free_columns}
use Rattle.lin_alg.specs.Rows.{exact_rows}
use Rattle.lin_alg.specs.RowLaws.{exact-pivot, reduced-rising}
use Rattle.lin_alg.specs.SpanLaws.{funext}
use Rattle.lin_alg.specs.Equations.{Vanishes, free_vector}
use Rattle.lin_alg.specs.EquationLaws.{free-vanishes}
use Rattle.lin_alg.specs.FreeLaws.{AreRising, free_columns-at, free-other, free-count}
use Rattle.lin_alg.specs.Echelon.{EchelonView}
use Rattle.lin_alg.specs.Matrix.{entry}
use Rattle.lin_alg.proofs.echelon.Echelon.free_basis.Goals as goal

pub fill_basis-requires-clause-inside : goal.fill_basis-requires-clause-inside
fill_basis-requires-clause-inside g c =
    let f = g.F.Field.field in
    let v = g.F.Field.value in
    let W : ℕ = c.args.self.now.width in
    let R : List (ℕ × List _) = c.args.self.now.rows in
    let listed : c.in_ok-columns.columns.items ≡ free_columns c.self.inside.width (map (λ r. (r.0, r.1.items)) c.self.inside.lines.items) = rw (c.deref.ensures.value) at c.in_ok-columns.ensures in
    let columns : c.deref-2.result.now ≡ free_columns W R = c.deref-2.ensures.value ∙ listed ∙ (λ z. free_columns ((c.self.view_is z).width) ((c.self.view_is z).rows)) in
    let cols : c.in_ok-basis.basis.cols ≡ W = c.in_ok-basis.ensures.cols ∙ ap (λ z. z.width) c.self.view_is in
    subst (λ (cs : List ℕ). (i : ℕ) → i < length cs → slice_index cs i < c.in_ok-basis.basis.cols) (sym columns)
    (λ i l. subst (λ (n : ℕ). slice_index (free_columns W R) i < n) (sym cols) (free_columns-at W R i l).0)

pub fill_basis-requires-clause-free : goal.fill_basis-requires-clause-free
fill_basis-requires-clause-free g c =
    let f = g.F.Field.field in
    let v = g.F.Field.value in
    let W : ℕ = c.args.self.now.width in
    let R : List (ℕ × List _) = c.args.self.now.rows in
    let listed : c.in_ok-columns.columns.items ≡ free_columns c.self.inside.width (map (λ r. (r.0, r.1.items)) c.self.inside.lines.items) = rw (c.deref.ensures.value) at c.in_ok-columns.ensures in
    let columns : c.deref-2.result.now ≡ free_columns W R = c.deref-2.ensures.value ∙ listed ∙ (λ z. free_columns ((c.self.view_is z).width) ((c.self.view_is z).rows)) in
    let rows : map {B = ℕ × List _} (λ r. (r.0, r.1.items)) c.deref-3.result.now ≡ R = ap (map (λ r. (r.0, r.1.items))) c.deref-3.ensures.value ∙ ap (λ z. z.rows) c.self.view_is in
    subst (λ (cs : List ℕ). (i : ℕ) → i < length cs → is_pivot (slice_index cs i) (map {B = ℕ × List _} (λ r. (r.0, r.1.items)) c.deref-3.result.now) ≡ false) (sym columns)
    (λ i l. subst (λ (z : List (ℕ × List _)). is_pivot (slice_index (free_columns W R) i) z ≡ false) (sym rows) (free_columns-at W R i l).1)

pub returns-clause-units : goal.returns-clause-units
returns-clause-units g c i k l m =
    let f = g.F.Field.field in
    let v = g.F.Field.value in
    let W : ℕ = c.args.self.now.width in
    let R : List (ℕ × List _) = c.args.self.now.rows in
    let listed : c.in_ok-columns.columns.items ≡ free_columns c.self.inside.width (map (λ r. (r.0, r.1.items)) c.self.inside.lines.items) = rw (c.deref.ensures.value) at c.in_ok-columns.ensures in
    let columns : c.deref-2.result.now ≡ free_columns W R = c.deref-2.ensures.value ∙ listed ∙ (λ z. free_columns ((c.self.view_is z).width) ((c.self.view_is z).rows)) in
    let rows : map {B = ℕ × List _} (λ r. (r.0, r.1.items)) c.deref-3.result.now ≡ R = ap (map (λ r. (r.0, r.1.items))) c.deref-3.ensures.value ∙ ap (λ z. z.rows) c.self.view_is in
    let size : c.fill_basis.new.basis.rows ≡ length c.deref-2.result.now = c.fill_basis.ensures.rows ∙ c.in_ok-basis.ensures.rows ∙ c.len.ensures ∙ c.in_ok-columns.columns.ok.0 ∙ sym (ap length c.deref-2.ensures.value) in
    let inside : (i : ℕ) → i < c.fill_basis.new.basis.rows → i < length (free_columns W R) = λ i l. subst (λ (n : ℕ). i < n) (size ∙ ap length columns) l in
    let vectors : (i : ℕ) → i < c.fill_basis.new.basis.rows → (j : ℕ) → entry f.laws v c.fill_basis.new.basis i j ≡ free_vector f.laws (exact_rows f.laws v R) (slice_index (free_columns W R) i) j =
    λ i l j. c.fill_basis.ensures.vectors i (subst (λ (n : ℕ). i < n) size l) j ∙ (λ z. free_vector f.laws (exact_rows f.laws v (rows z)) (slice_index (columns z) i) j) in
    let own : ℕ = slice_index (free_columns W R) i in
    let other : ℕ = slice_index (free_columns W R) k in
    vectors i l other ∙ free-other f.laws (exact_rows f.laws v R) own other (exact-pivot f v other R ∙ (free_columns-at W R k (inside k m)).1)

pub returns-clause-vanishes : goal.returns-clause-vanishes
returns-clause-vanishes g c i l =
    let f = g.F.Field.field in
    let v = g.F.Field.value in
    let W : ℕ = c.args.self.now.width in
    let R : List (ℕ × List _) = c.args.self.now.rows in
    let listed : c.in_ok-columns.columns.items ≡ free_columns c.self.inside.width (map (λ r. (r.0, r.1.items)) c.self.inside.lines.items) = rw (c.deref.ensures.value) at c.in_ok-columns.ensures in
    let columns : c.deref-2.result.now ≡ free_columns W R = c.deref-2.ensures.value ∙ listed ∙ (λ z. free_columns ((c.self.view_is z).width) ((c.self.view_is z).rows)) in
    let rows : map {B = ℕ × List _} (λ r. (r.0, r.1.items)) c.deref-3.result.now ≡ R = ap (map (λ r. (r.0, r.1.items))) c.deref-3.ensures.value ∙ ap (λ z. z.rows) c.self.view_is in
    let size : c.fill_basis.new.basis.rows ≡ length c.deref-2.result.now = c.fill_basis.ensures.rows ∙ c.in_ok-basis.ensures.rows ∙ c.len.ensures ∙ c.in_ok-columns.columns.ok.0 ∙ sym (ap length c.deref-2.ensures.value) in
    let inside : (i : ℕ) → i < c.fill_basis.new.basis.rows → i < length (free_columns W R) = λ i l. subst (λ (n : ℕ). i < n) (size ∙ ap length columns) l in
    let vectors : (i : ℕ) → i < c.fill_basis.new.basis.rows → (j : ℕ) → entry f.laws v c.fill_basis.new.basis i j ≡ free_vector f.laws (exact_rows f.laws v R) (slice_index (free_columns W R) i) j =
    λ i l j. c.fill_basis.ensures.vectors i (subst (λ (n : ℕ). i < n) size l) j ∙ (λ z. free_vector f.laws (exact_rows f.laws v (rows z)) (slice_index (columns z) i) j) in
    let form : IsForm f.laws W (exact_rows f.laws v R) =
    subst (λ (e : EchelonView _). e.whole ≡ true → IsForm f.laws e.width (exact_rows f.laws v e.rows)) c.self.view_is c.self.invariant.2.form c.requires.whole in
    let own : ℕ = slice_index (free_columns W R) i in
    subst (λ (u : ℕ → _). Vanishes f.laws W (row_vectors (exact_rows f.laws v R)) u) (sym (funext (vectors i l)))
    (free-vanishes f.laws W (exact_rows f.laws v R) own (free_columns-at W R i (inside i l)).0 form.pivots form.reduced)

pub new-requires : goal.new-requires
new-requires g c =
    let f = g.F.Field.field in
    let v = g.F.Field.value in
    let W : ℕ = c.args.self.now.width in
    let R : List (ℕ × List _) = c.args.self.now.rows in
    let listed : c.in_ok-columns.columns.items ≡ free_columns c.self.inside.width (map (λ r. (r.0, r.1.items)) c.self.inside.lines.items) = rw (c.deref.ensures.value) at c.in_ok-columns.ensures in
    let columns : c.in_ok-columns.columns.items ≡ free_columns W R = listed ∙ (λ z. free_columns ((c.self.view_is z).width) ((c.self.view_is z).rows)) in
    let count : length (free_columns W R) + length R ≡ W =
    free-count W R (subst (λ (e : EchelonView _). e.whole ≡ true → AreRising e.width e.rows) c.self.view_is
    (λ h. reduced-rising f v c.self.inside.width (map (λ r. (r.0, r.1.items)) c.self.inside.lines.items) c.self.invariant.2.shape (c.self.invariant.2.form h).reduced) c.requires.whole) in
    let size : c.len.result ≡ W - length R =
    c.len.ensures ∙ c.in_ok-columns.columns.ok.0 ∙ ap length columns ∙ (let e : length (free_columns W R) ≡ W - length R = omega (arith, count) in e) in
    let width : c.self.inside.width ≡ W = ap (λ z. z.width) c.self.view_is in
    subst (λ (n : ℕ). n * c.self.inside.width < 2 ^ 32) (sym size) (subst (λ (n : ℕ). (W - length R) * n < 2 ^ 32) (sym width) c.requires.small)

pub returns-clause-count : goal.returns-clause-count
returns-clause-count g c =
    let f = g.F.Field.field in
    let v = g.F.Field.value in
    let W : ℕ = c.args.self.now.width in
    let R : List (ℕ × List _) = c.args.self.now.rows in
    let listed : c.in_ok-columns.columns.items ≡ free_columns c.self.inside.width (map (λ r. (r.0, r.1.items)) c.self.inside.lines.items) = rw (c.deref.ensures.value) at c.in_ok-columns.ensures in
    let columns : c.in_ok-columns.columns.items ≡ free_columns W R = listed ∙ (λ z. free_columns ((c.self.view_is z).width) ((c.self.view_is z).rows)) in
    let count : length (free_columns W R) + length R ≡ W =
    free-count W R (subst (λ (e : EchelonView _). e.whole ≡ true → AreRising e.width e.rows) c.self.view_is
    (λ h. reduced-rising f v c.self.inside.width (map (λ r. (r.0, r.1.items)) c.self.inside.lines.items) c.self.invariant.2.shape (c.self.invariant.2.form h).reduced) c.requires.whole) in
    let size : c.fill_basis.new.basis.rows ≡ length (free_columns W R) = c.fill_basis.ensures.rows ∙ c.in_ok-basis.ensures.rows ∙ c.len.ensures ∙ c.in_ok-columns.columns.ok.0 ∙ ap length columns in
    ap (λ n. n + length R) size ∙ count
