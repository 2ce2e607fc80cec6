use Rattle.std.proofs.Common.{◌≡◌, ◌≤◌, ◌-◌, ℕ, List, length, sym, ◌∙◌, ap, subst, arith}
use Rattle.lin_alg.specs.Action.{IsFixed}
use Rattle.lin_alg.specs.Echelon.{EchelonView, IsEchelon, IsSolution}
use Rattle.lin_alg.specs.Equations.{Vanishes}
use Rattle.lin_alg.specs.Fixed.{FixesAll}
use Rattle.lin_alg.specs.FormLaws.{form-length}
use Rattle.lin_alg.specs.Rows.{exact_rows}
use Rattle.lin_alg.specs.Spans.{row_vectors}
use Rattle.class_list.specs.Ranked.{keys_of}
use Rattle.class_list.specs.Seen.{DirectionView}
use Rattle.class_list.specs.Stabilisers.{IsPointwiseStabiliserOf}
use Rattle.class_list.proofs.InsertLemmas.{exact_rows-length}
use Rattle.class_list.proofs.MemberLemmas.{rising-length}
use Rattle.class_list.proofs.ranked.rank_direction.Goals as goal

pub overflow_sub-moved : goal.overflow_sub-moved
overflow_sub-moved g c =
    let act = g.G.Acts.action c.args.acts.now in
    let P : ℕ → Type 0 = FixesAll (IsFixed g.F.Field.field.laws act) (IsSolution g.F.Field.field.laws g.F.Field.value c.args.equations.now) in
    let l : length c.in-Ok.stabiliser ≤ act.group.order = rising-length act.group.order P c.in-Ok.stabiliser c.in-Ok.ensures.exact in
    omega (arith, l, c.order.ensures, ap length c.as_slice.ensures)

pub new-direction-requires-clause-few : goal.new-direction-requires-clause-few
new-direction-requires-clause-few g c =
    let f = g.F.Field.field in
    let v = g.F.Field.value in
    let e : EchelonView g.row.F.Denot = c.args.equations.now in
    let l : length (exact_rows f.laws v e.rows) ≤ e.width = form-length f.laws e.width (exact_rows f.laws v e.rows) (c.requires.form.form c.requires.whole) in
    omega (arith, l, exact_rows-length f v e.rows, ap length c.in_ok-copy.ensures.rows, c.in_ok-copy.ensures.width)

pub returns-clause-entry : goal.returns-clause-entry
returns-clause-entry g c =
    let f = g.F.Field.field in
    let v = g.F.Field.value in
    let act = g.G.Acts.action c.args.acts.now in
    let e : EchelonView g.row.F.Denot = c.args.equations.now in
    let d : DirectionView g.row.F.Denot = c.new-direction.result in
    let same : d.equations ≡ c.in_ok-copy.field-0 = c.new-direction.ensures.equations in
    let held : d.stabiliser ≡ c.in-Ok.stabiliser = c.new-direction.ensures.stabiliser in
    let rows : d.equations.rows ≡ e.rows = ap (λ (z : EchelonView g.row.F.Denot). z.rows) same ∙ c.in_ok-copy.ensures.rows in
    let width : d.equations.width ≡ e.width = ap (λ (z : EchelonView g.row.F.Denot). z.width) same ∙ c.in_ok-copy.ensures.width in
    let own : IsPointwiseStabiliserOf f.laws act (IsSolution f.laws v e) c.in-Ok.stabiliser = c.in-Ok.ensures.exact in
    let told : IsPointwiseStabiliserOf f.laws act (Vanishes f.laws act.dim (row_vectors (exact_rows f.laws v e.rows))) c.in-Ok.stabiliser =
    subst (λ (w : ℕ). IsPointwiseStabiliserOf f.laws act (Vanishes f.laws w (row_vectors (exact_rows f.laws v e.rows))) c.in-Ok.stabiliser) c.requires.width own in
    let few : length c.in-Ok.stabiliser ≤ act.group.order = rising-length act.group.order (FixesAll (IsFixed f.laws act) (Vanishes f.laws act.dim (row_vectors (exact_rows f.laws v e.rows)))) c.in-Ok.stabiliser told in
    let dim : c.dim-dim.result ≡ act.dim - length e.rows = c.dim-dim.ensures ∙ (λ i. width i - length (rows i)) ∙ (λ i. c.requires.width i - length e.rows) in
    let moved : c.order.result - length c.as_slice.result.now ≡ act.group.order - length d.stabiliser =
    (λ i. c.order.ensures i - length (c.as_slice.ensures i)) ∙ (λ i. act.group.order - length (sym held i)) in
    record {
      rows = rows;
      form = record {
        width = width ∙ c.requires.width;
        whole = ap (λ (z : EchelonView g.row.F.Denot). z.whole) same ∙ c.in_ok-copy.ensures.whole ∙ c.requires.whole;
        form = subst (λ (z : EchelonView g.row.F.Denot). IsEchelon f.laws v z) (sym same) c.in_ok-copy.ensures.form;
      };
      stabiliser = subst (λ (z : List ℕ). IsPointwiseStabiliserOf f.laws act (Vanishes f.laws act.dim (row_vectors (exact_rows f.laws v e.rows))) z) (sym held) told;
      few = subst (λ (z : List ℕ). length z ≤ act.group.order) (sym held) few;
      keys = c.keys-first.ensures ∙ (λ i. keys_of c.args.order (dim i) (moved i));
    }
