use Rattle.std.proofs.Common.{◌≡◌, ◌<◌, ◌+◌, ◌≤◌, ℕ, List, Vec, length, map, get_or, take, sym, ◌∙◌, ap, subst, arith, vec_len}
use Rattle.std.proofs.lemmas.List.{length-map}
use Rattle.std.specs.List.{insert}
use Rattle.lin_alg.specs.Rows.{HaveLength, HaveWidth}
use Rattle.lin_alg.proofs.RowLemmas.{item-at, wide-at}
use Rattle.lin_alg.proofs.PutLemmas.{put-next}
use Rattle.lin_alg.proofs.echelon.put_rows.Goals as goal

pub put_line-requires-clause-long : goal.put_line-requires-clause-long
put_line-requires-clause-long g c =
    let h : ℕ × Vec _ _ → ℕ × List _ = λ r. (r.0, r.1.items) in
    let lines = c.deref-line-items.result.now in
    let x : ℕ × List _ = (c.line-item.result.0, c.line-item.result.1.items) in
    let l : c.loop-line.line-index < length (map h lines) = rw length-map c.loop-line-test.true in
    let shape : HaveWidth c.other.inside.width (map h lines) = subst (λ (z : List _). HaveWidth c.other.inside.width (map h z)) (sym c.deref-line-items.ensures.value) c.other.invariant.2.shape in
    let k = wide-at c.other.inside.width (map h lines) c.loop-line.line-index x shape l (item-at h lines c.loop-line.line-index c.line-item.result c.loop-line-test.true c.line-item.is) in
    let e : length c.deref.result.now ≡ c.args.other.now.width = ap length c.deref.ensures.value ∙ k.1 ∙ ap (λ z. z.width) c.other.view_is in
    subst (λ (n : ℕ). HaveLength n (map (λ r. r.items) c.loop-line.spare.items)) (sym e) c.loop-line.invariant.long

pub loop-line-preserved : goal.loop-line-preserved
loop-line-preserved g c =
    let h : ℕ × Vec _ _ → ℕ × List _ = λ r. (r.0, r.1.items) in
    let lines = c.deref-line-items.result.now in
    let x : ℕ × List _ = (c.line-item.result.0, c.line-item.result.1.items) in
    let l : c.loop-line.line-index < length (map h lines) = rw length-map c.loop-line-test.true in
    let at = item-at h lines c.loop-line.line-index c.line-item.result c.loop-line-test.true c.line-item.is in
    let shape : HaveWidth c.other.inside.width (map h lines) = subst (λ (z : List _). HaveWidth c.other.inside.width (map h z)) (sym c.deref-line-items.ensures.value) c.other.invariant.2.shape in
    let k = wide-at c.other.inside.width (map h lines) c.loop-line.line-index x shape l at in
    let e : length c.deref.result.now ≡ c.args.other.now.width = ap length c.deref.ensures.value ∙ k.1 ∙ ap (λ z. z.width) c.other.view_is in
    let rows : map h lines ≡ c.args.other.now.rows = ap (map h) c.deref-line-items.ensures.value ∙ ap (λ z. z.rows) c.other.view_is in
    let before = c.loop-line.invariant.less in
    let used = c.put_line.ensures.less in
    let n : c.len-at.result ≡ length (map h c.loop-line.lines.items) = c.len-at.ensures ∙ c.loop-line.lines.ok.0 ∙ sym (length-map c.loop-line.lines.items h) in
    let put : map h c.put_line.new.lines.items ≡ insert (map h c.loop-line.lines.items) c.len-at.result x =
    c.put_line.ensures.put ∙ ap (λ z. insert (map h c.loop-line.lines.items) c.len-at.result (c.line-item.result.0, z)) c.deref.ensures.value in
    record {
      room = c.put_line.ensures.room;
      less = omega arith;
      long = subst (λ (m : ℕ). HaveLength m (map (λ r. r.items) c.put_line.new.spare.items)) e c.put_line.ensures.long;
      rows = subst (λ (all : List _). map h c.put_line.new.lines.items ≡ take (c.loop-line.line-index + 1) all) rows
          (put-next (map h lines) (map h c.put_line.new.lines.items) (map h c.loop-line.lines.items) c.len-at.result c.loop-line.line-index x put n l at
          (subst (λ (all : List _). map h c.loop-line.lines.items ≡ take c.loop-line.line-index all) (sym rows) c.loop-line.invariant.rows));
    }
