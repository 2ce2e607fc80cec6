use Rattle.std.proofs.Common.{◌≡◌, ◌<◌, ◌≤◌, ◌+◌, ℕ, length, map, List, get_or, take, length-take, refl, sym, ◌∙◌, ap, subst, arith, rules, true, false}
use Rattle.std.proofs.lemmas.List.{length-map, get_or-map, set-get_or}
use Rattle.lin_alg.specs.Spans.{less}
use Rattle.lin_alg.specs.Rows.{vector, exact_rows, HaveWidth}
use Rattle.lin_alg.specs.Insertion.{IsWideLess}
use Rattle.lin_alg.proofs.RowLemmas.{wide-at}
use Rattle.lin_alg.proofs.VectorLemmas.{vector-front}
use Rattle.lin_alg.specs.Insertion.{IsWideClear}
use Rattle.lin_alg.proofs.ClearLemmas.{seen-set, wide-set, wide_clear-at, clearing-at, clearing-step, clearing-kept, clearing-all}
use Rattle.lin_alg.proofs.elimination.clear_lines.Goals as goal
use Rattle.lin_alg.proofs.elimination.clear_lines.Goals.{then-not-is_zero+in_ok-take_multiple, else-not-is_zero}

pub entry-requires : goal.entry-requires
entry-requires g c =
    let el = get_or c.loop-i.lines c.loop-i.i c.index-lines-i.result in
    let x : ℕ × List _ = (el.0, el.1.items) in
    let now : List (ℕ × List _) = map (λ r. (r.0, r.1.items)) c.loop-i.lines in
    let li : c.loop-i.i < length c.loop-i.lines = omega arith in
    let l : c.loop-i.i < length now = rw length-map li in
    let e : x ≡ get_or now c.loop-i.i x = sym (get_or-map (λ r. (r.0, r.1.items)) c.loop-i.lines c.loop-i.i c.index-lines-i.result x li) in
    let k : (el.0 < length c.args.row.now) × (length el.1.items ≡ length c.args.row.now) = wide-at (length c.args.row.now) now c.loop-i.i x c.loop-i.invariant.shape l e in
    rw (c.deref.ensures.value, k.1) c.requires.place

pub take_multiple-requires : goal.take_multiple-requires
take_multiple-requires g c =
    let el = get_or c.loop-i.lines c.loop-i.i c.index-lines-i.result in
    let x : ℕ × List _ = (el.0, el.1.items) in
    let now : List (ℕ × List _) = map (λ r. (r.0, r.1.items)) c.loop-i.lines in
    let li : c.loop-i.i < length c.loop-i.lines = omega arith in
    let l : c.loop-i.i < length now = rw length-map li in
    let e : x ≡ get_or now c.loop-i.i x = sym (get_or-map (λ r. (r.0, r.1.items)) c.loop-i.lines c.loop-i.i c.index-lines-i.result x li) in
    let k : (el.0 < length c.args.row.now) × (length el.1.items ≡ length c.args.row.now) = wide-at (length c.args.row.now) now c.loop-i.i x c.loop-i.invariant.shape l e in
    let k1 : length el.1.items ≡ length c.args.row.now = k.1 in
    rw (c.deref_mut.ensures.value, length-take) (omega arith)

pub returns-in_err-take_multiple-clause-shape : goal.returns-in_err-take_multiple-clause-shape
returns-in_err-take_multiple-clause-shape g c =
    let el = get_or c.loop-i.lines c.loop-i.i c.index-lines-i.result in
    let x : ℕ × List _ = (el.0, el.1.items) in
    let now : List (ℕ × List _) = map (λ r. (r.0, r.1.items)) c.loop-i.lines in
    let li : c.loop-i.i < length c.loop-i.lines = omega arith in
    let l : c.loop-i.i < length now = rw length-map li in
    let e : x ≡ get_or now c.loop-i.i x = sym (get_or-map (λ r. (r.0, r.1.items)) c.loop-i.lines c.loop-i.i c.index-lines-i.result x li) in
    let k : (el.0 < length c.args.row.now) × (length el.1.items ≡ length c.args.row.now) = wide-at (length c.args.row.now) now c.loop-i.i x c.loop-i.invariant.shape l e in
    let n : length c.take_multiple.new.row ≡ length c.args.row.now = c.take_multiple.auto.row ∙ (rw c.deref_mut.ensures.value k.1) in
    let y : ℕ × List _ = (el.0, c.take_multiple.new.row) in
    subst (HaveWidth (length c.args.row.now)) (sym (seen-set c.loop-i.lines c.loop-i.i el c.take_multiple.new.row (n ∙ sym k.1))) (wide-set (length c.args.row.now) now c.loop-i.i y c.loop-i.invariant.shape k.0 n)

pub returns-in_err-take_multiple-clause-wide : goal.returns-in_err-take_multiple-clause-wide
returns-in_err-take_multiple-clause-wide g c =
    let f = g.F.Field.field in
    let v = g.F.Field.value in
    let u = vector f.laws v c.args.row.now in
    let el = get_or c.loop-i.lines c.loop-i.i c.index-lines-i.result in
    let x : ℕ × List _ = (el.0, el.1.items) in
    let now : List (ℕ × List _) = map (λ r. (r.0, r.1.items)) c.loop-i.lines in
    let start : List (ℕ × List _) = map (λ r. (r.0, r.1.items)) c.args.lines.now in
    let li : c.loop-i.i < length c.loop-i.lines = omega arith in
    let ls : c.loop-i.i < length start = rw length-map c.loop-i-test.true in
    let e : x ≡ get_or now c.loop-i.i x = sym (get_or-map (λ r. (r.0, r.1.items)) c.loop-i.lines c.loop-i.i c.index-lines-i.result x li) in
    let es = clearing-at f v c.args.p u (length c.args.row.now) start now c.loop-i.i x e c.loop-i.invariant in
    let front : vector f.laws v (take (c.args.p + 1) c.args.row.now) ≡ u = vector-front f v c.args.p c.args.row.now c.requires.ended in
    let taken : IsWideLess f (vector f.laws v x.1) (vector f.laws v x.1 c.args.p) (vector f.laws v (take (c.args.p + 1) c.args.row.now)) =
    rw c.deref_mut.ensures.value at c.in_err-take_multiple.ensures.wide in
    let h : IsWideLess f (vector f.laws v x.1) (vector f.laws v x.1 c.args.p) u = subst (λ (b : ℕ → _). IsWideLess f (vector f.laws v x.1) (vector f.laws v x.1 c.args.p) b) front taken in
    let zc : f.laws.is_nought (v c.entry.result) ≡ false = cc (c.is_zero.ensures, c.if-not-is_zero.true) in
    let z : f.laws.is_nought (vector f.laws v x.1 c.args.p) ≡ false = rw (c.deref.ensures.value) at (sym (ap f.laws.is_nought c.entry.ensures) ∙ zc) in
    let w : IsWideClear f c.args.p u (exact_rows f.laws v start) = wide_clear-at f v c.args.p u start c.loop-i.i x ls es z h in
    search rules

pub loop-i-preserved : goal.loop-i-preserved
loop-i-preserved g c =
    let f = g.F.Field.field in
    let v = g.F.Field.value in
    let u = vector f.laws v c.args.row.now in
    let w0 = length c.args.row.now in
    let el = get_or c.loop-i.lines c.loop-i.i c.index-lines-i.result in
    let x : ℕ × List _ = (el.0, el.1.items) in
    let now : List (ℕ × List _) = map (λ r. (r.0, r.1.items)) c.loop-i.lines in
    let start : List (ℕ × List _) = map (λ r. (r.0, r.1.items)) c.args.lines.now in
    let li : c.loop-i.i < length c.loop-i.lines = omega arith in
    let l : c.loop-i.i < length now = rw length-map li in
    let ll : length now ≡ length start = rw (length-map, length-map) c.loop-i.auto.lines in
    let e : x ≡ get_or now c.loop-i.i x = sym (get_or-map (λ r. (r.0, r.1.items)) c.loop-i.lines c.loop-i.i c.index-lines-i.result x li) in
    let k : (el.0 < w0) × (length el.1.items ≡ w0) = wide-at w0 now c.loop-i.i x c.loop-i.invariant.shape l e in
    elim c.if-not-is_zero.branch [
      | then-not-is_zero+in_ok-take_multiple w ↦
          let y : ℕ × List _ = (el.0, w.take_multiple.new.row) in
          let n : length w.take_multiple.new.row ≡ w0 = w.take_multiple.auto.row ∙ (rw w.deref_mut.ensures.value k.1) in
          let taken : vector f.laws v y.1 ≡ less f.laws (vector f.laws v x.1) (vector f.laws v x.1 c.args.p) (vector f.laws v (take (c.args.p + 1) c.args.row.now)) =
          rw w.deref_mut.ensures.value at w.in_ok-take_multiple.ensures.exact in
          let h : vector f.laws v y.1 ≡ less f.laws (vector f.laws v x.1) (vector f.laws v x.1 c.args.p) u =
          taken ∙ ap (less f.laws (vector f.laws v x.1) (vector f.laws v x.1 c.args.p)) (vector-front f v c.args.p c.args.row.now c.requires.ended) in
          let s = clearing-step f v c.args.p u w0 start now c.loop-i.i x y l ll e refl n k.0 h c.loop-i.invariant in
          rw (w.lines-is, seen-set c.loop-i.lines c.loop-i.i el w.take_multiple.new.row (n ∙ sym k.1)) s
      | else-not-is_zero w ↦
          let z : f.laws.is_nought (vector f.laws v x.1 c.args.p) ≡ true =
          rw (c.deref.ensures.value) at (sym (ap f.laws.is_nought c.entry.ensures) ∙ sym c.is_zero.ensures ∙ w.if-not-is_zero.false) in
          rw (w.lines-is, set-get_or c.loop-i.lines c.loop-i.i c.index-lines-i.result) (clearing-kept f v c.args.p u w0 start now c.loop-i.i x l ll e z c.loop-i.invariant)
    ]

pub returns-clause-exact : goal.returns-clause-exact
returns-clause-exact g c =
    let f = g.F.Field.field in
    let v = g.F.Field.value in
    let now : List (ℕ × List _) = map (λ r. (r.0, r.1.items)) c.loop-i.lines in
    let start : List (ℕ × List _) = map (λ r. (r.0, r.1.items)) c.args.lines.now in
    let e : length c.loop-i.lines ≤ c.loop-i.i = omega arith in
    let l : length now ≤ c.loop-i.i = rw length-map e in
    let ll : length now ≡ length start = rw (length-map, length-map) c.loop-i.auto.lines in
    clearing-all f v c.args.p (vector f.laws v c.args.row.now) (length c.args.row.now) start now c.loop-i.i l ll c.loop-i.invariant
