use Rattle.std.proofs.Common.{◌≡◌, ◌<◌, ◌∙◌, ℕ, sym, length, arith}
use Rattle.cyclo24.specs.ExactK24.{k24_laws}
use Rattle.cyclo24.specs.K24.{exact24}
use Rattle.lin_alg.specs.Rows.{vector}
use Rattle.lin_alg.specs.Matrix.{entry, with_entry}
use Rattle.short_rows.specs.CarriedLaws.{to_long}
use Rattle.short_rows.specs.RowLaws.{read_at}
use Rattle.short_listing.proofs.TableLemmas.{row-next}
use Rattle.short_listing.proofs.acts.write_row.Goals as goal

pub loop-j-preserved : goal.loop-j-preserved
loop-j-preserved g c =
    let exact = g.S.Short.exact in
    let new = c.set.new.self in
    let old = c.loop-j.table in
    let m : c.loop-j.j < length c.args.row.now = omega arith in
    let e : exact c.in-Some.short ≡ vector k24_laws exact24 c.args.row.now c.loop-j.j = c.in-Some.ensures.exact ∙ sym (read_at k24_laws exact24 c.args.row.now c.loop-j.j c.index-row-j.result m c.index-row-j.is) in
    let set : (k l : ℕ) → entry k24_laws exact new k l ≡ with_entry c.args.k c.loop-j.j (exact c.in-Some.short) (entry k24_laws exact old) k l =
    to_long g.S.Field.field g.S.Field.value exact g.met.S.Short.is_short (λ f v. (k l : ℕ) → entry f.laws v new k l ≡ with_entry c.args.k c.loop-j.j (v c.in-Some.short) (entry f.laws v old) k l) c.set.ensures.entries in (
      c.set.ensures.rows ∙ c.loop-j.invariant.0,
      c.set.ensures.cols ∙ c.loop-j.invariant.1,
      row-next (entry k24_laws exact c.args.table.now) (entry k24_laws exact old) (entry k24_laws exact new) c.args.k (vector k24_laws exact24 c.args.row.now) c.loop-j.j (exact c.in-Some.short) e set c.loop-j.invariant.2,
    )
