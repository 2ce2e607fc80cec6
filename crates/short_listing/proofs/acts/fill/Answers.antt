use Rattle.std.proofs.Common.{◌≡◌, ◌<◌, ◌*◌, ◌/◌, ◌%◌, ◌∙◌, ℕ, sym, subst, length, arith, below_more}
use Rattle.cyclo24.specs.ExactK24.{k24_laws}
use Rattle.cyclo24.specs.K24.{exact24}
use Rattle.lin_alg.specs.Action.{entry_of}
use Rattle.lin_alg.specs.Matrix.{entry}
use Rattle.lin_alg.specs.Rows.{vector}
use Rattle.short_listing.proofs.TableLemmas.{by_element}
use Rattle.short_listing.proofs.acts.fill.Goals as goal

pub loop-k-preserved : goal.loop-k-preserved
loop-k-preserved g c =
    let act = g.G.Acts.action c.args.acts.now in
    let exact = g.S.Short.exact in
    let d = act.dim in
    let new = c.write_row.new.table in
    let xs = c.row.new.into in
    let n : length xs ≡ d = c.row.auto.into ∙ c.loop-k.auto.row ∙ c.requires.room in
    let given : (j : ℕ) → j < d → vector k24_laws exact24 xs j ≡ entry_of k24_laws act (c.loop-k.k / c.dim-d.result) (c.loop-k.k % c.dim-d.result) j = c.in_ok-row.ensures.exact in
    let own : (j : ℕ) → j < d → entry k24_laws exact new c.loop-k.k j ≡ entry_of k24_laws act (c.loop-k.k / d) (c.loop-k.k % d) j =
    λ j l. c.in_ok-write_row.ensures.row j (subst (λ (w : ℕ). j < w) (sym n) l) ∙ subst (λ w. vector k24_laws exact24 xs j ≡ entry_of k24_laws act (c.loop-k.k / w) (c.loop-k.k % w) j) c.dim-d.ensures (given j l) in (
      c.in_ok-write_row.ensures.rows ∙ c.loop-k.invariant.0,
      c.in_ok-write_row.ensures.cols ∙ c.loop-k.invariant.1,
      λ k j lk lj.
          below_more (λ k. (j : ℕ) → j < d → entry k24_laws exact new k j ≡ entry_of k24_laws act (k / d) (k % d) j) c.loop-k.k
          (λ k l j m. c.in_ok-write_row.ensures.others k j (λ e. absurd (omega (arith, l, e))) ∙ c.loop-k.invariant.2 k j l m) own k lk j lj,
    )

pub returns : goal.returns
returns g c =
    let act = g.G.Acts.action c.args.acts.now in
    let past = c.loop-k-test.false in
    let e = c.rows-k-end.ensures.value in
    let n : c.args.table.now.rows ≡ act.group.order * act.dim = c.requires.rows in record {
      rows = c.loop-k.invariant.0 ∙ c.requires.rows;
      cols = c.loop-k.invariant.1 ∙ c.requires.cols;
      entries = by_element act.group.order act.dim (entry k24_laws g.S.Short.exact c.loop-k.table) (entry_of k24_laws act) (λ k j lk lj. c.loop-k.invariant.2 k j (omega (arith, lk, past, e, n)) lj);
    }
