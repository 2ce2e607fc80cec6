use Rattle.std.proofs.Common.{ℕ, ◌<◌, ◌≤◌, List, subst, sym, length, map, Vec, Global, arith}
use Rattle.fix_lattice.specs.Cuts.{IsRowMade}
use Rattle.fix_lattice.proofs.CutRowLemmas.{made-own, made-then, made-more, rows-more}
use Rattle.fix_lattice.proofs.cuts.add_rows.Goals as goal

abbrev items : Vec ℕ Global → List ℕ
items r = r.items

pub loop-init : goal.loop-init
loop-init c = record {
  made = made-own c.args.n (map items c.args.cuts.now.items) c.requires;
  few = λ m l k. l;
  long = omega (arith, c.args.cuts.now.ok.0, c.len-counter.ensures);
}

pub loop-preserved : goal.loop-preserved
loop-preserved c =
    let t = c.loop.invariant in
    let old = map items c.args.cuts.now.items in
    let mid = map items c.loop.cuts.items in
    let new = map items c.add_row.new.cuts.items in
    let n = rows-more items c.loop.cuts.items c.add_row.new.cuts.items c.in_ok-add_row.ensures.added in
    let long = t.long in
    record {
      made = made-then c.args.n old mid new t.made (subst (IsRowMade c.args.n mid) (sym c.in_ok-add_row.ensures.added) (made-more c.args.n mid t.made.short));
      few = λ m l k. let b : c.loop.counter < c.args.rows = c.loop-test.true in omega arith;
      long = omega arith;
    }

pub returns-in_err-add_row-clause-made : goal.returns-in_err-add_row-clause-made
returns-in_err-add_row-clause-made c =
    subst (λ z. IsRowMade c.args.n (map items c.args.cuts.now.items) (map items z)) (sym c.in_err-add_row.ensures.same) c.loop.invariant.made

pub returns-in_err-add_row-clause-few : goal.returns-in_err-add_row-clause-few
returns-in_err-add_row-clause-few c =
    subst (λ z. (m : ℕ) → length c.args.cuts.now.items ≤ m → c.args.rows ≤ m → length z ≤ m) (sym c.in_err-add_row.ensures.same) c.loop.invariant.few
