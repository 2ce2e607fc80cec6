use Rattle.std.proofs.Common.{◌≡◌, ℕ, ◌≤◌, List, [], ap, subst, sym, length, map, get_or, set, Vec, Global, arith}
use Rattle.std.proofs.lemmas.Result.{on_ok_weaker}
use Rattle.fix_lattice.proofs.CutRowLemmas.{row-read, row-set, rows-made}
use Rattle.fix_lattice.proofs.cuts.fill_row.Goals as goal

abbrev items : Vec ℕ Global → List ℕ
items r = r.items

pub widen-requires : goal.widen-requires
widen-requires c =
    subst (λ (r : List ℕ). length r ≤ c.args.n) (row-read items c.args.cuts.now.items c.args.i c.index_mut.result.now c.requires.row c.index_mut.ensures.value)
    (c.requires.short c.args.i)

pub returns-clause-made : goal.returns-clause-made
returns-clause-made c =
    rows-made items c.args.cuts.now.items c.args.i c.index_mut.result.now c.requires.row c.index_mut.ensures.value
    c.args.n c.widen.new.row c.requires.short c.widen.ensures.entries c.widen.ensures.count c.widen.ensures.short

pub returns-clause-width : goal.returns-clause-width
returns-clause-width c =
    let row = c.widen.new.row in
    let e : get_or (map items (set c.args.cuts.now.items c.args.i row)) c.args.i [] ≡ row.items = row-set items c.args.cuts.now.items c.args.i c.index_mut.result.now c.requires.row c.index_mut.ensures.value row in
    on_ok_weaker c.widen.result (λ (w : length row.items ≡ c.args.n). subst (λ (n : ℕ). c.args.n ≤ n) (sym (ap length e)) (subst (λ (n : ℕ). c.args.n ≤ n) (sym w) (own c.args.n))) c.widen.ensures.wide
  where
    own : (n : ℕ) → n ≤ n
    own n = omega arith
