use Rattle.std.proofs.Common.{ℕ, ◌<◌, List, [], refl, length, map, get_or, Vec, Global, arith}
use Rattle.std.proofs.lemmas.List.{length-map}
use Rattle.fix_lattice.proofs.CutRowLemmas.{begun-noted, begun-count, begun-short, begun-inside}
use Rattle.fix_lattice.proofs.cuts.begin.Goals as goal

abbrev items : Vec ℕ Global → List ℕ
items r = r.items

pub returns-clause-noted : goal.returns-clause-noted
returns-clause-noted c =
    let made = map items c.make_row.new.cuts.items in
    let l : c.args.i < length made = let n = length-map c.make_row.new.cuts.items items in let t = c.in_ok-make_row.ensures.there in omega arith in
    let k : c.args.k < length (get_or made c.args.i []) = let w = c.in_ok-make_row.ensures.width in let t = c.requires.column in omega arith in
    begun-noted c.args.n (map items c.args.cuts.now.items) made (map items c.write.new.cuts.items) c.args.i c.args.k 65535 65534 c.make_row.ensures.made c.requires.none refl l k c.write.ensures

pub returns-clause-count : goal.returns-clause-count
returns-clause-count c =
    let made = map items c.make_row.new.cuts.items in
    let l : c.args.i < length made = let n = length-map c.make_row.new.cuts.items items in let t = c.in_ok-make_row.ensures.there in omega arith in
    let k : c.args.k < length (get_or made c.args.i []) = let w = c.in_ok-make_row.ensures.width in let t = c.requires.column in omega arith in
    begun-count c.args.n (map items c.args.cuts.now.items) made (map items c.write.new.cuts.items) c.args.i c.args.k 65535 65534 c.make_row.ensures.made c.requires.none refl l k c.write.ensures

pub returns-clause-short : goal.returns-clause-short
returns-clause-short c =
    let made = map items c.make_row.new.cuts.items in
    let l : c.args.i < length made = let n = length-map c.make_row.new.cuts.items items in let t = c.in_ok-make_row.ensures.there in omega arith in
    let k : c.args.k < length (get_or made c.args.i []) = let w = c.in_ok-make_row.ensures.width in let t = c.requires.column in omega arith in
    begun-short c.args.n (map items c.args.cuts.now.items) made (map items c.write.new.cuts.items) c.args.i c.args.k 65535 65534 c.make_row.ensures.made c.requires.none refl l k c.write.ensures

pub returns-clause-inside : goal.returns-clause-inside
returns-clause-inside c =
    let made = map items c.make_row.new.cuts.items in
    let l : c.args.i < length made = let n = length-map c.make_row.new.cuts.items items in let t = c.in_ok-make_row.ensures.there in omega arith in
    let k : c.args.k < length (get_or made c.args.i []) = let w = c.in_ok-make_row.ensures.width in let t = c.requires.column in omega arith in
    begun-inside c.args.n (map items c.args.cuts.now.items) made (map items c.write.new.cuts.items) c.args.i c.args.k 65535 65534 c.make_row.ensures.made c.requires.none refl l k c.write.ensures
