use Rattle.std.proofs.Common.{◌≡◌, ◌/◌, ◌≤◌, pos, to_z, of_z, w32, lit<, rules, arith}
use Rattle.std.proofs.lemmas.Int.{ints, fits_signed_mul}
use Rattle.std.proofs.Math.Nat.{div-le_self}
use Rattle.space_ops.specs.Op.{IsWithin}
use Rattle.space_ops.specs.WithinLaws.{abs_of_within, within_product}
use Rattle.distort_match.proofs.ProductLemmas.{product_near}
use Rattle.distort_match.proofs.cells.twelfths.Goals as goal

pub returns-clause-near : goal.returns-clause-near
returns-clause-near c =
    let n = c.args.v.num in
    let q = 12 / c.args.v.den in
    let e : to_z w32 (of_z w32 c.from.result) ≡ pos (12 / c.args.v.den) = search rules in
    let f : to_z w32 (of_z w32 c.args.v.num) ≡ c.args.v.num = search rules in
    let l : 12 / c.args.v.den ≤ 12 = div-le_self 12 c.args.v.den in
    let h : IsWithin 12 (pos (12 / c.args.v.den)) = (omega (arith, ints), omega (arith, ints, l)) in
    product_near w32 (to_z w32 (of_z w32 c.from.result)) (to_z w32 (of_z w32 n)) (pos q) n e f
    (fits_signed_mul w32 (pos q) n 12 24 (abs_of_within 12 (pos q) h) (abs_of_within 24 n c.requires.near) (lit< tt)) 288 (within_product 12 24 (pos q) n h c.requires.near)
