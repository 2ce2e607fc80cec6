use Rattle.std.proofs.Common.{◌≡◌, to_z, of_z, w64, lit<, rules}
use Rattle.std.proofs.lemmas.Int.{fits_signed_mul}
use Rattle.space_ops.specs.WithinLaws.{abs_of_within, within_product}
use Rattle.distort_match.proofs.ProductLemmas.{product_near}
use Rattle.distort_match.proofs.frame.term.Goals as goal

pub returns-clause-near : goal.returns-clause-near
returns-clause-near c =
    let e : to_z w64 (of_z w64 c.from.result) ≡ c.args.a = search rules in
    let f : to_z w64 (of_z w64 c.args.x) ≡ c.args.x = search rules in
    product_near w64 (to_z w64 (of_z w64 c.from.result)) (to_z w64 (of_z w64 c.args.x)) c.args.a c.args.x e f
    (fits_signed_mul w64 c.args.a c.args.x 165888 1200000000 (abs_of_within 165888 c.args.a c.requires.left) (abs_of_within 1200000000 c.args.x c.requires.right) (lit< tt)) 199065600000000
    (within_product 165888 1200000000 c.args.a c.args.x c.requires.left c.requires.right)
