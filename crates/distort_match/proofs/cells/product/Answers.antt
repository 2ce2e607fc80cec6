use Rattle.std.proofs.Common.{ℤ, ◌*ℤ◌, FitsSigned, to_z, of_z, w32, lit<}
use Rattle.std.proofs.lemmas.Int.{to_z-of_z, fits_signed_mul}
use Rattle.space_ops.specs.Op.{IsWithin}
use Rattle.space_ops.specs.WithinLaws.{abs_of_within, within_product}
use Rattle.distort_match.proofs.ProductLemmas.{product_fits, product_value, product_near}
use Rattle.distort_match.proofs.cells.product.Goals as goal

fits : (a b : ℤ) → IsWithin 288 a → IsWithin 288 b → FitsSigned w32 (a *ℤ b)
fits a b h k = fits_signed_mul w32 a b 288 288 (abs_of_within 288 a h) (abs_of_within 288 b k) (lit< tt)

pub overflow_mul-result : goal.overflow_mul-result
overflow_mul-result c =
    product_fits w32 (to_z w32 (of_z w32 c.args.a)) (to_z w32 (of_z w32 c.args.b)) c.args.a c.args.b (to_z-of_z w32 c.args.a c.ranges.a) (to_z-of_z w32 c.args.b c.ranges.b)
    (fits c.args.a c.args.b c.requires.left c.requires.right)

pub returns-clause-value : goal.returns-clause-value
returns-clause-value c =
    product_value w32 (to_z w32 (of_z w32 c.args.a)) (to_z w32 (of_z w32 c.args.b)) c.args.a c.args.b (to_z-of_z w32 c.args.a c.ranges.a) (to_z-of_z w32 c.args.b c.ranges.b)
    (fits c.args.a c.args.b c.requires.left c.requires.right)

pub returns-clause-near : goal.returns-clause-near
returns-clause-near c =
    product_near w32 (to_z w32 (of_z w32 c.args.a)) (to_z w32 (of_z w32 c.args.b)) c.args.a c.args.b (to_z-of_z w32 c.args.a c.ranges.a) (to_z-of_z w32 c.args.b c.ranges.b)
    (fits c.args.a c.args.b c.requires.left c.requires.right) 82944 (within_product 288 288 c.args.a c.args.b c.requires.left c.requires.right)
