use Rattle.kstar.specs.ImageLaws.{image_at-product}
use Rattle.kstar.proofs.laws.image_of_a_product.Goals as goal

pub returns : goal.returns
returns c = image_at-product
