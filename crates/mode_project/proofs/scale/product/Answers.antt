use Rattle.std.proofs.Common.{◌≡◌, ◌∙◌, ap}
use Rattle.std.specs.Prelude.{slice_index_or}
use Rattle.wyckoff.specs.Orbit.{image_of}
use Rattle.mode_project.proofs.FreeLemmas.{product-way}
use Rattle.mode_project.proofs.scale.product.Goals as goal

pub returns : goal.returns
returns g c =
    let s = g.S.OfSpace.space in
    let law = c.requires.laws in
    let a = c.args.a in
    let b = c.args.b in
    let first : c.image.result ≡ s.image b 0 = c.image.ensures.value ∙ c.requires.orbit.images b 0 c.requires.right law.some in
    let second : c.image-2.result ≡ s.image a (s.image b 0) =
    c.image-2.ensures.value ∙ ap (image_of c.args.orbit.now a) first ∙ c.requires.orbit.images a (s.image b 0) c.requires.left (law.images.below b 0 c.requires.right law.some) in
    ap (λ z. (slice_index_or c.args.ways.now z (0, 0)).0) second ∙ product-way s law c.args.ways.now c.requires.ways c.requires.free a b c.requires.left c.requires.right
