use Rattle.std.proofs.Common.{◌∙◌, ap}
use Rattle.std.specs.Prelude.{slice_index_or}
use Rattle.mode_project.proofs.FreeLemmas.{inverse-way}
use Rattle.mode_project.proofs.scale.inverse.Goals as goal

pub returns : goal.returns
returns g c =
    let s = g.S.OfSpace.space in
    let law = c.requires.laws in
    ap (λ z. (slice_index_or c.args.ways.now z (0, 0)).1) (c.image.ensures.value ∙ c.requires.orbit.images c.args.a 0 c.requires.element law.some)
    ∙ inverse-way s law c.args.ways.now c.requires.ways c.requires.free c.args.a c.requires.element
