use Rattle.std.proofs.Common.{◌≡◌, true}
use Rattle.lin_alg.specs.Equations.{Vanishes}
use Rattle.lin_alg.specs.Images.{moves_of}
use Rattle.lin_alg.specs.ImageLaws.{are-moves, images-vanish, image-form}
use Rattle.lin_alg.specs.MoveLaws.{fix-conjugate, stab-moved}
use Rattle.lin_alg.specs.LengthLaws.{conjugate-length}
use Rattle.lin_alg.proofs.laws.law_of_images.Goals as goal

pub returns-clause-fixed : goal.returns-clause-fixed
returns-clause-fixed g c q H K =
    let f = g.F.Field.field in
    let act = g.A.Acts.action c.args.acts.now in
    fix-conjugate (moves_of f.laws act) (are-moves f act (g.met.A.Acts.lawful c.args.acts.now)) q (λ a. H a ≡ true) (λ a. K a ≡ true)

pub returns-clause-stabiliser : goal.returns-clause-stabiliser
returns-clause-stabiliser g c q rs =
    let f = g.F.Field.field in
    let act = g.A.Acts.action c.args.acts.now in
    stab-moved (moves_of f.laws act) (are-moves f act (g.met.A.Acts.lawful c.args.acts.now)) q (Vanishes f.laws act.dim rs)

pub returns-clause-equations : goal.returns-clause-equations
returns-clause-equations g c = images-vanish g.F.Field.field (g.A.Acts.action c.args.acts.now)

pub returns-clause-form : goal.returns-clause-form
returns-clause-form g c = image-form g.F.Field.field (g.A.Acts.action c.args.acts.now)

pub returns-clause-length : goal.returns-clause-length
returns-clause-length g c =
    conjugate-length g.F.Field.field (g.A.Acts.action c.args.acts.now) (g.met.A.Acts.lawful c.args.acts.now)
