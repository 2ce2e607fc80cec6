use Rattle.lin_alg.specs.Action.{IsFixed}
use Rattle.lin_alg.specs.ActionLaws.{fixed-generated}
use Rattle.lin_alg.specs.FixedLaws.{fix-antitone, fix-stab-fix}
use Rattle.lin_alg.specs.WitnessLaws.{moved-free, form-stabiliser}
use Rattle.lin_alg.specs.Fixed.{Fix}
use Rattle.lin_alg.specs.FormLaws.{equations-unique}
use Rattle.lin_alg.specs.MoverLaws.{mover-equations}
use Rattle.lin_alg.proofs.laws.law_of_fixed_vectors.Goals as goal

pub returns-clause-antitone : goal.returns-clause-antitone
returns-clause-antitone g c = fix-antitone (IsFixed g.F.Field.field.laws (g.A.Acts.action c.args.acts.now))

pub returns-clause-closed : goal.returns-clause-closed
returns-clause-closed g c = fix-stab-fix (IsFixed g.F.Field.field.laws (g.A.Acts.action c.args.acts.now))

pub returns-clause-generated : goal.returns-clause-generated
returns-clause-generated g c = fixed-generated g.F.Field.field (g.A.Acts.action c.args.acts.now) (g.met.A.Acts.lawful c.args.acts.now)

pub returns-clause-moved : goal.returns-clause-moved
returns-clause-moved g c = moved-free g.F.Field.field (g.A.Acts.action c.args.acts.now)

pub returns-clause-generic : goal.returns-clause-generic
returns-clause-generic g c = form-stabiliser g.F.Field.field (g.A.Acts.action c.args.acts.now)

pub returns-clause-movers : goal.returns-clause-movers
returns-clause-movers g c = mover-equations g.F.Field.field (g.A.Acts.action c.args.acts.now)

pub returns-clause-unique : goal.returns-clause-unique
returns-clause-unique g c h =
    let act = g.A.Acts.action c.args.acts.now in
    equations-unique g.F.Field.field.laws act.dim (Fix g.F.Field.field.laws act h)
