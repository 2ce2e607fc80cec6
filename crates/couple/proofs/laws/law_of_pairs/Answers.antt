use Rattle.couple.specs.CoupledLaws.{coupled-lawful, coupled-image, coupled-fixed, coupled-stabiliser}
use Rattle.couple.proofs.laws.law_of_pairs.Goals as goal

pub returns-clause-action : goal.returns-clause-action
returns-clause-action g c a b ha hb one = coupled-lawful g.F.Field.field a b one ha hb

pub returns-clause-image : goal.returns-clause-image
returns-clause-image g c = coupled-image g.F.Field.field

pub returns-clause-fixed : goal.returns-clause-fixed
returns-clause-fixed g c = coupled-fixed g.F.Field.field

pub returns-clause-stabiliser : goal.returns-clause-stabiliser
returns-clause-stabiliser g c = coupled-stabiliser g.F.Field.field
