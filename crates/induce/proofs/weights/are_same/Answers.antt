use Rattle.std.proofs.Common.{◌∙◌, sym}
use Rattle.lin_alg.specs.RowLaws.{equality-told}
use Rattle.induce.proofs.weights.are_same.Goals as goal

pub returns : goal.returns
returns g c t =
    (equality-told g.F.Field.field g.F.Field.value g.F.PartialEq.eq g.F.Ord.cmp g.met.F.Ord.matches_eq g.met.F.Field.value_cmp c.args.x.now c.args.y.now).0 (sym c.eq.ensures ∙ t)
