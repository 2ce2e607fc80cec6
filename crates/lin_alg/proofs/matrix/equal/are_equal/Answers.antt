use Rattle.std.proofs.Common.{◌∙◌, sym}
use Rattle.std.proofs.lemmas.Bool.{both_ways}
use Rattle.lin_alg.specs.RowLaws.{equality-told}
use Rattle.lin_alg.proofs.matrix.equal.are_equal.Goals as goal

pub returns-clause-yes : goal.returns-clause-yes
returns-clause-yes g c t =
    (equality-told g.F.Field.field g.F.Field.value g.F.PartialEq.eq g.F.Ord.cmp g.met.F.Ord.matches_eq g.met.F.Field.value_cmp c.args.x c.args.y).0 (sym c.eq.ensures ∙ t)

pub returns-clause-no : goal.returns-clause-no
returns-clause-no g c t e =
    both_ways c.eq.result t
    (c.eq.ensures ∙ (equality-told g.F.Field.field g.F.Field.value g.F.PartialEq.eq g.F.Ord.cmp g.met.F.Ord.matches_eq g.met.F.Field.value_cmp c.args.x c.args.y).1 e)
