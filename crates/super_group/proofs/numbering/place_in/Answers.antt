use Rattle.std.proofs.Common.{[]}
use Rattle.super_group.proofs.PlaceLemmas.{found, not_missing}
use Rattle.super_group.proofs.numbering.place_in.Goals as goal

pub unreachable-requires : goal.unreachable-requires
unreachable-requires c =
    not_missing c.args.translations.now c.args.v c.requires.rising c.requires.triple c.requires.listed _ c.in-Err.ensures.position

pub returns-clause-value : goal.returns-clause-value
returns-clause-value c = found c.args.translations.now c.args.v c.requires.rising c.requires.triple _ c.in-Ok.ensures.bound (c.in-Ok.ensures.ok [])
