use Rattle.std.proofs.Common.{[]}
use Rattle.wyckoff.proofs.SearchLemmas.{found, not_missing}
use Rattle.wyckoff.proofs.tables.number_in.Goals as goal

pub unreachable-requires : goal.unreachable-requires
unreachable-requires c = not_missing c.args.places.now c.args.v c.requires.rising c.requires.shaped c.requires.listed _ c.in-Err.ensures.position

pub returns : goal.returns
returns c = (c.in-Ok.ensures.bound, found c.args.places.now c.args.v c.in-Ok.number (c.in-Ok.ensures.ok []))
