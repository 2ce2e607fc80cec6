use Rattle.couple_report.specs.HeldPairs.{coupled_in}
use Rattle.couple_report.proofs.CoupleLemmas.{listed-found, unlisted}
use Rattle.couple_report.proofs.pair_listing.after_coupling.Goals as goal

pub returns-in-Passed : goal.returns-in-Passed
returns-in-Passed g c =
    let acts = c.args.acts.now in
    let passed = rw c.in-Passed.is at c.in_ok-listing.ensures in
    listed-found c.args.together (g.G.Acts.action acts) (g.met.G.Acts.lawful acts) c.requires.held c.in-Passed.listing passed.1 passed.0 c.listed.result c.listed.ensures

pub returns-in-Refused : goal.returns-in-Refused
returns-in-Refused g c =
    let t = c.args.together in
    unlisted t.after t.count (coupled_in t (g.G.Acts.action c.args.acts.now)) c.in-Refused.refusal (rw c.in-Refused.is at c.in_ok-listing.ensures)
