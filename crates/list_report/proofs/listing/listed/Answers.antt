use Rattle.std.proofs.Common.{refl}
use Rattle.list_report.proofs.ListingLemmas.{is-listing-held}
use Rattle.list_report.proofs.listing.listed.Goals as goal

pub returns-clause-held : goal.returns-clause-held
returns-clause-held c =
    let x = c.args.formed in
    is-listing-held x c.requires.held (record { format = x.format; name = x.name; quotient = x.quotient; dim = c.dim-dim.result; listing = c.args.listing; after = c.args.after; count = c.args.count }) c.requires.directions c.requires.few.0
    refl refl refl c.dim-dim.ensures
