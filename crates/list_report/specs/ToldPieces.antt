-- The report of a told listing, and its pieces.
--
-- told_text t: the report; IsToldHeld t: it can be reported
-- told_head t: the first three lines; told_pieces t: these, each direction told, and the lines behind them
use Rattle.std.specs.Prelude.{ℕ, List, [], ◌∷◌, ◌++◌, length}
use Rattle.cyclo24.specs.K24.{exact24}
use Rattle.cyclo24.specs.ExactK24.{k24_laws}
use Rattle.class_list.specs.Seen.{directions_of}
use Rattle.super_group.specs.Quotient.{order_of}
use Rattle.list_report.specs.FoundListing.{listed_text}
use Rattle.list_report.specs.HeldListings.{IsListingHeld}
use Rattle.list_report.specs.ListReport.{listing_head}
use Rattle.list_report.specs.PagePieces.{page_pieces}
use Rattle.list_report.specs.declared.listed.ListedIrrep.{ListedIrrep}
use Rattle.list_report.specs.declared.told.ToldListing.{ToldListing}

-- the listing with the directions told, and the lines behind them
abbrev pub told_text : ToldListing → List ℕ
told_text t = listed_text t.listed ++ t.tail

abbrev pub IsToldHeld : ToldListing → Type 0
IsToldHeld t = IsListingHeld t.listed

-- the first three lines
abbrev pub told_head : ListedIrrep → List ℕ
told_head l = listing_head l.format l.name l.dim (order_of l.quotient) (length (directions_of k24_laws exact24 l.listing)) []

-- the first lines, each direction told, and the lines behind them
abbrev pub told_pieces : ToldListing → List (List ℕ)
told_pieces t = told_head t.listed ∷ (page_pieces t.listed.quotient t.listed.dim t.listed.after t.listed.count (directions_of k24_laws exact24 t.listed.listing) ++ t.tail ∷ [])
