-- The modules, each behind those that it stands on.

-- what the steps of a listing have found of a file so far
pub mod Contexts
-- the letters of the coordinates of a direction that are free
pub mod Letters
-- how the form of an order parameter direction is written
pub mod FormText
-- what the parts of the code that writes forms take and give
pub mod FormParts
-- how a stabiliser is written
pub mod StabiliserText
-- what the lines of a stabiliser obey
pub mod StabiliserTextLaws
-- what the parts of the code that writes stabilisers take and give
pub mod StabiliserParts
-- the report of `list`
pub mod ListReport
-- the pieces of a page of the report of `list`
pub mod PagePieces
-- what pages of the report of `list` obey
pub mod PageLaws
-- the irrep whose directions are listed
pub mod Choice
-- the real form of an irrep
pub mod RealForms
-- real forms of one irrep agree
pub mod TwinLaws
-- the fixed subspaces of a real form, and the directions of its classes
pub mod Closing
-- what is found where there is a listing of a real form, or none
pub mod ListingLaws
-- what `list` finds, step by step
pub mod Listings
-- what a real form tells of what was induced
pub mod HeldForms
-- what the program holds of a listing
pub mod HeldListings
-- what is found for `list`, by the program's answer
pub mod FoundListing
-- what watchers are told of a page of a listing
pub mod Telling
-- what a listing that watchers are told of obeys
pub mod TellingLaws
-- the report of a told listing, and its pieces
pub mod ToldPieces
