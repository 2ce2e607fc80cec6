-- What is found for `list`, by the program's answer.
--
-- listed_text l: the report that is written of a listing
-- IsTheOne after count answer m f: m is the listing that passed
-- FindsListing after count chain answer: the answer of the chain of steps, and a listing that passed is held
use Rattle.std.specs.Prelude.{◌≡◌, ℕ, List, Option}
use Rattle.report_steps.specs.declared.step.Step.{Step}
use Rattle.report_steps.specs.declared.step.Step.TheVariants as step
use Rattle.report_steps.specs.Finding.{Finding}
use Rattle.report_steps.specs.FoundBy.{FindsBy}
use Rattle.list_report.specs.Contexts.{Listed}
use Rattle.list_report.specs.declared.listed.ListedIrrep.{ListedIrrep}
use Rattle.list_report.specs.HeldListings.{listed_in, IsListingHeld}
use Rattle.list_report.specs.ListReport.{listing_text}

-- the report that is written of a listing
abbrev pub listed_text : ListedIrrep → List ℕ
listed_text l = listing_text l.format l.name l.quotient l.dim l.after l.count (listed_in l).directions

-- the listing that passed, with the page that is asked for; none where none passed
abbrev pub IsTheOne : ℕ → Option ℕ → Step ListedIrrep → Listed → Finding → Type 0
IsTheOne after count (step.Passed l) m f = (m ≡ listed_in l) × (l.after ≡ after) × (l.count ≡ count)
IsTheOne after count (step.Refused r) m f = ⊥

-- the answer of the chain of steps: why there is no listing, or the listing, which is held
abbrev pub FindsListing : ℕ → Option ℕ → ((Listed → Finding → Type 0) → Finding → Type 0) → Step ListedIrrep → Type 0
FindsListing after count chain answer = FindsBy listed_text IsListingHeld (chain (IsTheOne after count answer)) answer
