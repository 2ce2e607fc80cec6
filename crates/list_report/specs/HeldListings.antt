-- What the program holds of a listing.
--
-- IsPlaceOf wanted irreps k: the wanted irrep is at place k
-- formed_by c form, formed_in x: a real form, as the definitions name it; IsFormedHeld x: it is one of a quotient
-- AreDirections x l: the listing of a real form
-- listed_in l: a listing, as the definitions name it
-- IsListingHeld l: its directions can be reported, and fit into notices
use Rattle.std.specs.Prelude.{◌≡◌, ℕ, ◌≤◌, List, All, length, map, Option, Some, slice_get}
use Rattle.cyclo24.specs.declared.k24.K24.{K24}
use Rattle.cyclo24.specs.K24.{exact24}
use Rattle.cyclo24.specs.ExactK24.{k24, k24_laws}
use Rattle.iso_text.specs.declared.sections.IrrepText.{IrrepText}
use Rattle.fix_lattice.specs.Subspaces.{AreWholeForms}
use Rattle.class_list.specs.Seen.{DirectionView, directions_of}
use Rattle.class_list.specs.Directions.{IsListing}
use Rattle.real_form.specs.declared.form.RealForm.{RealForm}
use Rattle.real_form.specs.RealForm.{quotient_of, action_of}
use Rattle.super_group.specs.Quotient.{order_of}
use Rattle.list_report.specs.Choice.{IsWanted}
use Rattle.list_report.specs.Closing.{order_by}
use Rattle.list_report.specs.Contexts.{Chosen, Formed, Listed}
use Rattle.list_report.specs.ListReport.{AreReportable}
use Rattle.list_report.specs.declared.listed.FormedIrrep.{FormedIrrep}
use Rattle.list_report.specs.declared.listed.ListedIrrep.{ListedIrrep}

-- the wanted irrep is at place k
abbrev pub IsPlaceOf : Option (List ℕ) → List IrrepText → ℕ → Type 0
IsPlaceOf wanted irreps k = (i : IrrepText) × (slice_get irreps k ≡ Some i) × IsWanted wanted irreps i

-- the real form of an irrep, as the definitions name it
abbrev pub formed_by : Chosen → RealForm → Formed
formed_by c form = record { format = c.format; quotient = c.quotient; name = c.irrep.name; act = action_of form }

abbrev pub formed_in : FormedIrrep → Formed
formed_in x = record { format = x.format; quotient = x.quotient; name = x.name; act = action_of x.form }

-- a real form of few dimensions of the quotient
pub record IsFormedHeld (x : FormedIrrep) : Type 0 where
  pub quotient : quotient_of x.form ≡ x.quotient
  pub few : (action_of x.form).dim ≤ 24

-- the listing of the directions of a real form, its equations whole forms
pub record AreDirections (x : Formed) (l : List (DirectionView K24)) : Type 0 where
  pub listing : IsListing k24_laws k24.cmp x.act (order_by x.format) (directions_of k24_laws exact24 l)
  pub forms : AreWholeForms k24_laws exact24 x.act.dim (map (λ d. d.equations) l)

-- a listing, as the definitions name it
abbrev pub listed_in : ListedIrrep → Listed
listed_in l = record { format = l.format; quotient = l.quotient; name = l.name; dim = l.dim; directions = directions_of k24_laws exact24 l.listing }

-- the directions can be reported: those of a real form of few dimensions
pub record IsListingHeld (l : ListedIrrep) : Type 0 where
  pub reportable : AreReportable l.quotient l.dim l.listing
  pub few : l.dim ≤ 24
  pub numbered : length l.listing ≤ 16384
  pub orders : All (λ d. length d.stabiliser ≤ order_of l.quotient) l.listing
