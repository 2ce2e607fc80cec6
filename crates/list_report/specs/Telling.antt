-- What watchers are told of a page of a listing, and the report where they may end it.
--
-- notice_of q dim (number, d): the notice of a direction; page_notices after count l: those of a page
-- stopped_lines after k ws, tally_lines tally ws, told_tail after k tally ws: the lines behind the directions
-- told_report after k tally ws l: the report with the first k directions of the page
-- IsTold after count tally ws new l f: the page is told, and ends as the watchers say
-- IsUntold f ws new: a refusal leaves the watchers as they were
-- IsListTold wanted after count tally ws new d f: what `list` finds
use Rattle.std.specs.Prelude.{◌≡◌, ℕ, ◌+◌, ◌-◌, ◌/◌, Bool, nat_lt, ◌&&◌, if◌then◌else◌, List, [], ◌++◌, Option, Some, length, map, take, codes, decimal}
use Rattle.cyclo24.specs.ExactK24.{Exact24}
use Rattle.iso_text.specs.Lines.{line}
use Rattle.iso_watch.specs.declared.notice.Notice.{Notice}
use Rattle.iso_watch.specs.Watchers.{Watcher, Told, EndsAfter, has_enough, watcher_lines}
use Rattle.class_list.specs.Directions.{Direction}
use Rattle.class_list.specs.Pages.{page}
use Rattle.super_group.specs.Quotient.{SupercellGroup, order_of}
use Rattle.report_steps.specs.Contexts.{Divided}
use Rattle.report_steps.specs.Finding.{Finding, report, refused}
use Rattle.list_report.specs.Contexts.{Listed}
use Rattle.list_report.specs.Listings.{IsListedThen}
use Rattle.list_report.specs.ListReport.{listing_text}

-- the notice of a direction under its number
abbrev pub notice_of : SupercellGroup → ℕ → ℕ × Direction Exact24 → Notice
notice_of q dim d = record { number = d.0; dim = dim - length d.1.equations; order = length d.1.stabiliser; index = order_of q / length d.1.stabiliser }

-- those of the directions of a page
abbrev pub page_notices : ℕ → Option ℕ → Listed → List Notice
page_notices after count l = map (notice_of l.quotient l.dim) (page after count l.directions)

-- where k directions were told, and a watcher had enough after the last
abbrev pub stopped_lines : ℕ → ℕ → List Watcher → List ℕ
stopped_lines after k ws = if nat_lt 0 k && has_enough ws then line (codes "stopped after " ++ decimal (after + k)) [] else []

-- the lines of the watchers, where they are asked for
abbrev pub tally_lines : Bool → List Watcher → List ℕ
tally_lines tally ws = if tally then watcher_lines ws else []

-- the lines behind the directions
abbrev pub told_tail : ℕ → ℕ → Bool → List Watcher → List ℕ
told_tail after k tally ws = stopped_lines after k ws ++ tally_lines tally ws

-- the report with the first k directions of the page
abbrev pub told_report : ℕ → ℕ → Bool → List Watcher → Listed → List ℕ
told_report after k tally ws l = listing_text l.format l.name l.quotient l.dim after (Some k) l.directions ++ told_tail after k tally ws

-- of the page the first directions are told, as many as the watchers want, and the report has these
pub record IsTold (after : ℕ) (count : Option ℕ) (tally : Bool) (ws new : List Watcher) (l : Listed) (f : Finding) : Type 0 where
  pub told_count : ℕ
  pub ends : EndsAfter (page_notices after count l) ws told_count
  pub told : Told (take told_count (page_notices after count l)) ws new
  pub reported : f ≡ report (told_report after told_count tally new l)

-- a refusal leaves the watchers as they were
abbrev pub IsUntold : Finding → List Watcher → List Watcher → Type 0
IsUntold (report bytes) ws new = Unit {0}
IsUntold (refused r) ws new = new ≡ ws

-- the irrep, its listing, and what the watchers are told of it
abbrev pub IsListTold : Option (List ℕ) → ℕ → Option ℕ → Bool → List Watcher → List Watcher → Divided → Finding → Type 0
IsListTold wanted after count tally ws new d f = IsListedThen wanted (IsTold after count tally ws new) d f × IsUntold f ws new
