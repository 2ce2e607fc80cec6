-- What is found for `couple`, by the program's answer.
--
-- couple_of c: the report that is written of a listing of pairs
-- IsCoupleHeld c: its directions can be reported
-- FindsCouple next answer: the finding is one of next, and a listing that passed is held
-- listed_by t l: a listing, with what is told of both irreps
use Rattle.std.specs.Prelude.{ℕ, ◌+◌, ◌≤◌, List}
use Rattle.cyclo24.specs.declared.k24.K24.{K24}
use Rattle.cyclo24.specs.K24.{exact24}
use Rattle.cyclo24.specs.ExactK24.{k24_laws}
use Rattle.class_list.specs.Seen.{DirectionView, directions_of}
use Rattle.report_steps.specs.declared.step.Step.{Step}
use Rattle.report_steps.specs.Finding.{Finding}
use Rattle.report_steps.specs.FoundBy.{FindsBy}
use Rattle.list_report.specs.ListReport.{AreReportable}
use Rattle.couple_report.specs.CoupleReport.{couple_text}
use Rattle.couple_report.specs.declared.together.Together.{Together}
use Rattle.couple_report.specs.declared.together.FoundCouple.{FoundCouple}

-- the report that is written of a listing of pairs
abbrev pub couple_of : FoundCouple → List ℕ
couple_of c = couple_text c.format c.name c.other c.quotient c.dim c.other_dim c.after c.count (directions_of k24_laws exact24 c.listing)

-- the directions can be reported: those of few dimensions
pub record IsCoupleHeld (c : FoundCouple) : Type 0 where
  pub reportable : AreReportable c.quotient (c.dim + c.other_dim) c.listing
  pub few : c.dim + c.other_dim ≤ 24

-- the finding is one of next, and a listing that passed is held
abbrev pub FindsCouple : (Finding → Type 0) → Step FoundCouple → Type 0
FindsCouple = FindsBy couple_of IsCoupleHeld

-- a listing, with what is told of both irreps
abbrev pub listed_by : Together → List (DirectionView K24) → FoundCouple
listed_by t l = record {
  format = t.format;
  name = t.name;
  other = t.other;
  quotient = t.quotient;
  dim = t.dim;
  other_dim = t.other_dim;
  listing = l;
  after = t.after;
  count = t.count;
}
