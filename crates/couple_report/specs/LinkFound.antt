-- What `link` finds behind the steps that all jobs share.
--
-- pair_by p s g t h: the matrices that both irreps induce, over the quotient
-- IsLinkMatrix m x: the link of two representations, with its rank; IsLinked m x: it, or that there is none
-- ArePairInduced p m: m are the matrices that both irreps induce
-- IsLinkOfPair p x: x is their link
-- RefusesNoLink, AreWideLinks p k, HaveLink p l: the step; IsLinkReported l f: the report of a link
-- AfterLinkedPair p f: what is found behind the two irreps
-- IsLinkFound wanted other d f: what is found
use Rattle.std.specs.Prelude.{◌≡◌, ℕ, ◌<◌, List, [], Option, Some, None, length, slice_index_or}
use Rattle.cyclo24.specs.ExactZ24.{ExactZ24, z24, z24_laws}
use Rattle.kstar.specs.Star.{WaveStar}
use Rattle.super_group.specs.Quotient.{quotient_group, order_of}
use Rattle.small_rep.specs.SmallRep.{Matrices}
use Rattle.couple.specs.Links.{Pair, Intertwines, HasOnlyZero, IsLink, HasRank, AreEquivalent}
use Rattle.couple.specs.Wide.{IsWideLink}
use Rattle.report_steps.specs.Contexts.{Divided}
use Rattle.report_steps.specs.Finding.{Finding, report}
use Rattle.report_steps.specs.Irreps.{IsInducible}
use Rattle.report_steps.specs.Steps.{After, never}
use Rattle.report_steps.specs.declared.refusal.Refusal.{Refusal}
use Rattle.list_report.specs.RealForms.{matrices_by, dimension_by}
use Rattle.couple_report.specs.LinkReport.{LinkMatrix, link_text}
use Rattle.couple_report.specs.Pairs.{ChosenPair, RefusesPair, ArePair}

abbrev pub pair_by : ChosenPair → WaveStar → Matrices → WaveStar → Matrices → Pair ExactZ24
pair_by p s g t h = record {
  group = quotient_group p.left.quotient;
  rows = dimension_by p.left s;
  cols = dimension_by p.right t;
  left = matrices_by p.left s g;
  right = matrices_by p.right t h;
}

-- entry (a, b) of rows of numbers
abbrev pub entry_in : List (List ExactZ24) → ℕ → ℕ → ExactZ24
entry_in rows a b = slice_index_or (slice_index_or rows a []) b z24_laws.nought

-- the rows of the link, an intertwiner, and its rank; where this is both dimensions, the two are equivalent
pub record IsLinkMatrix (m : Pair ExactZ24) (x : LinkMatrix) : Type 0 where
  pub rows : length x.rows ≡ m.rows
  pub cols : x.cols ≡ m.cols
  pub long : (a : ℕ) → a < m.rows → length (slice_index_or x.rows a []) ≡ m.cols
  pub link : IsLink z24_laws m (entry_in x.rows)
  pub intertwines : Intertwines z24_laws m (entry_in x.rows)
  pub rank : HasRank z24_laws m.rows m.cols (entry_in x.rows) x.rank
  pub equivalent : x.rank ≡ m.rows → x.rank ≡ m.cols → AreEquivalent z24_laws m

-- none exactly where zero is the only intertwiner
abbrev pub IsLinked : Pair ExactZ24 → Option LinkMatrix → Type 0
IsLinked m None = HasOnlyZero z24_laws m
IsLinked m (Some x) = IsLinkMatrix m x

-- the matrices that both irreps induce
abbrev pub ArePairInduced : ChosenPair → Pair ExactZ24 → Type 0
ArePairInduced p m =
    (s : WaveStar) × ((g : Matrices) × ((t : WaveStar) × ((h : Matrices)
    × IsInducible p.left.quotient p.left.irrep s g × IsInducible p.right.quotient p.right.irrep t h × (m ≡ pair_by p s g t h))))

-- their link
abbrev pub IsLinkOfPair : ChosenPair → Option LinkMatrix → Type 0
IsLinkOfPair p x = (m : Pair ExactZ24) × ArePairInduced p m × IsLinked m x

-- no pair is refused
abbrev pub RefusesNoLink : ChosenPair → Refusal → Type 0
RefusesNoLink p r = ⊥

abbrev pub AreWideLinks : ChosenPair → ℕ → Type 0
AreWideLinks p k = (k ≡ 7) × ((m : Pair ExactZ24) × ArePairInduced p m × IsWideLink z24 m)

abbrev pub HaveLink : ChosenPair → (ChosenPair × Option LinkMatrix) → Type 0
HaveLink p l = (l.0 ≡ p) × IsLinkOfPair p l.1

abbrev pub IsLinkReported : (ChosenPair × Option LinkMatrix) → Finding → Type 0
IsLinkReported l f = f ≡ report (link_text l.0.left.format l.0.left.irrep.name l.0.right.irrep.name (order_of l.0.left.quotient) l.1)

abbrev pub AfterLinkedPair : ChosenPair → Finding → Type 0
AfterLinkedPair = After RefusesNoLink AreWideLinks HaveLink IsLinkReported

abbrev pub IsLinkFound : Option (List ℕ) → List ℕ → Divided → Finding → Type 0
IsLinkFound wanted other = After (RefusesPair wanted other) never (ArePair wanted other) AfterLinkedPair
