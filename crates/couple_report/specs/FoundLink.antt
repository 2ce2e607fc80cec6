-- What is found for `link`, by the program's answer.
--
-- rows_in m: the rows of a matrix as exact numbers
-- link_in x: a link, as the definitions name it
-- AnswersLink p step: the program's answer at the link of two irreps
-- told_by p x: a link, with what is told of both irreps
-- link_of l: the report that is written of a link
-- AreFewRows x, IsLinkHeld l: a link can be reported
-- FindsLink next answer: the finding is one of next, and a link that passed is held
use Rattle.std.specs.Prelude.{ℕ, ◌≤◌, ⊤, List, map, Option, Some, None}
use Rattle.std.specs.List.{range_with_len}
use Rattle.cyclo24.specs.declared.z24.Z24.{Z24}
use Rattle.cyclo24.specs.Z24.{exact_z24}
use Rattle.cyclo24.specs.ExactZ24.{ExactZ24, z24_laws}
use Rattle.lin_alg.specs.Matrix.{MatrixView, entry}
use Rattle.couple.specs.declared.links.Link.{Link}
use Rattle.couple.specs.declared.links.Link.TheVariants.{Nothing, Found}
use Rattle.report_steps.specs.declared.step.Step.{Step}
use Rattle.report_steps.specs.Finding.{Finding}
use Rattle.report_steps.specs.FoundBy.{FindsBy}
use Rattle.report_steps.specs.Steps.{Answers, OrWide}
use Rattle.super_group.specs.Quotient.{order_of}
use Rattle.couple_report.specs.LinkFound.{RefusesNoLink, AreWideLinks, IsLinkOfPair}
use Rattle.couple_report.specs.Pairs.{ChosenPair}
use Rattle.couple_report.specs.LinkReport.{LinkMatrix, link_text}
use Rattle.couple_report.specs.declared.link.FoundLink.{FoundLink}

-- the first n numbers of row i
abbrev pub row_in : MatrixView Z24 → ℕ → ℕ → List ExactZ24
row_in m i n = map (entry z24_laws exact_z24 m i) (range_with_len 0 n)

-- the rows as exact numbers
abbrev pub rows_in : MatrixView Z24 → List (List ExactZ24)
rows_in m = map (λ i. row_in m i m.cols) (range_with_len 0 m.rows)

-- a link, as the definitions name it
abbrev pub link_in : Link → Option LinkMatrix
link_in Nothing = None
link_in (Found m rank) = Some (record { rows = rows_in m; cols = m.cols; rank = rank })

-- the program's answer at the link of two irreps
abbrev pub AnswersLink : ChosenPair → Step Link → Type 0
AnswersLink p step = Answers (OrWide RefusesNoLink AreWideLinks p) (λ x. IsLinkOfPair p (link_in x)) step

-- a link, with what is told of both irreps
abbrev pub told_by : ChosenPair → Link → FoundLink
told_by p x = record { format = p.left.format; name = p.left.irrep.name; other = p.right.irrep.name; order = order_of p.left.quotient; link = x }

-- the report that is written of a link
abbrev pub link_of : FoundLink → List ℕ
link_of l = link_text l.format l.name l.other l.order (link_in l.link)

-- as few rows as an irrep can induce
abbrev pub AreFewRows : Link → Type 0
AreFewRows Nothing = ⊤
AreFewRows (Found m rank) = m.rows ≤ 288

-- its rows can be counted
abbrev pub IsLinkHeld : FoundLink → Type 0
IsLinkHeld l = AreFewRows l.link

-- the finding is one of next, and a link that passed is held
abbrev pub FindsLink : (Finding → Type 0) → Step FoundLink → Type 0
FindsLink = FindsBy link_of IsLinkHeld
