-- What is told of an orbit: its atoms and its modes, each with a name.
--
-- OrbitModes: the label and the places of its atoms; the words of its counts; its modes, each with the name of its irrep or `site`
-- counts_text irrep site, count_text count: how many modes belong to irreps, and how many to none; how many there are
use Rattle.std.specs.Prelude.{ℕ, ℤ, List, ◌++◌, codes, decimal}
use Rattle.cyclo24.specs.ExactK24.{Exact24}

pub record OrbitModes : Type 0 where
  pub label : List ℕ
  pub places : List (List ℤ)
  pub counts : List ℕ
  pub modes : List (List ℕ × (ℕ → Exact24))

-- ` irrep I site S`
abbrev pub counts_text : ℕ → ℕ → List ℕ
counts_text irrep site = codes " irrep " ++ decimal irrep ++ codes " site " ++ decimal site

-- ` modes M`
abbrev pub count_text : ℕ → List ℕ
count_text count = codes " modes " ++ decimal count
