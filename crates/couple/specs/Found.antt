-- What a link between induced representations is.
--
-- pair_of q l r: the induced matrices of both, over the quotient
-- IsFound p m rank: the matrix m is the link, with its rank
-- IsLinkOf q l r link: there is none and zero is the only intertwiner, or it is found
-- IsLinkCause q l r e: a number of family 7 is wide, or there is no memory
-- IsWithRank m link, IsRankCause m e: a matrix with its rank, or why there is none
-- IsArmMoved q v arm, ReachesRows q v k: where columns of the matrices are 0 but in the first rows
use Rattle.std.specs.Prelude.{◌≡◌, ℕ, ◌<◌, ◌≤◌, ◌/◌, ⊤}
use Rattle.cyclo24.specs.declared.z24.Z24.{Z24}
use Rattle.cyclo24.specs.ExactZ24.{ExactZ24, z24, z24_laws}
use Rattle.cyclo24.specs.Z24.{exact_z24}
use Rattle.lin_alg.specs.Matrix.{MatrixView, entry}
use Rattle.lin_alg.specs.Solving.{IsWideIndependent}
use Rattle.super_group.specs.Quotient.{SupercellGroup, order_of, quotient_group}
use Rattle.induce.specs.InducedView.{InducedView}
use Rattle.induce.specs.Tables.{dimension_in, size_in, matrix_in}
use Rattle.couple.specs.Links.{Pair, Intertwines, HasOnlyZero, IsLink, HasRank, AreEquivalent}
use Rattle.couple.specs.Wide.{IsWideLink}
use Rattle.couple.specs.declared.errors.LinkError.{LinkError}
use Rattle.couple.specs.declared.errors.LinkError.TheVariants.{Wide, NoMemory}
use Rattle.couple.specs.declared.links.Link.{Link}
use Rattle.couple.specs.declared.links.Link.TheVariants.{Nothing, Found}

-- the induced matrices of both
abbrev pub pair_of : SupercellGroup → InducedView → InducedView → Pair ExactZ24
pair_of q l r = record {
  group = quotient_group q;
  rows = dimension_in l.tables;
  cols = dimension_in r.tables;
  left = matrix_in q l.tables;
  right = matrix_in q r.tables;
}

-- the link with its rank; where this is both dimensions, the two are equivalent
pub record IsFound (p : Pair ExactZ24) (m : MatrixView Z24) (rank : ℕ) : Type 0 where
  pub rows : m.rows ≡ p.rows
  pub cols : m.cols ≡ p.cols
  pub link : IsLink z24_laws p (entry z24_laws exact_z24 m)
  pub intertwines : Intertwines z24_laws p (entry z24_laws exact_z24 m)
  pub spans : HasRank z24_laws p.rows p.cols (entry z24_laws exact_z24 m) rank
  pub equivalent : rank ≡ p.rows → rank ≡ p.cols → AreEquivalent z24_laws p

abbrev pub IsLinkOf : SupercellGroup → InducedView → InducedView → Link → Type 0
IsLinkOf q l r Nothing = HasOnlyZero z24_laws (pair_of q l r)
IsLinkOf q l r (Found m rank) = IsFound (pair_of q l r) m rank

abbrev pub IsLinkCause : SupercellGroup → InducedView → InducedView → LinkError → Type 0
IsLinkCause q l r (Wide f) = (f ≡ 7) × IsWideLink z24 (pair_of q l r)
IsLinkCause q l r NoMemory = ⊤

-- a matrix with its rank
abbrev pub IsWithRank : MatrixView Z24 → Link → Type 0
IsWithRank m Nothing = ⊥
IsWithRank m (Found x rank) = (x ≡ m) × HasRank z24_laws m.rows m.cols (entry z24_laws exact_z24 m) rank

-- why there is no rank
abbrev pub IsRankCause : MatrixView Z24 → LinkError → Type 0
IsRankCause m (Wide f) = (f ≡ 7) × IsWideIndependent z24 m.rows (entry z24_laws exact_z24 m)
IsRankCause m NoMemory = ⊤

-- some element moves the arm to the first one: in its columns all other rows are 0
abbrev pub IsArmMoved : SupercellGroup → InducedView → ℕ → Type 0
IsArmMoved q v arm =
    (e : ℕ) × (e < order_of q)
    × ((a b : ℕ) → a < dimension_in v.tables → b < dimension_in v.tables → b / size_in v.tables ≡ arm → (a / size_in v.tables ≡ 0 → ⊥) → matrix_in q v.tables e a b ≡ z24_laws.nought)

-- for each column some element's matrix is 0 in it from row k on
abbrev pub ReachesRows : SupercellGroup → InducedView → ℕ → Type 0
ReachesRows q v k =
    (i : ℕ) → i < dimension_in v.tables
    → (e : ℕ) × (e < order_of q) × ((a : ℕ) → k ≤ a → a < dimension_in v.tables → matrix_in q v.tables e a i ≡ z24_laws.nought)
