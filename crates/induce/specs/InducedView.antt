-- Induced matrices as contracts see them.
--
-- InducedView: the tables of the blocks, with the star and the small representation; the kind, the real dimension; the
--   characters and weights by element
-- star_in v, rep_in v: the star and the small representation
-- IsInducedOf q v: these are the induced matrices of the quotient
use Rattle.std.specs.Prelude.{◌≡◌, ℕ, ◌<◌, List, length}
use Rattle.cyclo24.specs.declared.k24.K24.{K24}
use Rattle.cyclo24.specs.declared.z24.Z24.{Z24}
use Rattle.cyclo24.specs.ExactK24.{k24_laws}
use Rattle.cyclo24.specs.K24.{exact24}
use Rattle.lin_alg.specs.Rows.{vector}
use Rattle.kstar.specs.Star.{WaveStar}
use Rattle.super_group.specs.Quotient.{SupercellGroup, order_of}
use Rattle.small_rep.specs.RepCheck.{CheckedView}
use Rattle.induce.specs.Induced.{weight_of, indicator_sum}
use Rattle.induce.specs.Kinds.{IsKind}
use Rattle.induce.specs.Tables.{size_in, matrices_in, character_in, AreTablesOf, AreCharacters}
use Rattle.induce.specs.declared.kinds.Kind.{Kind}
use Rattle.induce.specs.declared.tables.Tables.{Tables}

pub record InducedView : Type 0 where
  pub tables : Tables
  pub kind : Kind
  pub real_dim : ℕ
  pub characters : List Z24
  pub weights : List K24

abbrev pub star_in : InducedView → WaveStar
star_in v = v.tables.star

abbrev pub rep_in : InducedView → CheckedView
rep_in v = v.tables.rep

-- these are the induced matrices of the quotient
pub record IsInducedOf (q : SupercellGroup) (v : InducedView) : Type 0 where
  pub tables : AreTablesOf q v.tables
  pub kind : IsKind v.kind (indicator_sum q v.tables.star (size_in v.tables) (matrices_in v.tables)) (order_of q)
  pub characters : AreCharacters q v.tables v.characters (order_of q)
  pub count : length v.weights ≡ order_of q
  pub weights : (e : ℕ) → e < order_of q → vector k24_laws exact24 v.weights e ≡ weight_of (character_in q v.tables e)
