-- What an irrep of a file induces is one.
--
-- InduceTheSame q i s t g m: matrices g on the star s and m on the star t have one dimension, induce
-- the same matrices, and one kind
use Rattle.std.specs.Prelude.{◌≡◌, ℕ, ◌<◌}
use Rattle.iso_text.specs.declared.sections.IrrepText.{IrrepText}
use Rattle.kstar.specs.Star.{WaveStar}
use Rattle.super_group.specs.Quotient.{SupercellGroup, order_of}
use Rattle.small_rep.specs.SmallRep.{Matrices}
use Rattle.induce.specs.declared.kinds.Kind.{Kind}
use Rattle.induce.specs.Induced.{dimension_of, induced_of, indicator_sum}
use Rattle.induce.specs.Kinds.{IsKind}

-- of an irrep, by either of two stars with their matrices
pub record InduceTheSame (q : SupercellGroup) (i : IrrepText) (s t : WaveStar) (g m : Matrices) : Type 0 where
  pub dimension : dimension_of s i.size ≡ dimension_of t i.size
  pub entry : (e x y : ℕ) → x < dimension_of s i.size → y < dimension_of s i.size → induced_of q s i.size g e x y ≡ induced_of q t i.size m e x y
  pub kind : (a b : Kind) → IsKind a (indicator_sum q s i.size g) (order_of q) → IsKind b (indicator_sum q t i.size m) (order_of q) → a ≡ b
