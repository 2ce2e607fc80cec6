-- Weights of a list of characters.
--
-- IsKnown pair: a character with its weight
-- AreKnown known: each pair is a character with its weight
-- AreWeights characters weights k: the weights of the first k characters
use Rattle.std.specs.Prelude.{◌≡◌, ℕ, ◌<◌, List, length}
use Rattle.std.specs.List.{All}
use Rattle.cyclo24.specs.declared.k24.K24.{K24}
use Rattle.cyclo24.specs.declared.z24.Z24.{Z24}
use Rattle.cyclo24.specs.ExactK24.{k24_laws}
use Rattle.cyclo24.specs.ExactZ24.{z24_laws}
use Rattle.cyclo24.specs.K24.{exact24}
use Rattle.cyclo24.specs.Z24.{exact_z24}
use Rattle.lin_alg.specs.Rows.{vector}
use Rattle.induce.specs.Induced.{weight_of}
use Rattle.induce.specs.declared.weights.Known.{Known}

-- a character with its weight
abbrev pub IsKnown : Known → Type 0
IsKnown pair = exact24 pair.weight ≡ weight_of (exact_z24 pair.character)

abbrev pub AreKnown : List Known → Type 0
AreKnown known = All IsKnown known

-- the weights of the first k characters
pub record AreWeights (characters : List Z24) (weights : List K24) (k : ℕ) : Type 0 where
  pub count : length weights ≡ k
  pub each : (d : ℕ) → d < k → vector k24_laws exact24 weights d ≡ weight_of (vector z24_laws exact_z24 characters d)
