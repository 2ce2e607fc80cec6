-- The vectors whose orbits are tried for a real form.
--
-- pairs_of n: the pairs i < j below n, by rising i and then j
-- candidates_of n: the unit vectors, then 1 at i and z^a at j for each pair and each a below 24
-- candidate_vector n c: the vector of n entries; IsPower c: its power of z is below 24
-- tried n given: the vectors that are tried: the given one alone, or those of the candidates
use Rattle.std.specs.Prelude.{ℕ, ◌<◌, ◌+◌, ◌-◌, List, [], ◌∷◌, ◌++◌, Option, Some, None, map, ltb, nat_eq, if◌then◌else◌}
use Rattle.std.specs.List.{flat_map, range_with_len}
use Rattle.cyclo24.specs.declared.z24.Z24.{Z24}
use Rattle.cyclo24.specs.Z24.{exact_z24}
use Rattle.cyclo24.specs.ExactZ24.{ExactZ24, z24_laws, power}
use Rattle.lin_alg.specs.Rows.{vector}
use Rattle.real_form.specs.declared.candidate.Candidate.{Candidate}
use Rattle.real_form.specs.declared.candidate.Candidate.TheVariants.{Place, Pair}

-- the pairs i < j
abbrev pub pairs_of : ℕ → List (ℕ × ℕ)
pairs_of n = flat_map (λ i. map (λ j. (i, j)) (range_with_len (i + 1) (n - (i + 1)))) (range_with_len 0 n)

-- a pair with each power of z
abbrev pub powers_of : ℕ × ℕ → List Candidate
powers_of p = map (λ a. Pair p.0 p.1 a) (range_with_len 0 24)

-- the unit vectors, then the pairs with each power of z
unfoldable pub candidates_of : ℕ → List Candidate
candidates_of n = map Place (range_with_len 0 n) ++ flat_map powers_of (pairs_of n)

-- 1 at i, and z^a at j
abbrev pub candidate_entry : Candidate → ℕ → ExactZ24
candidate_entry (Place i) k = if nat_eq k i then z24_laws.unit else z24_laws.nought
candidate_entry (Pair i j a) k = if nat_eq k i then z24_laws.unit else (if nat_eq k j then power a else z24_laws.nought)

-- the vector of n entries
unfoldable pub candidate_vector : ℕ → Candidate → ℕ → ExactZ24
candidate_vector n c k = if ltb k n then candidate_entry c k else z24_laws.nought

-- the vectors that are tried
abbrev pub tried : ℕ → Option (List Z24) → List (ℕ → ExactZ24)
tried n None = map (candidate_vector n) (candidates_of n)
tried n (Some w) = vector z24_laws exact_z24 w ∷ []

-- its power of z is below 24
abbrev pub IsPower : Candidate → Type 0
IsPower (Place i) = Unit {0}
IsPower (Pair i j a) = a < 24

abbrev pub ArePowers : List Candidate → Type 0
ArePowers [] = Unit {0}
ArePowers (c ∷ cs) = IsPower c × ArePowers cs
