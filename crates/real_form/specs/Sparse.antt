-- Vectors that are 0 but at two places, and translations whose images of them are combinations of others.
--
-- IsSparse f n w i j: the vector of n entries is 0 but at places i and j, i at most j
-- products f x y: the products of the entries of two vectors
-- IsPhase R T n s D p j t: the rows of arm j, s rows an arm, of D(r T + t) are z^p times those of D(r T), for each r below R
-- ArePhases R T n s D xs k: the phases of the translations, T for each arm, up to number k
-- phase_row p o: z^p and z^o, as a row of four real numbers
-- pair_rows xs T j k t: these rows of the phases of translation t on arms j and k
-- AreCombined R T n s A D xs m: which translations' rows are combinations of those of earlier ones, T for each pair of A arms, up to number m
-- AreAgain a first m xs k: of the m rows a from first on, each that xs marks from place k on is a combination of those before it
use Rattle.std.specs.Prelude.{◌≡◌, ℕ, zero, suc, ◌+◌, ◌*◌, ◌/◌, ◌%◌, ◌<◌, ◌≤◌, List, Bool, true, false, length, slice_index, slice_index_or}
use Rattle.cyclo24.specs.FieldOn.{FieldOn}
use Rattle.cyclo24.specs.ExactK24.{Exact24, k24_laws}
use Rattle.cyclo24.specs.ExactZ24.{ExactZ24, z24_laws, power}
use Rattle.lin_alg.specs.Spans.{IsInSpan}
use Rattle.lin_alg.specs.Solving.{plain_rows}
use Rattle.small_rep.specs.SmallRep.{phased}
use Rattle.real_form.specs.Parts.{parts}
use Rattle.real_form.specs.Complexes.{z24_parts}

-- 0 but at two places
pub record IsSparse {K : Type 0} (f : FieldOn K) (n : ℕ) (w : ℕ → K) (i j : ℕ) : Type 0 where
  pub rises : i ≤ j
  pub inside : j < n
  pub zero : (k : ℕ) → (k ≡ i → ⊥) → (k ≡ j → ⊥) → w k ≡ f.nought

-- entry by entry
abbrev pub products : {K : Type 0} → FieldOn K → (ℕ → K) → (ℕ → K) → ℕ → K
products f x y k = f.times (x k) (y k)

-- the rows of arm j are multiplied by z^p
abbrev pub IsPhase : ℕ → ℕ → ℕ → ℕ → (ℕ → ℕ → ℕ → ExactZ24) → ℕ → ℕ → ℕ → Type 0
IsPhase R T n s D p j t = (r a b : ℕ) → r < R → a < n → b < n → a / s ≡ j → D (r * T + t) a b ≡ phased p (D (r * T) a b)

-- the phases of the translations, arm by arm
pub record ArePhases (R T n s : ℕ) (D : ℕ → ℕ → ℕ → ExactZ24) (xs : List ℕ) (k : ℕ) : Type 0 where
  pub count : length xs ≡ k
  pub each : (d : ℕ) → d < k → IsPhase R T n s D (slice_index xs d) (d / T) (d % T)
  pub below : (d : ℕ) → d < k → slice_index xs d < 24

-- two numbers
abbrev pub two : {Z : Type 0} → Z → Z → ℕ → Z
two x y zero = x
two x y (suc k) = y

-- z^p and z^o as four real numbers
abbrev pub phase_row : ℕ → ℕ → ℕ → Exact24
phase_row p o = parts z24_parts 2 (two (power p) (power o))

-- those of translation t on arms j and k, from the phases of T translations on each arm
abbrev pub pair_rows : List ℕ → ℕ → ℕ → ℕ → ℕ → ℕ → Exact24
pair_rows xs T j k t = phase_row (slice_index xs (j * T + t)) (slice_index xs (k * T + t))

-- which translations' phases on the arms of a pair are a real combination of those of earlier ones, pair by pair; and each D(r T + t) is 0 where D(r T) is
pub record AreCombined (R T n s A : ℕ) (D : ℕ → ℕ → ℕ → ExactZ24) (xs : List Bool) (m : ℕ) : Type 0 where
  pub phases : List ℕ
  pub are_phases : ArePhases R T n s D phases (A * T)
  pub count : length xs ≡ m
  pub each : (d : ℕ) → d < m → slice_index_or xs d false ≡ true → IsInSpan k24_laws (plain_rows (pair_rows phases T (d / T / A) (d / T % A)) (d % T)) (pair_rows phases T (d / T / A) (d / T % A) (d % T))
  pub zero : (r t x y : ℕ) → r < R → t < T → x < n → y < n → D (r * T) x y ≡ z24_laws.nought → D (r * T + t) x y ≡ z24_laws.nought

-- each row that is marked is a combination of those before it
abbrev pub AreAgain : {K : Type 0} → FieldOn K → (ℕ → ℕ → K) → ℕ → ℕ → List Bool → ℕ → Type 0
AreAgain f a first m xs k = (t : ℕ) → t < m → slice_index_or xs (k + t) false ≡ true → IsInSpan f (plain_rows a (first + t)) (a (first + t))
