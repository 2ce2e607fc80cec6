-- The memory of cuts: a row of small numbers for each form, made at its first cut.
--
-- cut_entry cuts i k: entry k of row i, 0 where there is none: 0 where form i and the form k weren't cut, and else one
--     more than the place of what they have in common
-- cut_count cuts: how many cuts are noted
-- AreShort n cuts: no row is longer than n
-- IsCutNoted old i k x new: entry k of row i is x, and all others are as they were
-- IsPlaced cuts i k r: the answer is the place that entry k of row i notes, or none
-- IsRowMade n old new: rows of zeros were made
-- AreFewCuts f act limit fixes cuts: no more cuts than forms times Fix(q), for each bound on the forms
use Rattle.std.specs.Prelude.{◌≡◌, ℕ, suc, zero, ◌≤◌, ◌*◌, ◌⊎◌, ℤ, Bool, List, [], Option, MatchOption, length, get_or}
use Rattle.std.specs.List.{sum_by}
use Rattle.cyclo24.specs.FieldOn.{FieldOn}
use Rattle.cyclo24.specs.ExactField.{Exact}
use Rattle.lin_alg.specs.Action.{Action}
use Rattle.fix_lattice.specs.Lattice.{AreMoreFixes}

-- entry k of row i, 0 where there is none
abbrev pub cut_entry : List (List ℕ) → ℕ → ℕ → ℕ
cut_entry cuts i k = get_or (get_or cuts i []) k 0

-- 1 for an entry that notes a cut
abbrev pub noted : ℕ → ℕ
noted zero = 0
noted (suc x) = 1

-- how many cuts are noted
abbrev pub cut_count : List (List ℕ) → ℕ
cut_count cuts = sum_by (sum_by noted) cuts

-- no row is longer than n
abbrev pub AreShort : ℕ → List (List ℕ) → Type 0
AreShort n cuts = (i : ℕ) → length (get_or cuts i []) ≤ n

-- entry k of row i is x, and all others are as they were
pub record IsCutNoted (old : List (List ℕ)) (i k x : ℕ) (new : List (List ℕ)) : Type 0 where
  pub own : cut_entry new i k ≡ x
  pub other : (a b : ℕ) → ((a ≡ i) × (b ≡ k) → ⊥) → cut_entry new a b ≡ cut_entry old a b

-- the answer is the place that entry k of row i notes, or none
abbrev pub IsPlaced : List (List ℕ) → ℕ → ℕ → Option ℕ → Type 0
IsPlaced cuts i k r = MatchOption r (cut_entry cuts i k ≡ 0) (λ p. cut_entry cuts i k ≡ suc p)

-- rows of at most n zeros were made
pub record IsRowMade (n : ℕ) (old new : List (List ℕ)) : Type 0 where
  pub entry : (a b : ℕ) → cut_entry new a b ≡ cut_entry old a b
  pub count : cut_count new ≡ cut_count old
  pub short : AreShort n new

-- there are no more cuts than forms times Fix(q), for each bound on the forms
abbrev pub AreFewCuts : {valid : List ℤ → Bool} → FieldOn (Exact valid) → Action → ℕ → ℕ → List (List ℕ) → Type 0
AreFewCuts f act limit fixes cuts = (n : ℕ) → ((AreMoreFixes f act n → ⊥) ⊎ (limit ≤ n)) → cut_count cuts ≤ n * fixes
