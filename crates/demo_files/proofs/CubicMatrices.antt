-- The 48 matrices that permute the axes of the cell and change signs along them.
--
-- place_of m: the number of a matrix among them
-- matrix_at i: the matrix with this number
-- place-below: a number is below 48
-- is-kept: products with s are of them, where a test says so
-- small-at: they are small
use Rattle.std.proofs.Common.{◌≡◌, refl, sym, ap, ◌∙◌, subst, ℕ, zero, suc, ◌+◌, ◌*◌, ◌%◌, ◌<◌, ◌==◌, if◌then◌else◌, Bool, true, false, ℤ, pos, negsuc, ◌+ℤ◌, List, [], ◌∷◌, ◌++◌, map, flat_map, length, get_or, arith}
use Rattle.std.proofs.lemmas.Int.{ints}
use Rattle.std.proofs.lemmas.List.{get_or-map}
use Rattle.std.proofs.lemmas.Nat.{mod_below}
use Rattle.algebra.specs.Whole.{whole}
use Rattle.space_ops.specs.Matrix.{Matrix, matrix_times, unit_matrix}
use Rattle.space_ops.specs.Op.{IsWithin, IsSmallMatrix}
use Rattle.demo_files.proofs.KeepingLemmas.{IsKept, IsKeeping}

-- what a list says of its entries
module _ {X Y : Type 0} (f g : X → Y) (xs : List X) (d : X) (e : Y) where
  entries-agree : (n : ℕ) → length xs ≡ n → map f xs ≡ map g xs → (i : ℕ) → i < n → f (get_or xs i d) ≡ g (get_or xs i d)
  entries-agree n long h i l =
      let k : i < length xs = omega (arith, long, l) in
      sym (get_or-map f xs i d e k) ∙ ap (λ ys. get_or ys i e) h ∙ get_or-map g xs i d e k

abbrev pub entry : ℕ → ℕ → ℤ → ℤ
entry c j s = if c == j then s else pos 0

-- the matrix with these signs in these columns, row by row
abbrev pub placed : ℕ → ℕ → ℕ → ℤ → ℤ → ℤ → Matrix ℤ
placed c d e s t u = record {
  r00 = entry c 0 s;
  r01 = entry c 1 s;
  r02 = entry c 2 s;
  r10 = entry d 0 t;
  r11 = entry d 1 t;
  r12 = entry d 2 t;
  r20 = entry e 0 u;
  r21 = entry e 1 u;
  r22 = entry e 2 u;
}

abbrev pub signs : List ℤ
signs = pos 1 ∷ negsuc 0 ∷ []

abbrev pub in_columns : ℕ → ℕ → ℕ → List (Matrix ℤ)
in_columns c d e = flat_map (λ s. flat_map (λ t. map (λ u. placed c d e s t u) signs) signs) signs

-- the matrices
unfoldable pub cubic : List (Matrix ℤ)
cubic = in_columns 0 1 2 ++ (in_columns 0 2 1 ++ (in_columns 1 0 2 ++ (in_columns 1 2 0 ++ (in_columns 2 0 1 ++ in_columns 2 1 0))))

abbrev pub is_nothing : ℤ → Bool
is_nothing (pos zero) = true
is_nothing (pos (suc n)) = false
is_nothing (negsuc n) = false

abbrev pub sign_place : ℤ → ℕ
sign_place (pos n) = 0
sign_place (negsuc n) = 1

-- the number of a permutation by its first two columns
abbrev pub columns_place : Matrix ℤ → ℕ
columns_place m =
    if is_nothing m.r00 then (if is_nothing m.r01 then (if is_nothing m.r10 then 5 else 4) else (if is_nothing m.r10 then 3 else 2)) else (if is_nothing m.r11 then 1 else 0)

-- the number of a matrix among them
unfoldable pub place_of : Matrix ℤ → ℕ
place_of m =
    (8 * columns_place m
    + (4 * sign_place ((m.r00 +ℤ m.r01) +ℤ m.r02) + (2 * sign_place ((m.r10 +ℤ m.r11) +ℤ m.r12) + sign_place ((m.r20 +ℤ m.r21) +ℤ m.r22)))) % 48

unfoldable pub matrix_at : ℕ → Matrix ℤ
matrix_at i = get_or cubic i (unit_matrix whole)

pub place-below : (m : Matrix ℤ) → place_of m < 48
unfolding place_of
place-below m = mod_below _ 48 (omega arith)

many : length cubic ≡ 48
unfolding cubic
many = refl

-- the test
abbrev pub Keeps : Matrix ℤ → Type 0
Keeps s = map (λ m. matrix_times whole s m) cubic ≡ map (λ m. matrix_at (place_of (matrix_times whole s m))) cubic

pub is-kept : (s : Matrix ℤ) → Keeps s → IsKeeping place_of matrix_at s
unfolding matrix_at
is-kept s h = entries-agree (λ m. matrix_times whole s m) (λ m. matrix_at (place_of (matrix_times whole s m))) cubic (unit_matrix whole) (unit_matrix whole) 48 many h

-- entries from -1 to 1
abbrev near : ℤ → ℤ
near (pos zero) = pos 0
near (pos (suc zero)) = pos 1
near (pos (suc (suc n))) = pos 0
near (negsuc zero) = negsuc 0
near (negsuc (suc n)) = pos 0

near-within : (z : ℤ) → IsWithin 3 (near z)
near-within (pos zero) = (omega (arith, ints), omega (arith, ints))
near-within (pos (suc zero)) = (omega (arith, ints), omega (arith, ints))
near-within (pos (suc (suc n))) = (omega (arith, ints), omega (arith, ints))
near-within (negsuc zero) = (omega (arith, ints), omega (arith, ints))
near-within (negsuc (suc n)) = (omega (arith, ints), omega (arith, ints))

abbrev near_matrix : Matrix ℤ → Matrix ℤ
near_matrix m = record {
  r00 = near m.r00;
  r01 = near m.r01;
  r02 = near m.r02;
  r10 = near m.r10;
  r11 = near m.r11;
  r12 = near m.r12;
  r20 = near m.r20;
  r21 = near m.r21;
  r22 = near m.r22;
}

near-small : (m : Matrix ℤ) → IsSmallMatrix (near_matrix m)
near-small m =
    ((near-within m.r00, near-within m.r01, near-within m.r02), (near-within m.r10, near-within m.r11, near-within m.r12), (near-within m.r20, near-within m.r21, near-within m.r22))

all-near : map (λ (m : Matrix ℤ). m) cubic ≡ map near_matrix cubic
unfolding cubic
all-near = refl

pub small-at : (i : ℕ) → i < 48 → IsSmallMatrix (matrix_at i)
unfolding matrix_at
small-at i l =
    subst IsSmallMatrix (sym (entries-agree (λ (m : Matrix ℤ). m) near_matrix cubic (unit_matrix whole) (unit_matrix whole) 48 many all-near i l))
    (near-small (matrix_at i))

pub unit-kept : IsKept place_of matrix_at (unit_matrix whole)
unfolding place_of matrix_at cubic
unit-kept = refl
