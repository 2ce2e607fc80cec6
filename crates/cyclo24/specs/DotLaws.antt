-- Sums of products place by place in which no written number is wide.
--
-- AllShort xs: each is at most 2^28 in absolute value
-- AreBounded k xs ys: each product is at most k in absolute value
-- size k xs: k for each of the list
-- dot_all, dot_most: nothing wide is written, and the size of the sum
-- short_dot_all, less_two_all, and_one_all: the same of short numbers
use Rattle.std.proofs.Common.{◌≡◌, ℕ, ◌+◌, ◌^◌, ◌<◌, ◌≤◌, arith, refl, ℤ, pos, negsuc, ◌+ℤ◌, ◌*ℤ◌, List, [], ◌∷◌, false, lit≤}
use Rattle.std.specs.Int.RustNames.{unsigned_abs}
use Rattle.cyclo24.specs.declared.whole.Whole.{Whole}
use Rattle.cyclo24.specs.Checked.{any_wide, times, plus, then}
use Rattle.cyclo24.specs.SmallLaws.{sum_most, times_most, factor_most}
use Rattle.cyclo24.specs.ShortLaws.{then_all, written_all}
use Rattle.cyclo24.specs.Written8.{dot_from, dot, num}
use Rattle.cyclo24.specs.Written8Products.{less_two, and_one}

-- each is at most 2^28
abbrev pub AllShort : List Whole → Type 0
AllShort [] = Unit {0}
AllShort (x ∷ xs) = (unsigned_abs x.n ≤ 2 ^ 28) × AllShort xs

-- each product is at most k
abbrev pub AreBounded : ℕ → List Whole → List Whole → Type 0
AreBounded k [] ys = Unit {0}
AreBounded k (x ∷ xs) [] = Unit {0}
AreBounded k (x ∷ xs) (y ∷ ys) = (unsigned_abs (x.n *ℤ y.n) ≤ k) × AreBounded k xs ys

abbrev pub size : ℕ → List Whole → ℕ
size k [] = 0
size k (x ∷ xs) = k + size k xs

sum_all : (k : ℕ) (s : Whole) (xs ys : List Whole) → k < 2 ^ 126 → unsigned_abs s.n + size k xs < 2 ^ 126 → AreBounded k xs ys → any_wide (dot_from s xs ys).written ≡ false
unfolding dot_from
sum_all k s [] ys l h a = refl
sum_all k s (x ∷ xs) [] l h a = refl
sum_all k s (x ∷ xs) (y ∷ ys) l h a =
    let b : unsigned_abs (x.n *ℤ y.n) ≤ k = a.0 in
    let m : unsigned_abs (s.n +ℤ x.n *ℤ y.n) ≤ unsigned_abs s.n + k = omega (arith, sum_most s.n (x.n *ℤ y.n), b) in
    then_all (times x y) (λ p. then (plus s p) (λ r. dot_from r xs ys)) (written_all (x.n *ℤ y.n) k b l)
    (then_all (plus s (times x y).value) (λ r. dot_from r xs ys) (written_all (s.n +ℤ x.n *ℤ y.n) (unsigned_abs s.n + k) m (omega (arith, h))) (sum_all k (plus s (times x y).value).value xs ys l (omega (arith, h, m)) a.1))

pub dot_all : (k : ℕ) (xs ys : List Whole) → k < 2 ^ 126 → size k xs < 2 ^ 126 → AreBounded k xs ys → any_wide (dot xs ys).written ≡ false
dot_all k xs ys l h a = sum_all k (num (pos 0)) xs ys l (omega (arith, h)) a

sum_size : (k : ℕ) (s : Whole) (xs ys : List Whole) → AreBounded k xs ys → unsigned_abs (dot_from s xs ys).value.n ≤ unsigned_abs s.n + size k xs
unfolding dot_from then
sum_size k s [] ys a = omega arith
sum_size k s (x ∷ xs) [] a = omega arith
sum_size k s (x ∷ xs) (y ∷ ys) a =
    let b : unsigned_abs (x.n *ℤ y.n) ≤ k = a.0 in
    omega (arith, sum_most s.n (x.n *ℤ y.n), b, sum_size k (num (s.n +ℤ x.n *ℤ y.n)) xs ys a.1)

pub dot_most : (k : ℕ) (xs ys : List Whole) → AreBounded k xs ys → unsigned_abs (dot xs ys).value.n ≤ size k xs
dot_most k xs ys a = omega (arith, sum_size k (num (pos 0)) xs ys a)

pub short_bounded : (xs ys : List Whole) → AllShort xs → AllShort ys → AreBounded (2 ^ 56) xs ys
short_bounded [] ys a b = tt
short_bounded (x ∷ xs) [] a b = tt
short_bounded (x ∷ xs) (y ∷ ys) a b = (times_most x.n y.n a.0 b.0, short_bounded xs ys a.1 b.1)

pub short_dot_all : (xs ys : List Whole) → size (2 ^ 56) xs ≤ 2 ^ 59 → AllShort xs → AllShort ys → any_wide (dot xs ys).written ≡ false
short_dot_all xs ys h a b = dot_all (2 ^ 56) xs ys (lit≤ tt) (omega (arith, h)) (short_bounded xs ys a b)

pub short_dot_most : (xs ys : List Whole) → size (2 ^ 56) xs ≤ 2 ^ 59 → AllShort xs → AllShort ys → unsigned_abs (dot xs ys).value.n ≤ 2 ^ 59
short_dot_most xs ys h a b = omega (arith, h, dot_most (2 ^ 56) xs ys (short_bounded xs ys a b))

sign_most : (f z : ℤ) → unsigned_abs f ≤ 1 → unsigned_abs z ≤ 2 ^ 59 → unsigned_abs (f *ℤ z) ≤ 2 ^ 60
sign_most f z h k = omega (arith, factor_most 1 f z h, k)

pub less_two_all : (xs ys : List Whole) (x y : Whole) → size (2 ^ 56) xs ≤ 2 ^ 59 → AllShort xs → AllShort ys → unsigned_abs x.n ≤ 2 ^ 59 → unsigned_abs y.n ≤ 2 ^ 59 → any_wide (less_two xs ys x y).written ≡ false
unfolding less_two
less_two_all xs ys x y h a b hx hy =
    let s = (dot xs ys).value in
    let hs = short_dot_most xs ys h a b in
    then_all (dot xs ys) (λ s. dot (num (pos 1) ∷ num (negsuc 0) ∷ num (negsuc 0) ∷ []) (s ∷ x ∷ y ∷ [])) (short_dot_all xs ys h a b)
    (dot_all (2 ^ 60) (num (pos 1) ∷ num (negsuc 0) ∷ num (negsuc 0) ∷ []) (s ∷ x ∷ y ∷ []) (lit≤ tt) (lit≤ tt)
    (sign_most (pos 1) s.n (lit≤ tt) hs, (sign_most (negsuc 0) x.n (lit≤ tt) hx, (sign_most (negsuc 0) y.n (lit≤ tt) hy, tt))))

pub and_one_all : (xs ys : List Whole) (sign x : Whole) → size (2 ^ 56) xs ≤ 2 ^ 59 → AllShort xs → AllShort ys → unsigned_abs sign.n ≤ 1 → unsigned_abs x.n ≤ 2 ^ 59 → any_wide (and_one xs ys sign x).written ≡ false
unfolding and_one
and_one_all xs ys sign x h a b hf hx =
    let s = (dot xs ys).value in
    let hs = short_dot_most xs ys h a b in
    then_all (dot xs ys) (λ s. dot (num (pos 1) ∷ sign ∷ []) (s ∷ x ∷ [])) (short_dot_all xs ys h a b)
    (dot_all (2 ^ 60) (num (pos 1) ∷ sign ∷ []) (s ∷ x ∷ []) (lit≤ tt) (lit≤ tt) (sign_most (pos 1) s.n (lit≤ tt) hs, (sign_most sign.n x.n hf hx, tt)))
