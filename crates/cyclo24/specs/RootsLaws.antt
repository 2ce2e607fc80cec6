-- The square roots of 2 and 3 are no fractions, by descent.
--
-- root2: u² = 2 v² holds at zero alone
-- root3: (a + b r2)² = 3 (c + d r2)² holds at zero alone
use Rattle.std.proofs.Common.{◌≡◌, ℕ, zero, suc, ◌+◌, ◌*◌, ◌<◌, refl, ap, arith}

-- how a number stands to the multiples of 3
data By3 (n : ℕ) : Type 0 where
  at0 : (q : ℕ) → n ≡ 3 * q → By3 n
  at1 : (q : ℕ) → n ≡ 3 * q + 1 → By3 n
  at2 : (q : ℕ) → n ≡ 3 * q + 2 → By3 n

by3 : (n : ℕ) → By3 n
by3 zero = at0 0 (omega arith)
by3 (suc n) = elim (by3 n) [ at0 q e ↦ at1 q (omega arith) | at1 q e ↦ at2 q (omega arith) | at2 q e ↦ at0 (q + 1) (omega arith) ]

square : (n m : ℕ) → n ≡ m → n * n ≡ m * m
square n m e = ap (λ k. k * k) e

times : (a b m n : ℕ) → a ≡ m → b ≡ n → a * b ≡ m * n
times a b m n e f = cc

-- in a² + 2 b² = 3 k and a b = 3 m, both are multiples of 3
both3 : (a b k m : ℕ) → a * a + 2 * (b * b) ≡ 3 * k → a * b ≡ 3 * m → ((q : ℕ) × (a ≡ 3 * q)) × ((r : ℕ) × (b ≡ 3 * r))
both3 a b k m e f =
    elim (by3 a) [
      | at0 q x ↦ elim (by3 b) [
        | at0 r y ↦ ((q, x), (r, y))
        | at1 r y ↦ absurd (omega (arith, square a (3 * q) x, square b (3 * r + 1) y))
        | at2 r y ↦ absurd (omega (arith, square a (3 * q) x, square b (3 * r + 2) y))
      ]
      | at1 q x ↦ elim (by3 b) [
        | at0 r y ↦ absurd (omega (arith, square a (3 * q + 1) x, square b (3 * r) y))
        | at1 r y ↦ absurd (omega (arith, times a b (3 * q + 1) (3 * r + 1) x y))
        | at2 r y ↦ absurd (omega (arith, times a b (3 * q + 1) (3 * r + 2) x y))
      ]
      | at2 q x ↦ elim (by3 b) [
        | at0 r y ↦ absurd (omega (arith, square a (3 * q + 2) x, square b (3 * r) y))
        | at1 r y ↦ absurd (omega (arith, times a b (3 * q + 2) (3 * r + 1) x y))
        | at2 r y ↦ absurd (omega (arith, times a b (3 * q + 2) (3 * r + 2) x y))
      ]
    ]

no_square : (a : ℕ) → a * a ≡ 0 → a ≡ 0
no_square zero e = refl
no_square (suc a) e = absurd (omega arith)

step : (n a b c d q r : ℕ) → a + b + (c + d) < suc n → a * a + 2 * (b * b) ≡ 3 * (c * c + 2 * (d * d)) → a * b ≡ 3 * (c * d) → a ≡ 3 * q → b ≡ 3 * r
    → (c + d + (q + r) < n → (c ≡ 0) × (d ≡ 0) × (q ≡ 0) × (r ≡ 0)) → (a ≡ 0) × (b ≡ 0) × (c ≡ 0) × (d ≡ 0)
step n a b c d zero zero p e f x y go =
    let cc0 : c * c ≡ 0 = omega (arith, square a 0 (omega arith), square b 0 (omega arith)) in
    let dd0 : d * d ≡ 0 = omega (arith, square a 0 (omega arith), square b 0 (omega arith)) in
    (omega arith, omega arith, no_square c cc0, no_square d dd0)
step n a b c d (suc q) r p e f x y go = let h = go (omega arith) in absurd (omega (arith, h.2))
step n a b c d zero (suc r) p e f x y go = let h = go (omega arith) in absurd (omega (arith, h.3))

-- (a + b r2)² = 3 (c + d r2)² holds at zero alone
pub root3 : (n a b c d : ℕ) → a + b + (c + d) < n → a * a + 2 * (b * b) ≡ 3 * (c * c + 2 * (d * d)) → a * b ≡ 3 * (c * d) → (a ≡ 0) × (b ≡ 0) × (c ≡ 0) × (d ≡ 0)
root3 zero a b c d p e f = absurd (omega arith)
root3 (suc n) a b c d p e f =
    let t = both3 a b (c * c + 2 * (d * d)) (c * d) e f in
    let q = t.0.0 in let r = t.1.0 in
    step n a b c d q r p e f t.0.1 t.1.1 (λ s. root3 n c d q r s
    (omega (arith, square a (3 * q) t.0.1, square b (3 * r) t.1.1))
    (omega (arith, times a b (3 * q) (3 * r) t.0.1 t.1.1)))

-- u² = 2 v² holds at zero alone
data By2 (n : ℕ) : Type 0 where
  even : (q : ℕ) → n ≡ 2 * q → By2 n
  odd : (q : ℕ) → n ≡ 2 * q + 1 → By2 n

by2 : (n : ℕ) → By2 n
by2 zero = even 0 (omega arith)
by2 (suc n) = elim (by2 n) [ even q e ↦ odd q (omega arith) | odd q e ↦ even (q + 1) (omega arith) ]

half : (u k : ℕ) → u * u ≡ 2 * k → (q : ℕ) × (u ≡ 2 * q)
half u k e = elim (by2 u) [ even q x ↦ (q, x) | odd q x ↦ absurd (omega (arith, square u (2 * q + 1) x)) ]

step2 : (n u v q : ℕ) → u + v < suc n → u * u ≡ 2 * (v * v) → u ≡ 2 * q → (v + q < n → (v ≡ 0) × (q ≡ 0)) → (u ≡ 0) × (v ≡ 0)
step2 n u v zero p e x go = (omega arith, no_square v (omega (arith, square u 0 (omega arith))))
step2 n u v (suc q) p e x go = let h = go (omega arith) in absurd (omega (arith, h.1))

pub root2 : (n u v : ℕ) → u + v < n → u * u ≡ 2 * (v * v) → (u ≡ 0) × (v ≡ 0)
root2 zero u v p e = absurd (omega arith)
root2 (suc n) u v p e = let t = half u (v * v) e in step2 n u v t.0 p e t.1 (λ s. root2 n v t.0 s (omega (arith, square u (2 * t.0) t.1)))
