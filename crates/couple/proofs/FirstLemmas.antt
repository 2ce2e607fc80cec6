-- The first average that isn't zero.
--
-- zero-before: averages that are zero place by place are zero before a place
-- zero-first: all of them, for rows below a number
-- found-link: the first that isn't zero is the link
use Rattle.std.proofs.Common.{◌≡◌, ℕ, suc, zero, ◌+◌, ◌*◌, ◌/◌, ◌%◌, ◌<◌, ◌≤◌, ◌⊎◌, inl, inr, sym, ◌∙◌, ap, subst, arith}
use Rattle.std.proofs.lemmas.Nat.{div-mul-add, mod-mul-add, div_below, mod_below}
use Rattle.cyclo24.specs.FieldOn.{FieldOn}
use Rattle.cyclo24.specs.TotalLaws.{total-same}
use Rattle.couple.specs.Links.{Pair, IsPair, Intertwines, IsZero, average, AreZeroBefore, IsLink}
use Rattle.couple.specs.LinkLaws.{average-intertwines}

-- a later row starts behind each earlier one
row-past : (n i m : ℕ) → n ≤ i → n * m ≤ i * m
row-past zero i m l = omega arith
row-past (suc n) zero m l = absurd (omega arith)
row-past (suc n) (suc i) m l =
    let below : n * m ≤ i * m = row-past n i m (omega arith) in
    let a : suc n * m ≡ n * m + m = grind arith in
    let b : suc i * m ≡ i * m + m = grind arith in
    omega arith

pub lt-le : (a b c : ℕ) → a < b → b ≤ c → a < c
lt-le a b c l m = omega (arith, l, m)

-- products of dimensions are small
pub product-small : (a b : ℕ) → a ≤ 288 → b ≤ 288 → a * b ≤ 82944
product-small a b l m = let past : a * b ≤ 288 * b = row-past a 288 b l in omega (arith, past, m)

pub some-columns : (p n m : ℕ) → p < n * m → 0 < m
some-columns p n zero l = let e : n * 0 ≡ 0 = grind arith in absurd (omega (arith, l, e))
some-columns p n (suc m) l = omega arith

-- the place of an earlier row, or of an earlier column of the same row, is earlier
place-before : (c k l i j : ℕ) → l < c → (k < i) ⊎ ((k ≡ i) × (l < j)) → k * c + l < i * c + j
place-before c k l i j lc (inl m) = let past : suc k * c ≤ i * c = row-past (suc k) i c (omega (arith, m)) in let e : suc k * c ≡ k * c + c = grind arith in omega (arith, lc, past, e)
place-before c k l i j lc (inr m) = let e : k * c ≡ i * c = ap (λ x. x * c) m.0 in omega (arith, e, m.1)

module _ {K : Type 0} (f : FieldOn K) (p : Pair K) (c : ℕ) (ec : c ≡ p.cols) where
  -- each average of the first m places is zero
  abbrev pub AreZeroAt : ℕ → Type 0
  AreZeroAt m = (k : ℕ) → k < m → IsZero f p (average f p (k / c) (k % c))

  zero-at : (m k l : ℕ) → l < p.cols → k * c + l < m → AreZeroAt m → IsZero f p (average f p k l)
  zero-at m k l ll b z =
      let lc : l < c = subst (λ (x : ℕ). l < x) (sym ec) ll in
      subst (λ (x : ℕ). IsZero f p (average f p x l)) (div-mul-add k c l lc) (subst (λ (y : ℕ). IsZero f p (average f p ((k * c + l) / c) y)) (mod-mul-add k c l lc) (z (k * c + l) b))

  pub zero-before : (m : ℕ) → AreZeroAt m → AreZeroBefore f p (m / c) (m % c)
  zero-before m z k l lk ll b =
      let lc : l < c = subst (λ (x : ℕ). l < x) (sym ec) ll in
      let e : m / c * c + m % c ≡ m = div-mod m c in
      zero-at m k l ll (subst (λ (x : ℕ). k * c + l < x) e (place-before c k l (m / c) (m % c) lc b)) z
    where
      div-mod : (m c : ℕ) → m / c * c + m % c ≡ m
      div-mod m c = grind arith

  pub zero-first : (n m : ℕ) → n * c ≤ m → AreZeroAt m → (i j : ℕ) → i < n → i < p.rows → j < p.cols → IsZero f p (average f p i j)
  zero-first n m le z i j li lr lj =
      let lc : j < c = subst (λ (x : ℕ). j < x) (sym ec) lj in
      let b : i * c + j < n * c = place i j n lc li in
      zero-at m i j lj (omega (arith, b, le)) z
    where
      place : (i j n : ℕ) → j < c → i < n → i * c + j < n * c
      place i j n lj li = grind arith

  pub found-link : (m n : ℕ) (X : ℕ → ℕ → K) → n ≤ p.rows → m < n * c → 0 < c → AreZeroAt m → ((a b : ℕ) → a < p.rows → b < p.cols → X a b ≡ average f p (m / c) (m % c) a b) →
      ((a b : ℕ) → p.cols ≤ b → X a b ≡ f.nought) → (IsZero f p X → ⊥) → IsLink f p X
  found-link m n X few b some z e w nz =
      let li : m / c < n = div_below m c n some b in
      record {
        i = m / c;
        is_row = omega (arith, li, few);
        j = m % c;
        is_column = subst (λ (x : ℕ). m % c < x) ec (mod_below m c some);
        before = zero-before m z;
        average = e;
        within = λ a l b k. w a b k;
        nonzero = nz;
      }

-- the link is an intertwiner
pub link-intertwines : {K : Type 0} (f : FieldOn K) (p : Pair K) → IsPair f p → (X : ℕ → ℕ → K) → IsLink f p X → Intertwines f p X
link-intertwines f p h X l q a b lq la lb =
    total-same f p.rows _ _ (λ k m. ap (f.times (p.left q a k)) (l.average k b m lb))
    ∙ average-intertwines f p h l.i l.j l.is_row l.is_column q a b lq la lb
    ∙ sym (total-same f p.cols _ _ (λ k m. ap (λ x. f.times x (p.right q k b)) (l.average a k la m)))
