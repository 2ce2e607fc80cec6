-- The fractions in lowest terms of a ring with a content are a field.
--
-- lower x d p: the fraction x / d in lowest terms
-- Is f x d: the fraction f is x / d; same_from_is: equal numbers are one fraction
-- nought, unit, minus, sum, times, inverse: the operations; is_minus, is_sum, is_times: what they are
-- sum_over: a sum over a common multiple of the denominators
-- fractions: the field
use Rattle.std.proofs.Common.{◌≡◌, ◌≢◌, ℕ, zero, suc, ◌*◌, ◌/◌, ◌<◌, refl, sym, ap, ◌∙◌, subst, arith, [], ◌∷◌, true, false}
use Rattle.std.proofs.Math.Nat.{mul-div_cancel', mul_comm}
use mathlib.Core.HLevel.{is_prop→PathP}
use native.Mathlib.Nat.{ℕ_set}
use Rattle.std.specs.Coded.{le_prop}
use Rattle.algebra.specs.Ring.{Ops}
use Rattle.cyclo24.specs.FieldOn.{FieldOn, ones}
use Rattle.cyclo24.specs.Fraction.{Content, IsContent, Fraction}
use Rattle.algebra.specs.Solve.{Exp, V, K, Neg, Add, Mul, at}
use Rattle.algebra.specs.SolveLaws.{by_test, solve, num_mul}
use Rattle.algebra.specs.SolveLaws as Rings

-- variables of expressions
abbrev d' : Exp
d' = V 0

abbrev e' : Exp
e' = V 1

abbrev l' : Exp
l' = V 2

abbrev m' : Exp
m' = V 3

abbrev x' : Exp
x' = V 4

abbrev y' : Exp
y' = V 5

abbrev t' : Exp
t' = V 6

abbrev u' : Exp
u' = V 7

abbrev d1 : Exp
d1 = V 0

abbrev e1 : Exp
e1 = V 1

abbrev f1 : Exp
f1 = V 2

abbrev k1 : Exp
k1 = V 3

abbrev l1 : Exp
l1 = V 4

abbrev x1 : Exp
x1 = V 5

abbrev y1 : Exp
y1 = V 6

abbrev t1 : Exp
t1 = V 7

abbrev u1 : Exp
u1 = V 8

abbrev w1 : Exp
w1 = V 9

module _ {R : Type 0} (o : Ops R) (c : Content o) (h : IsContent o c) where
  -- u = v and a + v = b + u give a = b
  pub combine : (a b u v : R) → u ≡ v → o.add a v ≡ o.add b u → a ≡ b
  combine a b u v e f = Rings.cancel o h.ring v a b (h.ring.add_comm v a ∙ f ∙ ap (λ w. o.add b w) e ∙ h.ring.add_comm b v)

  -- g = g c gives c = 1
  one_left : (g c : ℕ) → 0 < g → g ≡ g * c → c ≡ 1
  one_left g zero p e = absurd (omega arith)
  one_left g (suc zero) p e = refl
  one_left g (suc (suc n)) p e = absurd (omega arith)

  positive_part : (g q d : ℕ) → 0 < d → g * q ≡ d → 0 < q
  positive_part g zero d p e = absurd (omega arith)
  positive_part g (suc q) d p e = omega arith

  pub lower_low : (x : R) (d : ℕ) → 0 < d → c.content x d * (d / c.content x d) ≡ d
  lower_low x d p = mul-div_cancel' (c.content x d) (h.divides x d p)

  pub lower_positive : (x : R) (d : ℕ) → 0 < d → 0 < d / c.content x d
  lower_positive x d p = positive_part (c.content x d) (d / c.content x d) d p (lower_low x d p)

  pub lower_lowest : (x : R) (d : ℕ) → 0 < d → c.content (c.divide x (c.content x d)) (d / c.content x d) ≡ 1
  lower_lowest x d p =
      let g = c.content x d in
      let q = d / g in
      let y = c.divide x g in
      one_left g (c.content y q) (h.positive x d p)
      (ap (λ w. c.content w d) (sym (h.divide_is x d p)) ∙ ap (λ n. c.content (o.mul (o.num g) y) n) (sym (lower_low x d p)) ∙ h.scale g y q (h.positive x d p) (lower_positive x d p))

  -- the fraction x / d in lowest terms
  abbrev pub lower : (x : R) (d : ℕ) → 0 < d → Fraction c
  lower x d p = record { top = c.divide x (c.content x d); low = d / c.content x d; positive = lower_positive x d p; lowest = lower_lowest x d p }

  -- f is x / d
  pub record Is (f : Fraction c) (x d : R) : Type 0 where
    pub size : ℕ
    pub positive : 0 < size
    pub number : d ≡ o.num size
    pub cross : o.mul (o.num f.low) x ≡ o.mul d f.top

  pub is_self : (f : Fraction c) → Is f f.top (o.num f.low)
  is_self f = record { size = f.low; positive = f.positive; number = refl; cross = refl }

  pub is_lower : (x : R) (d : ℕ) (p : 0 < d) → Is (lower x d p) x (o.num d)
  is_lower x d p =
      let g = c.content x d in
      let q = d / g in
      let y = c.divide x g in
      record {
        size = d;
        positive = p;
        number = refl;
        cross = ap (λ w. o.mul (o.num q) w) (sym (h.divide_is x d p)) ∙ sym (h.ring.mul_assoc (o.num q) (o.num g) y) ∙ ap (λ w. o.mul w y) (sym (num_mul o h.ring q g) ∙ ap o.num (mul_comm q g ∙ lower_low x d p));
      }

  pub same_parts : (f k : Fraction c) → f.top ≡ k.top → f.low ≡ k.low → f ≡ k
  same_parts f k p q = λ i. record {
    top = p i;
    low = q i;
    positive = is_prop→PathP (λ i. 0 < q i) (λ i. le_prop {n = 1} {m = q i}) f.positive k.positive i;
    lowest = is_prop→PathP (λ i. c.content (p i) (q i) ≡ 1) (λ i. ℕ_set (c.content (p i) (q i)) 1) f.lowest k.lowest i;
  }

  pub mul_positive : (m n : ℕ) → 0 < m → 0 < n → 0 < m * n
  mul_positive m n p q = grind arith

  -- fractions with equal products across are one
  pub same_across : (f k : Fraction c) → o.mul (o.num k.low) f.top ≡ o.mul (o.num f.low) k.top → f ≡ k
  same_across f k e =
      let low_k : c.content (o.mul (o.num k.low) f.top) (k.low * f.low) ≡ k.low = h.scale k.low f.top f.low k.positive f.positive ∙ ap (λ n. k.low * n) f.lowest ∙ omega arith in
      let low_f : c.content (o.mul (o.num f.low) k.top) (f.low * k.low) ≡ f.low = h.scale f.low k.top k.low f.positive k.positive ∙ ap (λ n. f.low * n) k.lowest ∙ omega arith in
      let lows : f.low ≡ k.low = sym low_f ∙ ap (λ w. c.content w (f.low * k.low)) (sym e) ∙ ap (λ n. c.content (o.mul (o.num k.low) f.top) n) (mul_comm f.low k.low) ∙ low_k in
      same_parts f k (h.cancel k.low f.top k.top k.positive (e ∙ ap (λ n. o.mul (o.num n) k.top) lows)) lows

  core : (d e l m x y t u : R) → o.mul l x ≡ o.mul d t → o.mul m y ≡ o.mul e u → o.mul e x ≡ o.mul d y → o.mul (o.mul d e) (o.mul m t) ≡ o.mul (o.mul d e) (o.mul l u)
  core d e l m x y t u p q s =
      combine (o.mul (o.mul d e) (o.mul m t)) (o.mul (o.mul d e) (o.mul l u))
      (o.add (o.add (o.mul (o.mul e m) (o.mul d t)) (o.mul (o.mul l d) (o.mul m y))) (o.mul (o.mul l m) (o.mul e x)))
      (o.add (o.add (o.mul (o.mul e m) (o.mul l x)) (o.mul (o.mul l d) (o.mul e u))) (o.mul (o.mul l m) (o.mul d y)))
      (cc (p, q, s))
      (solve o h.ring (at (o.num 0) (d ∷ e ∷ l ∷ m ∷ x ∷ y ∷ t ∷ u ∷ []))
      (Add (Mul (Mul d' e') (Mul m' t')) (Add (Add (Mul (Mul e' m') (Mul l' x')) (Mul (Mul l' d') (Mul e' u'))) (Mul (Mul l' m') (Mul d' y'))))
      (Add (Mul (Mul d' e') (Mul l' u')) (Add (Add (Mul (Mul e' m') (Mul d' t')) (Mul (Mul l' d') (Mul m' y'))) (Mul (Mul l' m') (Mul e' x'))))
      refl)

  -- what represents one number represents one fraction
  pub same_from_is : (f k : Fraction c) (x d y e : R) → Is f x d → Is k y e → o.mul e x ≡ o.mul d y → f ≡ k
  same_from_is f k x d y e p q s =
      same_across f k (h.cancel (p.size * q.size) (o.mul (o.num k.low) f.top) (o.mul (o.num f.low) k.top) (mul_positive p.size q.size p.positive q.positive)
      (ap (λ w. o.mul w (o.mul (o.num k.low) f.top)) (num_mul o h.ring p.size q.size ∙ both)
      ∙ core d e (o.num f.low) (o.num k.low) x y f.top k.top p.cross q.cross s
      ∙ sym (ap (λ w. o.mul w (o.mul (o.num f.low) k.top)) (num_mul o h.ring p.size q.size ∙ both))))
    where
      both : o.mul (o.num p.size) (o.num q.size) ≡ o.mul d e
      both = sym (cc (p.number, q.number))

  pub above_zero : (n : ℕ) → 0 < suc n
  above_zero n = omega arith

  pub one_positive : 0 < 1
  one_positive = omega arith

  abbrev pub nought : Fraction c
  nought = lower (o.num 0) 1 one_positive

  abbrev pub unit : Fraction c
  unit = lower (o.num 1) 1 one_positive

  abbrev pub minus : Fraction c → Fraction c
  minus f = lower (o.neg f.top) f.low f.positive

  abbrev pub sum : Fraction c → Fraction c → Fraction c
  sum f k = lower (o.add (o.mul (o.num k.low) f.top) (o.mul (o.num f.low) k.top)) (f.low * k.low) (mul_positive f.low k.low f.positive k.positive)

  abbrev pub times : Fraction c → Fraction c → Fraction c
  times f k = lower (o.mul f.top k.top) (f.low * k.low) (mul_positive f.low k.low f.positive k.positive)

  -- the inverse, or zero where there is none
  abbrev pub inverse_over : Fraction c → ℕ → Fraction c
  inverse_over f zero = nought
  inverse_over f (suc n) = lower (o.mul (o.num f.low) (c.cofactor f.top)) (suc n) (above_zero n)

  abbrev pub inverse : Fraction c → Fraction c
  inverse f = inverse_over f (c.size f.top)

  is_nought : Is nought (o.num 0) (o.num 1)
  is_nought = is_lower (o.num 0) 1 one_positive

  is_unit : Is unit (o.num 1) (o.num 1)
  is_unit = is_lower (o.num 1) 1 one_positive

  -- l (-x) = d t' where t' over l is (-t) / f, l x = d t ..
  core_neg : (d f l x t w : R) → o.mul f x ≡ o.mul d t → o.mul l (o.neg t) ≡ o.mul f w → o.mul f (o.mul l (o.neg x)) ≡ o.mul f (o.mul d w)
  core_neg d f l x t w p q =
      combine (o.mul f (o.mul l (o.neg x))) (o.mul f (o.mul d w))
      (o.add (o.mul l (o.mul d t)) (o.mul d (o.mul l (o.neg t))))
      (o.add (o.mul l (o.mul f x)) (o.mul d (o.mul f w)))
      (cc (p, q))
      (solve o h.ring (at (o.num 0) (d ∷ f ∷ l ∷ x ∷ t ∷ w ∷ []))
      (Add (Mul e' (Mul l' (Neg m'))) (Add (Mul l' (Mul e' m')) (Mul d' (Mul e' y'))))
      (Add (Mul e' (Mul d' y')) (Add (Mul l' (Mul d' x')) (Mul d' (Mul l' (Neg x')))))
      refl)

  pub is_minus : (f : Fraction c) (x d : R) → Is f x d → Is (minus f) (o.neg x) d
  is_minus f x d p =
      let m = minus f in
      record {
        size = p.size;
        positive = p.positive;
        number = p.number;
        cross = h.cancel f.low (o.mul (o.num m.low) (o.neg x)) (o.mul d m.top) f.positive
            (core_neg d (o.num f.low) (o.num m.low) x f.top m.top p.cross (is_lower (o.neg f.top) f.low f.positive).cross);
      }

  -- d = 0, e = 1, f = 2, k = 3, l = 4, x = 5, y = 6, t = 7, u = 8, w = 9
  core_sum : (d e f k l x y t u w : R) → o.mul f x ≡ o.mul d t → o.mul k y ≡ o.mul e u → o.mul l (o.add (o.mul k t) (o.mul f u)) ≡ o.mul (o.mul f k) w
      → o.mul (o.mul f k) (o.mul l (o.add (o.mul e x) (o.mul d y))) ≡ o.mul (o.mul f k) (o.mul (o.mul d e) w)
  core_sum d e f k l x y t u w p q s =
      combine (o.mul (o.mul f k) (o.mul l (o.add (o.mul e x) (o.mul d y)))) (o.mul (o.mul f k) (o.mul (o.mul d e) w))
      (o.add (o.add (o.mul (o.mul l (o.mul k e)) (o.mul f x)) (o.mul (o.mul l (o.mul f d)) (o.mul k y))) (o.mul (o.mul d e) (o.mul l (o.add (o.mul k t) (o.mul f u)))))
      (o.add (o.add (o.mul (o.mul l (o.mul k e)) (o.mul d t)) (o.mul (o.mul l (o.mul f d)) (o.mul e u))) (o.mul (o.mul d e) (o.mul (o.mul f k) w)))
      (cc (p, q, s))
      (solve o h.ring (at (o.num 0) (d ∷ e ∷ f ∷ k ∷ l ∷ x ∷ y ∷ t ∷ u ∷ w ∷ []))
      (Add (Mul (Mul f1 k1) (Mul l1 (Add (Mul e1 x1) (Mul d1 y1)))) (Add (Add (Mul (Mul l1 (Mul k1 e1)) (Mul d1 t1)) (Mul (Mul l1 (Mul f1 d1)) (Mul e1 u1))) (Mul (Mul d1 e1) (Mul (Mul f1 k1) w1))))
      (Add (Mul (Mul f1 k1) (Mul (Mul d1 e1) w1)) (Add (Add (Mul (Mul l1 (Mul k1 e1)) (Mul f1 x1)) (Mul (Mul l1 (Mul f1 d1)) (Mul k1 y1))) (Mul (Mul d1 e1) (Mul l1 (Add (Mul k1 t1) (Mul f1 u1))))))
      refl)

  product_number : {f k : Fraction c} {x d y e : R} (p : Is f x d) (q : Is k y e) → o.mul d e ≡ o.num (p.size * q.size)
  product_number p q = cc (p.number, q.number, num_mul o h.ring p.size q.size)

  pub is_sum : (f k : Fraction c) (x d y e : R) → Is f x d → Is k y e → Is (sum f k) (o.add (o.mul e x) (o.mul d y)) (o.mul d e)
  is_sum f k x d y e p q =
      let m = sum f k in
      let low = num_mul o h.ring f.low k.low in
      let l : Is m (o.add (o.mul (o.num k.low) f.top) (o.mul (o.num f.low) k.top)) (o.num (f.low * k.low)) = is_lower (o.add (o.mul (o.num k.low) f.top) (o.mul (o.num f.low) k.top)) (f.low * k.low) (mul_positive f.low k.low f.positive k.positive) in
      record {
        size = p.size * q.size;
        positive = mul_positive p.size q.size p.positive q.positive;
        number = product_number p q;
        cross = h.cancel (f.low * k.low) (o.mul (o.num m.low) (o.add (o.mul e x) (o.mul d y))) (o.mul (o.mul d e) m.top) (mul_positive f.low k.low f.positive k.positive)
            (ap (λ w. o.mul w (o.mul (o.num m.low) (o.add (o.mul e x) (o.mul d y)))) low
            ∙ core_sum d e (o.num f.low) (o.num k.low) (o.num m.low) x y f.top k.top m.top p.cross q.cross (l.cross ∙ ap (λ w. o.mul w m.top) low)
            ∙ sym (ap (λ w. o.mul w (o.mul (o.mul d e) m.top)) low));
      }

  -- f k (l (x y)) = f k (d e w)
  core_times : (d e f k l x y t u w : R) → o.mul f x ≡ o.mul d t → o.mul k y ≡ o.mul e u → o.mul l (o.mul t u) ≡ o.mul (o.mul f k) w
      → o.mul (o.mul f k) (o.mul l (o.mul x y)) ≡ o.mul (o.mul f k) (o.mul (o.mul d e) w)
  core_times d e f k l x y t u w p q s =
      solve o h.ring (at (o.num 0) (d ∷ e ∷ f ∷ k ∷ l ∷ x ∷ y ∷ t ∷ u ∷ w ∷ [])) (Mul (Mul f1 k1) (Mul l1 (Mul x1 y1))) (Mul l1 (Mul (Mul f1 x1) (Mul k1 y1))) refl
      ∙ cc (p, q)
      ∙ solve o h.ring (at (o.num 0) (d ∷ e ∷ f ∷ k ∷ l ∷ x ∷ y ∷ t ∷ u ∷ w ∷ [])) (Mul l1 (Mul (Mul d1 t1) (Mul e1 u1))) (Mul (Mul d1 e1) (Mul l1 (Mul t1 u1))) refl
      ∙ ap (λ v. o.mul (o.mul d e) v) s
      ∙ solve o h.ring (at (o.num 0) (d ∷ e ∷ f ∷ k ∷ l ∷ x ∷ y ∷ t ∷ u ∷ w ∷ [])) (Mul (Mul d1 e1) (Mul (Mul f1 k1) w1)) (Mul (Mul f1 k1) (Mul (Mul d1 e1) w1)) refl

  pub is_times : (f k : Fraction c) (x d y e : R) → Is f x d → Is k y e → Is (times f k) (o.mul x y) (o.mul d e)
  is_times f k x d y e p q =
      let m = times f k in
      let low = num_mul o h.ring f.low k.low in
      let l : Is m (o.mul f.top k.top) (o.num (f.low * k.low)) = is_lower (o.mul f.top k.top) (f.low * k.low) (mul_positive f.low k.low f.positive k.positive) in
      record {
        size = p.size * q.size;
        positive = mul_positive p.size q.size p.positive q.positive;
        number = product_number p q;
        cross = h.cancel (f.low * k.low) (o.mul (o.num m.low) (o.mul x y)) (o.mul (o.mul d e) m.top) (mul_positive f.low k.low f.positive k.positive)
            (ap (λ w. o.mul w (o.mul (o.num m.low) (o.mul x y))) low
            ∙ core_times d e (o.num f.low) (o.num k.low) (o.num m.low) x y f.top k.top m.top p.cross q.cross (l.cross ∙ ap (λ w. o.mul w m.top) low)
            ∙ sym (ap (λ w. o.mul w (o.mul (o.mul d e) m.top)) low));
      }

  -- the sum over a common multiple of the denominators: x q + y p over (g p) q is the sum of x / (g p) and y / (g q)
  pub sum_over : (f k : Fraction c) (g p q : ℕ) (low : 0 < f.low * q) → f.low ≡ g * p → k.low ≡ g * q → lower (o.add (o.mul (o.num q) f.top) (o.mul (o.num p) k.top)) (f.low * q) low ≡ sum f k
  sum_over f k g p q low a b =
      let d = o.num f.low in let e = o.num k.low in let x = f.top in let y = k.top in
      let w = o.add (o.mul (o.num q) x) (o.mul (o.num p) y) in
      same_from_is (lower w (f.low * q) low) (sum f k) w (o.num (f.low * q)) (o.add (o.mul e x) (o.mul d y)) (o.mul d e)
      (is_lower w (f.low * q) low) (is_sum f k x d y e (is_self f) (is_self k))
      (cc (
        ap o.num a ∙ num_mul o h.ring g p,
        ap o.num b ∙ num_mul o h.ring g q,
        num_mul o h.ring f.low q,
        solve o h.ring (at (o.num 0) (o.num g ∷ o.num p ∷ o.num q ∷ x ∷ y ∷ []))
            (Mul (Mul (Mul d1 e1) (Mul d1 f1)) (Add (Mul f1 k1) (Mul e1 l1)))
            (Mul (Mul (Mul d1 e1) f1) (Add (Mul (Mul d1 f1) k1) (Mul (Mul d1 e1) l1)))
            refl,
      ))

  pub sum_assoc : (f k m : Fraction c) → sum (sum f k) m ≡ sum f (sum k m)
  sum_assoc f k m =
      let d = o.num f.low in let e = o.num k.low in let g = o.num m.low in let x = f.top in let y = k.top in let z = m.top in
      same_from_is (sum (sum f k) m) (sum f (sum k m))
      (o.add (o.mul g (o.add (o.mul e x) (o.mul d y))) (o.mul (o.mul d e) z)) (o.mul (o.mul d e) g)
      (o.add (o.mul (o.mul e g) x) (o.mul d (o.add (o.mul g y) (o.mul e z)))) (o.mul d (o.mul e g))
      (is_sum (sum f k) m (o.add (o.mul e x) (o.mul d y)) (o.mul d e) z g (is_sum f k x d y e (is_self f) (is_self k)) (is_self m))
      (is_sum f (sum k m) x d (o.add (o.mul g y) (o.mul e z)) (o.mul e g) (is_self f) (is_sum k m y e z g (is_self k) (is_self m)))
      (solve o h.ring (at (o.num 0) (d ∷ e ∷ g ∷ x ∷ y ∷ z ∷ []))
      (Mul (Mul d1 (Mul e1 f1)) (Add (Mul f1 (Add (Mul e1 k1) (Mul d1 l1))) (Mul (Mul d1 e1) x1)))
      (Mul (Mul (Mul d1 e1) f1) (Add (Mul (Mul e1 f1) k1) (Mul d1 (Add (Mul f1 l1) (Mul e1 x1)))))
      refl)

  pub sum_comm : (f k : Fraction c) → sum f k ≡ sum k f
  sum_comm f k =
      let d = o.num f.low in let e = o.num k.low in let x = f.top in let y = k.top in
      same_from_is (sum f k) (sum k f) (o.add (o.mul e x) (o.mul d y)) (o.mul d e) (o.add (o.mul d y) (o.mul e x)) (o.mul e d)
      (is_sum f k x d y e (is_self f) (is_self k)) (is_sum k f y e x d (is_self k) (is_self f))
      (solve o h.ring (at (o.num 0) (d ∷ e ∷ x ∷ y ∷ [])) (Mul (Mul e1 d1) (Add (Mul e1 f1) (Mul d1 k1))) (Mul (Mul d1 e1) (Add (Mul d1 k1) (Mul e1 f1))) refl)

  pub sum_nought : (f : Fraction c) → sum nought f ≡ f
  sum_nought f =
      let d = o.num f.low in let x = f.top in
      same_from_is (sum nought f) f (o.add (o.mul d (o.num 0)) (o.mul (o.num 1) x)) (o.mul (o.num 1) d) x d
      (is_sum nought f (o.num 0) (o.num 1) x d is_nought (is_self f)) (is_self f)
      (solve o h.ring (at (o.num 0) (d ∷ x ∷ [])) (Mul d1 (Add (Mul d1 (K 0)) (Mul (K 1) e1))) (Mul (Mul (K 1) d1) e1) refl)

  pub sum_minus : (f : Fraction c) → sum f (minus f) ≡ nought
  sum_minus f =
      let d = o.num f.low in let x = f.top in
      same_from_is (sum f (minus f)) nought (o.add (o.mul d x) (o.mul d (o.neg x))) (o.mul d d) (o.num 0) (o.num 1)
      (is_sum f (minus f) x d (o.neg x) d (is_self f) (is_minus f x d (is_self f))) is_nought
      (solve o h.ring (at (o.num 0) (d ∷ x ∷ [])) (Mul (K 1) (Add (Mul d1 e1) (Mul d1 (Neg e1)))) (Mul (Mul d1 d1) (K 0)) refl)

  pub times_assoc : (f k m : Fraction c) → times (times f k) m ≡ times f (times k m)
  times_assoc f k m =
      let d = o.num f.low in let e = o.num k.low in let g = o.num m.low in let x = f.top in let y = k.top in let z = m.top in
      same_from_is (times (times f k) m) (times f (times k m))
      (o.mul (o.mul x y) z) (o.mul (o.mul d e) g) (o.mul x (o.mul y z)) (o.mul d (o.mul e g))
      (is_times (times f k) m (o.mul x y) (o.mul d e) z g (is_times f k x d y e (is_self f) (is_self k)) (is_self m))
      (is_times f (times k m) x d (o.mul y z) (o.mul e g) (is_self f) (is_times k m y e z g (is_self k) (is_self m)))
      (solve o h.ring (at (o.num 0) (d ∷ e ∷ g ∷ x ∷ y ∷ z ∷ [])) (Mul (Mul d1 (Mul e1 f1)) (Mul (Mul k1 l1) x1)) (Mul (Mul (Mul d1 e1) f1) (Mul k1 (Mul l1 x1))) refl)

  pub times_comm : (f k : Fraction c) → times f k ≡ times k f
  times_comm f k =
      let d = o.num f.low in let e = o.num k.low in let x = f.top in let y = k.top in
      same_from_is (times f k) (times k f) (o.mul x y) (o.mul d e) (o.mul y x) (o.mul e d)
      (is_times f k x d y e (is_self f) (is_self k)) (is_times k f y e x d (is_self k) (is_self f))
      (solve o h.ring (at (o.num 0) (d ∷ e ∷ x ∷ y ∷ [])) (Mul (Mul e1 d1) (Mul f1 k1)) (Mul (Mul d1 e1) (Mul k1 f1)) refl)

  pub times_unit : (f : Fraction c) → times unit f ≡ f
  times_unit f =
      let d = o.num f.low in let x = f.top in
      same_from_is (times unit f) f (o.mul (o.num 1) x) (o.mul (o.num 1) d) x d
      (is_times unit f (o.num 1) (o.num 1) x d is_unit (is_self f)) (is_self f)
      (solve o h.ring (at (o.num 0) (d ∷ x ∷ [])) (Mul d1 (Mul (K 1) e1)) (Mul (Mul (K 1) d1) e1) refl)

  pub times_sum : (f k m : Fraction c) → times f (sum k m) ≡ sum (times f k) (times f m)
  times_sum f k m =
      let d = o.num f.low in let e = o.num k.low in let g = o.num m.low in let x = f.top in let y = k.top in let z = m.top in
      same_from_is (times f (sum k m)) (sum (times f k) (times f m))
      (o.mul x (o.add (o.mul g y) (o.mul e z))) (o.mul d (o.mul e g))
      (o.add (o.mul (o.mul d g) (o.mul x y)) (o.mul (o.mul d e) (o.mul x z))) (o.mul (o.mul d e) (o.mul d g))
      (is_times f (sum k m) x d (o.add (o.mul g y) (o.mul e z)) (o.mul e g) (is_self f) (is_sum k m y e z g (is_self k) (is_self m)))
      (is_sum (times f k) (times f m) (o.mul x y) (o.mul d e) (o.mul x z) (o.mul d g) (is_times f k x d y e (is_self f) (is_self k)) (is_times f m x d z g (is_self f) (is_self m)))
      (solve o h.ring (at (o.num 0) (d ∷ e ∷ g ∷ x ∷ y ∷ z ∷ []))
      (Mul (Mul (Mul d1 e1) (Mul d1 f1)) (Mul k1 (Add (Mul f1 l1) (Mul e1 x1))))
      (Mul (Mul d1 (Mul e1 f1)) (Add (Mul (Mul d1 f1) (Mul k1 l1)) (Mul (Mul d1 e1) (Mul k1 x1))))
      refl)

  -- a fraction whose top is zero is zero
  pub zero_top : (f : Fraction c) → f.top ≡ o.num 0 → f ≡ nought
  zero_top f e =
      same_from_is f nought f.top (o.num f.low) (o.num 0) (o.num 1) (is_self f) is_nought
      (ap (λ w. o.mul (o.num 1) w) e ∙ solve o h.ring (at (o.num 0) (o.num f.low ∷ [])) (Mul (K 1) (K 0)) (Mul d1 (K 0)) refl)

  times_inverse_over : (f : Fraction c) (n : ℕ) → c.size f.top ≡ n → 0 < n → times f (inverse_over f n) ≡ unit
  times_inverse_over f zero e p = absurd (omega arith)
  times_inverse_over f (suc n) e p =
      let d = o.num f.low in let x = f.top in let y = c.cofactor f.top in
      same_from_is (times f (inverse_over f (suc n))) unit (o.mul x (o.mul d y)) (o.mul d (o.num (suc n))) (o.num 1) (o.num 1)
      (is_times f (inverse_over f (suc n)) x d (o.mul d y) (o.num (suc n)) (is_self f) (is_lower (o.mul d y) (suc n) (above_zero n)))
      is_unit
      (solve o h.ring (at (o.num 0) (d ∷ x ∷ y ∷ [])) (Mul (K 1) (Mul e1 (Mul d1 f1))) (Mul d1 (Mul e1 f1)) refl
      ∙ ap (λ w. o.mul d w) (h.cofactor_is x ∙ ap o.num e)
      ∙ solve o h.ring (at (o.num 0) (d ∷ o.num (suc n) ∷ [])) (Mul d1 e1) (Mul (Mul d1 e1) (K 1)) refl)

  pub is_nought_top : (f : Fraction c) → c.is_zero f.top ≡ true → f ≡ nought
  is_nought_top f e = zero_top f (h.is_zero-true f.top e)

  pub times_inverse : (f : Fraction c) → c.is_zero f.top ≡ false → times f (inverse f) ≡ unit
  times_inverse f a = times_inverse_over f (c.size f.top) refl (h.size_is f.top a)

  pub nought_top : nought.top ≡ o.num 0
  nought_top = sym (h.ring.mul_one nought.top) ∙ sym is_nought.cross ∙ Rings.mul_zero o h.ring (o.num nought.low)

  pub unit_apart : unit ≢ nought
  unit_apart e =
      let top : unit.top ≡ o.num 0 = ap (λ (f : Fraction c). f.top) e ∙ nought_top in
      h.num_apart unit.low unit.positive
      (sym (h.ring.mul_one (o.num unit.low)) ∙ h.ring.mul_comm (o.num 1) (o.num unit.low) ∙ is_unit.cross ∙ ap (λ w. o.mul (o.num 1) w) top ∙ h.ring.mul_one (o.num 0))

  pub false_unless : (f : Fraction c) → f ≢ nought → c.is_zero f.top ≡ false
  false_unless f a = by_test (λ b. b ≡ false) (c.is_zero f.top) (λ e. absurd (a (is_nought_top f e))) (λ _. refl)

  -- the field of fractions
  abbrev pub fractions : FieldOn (Fraction c)
  fractions = record {
    nought = nought;
    unit = unit;
    neg = minus;
    plus = sum;
    times = times;
    inverse = inverse;
    is_nought = λ f. c.is_zero f.top;
    plus_comm = sum_comm;
    plus_assoc = sum_assoc;
    plus-nought = λ f. sum_comm f nought ∙ sum_nought f;
    plus-neg = sum_minus;
    times_comm = times_comm;
    times_assoc = times_assoc;
    times-unit = λ f. times_comm f unit ∙ times_unit f;
    times-plus = times_sum;
    times-inverse = times_inverse;
    is_nought-true = is_nought_top;
    is_nought-nought = ap c.is_zero nought_top ∙ h.is_zero-zero;
    is_nought-unit = false_unless unit unit_apart;
  }

  pub is_ones : (k : ℕ) → Is (ones fractions k) (o.num k) (o.num 1)
  is_ones zero = is_nought
  is_ones (suc k) =
      let s = is_sum unit (ones fractions k) (o.num 1) (o.num 1) (o.num k) (o.num 1) is_unit (is_ones k) in
      let P : R → R → Type 0 = λ x d. Is (sum unit (ones fractions k)) x d in
      subst (λ x. P x (o.num 1)) (cc (h.ring.mul_one (o.num 1), h.ring.mul_one (o.num k), h.ring.num_suc k))
      (subst (λ d. P (o.add (o.mul (o.num 1) (o.num 1)) (o.mul (o.num 1) (o.num k))) d) (h.ring.mul_one (o.num 1)) s)

  ones_apart : (k : ℕ) → ones fractions (suc k) ≢ nought
  ones_apart k e =
      let s = is_ones (suc k) in
      let low = (ones fractions (suc k)).low in
      -- low (k + 1) = top = 0
      let top : o.mul (o.num 1) (ones fractions (suc k)).top ≡ o.num 0 = ap (λ (f : Fraction c). o.mul (o.num 1) f.top) e ∙ sym is_nought.cross ∙ Rings.mul_zero o h.ring (o.num nought.low) in
      h.num_apart (low * suc k) (mul_positive low (suc k) (ones fractions (suc k)).positive (above_zero k)) (num_mul o h.ring low (suc k) ∙ s.cross ∙ top)

  -- no sum of ones is zero
  pub ones-not_nought : (k : ℕ) → c.is_zero (ones fractions (suc k)).top ≡ false
  ones-not_nought k = false_unless (ones fractions (suc k)) (ones_apart k)
