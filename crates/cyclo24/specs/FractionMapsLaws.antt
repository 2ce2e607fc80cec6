-- Maps from fractions to fractions by a map of their numerators.
--
-- IsLinear φ: a map of rings that respects sums and multiples
-- mapped φ k f: φ x over k d, where f is x / d
-- mapped-sum, mapped-times, mapped-mapped: of sums, products and of another map
use Rattle.std.proofs.Common.{◌≡◌, ℕ, ◌*◌, ◌<◌, refl, sym, ap, ◌∙◌, arith, [], ◌∷◌}
use Rattle.std.proofs.Math.Nat.{mul_assoc}
use Rattle.algebra.specs.Ring.{Ops}
use Rattle.cyclo24.specs.Fraction.{Content, IsContent, Fraction}
use Rattle.cyclo24.specs.FractionLaws.{lower, Is, is_self, is_lower, same_from_is, mul_positive, is_sum, is_times, sum, times, minus, is_minus, nought, one_positive}
use Rattle.algebra.specs.Solve.{V, K, Add, Mul, at}
use Rattle.algebra.specs.SolveLaws.{solve, num_mul}

-- a map that respects sums and multiples
pub record IsLinear {R S : Type 0} (o : Ops R) (o' : Ops S) (φ : R → S) : Type 0 where
  pub plus : (x y : R) → φ (o.add x y) ≡ o'.add (φ x) (φ y)
  pub multiple : (n : ℕ) (x : R) → φ (o.mul (o.num n) x) ≡ o'.mul (o'.num n) (φ x)

module _ {R S : Type 0} (o : Ops R) (c : Content o) (h : IsContent o c) (o' : Ops S) (c' : Content o') (h' : IsContent o' c') where
  -- φ x over k d
  abbrev pub mapped : (R → S) → (k : ℕ) → 0 < k → Fraction c → Fraction c'
  mapped φ k p f = lower o' c' h' (φ f.top) (k * f.low) (mul_positive o c h k f.low p f.positive)

  -- f (m x) = m (s t) where f x = s t; and m t = k f w: so f (m x) = f (k s w)
  core_mapped : (f m s k x t w : S) → o'.mul f x ≡ o'.mul s t → o'.mul m t ≡ o'.mul (o'.mul k f) w → o'.mul f (o'.mul m x) ≡ o'.mul f (o'.mul (o'.mul k s) w)
  core_mapped f m s k x t w p q =
      let v = at (o'.num 0) (f ∷ m ∷ s ∷ k ∷ x ∷ t ∷ w ∷ []) in
      solve o' h'.ring v (Mul (V 0) (Mul (V 1) (V 4))) (Mul (V 1) (Mul (V 0) (V 4))) refl
      ∙ ap (λ y. o'.mul m y) p
      ∙ solve o' h'.ring v (Mul (V 1) (Mul (V 2) (V 5))) (Mul (V 2) (Mul (V 1) (V 5))) refl
      ∙ ap (λ y. o'.mul s y) q
      ∙ solve o' h'.ring v (Mul (V 2) (Mul (Mul (V 3) (V 0)) (V 6))) (Mul (V 0) (Mul (Mul (V 3) (V 2)) (V 6))) refl

  -- where f is x / n
  pub is_mapped : (φ : R → S) (k : ℕ) (p : 0 < k) → IsLinear o o' φ → (f : Fraction c) (x : R) (n : ℕ) → 0 < n → o.mul (o.num f.low) x ≡ o.mul (o.num n) f.top → Is o' c' h' (mapped φ k p f) (φ x) (o'.num (k * n))
  is_mapped φ k p l f x n q e =
      let m = mapped φ k p f in
      let split = num_mul o' h'.ring in
      let across : o'.mul (o'.num f.low) (φ x) ≡ o'.mul (o'.num n) (φ f.top) = sym (l.multiple f.low x) ∙ ap φ e ∙ l.multiple n f.top in
      let low : Is o' c' h' m (φ f.top) (o'.num (k * f.low)) = is_lower o' c' h' (φ f.top) (k * f.low) (mul_positive o c h k f.low p f.positive) in
      record {
        size = k * n;
        positive = mul_positive o c h k n p q;
        number = refl;
        cross = h'.cancel f.low (o'.mul (o'.num m.low) (φ x)) (o'.mul (o'.num (k * n)) m.top) f.positive
            (core_mapped (o'.num f.low) (o'.num m.low) (o'.num n) (o'.num k) (φ x) (φ f.top) m.top across (low.cross ∙ ap (λ y. o'.mul y m.top) (split k f.low))
            ∙ ap (λ y. o'.mul (o'.num f.low) (o'.mul y m.top)) (sym (split k n)));
      }

  pub is_mapped-self : (φ : R → S) (k : ℕ) (p : 0 < k) → IsLinear o o' φ → (f : Fraction c) → Is o' c' h' (mapped φ k p f) (φ f.top) (o'.num (k * f.low))
  is_mapped-self φ k p l f = is_mapped φ k p l f f.top f.low f.positive refl

  -- of a sum
  pub mapped-sum : (φ : R → S) (k : ℕ) (p : 0 < k) → IsLinear o o' φ → (f g : Fraction c) → mapped φ k p (sum o c h f g) ≡ sum o' c' h' (mapped φ k p f) (mapped φ k p g)
  mapped-sum φ k p l f g =
      let n = num_mul o' h'.ring in
      let x = f.top in let y = g.top in
      let a = o'.num f.low in let b = o'.num g.low in let e = o'.num k in
      let s = is_sum o c h f g x (o.num f.low) y (o.num g.low) (is_self o c h f) (is_self o c h g) in
      let both : φ (o.add (o.mul (o.num g.low) x) (o.mul (o.num f.low) y)) ≡ o'.add (o'.mul b (φ x)) (o'.mul a (φ y)) =
      l.plus (o.mul (o.num g.low) x) (o.mul (o.num f.low) y) ∙ cc (l.multiple g.low x, l.multiple f.low y)
      in
      same_from_is o' c' h' (mapped φ k p (sum o c h f g)) (sum o' c' h' (mapped φ k p f) (mapped φ k p g))
      (φ (o.add (o.mul (o.num g.low) x) (o.mul (o.num f.low) y))) (o'.num (k * (f.low * g.low)))
      (o'.add (o'.mul (o'.num (k * g.low)) (φ x)) (o'.mul (o'.num (k * f.low)) (φ y))) (o'.mul (o'.num (k * f.low)) (o'.num (k * g.low)))
      (is_mapped φ k p l (sum o c h f g) (o.add (o.mul (o.num g.low) x) (o.mul (o.num f.low) y)) (f.low * g.low) (mul_positive o c h f.low g.low f.positive g.positive) (s.cross ∙ ap (λ w. o.mul w (sum o c h f g).top) (sym (num_mul o h.ring f.low g.low))))
      (is_sum o' c' h' (mapped φ k p f) (mapped φ k p g) (φ x) (o'.num (k * f.low)) (φ y) (o'.num (k * g.low))
      (is_mapped-self φ k p l f) (is_mapped-self φ k p l g))
      (sums a b e (φ x) (φ y) (φ (o.add (o.mul (o.num g.low) x) (o.mul (o.num f.low) y))) (o'.num (k * f.low)) (o'.num (k * g.low)) (o'.num (k * (f.low * g.low)))
      both (n k f.low) (n k g.low) (n k (f.low * g.low) ∙ ap (λ y. o'.mul e y) (n f.low g.low)))
    where
      sums : (a b e x y z ka kb kab : S) → z ≡ o'.add (o'.mul b x) (o'.mul a y) → ka ≡ o'.mul e a → kb ≡ o'.mul e b → kab ≡ o'.mul e (o'.mul a b)
          → o'.mul (o'.mul ka kb) z ≡ o'.mul kab (o'.add (o'.mul kb x) (o'.mul ka y))
      sums a b e x y z ka kb kab p q r t =
          cc (
            p,
            q,
            r,
            t,
            solve o' h'.ring (at (o'.num 0) (a ∷ b ∷ e ∷ x ∷ y ∷ []))
                (Mul (Mul (Mul (V 2) (V 0)) (Mul (V 2) (V 1))) (Add (Mul (V 1) (V 3)) (Mul (V 0) (V 4))))
                (Mul (Mul (V 2) (Mul (V 0) (V 1))) (Add (Mul (Mul (V 2) (V 1)) (V 3)) (Mul (Mul (V 2) (V 0)) (V 4)))) refl,
          )

  -- of a product
  pub mapped-times : (φ : R → S) (p : 0 < 1) → IsLinear o o' φ → ((x y : R) → φ (o.mul x y) ≡ o'.mul (φ x) (φ y)) → (f g : Fraction c)
      → mapped φ 1 p (times o c h f g) ≡ times o' c' h' (mapped φ 1 p f) (mapped φ 1 p g)
  mapped-times φ p l t f g =
      let n = num_mul o' h'.ring in
      let x = f.top in let y = g.top in
      let s = is_times o c h f g x (o.num f.low) y (o.num g.low) (is_self o c h f) (is_self o c h g) in
      same_from_is o' c' h' (mapped φ 1 p (times o c h f g)) (times o' c' h' (mapped φ 1 p f) (mapped φ 1 p g))
      (φ (o.mul x y)) (o'.num (1 * (f.low * g.low))) (o'.mul (φ x) (φ y)) (o'.mul (o'.num (1 * f.low)) (o'.num (1 * g.low)))
      (is_mapped φ 1 p l (times o c h f g) (o.mul x y) (f.low * g.low) (mul_positive o c h f.low g.low f.positive g.positive) (s.cross ∙ ap (λ w. o.mul w (times o c h f g).top) (sym (num_mul o h.ring f.low g.low))))
      (is_times o' c' h' (mapped φ 1 p f) (mapped φ 1 p g) (φ x) (o'.num (1 * f.low)) (φ y) (o'.num (1 * g.low))
      (is_mapped-self φ 1 p l f) (is_mapped-self φ 1 p l g))
      (cc (t x y, one f.low, one g.low, one (f.low * g.low), n f.low g.low))
    where
      one : (m : ℕ) → o'.num (1 * m) ≡ o'.num m
      one m = ap o'.num (omega arith)

  -- of a multiple: φ x = k (ψ x) over k is ψ x over 1
  pub mapped-same : (φ ψ : R → S) (k l : ℕ) (p : 0 < k) (q : 0 < l) → IsLinear o o' φ → IsLinear o o' ψ → ((x : R) → o'.mul (o'.num l) (φ x) ≡ o'.mul (o'.num k) (ψ x)) → (f : Fraction c)
      → mapped φ k p f ≡ mapped ψ l q f
  mapped-same φ ψ k l p q a b e f =
      let n = num_mul o' h'.ring in
      same_from_is o' c' h' (mapped φ k p f) (mapped ψ l q f) (φ f.top) (o'.num (k * f.low)) (ψ f.top) (o'.num (l * f.low))
      (is_mapped-self φ k p a f) (is_mapped-self ψ l q b f)
      (cross (o'.num k) (o'.num l) (o'.num f.low) (φ f.top) (ψ f.top) (o'.num (k * f.low)) (o'.num (l * f.low)) (e f.top) (n k f.low) (n l f.low))
    where
      cross : (k l d x y kd ld : S) → o'.mul l x ≡ o'.mul k y → kd ≡ o'.mul k d → ld ≡ o'.mul l d → o'.mul ld x ≡ o'.mul kd y
      cross k l d x y kd ld e p q =
          ap (λ w. o'.mul w x) q ∙ solve o' h'.ring (at (o'.num 0) (l ∷ d ∷ x ∷ [])) (Mul (Mul (V 0) (V 1)) (V 2)) (Mul (V 1) (Mul (V 0) (V 2))) refl
          ∙ ap (λ w. o'.mul d w) e ∙ solve o' h'.ring (at (o'.num 0) (k ∷ d ∷ y ∷ [])) (Mul (V 1) (Mul (V 0) (V 2))) (Mul (Mul (V 0) (V 1)) (V 2)) refl ∙ ap (λ w. o'.mul w y) (sym p)

  -- two maps in a sum
  pub sum-mapped : (φ ψ χ : R → S) (k : ℕ) (p : 0 < k) → IsLinear o o' φ → IsLinear o o' ψ → IsLinear o o' χ → ((x : R) → χ x ≡ o'.add (φ x) (ψ x)) → (f : Fraction c)
      → sum o' c' h' (mapped φ k p f) (mapped ψ k p f) ≡ mapped χ k p f
  sum-mapped φ ψ χ k p a b s e f =
      let d = o'.num (k * f.low) in let x = φ f.top in let y = ψ f.top in
      same_from_is o' c' h' (sum o' c' h' (mapped φ k p f) (mapped ψ k p f)) (mapped χ k p f) (o'.add (o'.mul d x) (o'.mul d y)) (o'.mul d d) (χ f.top) d
      (is_sum o' c' h' (mapped φ k p f) (mapped ψ k p f) x d y d (is_mapped-self φ k p a f) (is_mapped-self ψ k p b f))
      (is_mapped-self χ k p s f)
      (solve o' h'.ring (at (o'.num 0) (d ∷ x ∷ y ∷ [])) (Mul (V 0) (Add (Mul (V 0) (V 1)) (Mul (V 0) (V 2)))) (Mul (Mul (V 0) (V 0)) (Add (V 1) (V 2))) refl
      ∙ ap (λ w. o'.mul (o'.mul d d) w) (sym (e f.top)))

  -- a map to 0
  pub mapped-zero : (φ : R → S) (k : ℕ) (p : 0 < k) → IsLinear o o' φ → ((x : R) → φ x ≡ o'.num 0) → (f : Fraction c) → mapped φ k p f ≡ nought o' c' h'
  mapped-zero φ k p l e f =
      same_from_is o' c' h' (mapped φ k p f) (nought o' c' h') (φ f.top) (o'.num (k * f.low)) (o'.num 0) (o'.num 1)
      (is_mapped-self φ k p l f) (is_lower o' c' h' (o'.num 0) 1 (one_positive o' c' h'))
      (ap (λ w. o'.mul (o'.num 1) w) (e f.top) ∙ solve o' h'.ring (at (o'.num 0) (o'.num (k * f.low) ∷ [])) (Mul (K 1) (K 0)) (Mul (V 0) (K 0)) refl)

  -- x / d
  pub mapped-lower : (φ : R → S) (k : ℕ) (p : 0 < k) → IsLinear o o' φ → (x : R) (d : ℕ) (q : 0 < d) (r : 0 < k * d) → mapped φ k p (lower o c h x d q) ≡ lower o' c' h' (φ x) (k * d) r
  mapped-lower φ k p l x d q r =
      same_from_is o' c' h' (mapped φ k p (lower o c h x d q)) (lower o' c' h' (φ x) (k * d) r) (φ x) (o'.num (k * d)) (φ x) (o'.num (k * d))
      (is_mapped φ k p l (lower o c h x d q) x d q (is_lower o c h x d q).cross) (is_lower o' c' h' (φ x) (k * d) r) refl

-- one map after another
module _ {R S T : Type 0} (o : Ops R) (c : Content o) (h : IsContent o c) (o' : Ops S) (c' : Content o') (h' : IsContent o' c') (o'' : Ops T) (c'' : Content o'') (h'' : IsContent o'' c'') where
  pub mapped-mapped : (φ : R → S) (ψ : S → T) (k l : ℕ) (p : 0 < k) (q : 0 < l) (r : 0 < l * k) → IsLinear o o' φ → IsLinear o' o'' ψ → IsLinear o o'' (λ x. ψ (φ x)) → (f : Fraction c)
      → mapped o' c' h' o'' c'' h'' ψ l q (mapped o c h o' c' h' φ k p f) ≡ mapped o c h o'' c'' h'' (λ x. ψ (φ x)) (l * k) r f
  mapped-mapped φ ψ k l p q r a b s f =
      let m = mapped o c h o' c' h' φ k p f in
      same_from_is o'' c'' h'' (mapped o' c' h' o'' c'' h'' ψ l q m) (mapped o c h o'' c'' h'' (λ x. ψ (φ x)) (l * k) r f)
      (ψ (φ f.top)) (o''.num (l * (k * f.low))) (ψ (φ f.top)) (o''.num (l * k * f.low))
      (is_mapped o' c' h' o'' c'' h'' ψ l q b m (φ f.top) (k * f.low) (mul_positive o c h k f.low p f.positive) (is_mapped-self o c h o' c' h' φ k p a f).cross)
      (is_mapped-self o c h o'' c'' h'' (λ x. ψ (φ x)) (l * k) r s f)
      (ap (λ n. o''.mul (o''.num n) (ψ (φ f.top))) (mul_assoc l k f.low))

module _ {R : Type 0} (o : Ops R) (c : Content o) (h : IsContent o c) where
  -- the map that gives each member itself
  pub mapped-itself : (p : 0 < 1) → (f : Fraction c) → mapped o c h o c h (λ x. x) 1 p f ≡ f
  mapped-itself p f =
      let l : IsLinear o o (λ x. x) = record { plus = λ x y. refl; multiple = λ n x. refl } in
      same_from_is o c h (mapped o c h o c h (λ x. x) 1 p f) f f.top (o.num (1 * f.low)) f.top (o.num f.low)
      (is_mapped-self o c h o c h (λ x. x) 1 p l f) (is_self o c h f)
      (ap (λ n. o.mul (o.num n) f.top) (omega arith))

  -- a product with a member of the ring
  pub times-member : (a : R) (p q : 0 < 1) → IsLinear o o (λ x. o.mul a x) → (f : Fraction c) → times o c h (lower o c h a 1 p) f ≡ mapped o c h o c h (λ x. o.mul a x) 1 q f
  times-member a p q l f =
      same_from_is o c h (times o c h (lower o c h a 1 p) f) (mapped o c h o c h (λ x. o.mul a x) 1 q f)
      (o.mul a f.top) (o.mul (o.num 1) (o.num f.low)) (o.mul a f.top) (o.num (1 * f.low))
      (is_times o c h (lower o c h a 1 p) f a (o.num 1) f.top (o.num f.low) (is_lower o c h a 1 p) (is_self o c h f))
      (is_mapped-self o c h o c h (λ x. o.mul a x) 1 q l f)
      (ap (λ w. o.mul w (o.mul a f.top)) (num_mul o h.ring 1 f.low))

  -- the operations on members of the ring
  pub times-lower : (a b : R) (p : 0 < 1) → times o c h (lower o c h a 1 p) (lower o c h b 1 p) ≡ lower o c h (o.mul a b) 1 p
  times-lower a b p =
      same_from_is o c h (times o c h (lower o c h a 1 p) (lower o c h b 1 p)) (lower o c h (o.mul a b) 1 p) (o.mul a b) (o.mul (o.num 1) (o.num 1)) (o.mul a b) (o.num 1)
      (is_times o c h (lower o c h a 1 p) (lower o c h b 1 p) a (o.num 1) b (o.num 1) (is_lower o c h a 1 p) (is_lower o c h b 1 p)) (is_lower o c h (o.mul a b) 1 p)
      (ap (λ w. o.mul w (o.mul a b)) (sym (h.ring.mul_one (o.num 1))))

  pub sum-lower : (a b : R) (p : 0 < 1) → sum o c h (lower o c h a 1 p) (lower o c h b 1 p) ≡ lower o c h (o.add a b) 1 p
  sum-lower a b p =
      same_from_is o c h (sum o c h (lower o c h a 1 p) (lower o c h b 1 p)) (lower o c h (o.add a b) 1 p)
      (o.add (o.mul (o.num 1) a) (o.mul (o.num 1) b)) (o.mul (o.num 1) (o.num 1)) (o.add a b) (o.num 1)
      (is_sum o c h (lower o c h a 1 p) (lower o c h b 1 p) a (o.num 1) b (o.num 1) (is_lower o c h a 1 p) (is_lower o c h b 1 p)) (is_lower o c h (o.add a b) 1 p)
      (solve o h.ring (at (o.num 0) (a ∷ b ∷ [])) (Mul (K 1) (Add (Mul (K 1) (V 0)) (Mul (K 1) (V 1)))) (Mul (Mul (K 1) (K 1)) (Add (V 0) (V 1))) refl)

  pub minus-lower : (a : R) (p : 0 < 1) → minus o c h (lower o c h a 1 p) ≡ lower o c h (o.neg a) 1 p
  minus-lower a p =
      same_from_is o c h (minus o c h (lower o c h a 1 p)) (lower o c h (o.neg a) 1 p) (o.neg a) (o.num 1) (o.neg a) (o.num 1)
      (is_minus o c h (lower o c h a 1 p) a (o.num 1) (is_lower o c h a 1 p)) (is_lower o c h (o.neg a) 1 p) refl

  -- d times a / d
  pub times-low : (a : R) (d : ℕ) (p : 0 < 1) (q : 0 < d) → times o c h (lower o c h (o.num d) 1 p) (lower o c h a d q) ≡ lower o c h a 1 p
  times-low a d p q =
      same_from_is o c h (times o c h (lower o c h (o.num d) 1 p) (lower o c h a d q)) (lower o c h a 1 p) (o.mul (o.num d) a) (o.mul (o.num 1) (o.num d)) a (o.num 1)
      (is_times o c h (lower o c h (o.num d) 1 p) (lower o c h a d q) (o.num d) (o.num 1) a (o.num d) (is_lower o c h (o.num d) 1 p) (is_lower o c h a d q)) (is_lower o c h a 1 p)
      (sym (h.ring.mul_assoc (o.num 1) (o.num d) a))
