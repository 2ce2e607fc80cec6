-- Equations that hold in all commutative rings, proved by normal forms.
--
-- by_test: cases on a test, with what it came to
-- cancel, mul_zero, zero_mul, mul_neg: sums and products in a ring
-- num_add, num_mul: sums and products of numerals
-- solve o r v e f refl: two expressions with one normal form have one value
use Rattle.std.proofs.Common.{◌≡◌, ℕ, ◌+◌, ◌*◌, suc, zero, arith, refl, sym, ap, ◌∙◌, Bool, true, false, List, [], ◌∷◌, subst, eqb, leb}
use Rattle.std.proofs.Common.{eqb→eq}
use Rattle.std.proofs.Math.Dec.{T}
use Rattle.std.proofs.Math.Nat.{zero-add}
use Rattle.algebra.specs.Ring.{Ops, IsRing}
use Rattle.algebra.specs.Solve.{Exp, V, K, Neg, Add, Mul, Poly, End, Term, add_poly, add_term, and_then, before, form, ins, mono, mul_mono, mul_poly, mul_term, poly, same, same_mono, same_poly, value}

-- cases on a test, with what it came to
pub by_test : (P : Bool → Type 0) (b : Bool) → (b ≡ true → P true) → (b ≡ false → P false) → P b
by_test P true f g = f refl
by_test P false f g = g refl

and_then_left : (a b : Bool) → and_then a b ≡ true → a ≡ true
and_then_left true b e = refl
and_then_left false b e = cc

and_then_right : (a b : Bool) → and_then a b ≡ true → b ≡ true
and_then_right true b e = e
and_then_right false b e = cc

same_number : (i j : ℕ) → eqb i j ≡ true → i ≡ j
same_number i j e = eqb→eq i j (subst T (sym e) tt)

is_same_mono : (m n : List ℕ) → same_mono m n ≡ true → m ≡ n
is_same_mono [] [] e = refl
is_same_mono [] (j ∷ n) e = cc
is_same_mono (i ∷ m) [] e = cc
is_same_mono (i ∷ m) (j ∷ n) e = cc (same_number i j (and_then_left (eqb i j) (same_mono m n) e), is_same_mono m n (and_then_right (eqb i j) (same_mono m n) e))

is_same_poly : (p q : Poly) → same_poly p q ≡ true → p ≡ q
is_same_poly End End e = refl
is_same_poly End (Term d n q) e = cc
is_same_poly (Term c m p) End e = cc
is_same_poly (Term c m p) (Term d n q) e =
    let rest = and_then_right (eqb c d) (and_then (same_mono m n) (same_poly p q)) e in
    cc (same_number c d (and_then_left (eqb c d) (and_then (same_mono m n) (same_poly p q)) e), is_same_mono m n (and_then_left (same_mono m n) (same_poly p q) rest), is_same_poly p q (and_then_right (same_mono m n) (same_poly p q) rest))

module _ {A : Type 0} (o : Ops A) (r : IsRing o) where
  add_left_comm : (x y z : A) → o.add x (o.add y z) ≡ o.add y (o.add x z)
  add_left_comm x y z = sym (r.add_assoc x y z) ∙ ap (λ w. o.add w z) (r.add_comm x y) ∙ r.add_assoc y x z

  mul_left_comm : (x y z : A) → o.mul x (o.mul y z) ≡ o.mul y (o.mul x z)
  mul_left_comm x y z = sym (r.mul_assoc x y z) ∙ ap (λ w. o.mul w z) (r.mul_comm x y) ∙ r.mul_assoc y x z

  add_mul : (x y z : A) → o.mul (o.add x y) z ≡ o.add (o.mul x z) (o.mul y z)
  add_mul x y z = r.mul_comm (o.add x y) z ∙ r.mul_add z x y ∙ cc (r.mul_comm z x, r.mul_comm z y)

  add_zero_right : (x : A) → o.add x (o.num 0) ≡ x
  add_zero_right x = r.add_comm x (o.num 0) ∙ r.add_zero x

  -- x + y = x + z gives y = z
  cancel_back : (x y : A) → o.add (o.neg x) (o.add x y) ≡ y
  cancel_back x y = sym (r.add_assoc (o.neg x) x y) ∙ ap (λ w. o.add w y) (r.add_comm (o.neg x) x ∙ r.add_neg x) ∙ r.add_zero y

  pub cancel : (x y z : A) → o.add x y ≡ o.add x z → y ≡ z
  cancel x y z e = sym (cancel_back x y) ∙ ap (λ w. o.add (o.neg x) w) e ∙ cancel_back x z

  pub mul_zero : (x : A) → o.mul x (o.num 0) ≡ o.num 0
  mul_zero x = cancel (o.mul x (o.num 0)) (o.mul x (o.num 0)) (o.num 0)
      (sym (r.mul_add x (o.num 0) (o.num 0)) ∙ ap (λ w. o.mul x w) (r.add_zero (o.num 0)) ∙ sym (add_zero_right (o.mul x (o.num 0))))

  pub zero_mul : (x : A) → o.mul (o.num 0) x ≡ o.num 0
  zero_mul x = r.mul_comm (o.num 0) x ∙ mul_zero x

  pub num_add : (m n : ℕ) → o.num (m + n) ≡ o.add (o.num m) (o.num n)
  num_add zero n = ap o.num (zero-add n) ∙ sym (r.add_zero (o.num n))
  num_add (suc m) n =
      ap o.num (omega arith) ∙ r.num_suc (m + n) ∙ ap (λ w. o.add (o.num 1) w) (num_add m n) ∙ sym (r.add_assoc (o.num 1) (o.num m) (o.num n)) ∙ ap (λ w. o.add w (o.num n)) (sym (r.num_suc m))

  pub num_mul : (m n : ℕ) → o.num (m * n) ≡ o.mul (o.num m) (o.num n)
  num_mul zero n = ap o.num (omega arith) ∙ sym (zero_mul (o.num n))
  num_mul (suc m) n =
      ap o.num (omega arith) ∙ num_add n (m * n) ∙ cc (r.mul_one (o.num n), num_mul m n, add_mul (o.num 1) (o.num m) (o.num n), r.num_suc m)

  -- (a + b) + (c + d) = (a + c) + (b + d)
  add_four : (a b c d : A) → o.add (o.add a b) (o.add c d) ≡ o.add (o.add a c) (o.add b d)
  add_four a b c d = r.add_assoc a b (o.add c d) ∙ ap (λ w. o.add a w) (add_left_comm b c d) ∙ sym (r.add_assoc a c (o.add b d))

  mul_four : (a b c d : A) → o.mul (o.mul a b) (o.mul c d) ≡ o.mul (o.mul a c) (o.mul b d)
  mul_four a b c d = r.mul_assoc a b (o.mul c d) ∙ ap (λ w. o.mul a w) (mul_left_comm b c d) ∙ sym (r.mul_assoc a c (o.mul b d))

  -- y is the negative of x
  neg_unique : (x y : A) → o.add x y ≡ o.num 0 → y ≡ o.neg x
  neg_unique x y e = cancel x y (o.neg x) (e ∙ sym (r.add_neg x))

  neg_add : (x y : A) → o.neg (o.add x y) ≡ o.add (o.neg x) (o.neg y)
  neg_add x y = sym (neg_unique (o.add x y) (o.add (o.neg x) (o.neg y)) (add_four x y (o.neg x) (o.neg y) ∙ cc (r.add_neg x, r.add_neg y, r.add_zero (o.num 0))))

  neg_neg : (x : A) → o.neg (o.neg x) ≡ x
  neg_neg x = sym (neg_unique (o.neg x) x (r.add_comm (o.neg x) x ∙ r.add_neg x))

  neg_zero : o.neg (o.num 0) ≡ o.num 0
  neg_zero = sym (neg_unique (o.num 0) (o.num 0) (r.add_zero (o.num 0)))

  neg_mul : (x y : A) → o.mul (o.neg x) y ≡ o.neg (o.mul x y)
  neg_mul x y = neg_unique (o.mul x y) (o.mul (o.neg x) y) (sym (add_mul x (o.neg x) y) ∙ cc (r.add_neg x, zero_mul y))

  pub mul_neg : (x y : A) → o.mul x (o.neg y) ≡ o.neg (o.mul x y)
  mul_neg x y = r.mul_comm x (o.neg y) ∙ neg_mul y x ∙ ap o.neg (r.mul_comm y x)

  mono-ins : (v : ℕ → A) (i : ℕ) (m : List ℕ) → mono o v (ins i m) ≡ o.mul (v i) (mono o v m)
  mono-ins v i [] = refl
  mono-ins v i (j ∷ m) =
      by_test (λ b. mono o v (elim b as (λ _. List ℕ) [ true ↦ i ∷ j ∷ m | false ↦ j ∷ ins i m ]) ≡ o.mul (v i) (mono o v (j ∷ m))) (leb i j)
      (λ _. refl) (λ _. ap (λ w. o.mul (v j) w) (mono-ins v i m) ∙ mul_left_comm (v j) (v i) (mono o v m))

  mono-mul : (v : ℕ → A) (m n : List ℕ) → mono o v (mul_mono m n) ≡ o.mul (mono o v m) (mono o v n)
  mono-mul v [] n = sym (r.mul_one (mono o v n))
  mono-mul v (i ∷ m) n = mono-ins v i (mul_mono m n) ∙ ap (λ w. o.mul (v i) w) (mono-mul v m n) ∙ sym (r.mul_assoc (v i) (mono o v m) (mono o v n))

  poly-add_term : (v : ℕ → A) (c : ℕ) (m : List ℕ) (p : Poly) → poly o v (add_term c m p) ≡ o.add (o.mul (o.num c) (mono o v m)) (poly o v p)
  poly-add_term v c m End = refl
  poly-add_term v c m (Term d n p) =
      by_test (λ b. poly o v (elim b as (λ _. Poly) [ true ↦ Term (c + d) n p | false ↦ elim (before m n) [ true ↦ Term c m (Term d n p) | false ↦ Term d n (add_term c m p) ] ]) ≡ o.add (o.mul (o.num c) (mono o v m)) (poly o v (Term d n p))) (same_mono m n)
      (λ e. ap (λ w. o.add w (poly o v p)) (ap (λ w. o.mul w (mono o v n)) (num_add c d) ∙ add_mul (o.num c) (o.num d) (mono o v n) ∙ ap (λ k. o.add (o.mul (o.num c) (mono o v k)) (o.mul (o.num d) (mono o v n))) (sym (is_same_mono m n e)))
      ∙ r.add_assoc (o.mul (o.num c) (mono o v m)) (o.mul (o.num d) (mono o v n)) (poly o v p))
      (λ _. by_test (λ b. poly o v (elim b as (λ _. Poly) [ true ↦ Term c m (Term d n p) | false ↦ Term d n (add_term c m p) ]) ≡ o.add (o.mul (o.num c) (mono o v m)) (poly o v (Term d n p))) (before m n)
      (λ _. refl)
      (λ _. ap (λ w. o.add (o.mul (o.num d) (mono o v n)) w) (poly-add_term v c m p) ∙ add_left_comm (o.mul (o.num d) (mono o v n)) (o.mul (o.num c) (mono o v m)) (poly o v p)))

  poly-add : (v : ℕ → A) (p q : Poly) → poly o v (add_poly p q) ≡ o.add (poly o v p) (poly o v q)
  poly-add v End q = sym (r.add_zero (poly o v q))
  poly-add v (Term c m p) q = poly-add_term v c m (add_poly p q) ∙ ap (λ w. o.add (o.mul (o.num c) (mono o v m)) w) (poly-add v p q) ∙ sym (r.add_assoc (o.mul (o.num c) (mono o v m)) (poly o v p) (poly o v q))

  poly-mul_term : (v : ℕ → A) (c : ℕ) (m : List ℕ) (p : Poly) → poly o v (mul_term c m p) ≡ o.mul (o.mul (o.num c) (mono o v m)) (poly o v p)
  poly-mul_term v c m End = sym (mul_zero (o.mul (o.num c) (mono o v m)))
  poly-mul_term v c m (Term d n p) =
      poly-add_term v (c * d) (mul_mono m n) (mul_term c m p)
      ∙ cc (num_mul c d, mono-mul v m n, poly-mul_term v c m p, mul_four (o.num c) (o.num d) (mono o v m) (mono o v n), r.mul_add (o.mul (o.num c) (mono o v m)) (o.mul (o.num d) (mono o v n)) (poly o v p))

  poly-mul : (v : ℕ → A) (p q : Poly) → poly o v (mul_poly p q) ≡ o.mul (poly o v p) (poly o v q)
  poly-mul v End q = sym (zero_mul (poly o v q))
  poly-mul v (Term c m p) q =
      poly-add v (mul_term c m q) (mul_poly p q) ∙ cc (poly-mul_term v c m q, poly-mul v p q, add_mul (o.mul (o.num c) (mono o v m)) (poly o v p) (poly o v q))

  abbrev diff : A → A → A
  diff x y = o.add x (o.neg y)

  -- (p - n) (q - k) = (p q + n k) - (p k + n q)
  mul_diff : (p n q k : A) → o.mul (diff p n) (diff q k) ≡ diff (o.add (o.mul p q) (o.mul n k)) (o.add (o.mul p k) (o.mul n q))
  mul_diff p n q k =
      add_mul p (o.neg n) (diff q k)
      ∙ cc (
        r.mul_add p q (o.neg k),
        r.mul_add (o.neg n) q (o.neg k),
        mul_neg p k,
        neg_mul n q,
        neg_mul n (o.neg k),
        mul_neg n k,
        neg_neg (o.mul n k),
        neg_add (o.mul p k) (o.mul n q),
        r.add_comm (o.neg (o.mul n q)) (o.mul n k),
        add_four (o.mul p q) (o.neg (o.mul p k)) (o.mul n k) (o.neg (o.mul n q)),
      )

  form_is : (v : ℕ → A) (e : Exp) → value o v e ≡ diff (poly o v (form e).plus) (poly o v (form e).minus)
  form_is v (V i) = sym (cc (neg_zero, add_zero_right (o.mul (o.num 1) (o.mul (v i) (o.num 1))), r.mul_one (o.mul (v i) (o.num 1)), r.mul_comm (v i) (o.num 1), r.mul_one (v i)))
  form_is v (K zero) = sym (cc (neg_zero, r.add_zero (o.num 0)))
  form_is v (K (suc n)) = sym (cc (neg_zero, add_zero_right (o.mul (o.num (suc n)) (o.num 1)), r.mul_comm (o.num (suc n)) (o.num 1), r.mul_one (o.num (suc n))))
  form_is v (Neg e) = let f = form e in
      ap o.neg (form_is v e) ∙ neg_add (poly o v f.plus) (o.neg (poly o v f.minus)) ∙ ap (λ w. o.add (o.neg (poly o v f.plus)) w) (neg_neg (poly o v f.minus)) ∙ r.add_comm (o.neg (poly o v f.plus)) (poly o v f.minus)
  form_is v (Add e e') = let f = form e in let g = form e' in
      cc (form_is v e, form_is v e', add_four (poly o v f.plus) (o.neg (poly o v f.minus)) (poly o v g.plus) (o.neg (poly o v g.minus)), neg_add (poly o v f.minus) (poly o v g.minus), poly-add v f.plus g.plus, poly-add v f.minus g.minus)
  form_is v (Mul e e') = let f = form e in let g = form e' in
      cc (
        form_is v e,
        form_is v e',
        mul_diff (poly o v f.plus) (poly o v f.minus) (poly o v g.plus) (poly o v g.minus),
        poly-add v (mul_poly f.plus g.plus) (mul_poly f.minus g.minus),
        poly-add v (mul_poly f.plus g.minus) (mul_poly f.minus g.plus),
        poly-mul v f.plus g.plus,
        poly-mul v f.minus g.minus,
        poly-mul v f.plus g.minus,
        poly-mul v f.minus g.plus,
      )

  -- a + d = c + b gives a - b = c - d
  cross : (a b c d : A) → o.add a d ≡ o.add c b → diff a b ≡ diff c d
  cross a b c d e =
      cancel d (diff a b) (diff c d)
      (add_left_comm d a (o.neg b) ∙ sym (r.add_assoc a d (o.neg b)) ∙ ap (λ w. o.add w (o.neg b)) e ∙ r.add_assoc c b (o.neg b) ∙ ap (λ w. o.add c w) (r.add_neg b ∙ sym (r.add_neg d)) ∙ add_left_comm c d (o.neg d))

  -- expressions with one normal form have one value
  pub solve : (v : ℕ → A) (e e' : Exp) → same e e' ≡ true → value o v e ≡ value o v e'
  solve v e e' h = let f = form e in let g = form e' in
      form_is v e
      ∙ cross (poly o v f.plus) (poly o v f.minus) (poly o v g.plus) (poly o v g.minus)
      (sym (poly-add v f.plus g.minus) ∙ ap (poly o v) (is_same_poly (add_poly f.plus g.minus) (add_poly g.plus f.minus) h) ∙ poly-add v g.plus f.minus)
      ∙ sym (form_is v e')
