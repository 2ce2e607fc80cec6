-- What divides all of a list of whole numbers.
--
-- over_one: numerators and a denominator that nothing divides are in lowest terms
-- lowest-one: over 1
-- list-lower: the list of a fraction in lowest terms
-- content_of_is: the content of members that are lists of whole numbers obeys the laws of a content
use Rattle.std.proofs.Common.{◌≡◌, ◌≢◌, ℕ, zero, suc, ◌+◌, ◌*◌, ◌/◌, ◌<◌, refl, sym, ap, ◌∙◌, arith, ℤ, pos, negsuc, ◌*ℤ◌, neg_ℤ, List, [], ◌∷◌, ◌++◌, map, length, Bool, true, false}
use Rattle.std.specs.Prelude.{◌&&◌}
use Rattle.std.specs.Ordering.{int_eq}
use Rattle.std.specs.Cmp.{signed_Decides}
use Prim.Native.Nat.{◌∣◌}
use Rattle.std.specs.Int.RustNames.{unsigned_abs}
use Rattle.std.proofs.lemmas.Int.{ints, unsigned_abs-mul}
use Rattle.std.proofs.Math.Nat.{eq-one_of_dvd-one, mul-div_cancel', dvd_trans, dvd_refl, pos_of_dvd_of_pos}
use borrow.Author.Differences.{up, down, product_is, same_in, same_out}
use Rattle.algebra.specs.Ring.{Ops}
use Rattle.cyclo24.specs.Gcd.{gcd, common, quotient, lowest_terms, all_zero}
use Rattle.cyclo24.specs.BoolLaws.{and_left, and_right}
use Rattle.algebra.specs.SolveLaws.{zero_mul}
use Rattle.cyclo24.specs.GcdLaws.{gcd_is, gcd_scale}
use Rattle.cyclo24.specs.Fraction.{IsContent}
use Rattle.cyclo24.specs.FractionLaws.{lower}
use Rattle.cyclo24.specs.Numerators.{Numerators, IsNumerators, content_of}

mul_left_cancel : (n a b : ℕ) → 0 < n → n * a ≡ n * b → a ≡ b
mul_left_cancel n a b p e = grind arith

pub cancel_z : (n : ℕ) (x y : ℤ) → 0 < n → pos n *ℤ x ≡ pos n *ℤ y → x ≡ y
cancel_z n x y p e = same_in x y (mul_left_cancel n (up x + down y) (up y + down x) p (omega (arith, same_out (pos n *ℤ x) (pos n *ℤ y) e, product_is (pos n) x, product_is (pos n) y)))

minus_quotient : (g q n : ℕ) → g * q ≡ suc n → pos g *ℤ neg_ℤ (pos q) ≡ negsuc n
minus_quotient g zero n e = absurd (omega arith)
minus_quotient g (suc q) n e = ap (λ k. neg_ℤ (pos k)) e

times-quotient : (g : ℕ) (z : ℤ) → g ∣ unsigned_abs z → pos g *ℤ quotient z g ≡ z
times-quotient g (pos n) d = ap pos (mul-div_cancel' g d)
times-quotient g (negsuc n) d = minus_quotient g (suc n / g) n (mul-div_cancel' g d)

pub common-divides : (xs : List ℤ) (d : ℕ) → common xs d ∣ d
common-divides [] d = dvd_refl d
common-divides (z ∷ zs) d = dvd_trans (common (z ∷ zs) d) (gcd_is (unsigned_abs z) (common zs d)).1 (common-divides zs d)

common-scale : (k : ℕ) (xs : List ℤ) (d : ℕ) → 0 < k → common (map (λ z. pos k *ℤ z) xs) (k * d) ≡ k * common xs d
common-scale k [] d p = refl
common-scale k (z ∷ zs) d p =
    ap (λ n. gcd n (common (map (λ z. pos k *ℤ z) zs) (k * d))) (unsigned_abs-mul (pos k) z)
    ∙ ap (λ n. gcd (k * unsigned_abs z) n) (common-scale k zs d p)
    ∙ gcd_scale k (unsigned_abs z) (common zs d) p

-- what divides the common divisor divides each number
times-quotients : (g : ℕ) (xs : List ℤ) (d : ℕ) → g ∣ common xs d → map (λ z. pos g *ℤ z) (map (λ z. quotient z g) xs) ≡ xs
times-quotients g [] d h = refl
times-quotients g (z ∷ zs) d h =
    let e = gcd_is (unsigned_abs z) (common zs d) in
    let head : pos g *ℤ quotient z g ≡ z = times-quotient g z (dvd_trans g h e.0) in
    let tail : map (λ z. pos g *ℤ z) (map (λ z. quotient z g) zs) ≡ zs = times-quotients g zs d (dvd_trans g h e.1) in
    λ i. head i ∷ tail i

cancel_all : (d : ℕ) (xs ys : List ℤ) → 0 < d → map (λ z. pos d *ℤ z) xs ≡ map (λ z. pos d *ℤ z) ys → xs ≡ ys
cancel_all d [] [] p e = refl
cancel_all d [] (y ∷ ys) p e = absurd (cc)
cancel_all d (x ∷ xs) [] p e = absurd (cc)
cancel_all d (x ∷ xs) (y ∷ ys) p e =
    let head : x ≡ y = cancel_z d x y p (cc) in
    let tail : xs ≡ ys = cancel_all d xs ys p (cc) in
    λ i. head i ∷ tail i

map-length : (f : ℤ → ℤ) (xs : List ℤ) → length (map f xs) ≡ length xs
map-length f [] = refl
map-length f (x ∷ xs) = omega (arith, map-length f xs)

quotient-one : (z : ℤ) → quotient z 1 ≡ z
quotient-one (pos n) = let e : n / 1 ≡ n = omega arith in ap pos e
quotient-one (negsuc n) = let e : suc n / 1 ≡ suc n = omega arith in ap (λ k. neg_ℤ (pos k)) e

quotients-one : (xs : List ℤ) → map (λ z. quotient z 1) xs ≡ xs
quotients-one [] = refl
quotients-one (x ∷ xs) = λ i. quotient-one x i ∷ quotients-one xs i

-- what is in lowest terms stays
pub over_one : (xs : List ℤ) (d : ℕ) → common xs d ≡ 1 → lowest_terms xs d ≡ xs ++ pos d ∷ []
over_one xs d e =
    let whole : d / 1 ≡ d = omega arith in
    ap (λ g. map (λ z. quotient z g) xs ++ pos (d / g) ∷ []) e ∙ (λ i. quotients-one xs i ++ pos (whole i) ∷ [])

pub common-one : (xs : List ℤ) → common xs 1 ≡ 1
common-one xs = eq-one_of_dvd-one (common-divides xs 1)

-- over 1
pub lowest-one : (xs : List ℤ) → lowest_terms xs 1 ≡ xs ++ pos 1 ∷ []
lowest-one xs = over_one xs 1 (common-one xs)

zeros : (xs : List ℤ) → all_zero xs ≡ true → xs ≡ map (λ z. pos 0 *ℤ z) xs
zeros [] e = refl
zeros (x ∷ xs) e =
    let head : x ≡ pos 0 = (signed_Decides x (pos 0)).0 (and_left (int_eq x (pos 0)) (all_zero xs) e) in
    let tail : xs ≡ map (λ z. pos 0 *ℤ z) xs = zeros xs (and_right (int_eq x (pos 0)) (all_zero xs) e) in
    let zero_times : pos 0 *ℤ x ≡ pos 0 = omega (arith, ints) in
    λ i. (head ∙ sym zero_times) i ∷ tail i

all_zero-times : (xs : List ℤ) → all_zero (map (λ z. pos 0 *ℤ z) xs) ≡ true
all_zero-times [] = refl
all_zero-times (x ∷ xs) =
    let zero_times : pos 0 *ℤ x ≡ pos 0 = omega (arith, ints) in
    ap (λ z. int_eq z (pos 0) && all_zero (map (λ z. pos 0 *ℤ z) xs)) zero_times ∙ all_zero-times xs

positive_unless : (n : ℕ) → n ≢ 0 → 0 < n
positive_unless n a = omega arith

apart : (b : Bool) → b ≡ true → b ≡ false → ⊥
apart b e f = cc

module _ {R : Type 0} (o : Ops R) (m : Numerators o) (h : IsNumerators o m) where
  same_list : (x y : R) → m.list x ≡ m.list y → x ≡ y
  same_list x y e = sym (h.member-list x) ∙ ap m.member e ∙ h.member-list y

  pub list-divide : (x : R) (g : ℕ) → m.list (m.member (map (λ z. quotient z g) (m.list x))) ≡ map (λ z. quotient z g) (m.list x)
  list-divide x g = h.list-member (map (λ z. quotient z g) (m.list x)) (map-length (λ z. quotient z g) (m.list x) ∙ h.length-list x)

  list-zero : (x : R) → map (λ z. pos 0 *ℤ z) (m.list x) ≡ m.list (o.num 0)
  list-zero x = sym (h.scaled 0 x) ∙ ap m.list (zero_mul o h.ring x)

  zero_is_zero : (x : R) → x ≡ o.num 0 → all_zero (m.list x) ≡ true
  zero_is_zero x e = ap all_zero (ap m.list e ∙ sym (list-zero x)) ∙ all_zero-times (m.list x)

  pub content_of_is : IsContent o (content_of m)
  content_of_is = record {
    ring = h.ring;
    cancel = λ d x y p e. same_list x y (cancel_all d (m.list x) (m.list y) p (sym (h.scaled d x) ∙ ap m.list e ∙ h.scaled d y));
    num_apart = h.num_apart;
    positive = λ x d p. pos_of_dvd_of_pos (common-divides (m.list x) d) p;
    divides = λ x d p. common-divides (m.list x) d;
    divide_is = λ x d p. let g = common (m.list x) d in
        same_list (o.mul (o.num g) (m.member (map (λ z. quotient z g) (m.list x)))) x
        (h.scaled g (m.member (map (λ z. quotient z g) (m.list x))) ∙ ap (map (λ z. pos g *ℤ z)) (list-divide x g) ∙ times-quotients g (m.list x) d (dvd_refl g));
    scale = λ k x d p q. ap (λ xs. common xs (k * d)) (h.scaled k x) ∙ common-scale k (m.list x) d p;
    cofactor_is = h.cofactor_is;
    size_is = λ x e. positive_unless (m.size x) (λ z. apart (all_zero (m.list x)) (zero_is_zero x (h.size-zero x z)) e);
    is_zero-true = λ x e. same_list x (o.num 0) (zeros (m.list x) e ∙ list-zero x);
    is_zero-zero = zero_is_zero (o.num 0) refl;
  }

  -- the list of a fraction in lowest terms
  pub list-lower : (x : R) (d : ℕ) (p : 0 < d) → m.list (lower o (content_of m) content_of_is x d p).top ++ pos (lower o (content_of m) content_of_is x d p).low ∷ [] ≡ lowest_terms (m.list x) d
  list-lower x d p = ap (λ xs. xs ++ pos (d / common (m.list x) d) ∷ []) (list-divide x (common (m.list x) d))
