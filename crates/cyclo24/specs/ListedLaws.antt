-- Fractions of numerators and their lists are the same numbers.
--
-- same_exact: exact values with one list are equal
-- listed: fractions and exact lists correspond
-- exact_laws: the field of the exact lists, of characteristic zero by exact_ones
-- listed-lower, exact-lower: the exact value of x / d is its list in lowest terms
-- from-top, from-low, is_nought-is: the parts of an exact value
-- exact_cmp_total, exact_cmp-Equal: the order is total, and ties are equal
use Rattle.std.proofs.Common.{◌≡◌, ℕ, zero, suc, ◌<◌, refl, sym, ap, ◌∙◌, subst, arith, rules, ℤ, pos, negsuc, List, [], ◌∷◌, ◌++◌, length, take, get_or, Bool, true, false, nat_eq}
use Rattle.std.specs.Prelude.{◌&&◌}
use Rattle.std.specs.Int.RustNames.{unsigned_abs}
use Rattle.std.proofs.Math.Bool.{Bool-set}
use mathlib.Core.HLevel.{is_prop→PathP}
use Rattle.std.specs.declared.cmp.Ordering.{Ordering}
use Rattle.std.specs.declared.cmp.Ordering.TheVariants.{Less, Equal, Greater}
use Rattle.std.specs.Cmp.{IsTotalOrder, then_total, on_total, int_cmp_total, signed_Decides}
use Rattle.std.specs.Cmp.Lexicographic.{slice_cmp, lists_total}
use Rattle.std.specs.Ordering.{ordering_then, int_cmp, is_eq}
use Rattle.cyclo24.specs.BoolLaws.{and_left, and_right, and_both}
use Rattle.algebra.specs.Ring.{Ops}
use Rattle.cyclo24.specs.ExactField.{Exact}
use Rattle.cyclo24.specs.FieldOn.{FieldOn, ones}
use Rattle.cyclo24.specs.Gcd.{common, lowest_terms, all_zero}
use Rattle.cyclo24.specs.Fraction.{Fraction}
use Rattle.cyclo24.specs.FractionLaws.{lower, fractions, same_parts, ones-not_nought}
use Rattle.cyclo24.specs.Numerators.{Numerators, IsNumerators, content_of}
use Rattle.cyclo24.specs.CommonLaws.{content_of_is, list-lower}
use Rattle.cyclo24.specs.Carry.{Same, carried, carried-ones}
use Rattle.cyclo24.specs.Listed.{numerators, denominator, is_positive, is_exact, exact_cmp}

pub same_exact : {v : List ℤ → Bool} (x y : Exact v) → x.0 ≡ y.0 → x ≡ y
same_exact {v} x y e = λ i. (e i, is_prop→PathP (λ i. v (e i) ≡ true) (λ i. Bool-set (v (e i)) true) x.1 y.1 i)

-- a list and one more number
pub take-last : (n : ℕ) (xs : List ℤ) (d : ℤ) → length xs ≡ n → take n (xs ++ d ∷ []) ≡ xs
take-last zero [] d e = refl
take-last zero (x ∷ xs) d e = absurd (omega arith)
take-last (suc n) [] d e = absurd (omega arith)
take-last (suc n) (x ∷ xs) d e = ap (λ ys. x ∷ ys) (take-last n xs d (omega arith))

pub get_or-last : (n : ℕ) (xs : List ℤ) (d : ℤ) → length xs ≡ n → get_or (xs ++ d ∷ []) n (pos 0) ≡ d
get_or-last zero [] d e = refl
get_or-last zero (x ∷ xs) d e = absurd (omega arith)
get_or-last (suc n) [] d e = absurd (omega arith)
get_or-last (suc n) (x ∷ xs) d e = get_or-last n xs d (omega arith)

length-last : (n : ℕ) (xs : List ℤ) (d : ℤ) → length xs ≡ n → length (xs ++ d ∷ []) ≡ suc n
length-last zero [] d e = refl
length-last zero (x ∷ xs) d e = absurd (omega arith)
length-last (suc n) [] d e = absurd (omega arith)
length-last (suc n) (x ∷ xs) d e = ap suc (length-last n xs d (omega arith))

pub join-last : (n : ℕ) (xs : List ℤ) → length xs ≡ suc n → take n xs ++ get_or xs n (pos 0) ∷ [] ≡ xs
join-last n [] e = absurd (omega arith)
join-last zero (x ∷ []) e = refl
join-last zero (x ∷ y ∷ xs) e = absurd (omega arith)
join-last (suc n) (x ∷ xs) e = ap (λ ys. x ∷ ys) (join-last n xs (omega arith))

pub length-front : (n : ℕ) (xs : List ℤ) → length xs ≡ suc n → length (take n xs) ≡ n
length-front n [] e = absurd (omega arith)
length-front zero (x ∷ xs) e = refl
length-front (suc n) (x ∷ xs) e = ap suc (length-front n xs (omega arith))

same_number : (a b : ℕ) → nat_eq a b ≡ true → a ≡ b
same_number a b e = search rules

equal_number : (a b : ℕ) → a ≡ b → nat_eq a b ≡ true
equal_number a b e = search rules

pub positive_abs : (z : ℤ) → is_positive z ≡ true → (0 < unsigned_abs z) × (z ≡ pos (unsigned_abs z))
positive_abs (pos n) e = (search rules, refl)
positive_abs (negsuc n) e = absurd (cc)

positive_pos : (n : ℕ) → 0 < n → is_positive (pos n) ≡ true
positive_pos n h = search rules

-- what the test says
pub record IsExact (n : ℕ) (x : List ℤ) : Type 0 where
  pub size : length x ≡ suc n
  pub positive : 0 < unsigned_abs (denominator n x)
  pub upright : denominator n x ≡ pos (unsigned_abs (denominator n x))
  pub lowest : common (numerators n x) (unsigned_abs (denominator n x)) ≡ 1

pub exact_is : (n : ℕ) (x : List ℤ) → is_exact n x ≡ true → IsExact n x
exact_is n x e =
    let d = denominator n x in
    let c = nat_eq (common (numerators n x) (unsigned_abs d)) 1 in
    let p = positive_abs d (and_left (is_positive d) c (and_right (nat_eq (length x) (suc n)) (is_positive d && c) e)) in
    record {
      size = same_number (length x) (suc n) (and_left (nat_eq (length x) (suc n)) (is_positive d && c) e);
      positive = p.0;
      upright = p.1;
      lowest = same_number (common (numerators n x) (unsigned_abs d)) 1 (and_right (is_positive d) c (and_right (nat_eq (length x) (suc n)) (is_positive d && c) e));
    }

pub is_exact-true : (n : ℕ) (x : List ℤ) → IsExact n x → is_exact n x ≡ true
is_exact-true n x h =
    let d = denominator n x in
    let c = nat_eq (common (numerators n x) (unsigned_abs d)) 1 in
    and_both (nat_eq (length x) (suc n)) (is_positive d && c) (equal_number (length x) (suc n) h.size)
    (and_both (is_positive d) c (ap is_positive h.upright ∙ positive_pos (unsigned_abs d) h.positive) (equal_number (common (numerators n x) (unsigned_abs d)) 1 h.lowest))

module _ {R : Type 0} (o : Ops R) (m : Numerators o) (h : IsNumerators o m) where
  -- the list of a fraction
  abbrev pub list_of : Fraction (content_of m) → List ℤ
  list_of f = m.list f.top ++ pos f.low ∷ []

  list_of-exact : (f : Fraction (content_of m)) → IsExact m.count (list_of f)
  list_of-exact f =
      let l : denominator m.count (list_of f) ≡ pos f.low = get_or-last m.count (m.list f.top) (pos f.low) (h.length-list f.top) in
      let t : numerators m.count (list_of f) ≡ m.list f.top = take-last m.count (m.list f.top) (pos f.low) (h.length-list f.top) in
      let a : unsigned_abs (denominator m.count (list_of f)) ≡ f.low = ap unsigned_abs l in
      record {
        size = length-last m.count (m.list f.top) (pos f.low) (h.length-list f.top);
        positive = subst (λ k. 0 < k) (sym a) f.positive;
        upright = l ∙ ap pos (sym a);
        lowest = (λ i. common (t i) (a i)) ∙ f.lowest;
      }

  pub listed-to : Fraction (content_of m) → Exact (is_exact m.count)
  listed-to f = (list_of f, is_exact-true m.count (list_of f) (list_of-exact f))

  pub listed-from : Exact (is_exact m.count) → Fraction (content_of m)
  listed-from x =
      let e = exact_is m.count x.0 x.1 in
      record {
        top = m.member (numerators m.count x.0);
        low = unsigned_abs (denominator m.count x.0);
        positive = e.positive;
        lowest = ap (λ xs. common xs (unsigned_abs (denominator m.count x.0))) (h.list-member (numerators m.count x.0) (length-front m.count x.0 e.size)) ∙ e.lowest;
      }

  from-to : (f : Fraction (content_of m)) → listed-from (listed-to f) ≡ f
  unfolding listed-from listed-to
  from-to f =
      same_parts o (content_of m) (content_of_is o m h) (listed-from (listed-to f)) f
      (ap m.member (take-last m.count (m.list f.top) (pos f.low) (h.length-list f.top)) ∙ h.member-list f.top)
      (ap unsigned_abs (get_or-last m.count (m.list f.top) (pos f.low) (h.length-list f.top)))

  to-from : (x : Exact (is_exact m.count)) → listed-to (listed-from x) ≡ x
  unfolding listed-from listed-to
  to-from x =
      let e = exact_is m.count x.0 x.1 in
      same_exact (listed-to (listed-from x)) x
      (ap (λ xs. xs ++ pos (unsigned_abs (denominator m.count x.0)) ∷ []) (h.list-member (numerators m.count x.0) (length-front m.count x.0 e.size))
      ∙ ap (λ d. numerators m.count x.0 ++ d ∷ []) (sym e.upright) ∙ join-last m.count x.0 e.size)

  pub listed : Same (Fraction (content_of m)) (Exact (is_exact m.count))
  listed = record { to = listed-to; from = listed-from; from-to = from-to; to-from = to-from }

  -- the field of the exact lists
  abbrev pub exact_laws : FieldOn (Exact (is_exact m.count))
  exact_laws = carried (fractions o (content_of m) (content_of_is o m h)) listed

  pub exact_ones : (n : ℕ) → exact_laws.is_nought (ones exact_laws (suc n)) ≡ false
  exact_ones n = ap (λ f. all_zero (m.list (let k : Fraction (content_of m) = f in k.top))) (carried-ones (fractions o (content_of m) (content_of_is o m h)) listed (suc n)) ∙ ones-not_nought o (content_of m) (content_of_is o m h) n

  -- the list of x / d in lowest terms
  pub listed-lower : (x : R) (d : ℕ) (p : 0 < d) → (listed.to (lower o (content_of m) (content_of_is o m h) x d p)).0 ≡ lowest_terms (m.list x) d
  unfolding listed listed-to
  listed-lower x d p = list-lower o m h x d p

  -- an exact value with the list of x / d in lowest terms
  pub exact-lower : (x : R) (d : ℕ) (p : 0 < d) (s : Exact (is_exact m.count)) → s.0 ≡ lowest_terms (m.list x) d → s ≡ listed.to (lower o (content_of m) (content_of_is o m h) x d p)
  unfolding listed listed-to
  exact-lower x d p s e = same_exact s (listed-to (lower o (content_of m) (content_of_is o m h) x d p)) (e ∙ sym (list-lower o m h x d p))

  pub from-top : (x : Exact (is_exact m.count)) → (listed.from x).top ≡ m.member (numerators m.count x.0)
  unfolding listed listed-from
  from-top x = refl

  pub from-low : (x : Exact (is_exact m.count)) → (listed.from x).low ≡ unsigned_abs (denominator m.count x.0)
  unfolding listed listed-from
  from-low x = refl

  pub is_nought-is : (x : Exact (is_exact m.count)) → exact_laws.is_nought x ≡ all_zero (numerators m.count x.0)
  is_nought-is x = ap (λ y. all_zero (m.list y)) (from-top x) ∙ ap all_zero (h.list-member (numerators m.count x.0) (length-front m.count x.0 (exact_is m.count x.0 x.1).size))

-- the order

pub exact_cmp_total : (n : ℕ) → IsTotalOrder (exact_cmp n)
exact_cmp_total n = then_total (on_total (λ (x : Exact (is_exact n)). denominator n x.0) int_cmp_total) (on_total (λ (x : Exact (is_exact n)). numerators n x.0) (lists_total int_cmp_total))

then_first : (a b : Ordering) → ordering_then a b ≡ Equal → (a ≡ Equal) × (b ≡ Equal)
then_first Less b e = absurd (cc)
then_first Equal b e = (refl, e)
then_first Greater b e = absurd (cc)

int_cmp-Equal : (x y : ℤ) → int_cmp x y ≡ Equal → x ≡ y
int_cmp-Equal x y e = (signed_Decides x y).0 (ap is_eq e)

slice_cmp-Equal : (xs ys : List ℤ) → slice_cmp int_cmp xs ys ≡ Equal → xs ≡ ys
slice_cmp-Equal [] [] e = refl
slice_cmp-Equal [] (y ∷ ys) e = absurd (cc)
slice_cmp-Equal (x ∷ xs) [] e = absurd (cc)
slice_cmp-Equal (x ∷ xs) (y ∷ ys) e =
    let t = then_first (int_cmp x y) (slice_cmp int_cmp xs ys) e in
    let head : x ≡ y = int_cmp-Equal x y t.0 in
    let tail : xs ≡ ys = slice_cmp-Equal xs ys t.1 in
    λ i. head i ∷ tail i

pub exact_cmp-Equal : (n : ℕ) (x y : Exact (is_exact n)) → exact_cmp n x y ≡ Equal → x ≡ y
exact_cmp-Equal n x y e =
    let t = then_first (int_cmp (denominator n x.0) (denominator n y.0)) (slice_cmp int_cmp (numerators n x.0) (numerators n y.0)) e in
    let d : denominator n x.0 ≡ denominator n y.0 = int_cmp-Equal (denominator n x.0) (denominator n y.0) t.0 in
    let a : numerators n x.0 ≡ numerators n y.0 = slice_cmp-Equal (numerators n x.0) (numerators n y.0) t.1 in
    same_exact x y (sym (join-last n x.0 (exact_is n x.0 x.1).size) ∙ (λ i. a i ++ d i ∷ []) ∙ join-last n y.0 (exact_is n y.0 y.1).size)
