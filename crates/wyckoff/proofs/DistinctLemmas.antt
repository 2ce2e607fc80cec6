-- Places in order, each once.
use Rattle.std.proofs.Common.{◌≡◌, refl, sym, ap, ◌∙◌, subst, ℕ, ◌<◌, Bool, true, false, ℤ, List, [], length, get_or, arith}
use Rattle.std.proofs.lemmas.Bool.Decides.{same_from_decides, Decides-int_eq}
use Rattle.std.proofs.lemmas.Cmp.{lists_total, int_cmp_total, eq_by_cmp_equiv, tied_itself}
use Rattle.std.proofs.lemmas.List.{get_or_default}
use Rattle.std.proofs.lemmas.List.Elements.{Contains-get_or}
use Rattle.std.proofs.lemmas.List.Kept.{Contains-dedup, Contains-from_dedup, IsStrictlySortedBy-dedup}
use Rattle.std.proofs.lemmas.List.Sorted.{Contains-permutation, IsPermutation-sym}
use Rattle.std.proofs.lemmas.Map.Keys.{Less-from_sorted}
use Rattle.std.proofs.lemmas.Map.Lookups.{exact_signed}
use Rattle.std.specs.Cmp.{IsEquivalence}
use Rattle.std.specs.Cmp.Lexicographic.{slice_cmp, lists_ties}
use lib.Pointwise.{pointwise}
use Rattle.std.specs.List.{Contains, dedup}
use Rattle.std.specs.List.Sorted.{IsPermutation, IsSorted, IsStrictlySortedBy}
use Rattle.std.specs.Ordering.{int_cmp, int_eq, eq_by_cmp, is_eq}
use Rattle.std.specs.declared.cmp.Ordering.{Ordering}
use Rattle.std.specs.declared.cmp.Ordering.TheVariants.{Less, Equal, Greater}
use Rattle.space_ops.specs.LeastShiftLaws.{lists_exact}
use Rattle.space_ops.specs.Op.{vector_of, shift_of}
use Rattle.wyckoff.specs.Places.{place_at}
use Rattle.wyckoff.specs.OrbitParts.{IsRising, AreShaped, AreDistinct}

abbrev cmp : List ℤ → List ℤ → Ordering
cmp = slice_cmp int_cmp

equal : (o : Ordering) → is_eq o ≡ true → o ≡ Equal
equal Less e = let d : false ≡ true = e in cc
equal Equal e = refl
equal Greater e = let d : false ≡ true = e in cc

int_ties : (x y : ℤ) → int_eq x y ≡ eq_by_cmp int_cmp x y
int_ties x y =
    same_from_decides (int_eq x y) (is_eq (int_cmp x y)) (Decides-int_eq x y)
    ((λ e. exact_signed x y (equal (int_cmp x y) e)), (λ e. ap (λ z. is_eq (int_cmp x z)) (sym e) ∙ ap is_eq (tied_itself int_cmp_total x)))

-- places are told apart as they are ordered
pub places_ties : (x y : List ℤ) → pointwise int_eq x y ≡ eq_by_cmp (slice_cmp int_cmp) x y
places_ties = lists_ties int_cmp int_ties

module _ (E : List ℤ → List ℤ → Bool) (ties : (x y : List ℤ) → E x y ≡ eq_by_cmp cmp x y) where
  equivalence : IsEquivalence E
  equivalence =
      let e = eq_by_cmp_equiv (lists_total int_cmp_total) in
      record {
        refl = λ x. ties x x ∙ e.refl x;
        symm = λ x y. ties x y ∙ e.symm x y ∙ sym (ties y x);
        congr = λ x y z f. ties x z ∙ e.congr x y z (sym (ties x y) ∙ f) ∙ sym (ties y z);
      }

  exact : (x y : List ℤ) → E x y ≡ true → x ≡ y
  exact x y f = lists_exact int_cmp exact_signed x y (equal (cmp x y) (sym (ties x y) ∙ f))

  -- what a sort and a `dedup` leave
  pub distinct : (list moved list' : List (List ℤ)) → IsPermutation list moved → IsSorted cmp moved → list' ≡ dedup E moved → AreDistinct list list'
  distinct list moved list' p up is = record {
    rising = λ shaped i j l m. rising_at shaped i j l m;
    kept = kept;
    only = only;
  } where
    kept : (v : List ℤ) → Contains list v → Contains list' v
    kept v c = subst (λ (xs : List (List ℤ)). Contains xs v) (sym is) (Contains-dedup equivalence exact moved v (Contains-permutation list moved v p c))

    only : (v : List ℤ) → Contains list' v → Contains list v
    only v c = Contains-permutation moved list v (IsPermutation-sym list moved p) (Contains-from_dedup E moved v (subst (λ (xs : List (List ℤ)). Contains xs v) is c))

    sorted : IsStrictlySortedBy cmp list'
    sorted = subst (IsStrictlySortedBy cmp) (sym is) (IsStrictlySortedBy-dedup (lists_total int_cmp_total) ties moved up)

    shaped_at : AreShaped list → (i : ℕ) → i < length list' → get_or list' i [] ≡ shift_of (place_at list' i)
    shaped_at shaped i l =
        let c = only (get_or list' i []) (Contains-get_or list' i [] l) in
        let e : get_or list c.0 [] ≡ get_or list' i [] = get_or_default list c.0 [] (get_or list' i []) c.1 ∙ c.2 in
        sym e ∙ shaped c.0 c.1 ∙ ap (λ v. shift_of (vector_of v)) e

    rising_at : AreShaped list → IsRising list'
    rising_at shaped i j l m =
        (λ t. cmp (sym (shaped_at shaped i (omega arith)) t) (sym (shaped_at shaped j m) t)) ∙ Less-from_sorted cmp list' i j [] sorted l m
