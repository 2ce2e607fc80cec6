-- How many directions a listing has, and how many elements a stabiliser.
use Rattle.std.proofs.Common.{◌≡◌, ◌⊎◌, inl, inr, refl, sym, ap, ◌∙◌, subst, ℕ, zero, suc, ◌-◌, ◌<◌, ◌≤◌, List, [], ◌∷◌, length, get_or, Contains, arith}
use Rattle.std.proofs.lemmas.Bool.{cases_order}
use Rattle.std.proofs.lemmas.Option.{slice_get-get_or}
use Rattle.algebra.specs.NumberedGroup.{AllBelow}
use Rattle.algebra.specs.NumberedGroupLaws.{product-identity}
use Rattle.algebra.specs.RisingLists.{IsRisingListOf}
use Rattle.algebra.specs.RisingListLaws.{listed-below, listed-has, has-listed}
use Rattle.cyclo24.specs.ExactField.{ExactField, Value}
use Rattle.lin_alg.specs.Action.{Action, IsAction, IsFixed}
use Rattle.lin_alg.specs.Fixed.{Fix, IsFixedByAll}
use Rattle.lin_alg.specs.Spans.{AreSame}
use Rattle.fix_lattice.specs.Lattice.{AreMoreFixes}
use Rattle.class_list.specs.declared.order.Order.{Order}
use Rattle.class_list.specs.Directions.{Direction, IsListing, IsOfClass}
use Rattle.class_list.specs.Stabilisers.{conjugate}

-- each number of a rising list is at least its place
rising-at : (n : ℕ) (P : ℕ → Type 0) (xs : List ℕ) → IsRisingListOf n P xs → (i : ℕ) → i < length xs → i ≤ get_or xs i 0
rising-at n P xs h zero l = omega arith
rising-at n P xs h (suc i) l =
    let before : i ≤ get_or xs i 0 = rising-at n P xs h i (omega arith) in
    let k : get_or xs i 0 < get_or xs (suc i) 0 = h.rising i (suc i) (omega arith) l in
    omega arith

-- numbers below n are n at most
pub rising-few : (n : ℕ) (P : ℕ → Type 0) (xs : List ℕ) → IsRisingListOf n P xs → length xs ≤ n
rising-few n P xs h = by-length (cases_order 0 (length xs))
  where
    by-length : (0 ≡ length xs) ⊎ ((0 < length xs) ⊎ (length xs < 0)) → length xs ≤ n
    by-length (inl e) = omega arith
    by-length (inr (inl l)) =
        let last : length xs - 1 < length xs = omega arith in
        let a : length xs - 1 ≤ get_or xs (length xs - 1) 0 = rising-at n P xs h (length xs - 1) last in
        let b : get_or xs (length xs - 1) 0 < n = h.below (length xs - 1) last in
        omega arith
    by-length (inr (inr l)) = absurd (omega arith)

all-below : (n : ℕ) (xs : List ℕ) → ((a : ℕ) → Contains xs a → a < n) → AllBelow n xs
all-below n [] h = tt
all-below n (x ∷ xs) h = (h x (0, omega arith, refl), all-below n xs (λ a c. h a (suc c.0, omega (arith, c.1), c.2)))

-- what each of a list fixes
fix-to : {V : Type 0} (R : ℕ → V → Type 0) (xs : List ℕ) (v : V) → IsFixedByAll R xs v → (a : ℕ) → Contains xs a → R a v
fix-to R [] v h a (i, l, e) = absurd (omega arith)
fix-to R (x ∷ xs) v h a (zero, l, e) = subst (λ b. R b v) e h.0
fix-to R (x ∷ xs) v h a (suc i, l, e) = fix-to R xs v h.1 a (i, omega arith, e)

to-fix : {V : Type 0} (R : ℕ → V → Type 0) (xs : List ℕ) (v : V) → ((a : ℕ) → Contains xs a → R a v) → IsFixedByAll R xs v
to-fix R [] v h = tt
to-fix R (x ∷ xs) v h = (h x (0, omega arith, refl), to-fix R xs v (λ a c. h a (suc c.0, omega (arith, c.1), c.2)))

module _ (f : ExactField) (act : Action) (law : IsAction f.laws act) (o : Order) (ds : List (Direction (Value f))) (h : IsListing f.laws f.cmp act o ds) where
  abbrev nowhere : Direction (Value f)
  nowhere = record { equations = []; stabiliser = [] }

  abbrev at : ℕ → Direction (Value f)
  at i = get_or ds i nowhere

  conjugate-identity : (a : ℕ) → a < act.group.order → conjugate act.group 0 a ≡ a
  conjugate-identity a l =
      let g = act.group in
      let zero_below = law.group.identity_below in
      let back : g.inverse 0 ≡ 0 = sym (product-identity g law.group (g.inverse 0) (law.group.inverse_below 0 zero_below)) ∙ law.group.inverse-product 0 zero_below in
      ap (λ b. g.product b (g.inverse 0)) (law.group.identity-product a l) ∙ ap (g.product a) back ∙ product-identity g law.group a l

  class-by : (v : ℕ → Value f) (d : Direction (Value f)) → ((a : ℕ) → a < act.group.order → Contains d.stabiliser a → IsFixed f.laws act a v)
      → ((a : ℕ) → a < act.group.order → IsFixed f.laws act a v → Contains d.stabiliser a) → IsOfClass f.laws act v d
  class-by v d to from = (
    0,
    law.group.identity_below,
    λ a l. (λ c. subst (λ b. IsFixed f.laws act b v) (sym (conjugate-identity a l)) (to a l c), λ x. from a l (subst (λ b. IsFixed f.laws act b v) (conjugate-identity a l) x)),
  )

  -- the fixed subspaces of two directions differ
  apart : (i j : ℕ) → i < j → j < length ds → AreSame (Fix f.laws act (at i).stabiliser) (Fix f.laws act (at j).stabiliser) → ⊥
  apart i j b lj same =
      let li : i < length ds = omega arith in
      let p = (h.directions i nowhere li).isotropy in
      let q = (h.directions j nowhere lj).isotropy in
      let v = p.0 in
      let w = q.0 in
      let n = act.group.order in
      let R : ℕ → (ℕ → Value f) → Type 0 = IsFixed f.laws act in
      let first = (same v).0 (to-fix R (at i).stabiliser v (listed-has n (λ a. R a v) (at i).stabiliser p.1)) in
      let second = (same w).1 (to-fix R (at j).stabiliser w (listed-has n (λ a. R a w) (at j).stabiliser q.1)) in
      let one = h.one v in
      let here = one.only i (at i) (slice_get-get_or ds i nowhere li)
      (class-by v (at i) (λ a l c. listed-has n (λ b. R b v) (at i).stabiliser p.1 a c) (λ a l x. has-listed n (λ b. R b v) (at i).stabiliser p.1 a l x)) in
      let there = one.only j (at j) (slice_get-get_or ds j nowhere lj)
      (class-by v (at j) (λ a l c. fix-to R (at j).stabiliser v first a c)
      (λ a l x. has-listed n (λ b. R b w) (at j).stabiliser q.1 a l (fix-to R (at i).stabiliser w second a (has-listed n (λ b. R b v) (at i).stabiliser p.1 a l x)))) in
      omega (arith, here, there)

  more-fixes : (n : ℕ) → n < length ds → AreMoreFixes f.laws act n
  more-fixes n many = (
    λ i. (at i).stabiliser,
    λ i l. let p = (h.directions i nowhere (omega arith)).isotropy in all-below act.group.order (at i).stabiliser (listed-below act.group.order (λ a. IsFixed f.laws act a p.0) (at i).stabiliser p.1),
    λ i j b l. apart i j b (omega arith),
  )

  -- a listing has no more directions than there are fixed subspaces
  pub listing-few : (n : ℕ) → (AreMoreFixes f.laws act n → ⊥) → length ds ≤ n
  listing-few n few = by-length (cases_order n (length ds))
    where
      by-length : (n ≡ length ds) ⊎ ((n < length ds) ⊎ (length ds < n)) → length ds ≤ n
      by-length (inl e) = omega arith
      by-length (inr (inl l)) = absurd (few (more-fixes n l))
      by-length (inr (inr l)) = omega arith
