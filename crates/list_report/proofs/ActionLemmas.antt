-- Actions of one group whose matrices agree have the same fixed subspaces and the same listings.
use Rattle.std.proofs.Common.{◌≡◌, ◌≢◌, sym, ap, ◌∙◌, subst, ℕ, ◌<◌, ◌≤◌, ◌-◌, ◌↔◌, List, [], ◌∷◌, length, arith}
use Rattle.std.specs.Prelude.{Contains, IsSorted}
use Rattle.std.specs.Ordering.{nat_cmp, on, then_cmp, flip_args}
use Rattle.std.specs.declared.cmp.Ordering.{Ordering}
use Rattle.std.specs.declared.cmp.Ordering.TheVariants.{Greater}
use Rattle.algebra.specs.NumberedGroup.{Group, IsGroup, AllBelow}
use Rattle.algebra.specs.RisingLists.{IsRisingListOf}
use Rattle.algebra.specs.RisingListLaws.{list-same, listed-below}
use Rattle.cyclo24.specs.ExactField.{ExactField, Value}
use Rattle.cyclo24.specs.Sums.{total}
use Rattle.cyclo24.specs.TotalLaws.{total-same}
use Rattle.lin_alg.specs.Action.{Action, IsFixed, entry_of, image}
use Rattle.lin_alg.specs.Equations.{IsEquationsOf}
use Rattle.lin_alg.specs.Fixed.{Fix}
use Rattle.fix_lattice.specs.Lattice.{AreMoreFixes}
use Rattle.class_list.specs.declared.order.Order.{Order}
use Rattle.class_list.specs.declared.order.Order.TheVariants.{Dimension, Index}
use Rattle.class_list.specs.Directions.{Direction, IsDirection, IsOfClass, HasOneOfClass, direction_cmp, equations_cmp, IsListing}
use Rattle.class_list.specs.Stabilisers.{IsStabiliserOf, IsInFixedSpace, AreConjugate, conjugate}
use Rattle.list_report.specs.TwinLaws.{AreAlike}

module _ (f : ExactField) (a b : Action) (s : AreAlike f a b) where
  order-is : a.group.order ≡ b.group.order
  order-is = ap (λ (g : Group). g.order) s.group

  order-to : (q : ℕ) → q < a.group.order → q < b.group.order
  order-to q l = subst (λ (n : ℕ). q < n) order-is l

  order-back : (q : ℕ) → q < b.group.order → q < a.group.order
  order-back q l = subst (λ (n : ℕ). q < n) (sym order-is) l

  dim-to : (i : ℕ) → i < a.dim → i < b.dim
  dim-to i l = subst (λ (n : ℕ). i < n) s.dim l

  dim-back : (i : ℕ) → i < b.dim → i < a.dim
  dim-back i l = subst (λ (n : ℕ). i < n) (sym s.dim) l

  pub alike-sym : AreAlike f b a
  alike-sym = record {
    group = sym s.group;
    dim = sym s.dim;
    entries = λ q i j l li lj. sym (s.entries q i j (order-back q l) (dim-back i li) (dim-back j lj));
    lawful = subst IsGroup s.group s.lawful;
  }

  image-is : (q : ℕ) → q < a.group.order → (v : ℕ → Value f) (i : ℕ) → i < a.dim → image f.laws a q v i ≡ image f.laws b q v i
  image-is q l v i li =
      total-same f.laws a.dim (λ k. f.laws.times (entry_of f.laws a q i k) (v k)) (λ k. f.laws.times (entry_of f.laws b q i k) (v k))
      (λ k lk. ap (λ x. f.laws.times x (v k)) (s.entries q i k l li lk))
      ∙ ap (λ n. total f.laws n (λ k. f.laws.times (entry_of f.laws b q i k) (v k))) s.dim

  pub fixed-to : (q : ℕ) → q < a.group.order → (v : ℕ → Value f) → IsFixed f.laws a q v → IsFixed f.laws b q v
  fixed-to q l v h i li = sym (image-is q l v i (dim-back i li)) ∙ h i (dim-back i li)

  fix-to : (h : List ℕ) → AllBelow a.group.order h → (v : ℕ → Value f) → Fix f.laws a h v → Fix f.laws b h v
  fix-to [] l v x = tt
  fix-to (q ∷ h) l v x = (fixed-to q l.0 v x.0, fix-to h l.1 v x.1)

  class-path : (m q : ℕ) → conjugate a.group q m ≡ conjugate b.group q m
  class-path m q = ap (λ g. conjugate g q m) s.group

  conjugate-below : (m q : ℕ) → m < a.group.order → q < a.group.order → conjugate a.group q m < a.group.order
  conjugate-below m q lm lq = s.lawful.product_below (a.group.product q m) (a.group.inverse q) (s.lawful.product_below q m lq lm) (s.lawful.inverse_below q lq)

  conjugate-to : (hs ks : List ℕ) → AreConjugate a hs ks → AreConjugate b hs ks
  conjugate-to hs ks c =
      let P : Group → Type 0 = λ g. (q : ℕ) × (q < g.order) × ((m : ℕ) → m < g.order → Contains ks (conjugate g q m) ↔ Contains hs m) in
      subst P s.group c

  pub cmp-is : {K : Type 0} (cmp : K → K → Ordering) (o : Order) → direction_cmp cmp a o ≡ direction_cmp cmp b o
  cmp-is cmp Dimension =
      λ t. then_cmp (on (λ d. s.dim t - length d.equations) nat_cmp) (then_cmp (on (λ d. length d.stabiliser) (flip_args nat_cmp)) (on (λ d. d.equations) (equations_cmp cmp (s.dim t))))
  cmp-is cmp Index =
      λ t. then_cmp (on (λ d. length d.stabiliser) (flip_args nat_cmp)) (then_cmp (on (λ d. s.dim t - length d.equations) nat_cmp) (on (λ d. d.equations) (equations_cmp cmp (s.dim t))))

-- both ways
module _ (f : ExactField) (a b : Action) (s : AreAlike f a b) where
  abbrev r : AreAlike f b a
  r = alike-sym f a b s

  fixed-back : (q : ℕ) → q < a.group.order → (v : ℕ → Value f) → IsFixed f.laws b q v → IsFixed f.laws a q v
  fixed-back q l v h = fixed-to f b a r q (order-to f a b s q l) v h

  stabiliser-to : (v : ℕ → Value f) (hs : List ℕ) → IsStabiliserOf f.laws a v hs → IsStabiliserOf f.laws b v hs
  stabiliser-to v hs h =
      let P : ℕ → Type 0 = λ n. IsRisingListOf n (λ q. IsFixed f.laws b q v) hs in
      subst P (order-is f a b s)
      (list-same a.group.order (λ q. IsFixed f.laws a q v) (λ q. IsFixed f.laws b q v) hs (λ q l x. fixed-to f a b s q l v x) (λ q l x. fixed-back q l v x) h)

  module _ (hs : List ℕ) (u : ℕ → Value f) (h : IsStabiliserOf f.laws a u hs) where
    member : (q : ℕ) → Contains hs q → q < a.group.order
    member q c = listed-below a.group.order (λ p. IsFixed f.laws a p u) hs h q c

    space-to : (v : ℕ → Value f) → IsInFixedSpace f.laws a hs v → IsInFixedSpace f.laws b hs v
    space-to v x q c = fixed-to f a b s q (member q c) v (x q c)

    space-back : (v : ℕ → Value f) → IsInFixedSpace f.laws b hs v → IsInFixedSpace f.laws a hs v
    space-back v x q c = fixed-back q (member q c) v (x q c)

    equations-to : (rs : List (ℕ × (ℕ → Value f))) → IsEquationsOf f.laws a.dim (IsInFixedSpace f.laws a hs) rs → IsEquationsOf f.laws b.dim (IsInFixedSpace f.laws b hs) rs
    equations-to rs e =
        let P : ℕ → Type 0 = λ n. IsEquationsOf f.laws n (IsInFixedSpace f.laws b hs) rs in
        subst P s.dim (record {
          form = e.form;
          spans = λ x. (
            λ k. let t = (e.spans x).0 k in (t.0, λ v y. t.1 v (space-back v y)),
            λ t. (e.spans x).1 (t.0, λ v y. t.1 v (space-to v y)),
          );
        })

  pub direction-to : (d : Direction (Value f)) → IsDirection f.laws a d → IsDirection f.laws b d
  direction-to d h = record {
    isotropy = (h.isotropy.0, stabiliser-to h.isotropy.0 d.stabiliser h.isotropy.1);
    equations = equations-to d.stabiliser h.isotropy.0 h.isotropy.1 d.equations h.equations;
    whole = λ q l k. h.whole q (order-back f a b s q l)
        (λ v x. fixed-back q (order-back f a b s q l) v (k v (space-to d.stabiliser h.isotropy.0 h.isotropy.1 v x)));
  }

  class-to : (v : ℕ → Value f) (d : Direction (Value f)) → IsOfClass f.laws a v d → IsOfClass f.laws b v d
  class-to v d (q, l, k) = (
    q,
    order-to f a b s q l,
    λ m lm.
        let la : m < a.group.order = order-back f a b s m lm in
        let below = conjugate-below f a b s m q la l in
        let P : ℕ → Type 0 = λ n. IsFixed f.laws b n v in (
          λ c. subst P (class-path f a b s m q) (fixed-to f a b s (conjugate a.group q m) below v ((k m la).0 c)),
          λ x. (k m la).1 (fixed-back (conjugate a.group q m) below v (subst P (sym (class-path f a b s m q)) x)),
        ),
  )

module _ (f : ExactField) (a b : Action) (s : AreAlike f a b) where
  one-to : (v : ℕ → Value f) (ds : List (Direction (Value f))) → HasOneOfClass f.laws a v ds → HasOneOfClass f.laws b v ds
  one-to v ds o = record {
    at = o.at;
    direction = o.direction;
    is_at = o.is_at;
    of_class = class-to f a b s v o.direction o.of_class;
    only = λ k d e c. o.only k d e (class-to f b a (alike-sym f a b s) v d c);
  }

  -- a listing of the one is a listing of the other
  pub listing-to : (o : Order) (ds : List (Direction (Value f))) → IsListing f.laws f.cmp a o ds → IsListing f.laws f.cmp b o ds
  listing-to o ds h =
      let t = alike-sym f a b s in
      let P : (Direction (Value f) → Direction (Value f) → Ordering) → Type 0 = λ c. IsSorted c ds in
      record {
        directions = λ k d l. direction-to f a b s _ (h.directions k d l);
        one = λ v. one-to v ds (h.one v);
        least = λ d e c k j.
            let less = h.least d e c (direction-to f b a t e k) (conjugate-to f b a t d.stabiliser e.stabiliser j) in
            subst (λ (c : Direction (Value f) → Direction (Value f) → Ordering). c d e ≢ Greater) (cmp-is f a b s f.cmp o) less;
        sorted = subst P (cmp-is f a b s f.cmp o) h.sorted;
      }

  -- as many fixed subspaces
  pub more-to : (n : ℕ) → AreMoreFixes f.laws a n → AreMoreFixes f.laws b n
  more-to n (h, below, apart) =
      let t = alike-sym f a b s in (
        h,
        λ i l. subst (λ (m : ℕ). AllBelow m (h i)) (order-is f a b s) (below i l),
        λ i j l k same. apart i j l k (λ v.
            let li = below i (lower i j n l k) in
            let lj = below j k in
            let mi = subst (λ (m : ℕ). AllBelow m (h i)) (order-is f a b s) li in
            let mj = subst (λ (m : ℕ). AllBelow m (h j)) (order-is f a b s) lj in (
              λ x. fix-to f b a t (h j) mj v ((same v).0 (fix-to f a b s (h i) li v x)),
              λ x. fix-to f b a t (h i) mi v ((same v).1 (fix-to f a b s (h j) lj v x)),
            )),
      )
    where
      lower : (i j n : ℕ) → i < j → j ≤ n → i ≤ n
      lower i j n l k = omega (arith, l, k)
