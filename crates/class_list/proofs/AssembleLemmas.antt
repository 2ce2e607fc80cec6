-- The collected entries, sorted, are the listing.
use Rattle.std.proofs.Common.{◌≡◌, ◌↔◌, ◌<◌, ◌≤◌, ◌+◌, ◌-◌, ℕ, Bool, true, List, [], ◌∷◌, length, map, get_or, All, IsPermutation, refl, sym, ◌∙◌, ap, subst, arith}
use Rattle.std.specs.declared.cmp.Ordering.{Ordering}
use Rattle.std.specs.declared.cmp.Ordering.TheVariants.{Less, Equal, Greater}
use Rattle.std.specs.Ordering.{is_lt, nat_cmp, ordering_then, MatchOrdering}
use Rattle.std.specs.Cmp.{IsTotalOrder, IsEquivalence, nat_cmp_is, ranks}
use Rattle.std.specs.List.Sorted.{IsSorted}
use Rattle.std.proofs.lemmas.List.{get_or-map, length-map}
use Rattle.std.proofs.lemmas.List.Elements.{All-get_or, All-head, All-tail}
use Rattle.std.proofs.lemmas.List.Sorted.{All-permutation, Contains-permutation}
use Rattle.std.proofs.lemmas.Map.Keys.{IsDistinct-IsPermutation}
use Rattle.cyclo24.specs.ExactField.{ExactField, Value}
use Rattle.lin_alg.specs.Action.{Action, IsAction}
use Rattle.lin_alg.specs.Compared.{lines_cmp}
use Rattle.lin_alg.specs.CompareLaws.{lines_equiv}
use Rattle.lin_alg.specs.Echelon.{EchelonView}
use Rattle.lin_alg.specs.Rows.{exact_rows, HaveWidth}
use Rattle.fix_lattice.specs.Lattice.{HoldsFixes, HasEachStabiliser, AreStabilisers}
use Rattle.fix_lattice.specs.Subspaces.{AreWholeForms, exact_forms}
use Rattle.class_list.specs.declared.arrows.Arrow.{Arrow}
use Rattle.class_list.specs.declared.order.Order.{Order}
use Rattle.class_list.specs.declared.ranked.Ranked.{Ranked}
use Rattle.class_list.specs.declared.order.Order.TheVariants.{Dimension, Index}
use Rattle.class_list.specs.Collected.{Entry, HasPlace, AreCollected, same_entry}
use Rattle.class_list.specs.Directions.{IsListing, direction_cmp, equations_cmp}
use Rattle.class_list.specs.Entries.{IsEntryOf}
use Rattle.class_list.specs.Images.{AreArrows}
use Rattle.class_list.specs.Least.{AreLeast, AreSettled}
use Rattle.class_list.specs.Ranked.{ranked_cmp}
use Rattle.class_list.specs.Ranks.{rows_at, place_cmp}
use Rattle.class_list.specs.Seen.{direction_of}
use Rattle.class_list.proofs.InsertLemmas.{exact_rows-length}
use Rattle.class_list.proofs.ListLemmas.{all-directions, one, least-of-class}
use Rattle.class_list.proofs.OrderLemmas.{equations-written}

-- entries by their first number, the second, and the entries of the equations
abbrev pub entry_cmp : {A : Type 0} → (A → A → Ordering) → Entry A → Entry A → Ordering
entry_cmp R = ranked_cmp (λ e. e.0.0) (λ e. e.0.1) (λ e. e.1.equations.rows) R

-- what is left over falls as what is taken rises
minus-cmp : (n p q : ℕ) → p ≤ n → q ≤ n → nat_cmp (n - p) (n - q) ≡ nat_cmp q p
minus-cmp n p q a b = sym (nat_cmp_is (n - p) (n - q) (nat_cmp q p) (back (nat_cmp q p) (ranks q p)))
  where
    back : (r : Ordering) → MatchOrdering r (q < p) (q ≡ p) (p < q) → MatchOrdering r (n - p < n - q) (n - p ≡ n - q) (n - q < n - p)
    back Less l = let m : q < p = l in omega arith
    back Equal l = let m : q ≡ p = l in omega arith
    back Greater l = let m : p < q = l in omega arith

-- a sorted list is sorted by what an order of images says
sorted-map : {X Y : Type 0} (h : X → Y) (R : X → X → Ordering) (S : Y → Y → Ordering) (xs : List X) →
    ((i j : ℕ) (d : X) → i < length xs → j < length xs → R (get_or xs i d) (get_or xs j d) ≡ S (h (get_or xs i d)) (h (get_or xs j d))) → IsSorted R xs → IsSorted S (map h xs)
sorted-map h R S [] e s = λ k d l m. absurd (omega arith)
sorted-map {X} h R S (x ∷ xs) e s =
    λ k d l m.
    let all : List X = x ∷ xs in
    let n : k + 1 < length all = subst (λ (z : ℕ). k + 1 < z) (length-map all h) m in
    let a = get_or-map h all (k + 1) x d n in
    let b = get_or-map h all k x d (omega arith) in
    (λ i. is_lt (S (a i) (b i))) ∙ ap is_lt (sym (e (k + 1) k x n (omega arith))) ∙ s k x l n

module _ {A : Type 0} (f : ExactField) (value : A → Value f) (E : A → A → Bool) (same : IsEquivalence E) (act : Action) (order : Order) (es : List (EchelonView A)) (least : List ℕ) (n : ℕ) where
  -- collected entries in another order are so too
  pub collected-sorted : (xs ys : List (Entry A)) → IsPermutation xs ys → AreCollected f.laws value E act order es least n xs → AreCollected f.laws value E act order es least n ys
  collected-sorted xs ys p c = record {
    from = All-permutation (HasPlace f.laws value act order es least n) xs ys p c.from;
    each = λ i l e. let t = c.each i l e in record { entry = t.entry; there = Contains-permutation xs ys t.entry p t.there; made = t.made };
    once = IsDistinct-IsPermutation (same_entry E) (λ a b. (lines_equiv same).symm a.1.equations.rows b.1.equations.rows) xs ys p c.once;
  }

  pub forms-made : (ys : List (Entry A)) → All (HasPlace f.laws value act order es least n) ys → AreWholeForms f.laws value act.dim (map (λ e. e.1.equations) ys)
  forms-made [] a = tt
  forms-made (y ∷ ys) a = let h = All-head (HasPlace f.laws value act order es least n) y ys a in (h.made.form, forms-made ys (All-tail (HasPlace f.laws value act order es least n) y ys a))

module _ {A : Type 0} (f : ExactField) (value : A → Value f) (R : A → A → Ordering) (compares : (x y : A) → R x y ≡ f.cmp (value x) (value y)) (act : Action) where
  -- entries compare as their directions do
  entry-written : (order : Order) (a b : Entry A) (rs ss : List (ℕ × List A)) → IsEntryOf f.laws value act order rs a.0 a.1 → IsEntryOf f.laws value act order ss b.0 b.1 →
      entry_cmp R a b ≡ direction_cmp f.cmp act order (direction_of f.laws value a.1) (direction_of f.laws value b.1)
  entry-written Dimension a b rs ss x y =
      let wa : HaveWidth act.dim a.1.equations.rows = subst (λ (w : ℕ). HaveWidth w a.1.equations.rows) x.form.width x.form.form.shape in
      let wb : HaveWidth act.dim b.1.equations.rows = subst (λ (w : ℕ). HaveWidth w b.1.equations.rows) y.form.width y.form.form.shape in
      let da : a.0.0 ≡ act.dim - length (exact_rows f.laws value a.1.equations.rows) = ap (λ (z : ℕ × ℕ). z.0) x.keys ∙ ap (λ (n : ℕ). act.dim - n) (ap length (sym x.rows) ∙ sym (exact_rows-length f value a.1.equations.rows)) in
      let db : b.0.0 ≡ act.dim - length (exact_rows f.laws value b.1.equations.rows) = ap (λ (z : ℕ × ℕ). z.0) y.keys ∙ ap (λ (n : ℕ). act.dim - n) (ap length (sym y.rows) ∙ sym (exact_rows-length f value b.1.equations.rows)) in
      let m : nat_cmp a.0.1 b.0.1 ≡ nat_cmp (length b.1.stabiliser) (length a.1.stabiliser) =
      (λ i. nat_cmp (x.keys i).1 (y.keys i).1) ∙ minus-cmp act.group.order (length a.1.stabiliser) (length b.1.stabiliser) x.few y.few in
      let e : lines_cmp R a.1.equations.rows b.1.equations.rows ≡ equations_cmp f.cmp act.dim (exact_rows f.laws value a.1.equations.rows) (exact_rows f.laws value b.1.equations.rows) =
      equations-written f value R compares act.dim a.1.equations.rows b.1.equations.rows wa wb in
      λ i. ordering_then (nat_cmp (da i) (db i)) (ordering_then (m i) (e i))
  entry-written Index a b rs ss x y =
      let wa : HaveWidth act.dim a.1.equations.rows = subst (λ (w : ℕ). HaveWidth w a.1.equations.rows) x.form.width x.form.form.shape in
      let wb : HaveWidth act.dim b.1.equations.rows = subst (λ (w : ℕ). HaveWidth w b.1.equations.rows) y.form.width y.form.form.shape in
      let da : a.0.1 ≡ act.dim - length (exact_rows f.laws value a.1.equations.rows) = ap (λ (z : ℕ × ℕ). z.1) x.keys ∙ ap (λ (n : ℕ). act.dim - n) (ap length (sym x.rows) ∙ sym (exact_rows-length f value a.1.equations.rows)) in
      let db : b.0.1 ≡ act.dim - length (exact_rows f.laws value b.1.equations.rows) = ap (λ (z : ℕ × ℕ). z.1) y.keys ∙ ap (λ (n : ℕ). act.dim - n) (ap length (sym y.rows) ∙ sym (exact_rows-length f value b.1.equations.rows)) in
      let m : nat_cmp a.0.0 b.0.0 ≡ nat_cmp (length b.1.stabiliser) (length a.1.stabiliser) =
      (λ i. nat_cmp (x.keys i).0 (y.keys i).0) ∙ minus-cmp act.group.order (length a.1.stabiliser) (length b.1.stabiliser) x.few y.few in
      let e : lines_cmp R a.1.equations.rows b.1.equations.rows ≡ equations_cmp f.cmp act.dim (exact_rows f.laws value a.1.equations.rows) (exact_rows f.laws value b.1.equations.rows) =
      equations-written f value R compares act.dim a.1.equations.rows b.1.equations.rows wa wb in
      λ i. ordering_then (m i) (ordering_then (nat_cmp (da i) (db i)) (e i))

  pub listing-made : (E : A → A → Bool) → ((x y : A) → (E x y ≡ true) ↔ (value x ≡ value y)) → IsTotalOrder R → IsAction f.laws act → (es : List (EchelonView A)) → AreWholeForms f.laws value act.dim es →
      HoldsFixes f.laws act (exact_forms f.laws value es) → HasEachStabiliser f.laws act (exact_forms f.laws value es) → AreStabilisers f.laws act (exact_forms f.laws value es) →
      (arrows : List Arrow) → AreArrows f.laws act (exact_forms f.laws value es) act.generators 0 arrows →
      (least : List ℕ) → AreLeast (place_cmp R es) (length es) arrows least → AreSettled (place_cmp R es) arrows least → (order : Order) →
      (entries : List (Entry A)) → AreCollected f.laws value E act order es least (length es) entries → IsSorted (entry_cmp R) entries →
      IsListing f.laws f.cmp act order (map (λ (e : Entry A). direction_of f.laws value e.1) entries)
  listing-made E tells total law es whole holds vectors spaces arrows images least all settled order entries made sorted =
      let P : Entry A → Type 0 = HasPlace f.laws value act order es least (length es) in
      record {
        directions = all-directions f value E tells R total compares act law es whole holds vectors spaces arrows images least all settled order entries made;
        one = one f value E tells R total compares act law es whole holds vectors spaces arrows images least all settled order entries made;
        least = least-of-class f value E tells R total compares act law es whole holds vectors spaces arrows images least all settled order entries made;
        sorted = sorted-map (λ (e : Entry A). direction_of f.laws value e.1) (entry_cmp R) (direction_cmp f.cmp act order) entries (λ i j d l m.
            let a : P (get_or entries i d) = All-get_or P entries i d l made.from in
            let b : P (get_or entries j d) = All-get_or P entries j d m made.from in
            entry-written order (get_or entries i d) (get_or entries j d) (rows_at es a.place) (rows_at es b.place) a.made b.made) sorted;
      }

-- ranked directions sorted by their order are sorted as entries
pub sorted-entries : {A : Type 0} (R : A → A → Ordering) (xs : List (Ranked A)) → IsSorted (ranked_cmp (λ r. r.first) (λ r. r.second) (λ r. r.direction.equations.rows) R) xs →
    IsSorted (entry_cmp R) (map (λ r. ((r.first, r.second), r.direction)) xs)
sorted-entries {A} R xs s =
    let to : Ranked A → Entry A = λ r. ((r.first, r.second), r.direction) in
    sorted-map to (ranked_cmp (λ (r : Ranked A). r.first) (λ (r : Ranked A). r.second) (λ (r : Ranked A). r.direction.equations.rows) R) (entry_cmp R) xs (λ i j d l m. refl) s
