-- The sorted entries are the listing.
use Rattle.std.proofs.Common.{◌≡◌, ◌≢◌, ◌↔◌, ◌<◌, ◌≤◌, ◌-◌, inl, inr, ℕ, suc, zero, Bool, true, false, List, [], ◌∷◌, length, map, get_or, All, Contains, Some, None, slice_get, slice_index, refl, sym, ◌∙◌, ap, subst, arith}
use Rattle.std.specs.declared.cmp.Ordering.{Ordering}
use Rattle.std.specs.declared.cmp.Ordering.TheVariants.{Equal, Greater}
use Rattle.std.specs.Ordering.{is_gt, nat_cmp, ordering_then}
use Rattle.std.specs.Cmp.{IsTotalOrder}
use Rattle.std.proofs.lemmas.Cmp.{tied_itself, on_total, nat_cmp_total}
use Rattle.std.proofs.lemmas.List.{get_or-map, length-map, get_or_default}
use Rattle.std.proofs.lemmas.List.Elements.{All-get_or}
use Rattle.std.proofs.lemmas.Map.Keys.{apart_from_distinct}
use Rattle.std.proofs.lemmas.Option.{slice_get-get_or}
use Rattle.cyclo24.specs.ExactField.{ExactField, Value}
use Rattle.lin_alg.specs.Action.{Action, IsAction, IsFixed}
use Rattle.lin_alg.specs.CompareLaws.{lines_total}
use Rattle.lin_alg.specs.CompareLaws.{lines-equal}
use Rattle.lin_alg.specs.Echelon.{EchelonView}
use Rattle.lin_alg.specs.Equations.{Vanishes, IsEquationsOf}
use Rattle.lin_alg.specs.Rows.{exact_rows, HaveWidth}
use Rattle.lin_alg.specs.Spans.{row_vectors, AreSame}
use Rattle.fix_lattice.specs.FormLaws.{exact-length}
use Rattle.fix_lattice.specs.Lattice.{form_at, HoldsFixes, HasEachStabiliser, AreStabilisers}
use Rattle.fix_lattice.specs.LatticeLaws.{fix-vanishes}
use Rattle.fix_lattice.specs.Subspaces.{AreWholeForms, exact_forms}
use Rattle.class_list.specs.declared.arrows.Arrow.{Arrow}
use Rattle.class_list.specs.declared.order.Order.{Order}
use Rattle.class_list.specs.declared.order.Order.TheVariants.{Dimension, Index}
use Rattle.class_list.specs.Collected.{Entry, HasPlace, AreCollected, same_entry}
use Rattle.class_list.specs.Directions.{Direction, IsDirection, HasOneOfClass, dim_of, direction_cmp, equations_cmp}
use Rattle.class_list.specs.Entries.{IsEntryOf}
use Rattle.class_list.specs.Images.{AreArrows}
use Rattle.class_list.specs.Least.{AreLeast, AreSettled}
use Rattle.class_list.specs.Ranks.{rows_at, place_cmp}
use Rattle.class_list.specs.Seen.{direction_of}
use Rattle.algebra.specs.RisingLists.{IsRisingListOf}
use Rattle.algebra.specs.RisingListLaws.{has-listed, list-same, listed-below, listed-has}
use Rattle.class_list.specs.Stabilisers.{IsInFixedSpace, AreConjugate, conjugate}
use Rattle.class_list.proofs.ClassLemmas.{class-least, least-class, least-own, least-of}
use Rattle.class_list.proofs.CollectLemmas.{form-rows}
use Rattle.class_list.proofs.GroupLemmas.{Conjugates, conjugates-back, conjugate-below, conjugate-once}
use Rattle.class_list.proofs.LengthLemmas.{held-length}
use Rattle.class_list.proofs.MemberLemmas.{rising-into}
use Rattle.class_list.proofs.NumberLemmas.{order_of}
use Rattle.class_list.proofs.OrderLemmas.{equations-tied, equations-written}
use Rattle.class_list.proofs.SpaceLemmas.{Keeps, keeps-closed, keeps-apart, image-conjugates, direction-form}

module _ {A : Type 0} (f : ExactField) (value : A → Value f) where
  width-rows : (w : ℕ) (es : List (EchelonView A)) → AreWholeForms f.laws value w es → (i : ℕ) → HaveWidth w (rows_at es i)
  width-rows w [] a i = tt
  width-rows w (e ∷ es) a zero = subst (λ (n : ℕ). HaveWidth n e.rows) a.0.width a.0.form.shape
  width-rows w (e ∷ es) a (suc i) = width-rows w es a.1 i

not-greater : (o : Ordering) → is_gt o ≡ false → o ≢ Greater
not-greater o h e = let t : true ≡ false = sym (ap is_gt e) ∙ h in cc

-- directions of one dimension and one order compare as their equations do
pub same-cmp : (f : ExactField) (act : Action) (order : Order) (d e : Direction (Value f)) → length d.equations ≡ length e.equations → length d.stabiliser ≡ length e.stabiliser →
    direction_cmp f.cmp act order d e ≡ equations_cmp f.cmp act.dim d.equations e.equations
same-cmp f act Dimension d e r m =
    let a : nat_cmp (dim_of act d) (dim_of act e) ≡ Equal = ap (λ n. nat_cmp (act.dim - n) (dim_of act e)) r ∙ tied_itself nat_cmp_total (dim_of act e) in
    let b : nat_cmp (length e.stabiliser) (length d.stabiliser) ≡ Equal = ap (λ n. nat_cmp (length e.stabiliser) n) m ∙ tied_itself nat_cmp_total (length e.stabiliser) in
    λ i. ordering_then (a i) (ordering_then (b i) (equations_cmp f.cmp act.dim d.equations e.equations))
same-cmp f act Index d e r m =
    let a : nat_cmp (dim_of act d) (dim_of act e) ≡ Equal = ap (λ n. nat_cmp (act.dim - n) (dim_of act e)) r ∙ tied_itself nat_cmp_total (dim_of act e) in
    let b : nat_cmp (length e.stabiliser) (length d.stabiliser) ≡ Equal = ap (λ n. nat_cmp (length e.stabiliser) n) m ∙ tied_itself nat_cmp_total (length e.stabiliser) in
    λ i. ordering_then (b i) (ordering_then (a i) (equations_cmp f.cmp act.dim d.equations e.equations))

-- conjugate lists are equally long
conjugate-members : (f : ExactField) (act : Action) (law : IsAction f.laws act) (hs ks : List ℕ) (q : ℕ) → q < act.group.order → (P T : ℕ → Type 0) → IsRisingListOf act.group.order P hs → IsRisingListOf act.group.order T ks →
    Conjugates act.group law.group q P T → length hs ≡ length ks
conjugate-members f act law hs ks q l P T h k c =
    let g = act.group in
    let r : ℕ = g.inverse q in
    let rl : r < g.order = law.group.inverse_below q l in
    let back = conjugates-back g law.group q P T l c in
    let a : length hs ≤ length ks = rising-into g.order P T hs ks (conjugate g q) h k (λ x m p. (conjugate-below g law.group q x l m, (c x m).0 p)) (λ x y m n e. conjugate-once g law.group q x y l m n e) in
    let b : length ks ≤ length hs = rising-into g.order T P ks hs (conjugate g r) k h (λ x m p. (conjugate-below g law.group r x rl m, (back x m).0 p)) (λ x y m n e. conjugate-once g law.group r x y rl m n e) in
    omega arith

module _ {A : Type 0} (f : ExactField) (value : A → Value f) (E : A → A → Bool) (tells : (x y : A) → (E x y ≡ true) ↔ (value x ≡ value y)) (R : A → A → Ordering) (total : IsTotalOrder R) (compares : (x y : A) → R x y ≡ f.cmp (value x) (value y))
    (act : Action) (law : IsAction f.laws act) (es : List (EchelonView A)) (whole : AreWholeForms f.laws value act.dim es)
    (holds : HoldsFixes f.laws act (exact_forms f.laws value es)) (vectors : HasEachStabiliser f.laws act (exact_forms f.laws value es)) (spaces : AreStabilisers f.laws act (exact_forms f.laws value es))
    (arrows : List Arrow) (images : AreArrows f.laws act (exact_forms f.laws value es) act.generators 0 arrows)
    (least : List ℕ) (all : AreLeast (place_cmp R es) (length es) arrows least) (settled : AreSettled (place_cmp R es) arrows least) (order : Order) where
  abbrev forms : List (List (ℕ × (ℕ → Value f)))
  forms = exact_forms f.laws value es

  abbrev S : ℕ → ℕ → Type 0
  S i q = Keeps f act (form_at (exact_forms f.laws value es) i) q

  count : length forms ≡ length es
  count = exact-length f.laws value es

  up : (i : ℕ) → i < length es → i < length forms
  up i l = subst (λ (n : ℕ). i < n) (sym count) l

  down : (i : ℕ) → i < length forms → i < length es
  down i l = subst (λ (n : ℕ). i < n) count l

  cmp_total : IsTotalOrder (place_cmp R es)
  cmp_total = on_total (rows_at es) (lines_total total)

  -- places compare as their equations do
  places-written : (i j : ℕ) → place_cmp R es i j ≡ equations_cmp f.cmp act.dim (form_at forms i) (form_at forms j)
  places-written i j =
      equations-written f value R compares act.dim (rows_at es i) (rows_at es j) (width-rows f value act.dim es whole i) (width-rows f value act.dim es whole j)
      ∙ (λ t. equations_cmp f.cmp act.dim (sym (form-rows f value es i) t) (sym (form-rows f value es j) t))

  apart : (i j : ℕ) → i < length es → j < length es → ((a : ℕ) → a < act.group.order → S i a ↔ S j a) → i ≡ j
  apart i j l m e = keeps-apart f act forms holds i j (up i l) (up j m) e

  tied : (i j : ℕ) → i < length es → j < length es → place_cmp R es i j ≡ Equal → i ≡ j
  tied i j l m e =
      let a = (holds.only i (up i l)).2.form in
      let b = (holds.only j (up j m)).2.form in
      let same : form_at forms i ≡ form_at forms j = equations-tied f act.dim (form_at forms i) (form_at forms j) a b (sym (places-written i j) ∙ e) in
      elim (order_of i j) [
        | inl n ↦ absurd (holds.once i j n (up j m) same)
        | inr (inl n) ↦ n
        | inr (inr n) ↦ absurd (holds.once j i n (up i l) (sym same))
      ]

  within : (s : Arrow) → Contains arrows s → (s.from < length es) × (s.to < length es)
  within s c = let t = images.sound s c in (down s.from t.from, down s.to t.to)

  sound : (s : Arrow) → Contains arrows s → (q : ℕ) × (q < act.group.order) × Conjugates act.group law.group q (S s.from) (S s.to)
  sound s c = let t = images.sound s c in (t.element, t.below, image-conjugates f act law t.element (form_at forms s.from) (form_at forms s.to) t.below t.image)

  each : (p k : ℕ) → p < act.generators → k < length es → (s : Arrow) × Contains arrows s × (s.from ≡ k) × Conjugates act.group law.group (act.generator p) (S k) (S s.to)
  each p k l m =
      let t = images.each p k l (up k m) (inl l) in
      (t.arrow, t.there, t.from, image-conjugates f act law (act.generator p) (form_at forms k) (form_at forms t.arrow.to) (law.generator_below p l) t.image)

  one-least : (q i j : ℕ) → q < act.group.order → i < length es → j < length es → Conjugates act.group law.group q (S i) (S j) → slice_index least i ≡ slice_index least j
  one-least = class-least act.group law.group act.generators act.generator law.generator_below law.generated (length es) S apart arrows within sound each (place_cmp R es) cmp_total tied least all settled

  of-least : (i : ℕ) → i < length es → (q : ℕ) × (q < act.group.order) × Conjugates act.group law.group q (S (slice_index least i)) (S i)
  of-least = least-class act.group law.group act.generators act.generator law.generator_below law.generated (length es) S apart arrows within sound each (place_cmp R es) cmp_total tied least all settled

  own-least : (i : ℕ) → i < length es → slice_index least (slice_index least i) ≡ slice_index least i
  own-least = least-own act.group law.group act.generators act.generator law.generator_below law.generated (length es) S apart arrows within sound each (place_cmp R es) cmp_total tied least all settled

  no-later : (q i j : ℕ) → q < act.group.order → i < length es → j < length es → slice_index least i ≡ i → Conjugates act.group law.group q (S i) (S j) → is_gt (place_cmp R es i j) ≡ false
  no-later = least-of act.group law.group act.generators act.generator law.generator_below law.generated (length es) S apart arrows within sound each (place_cmp R es) cmp_total tied least all settled

  abbrev told : Entry A → Direction (Value f)
  told e = direction_of f.laws value e.1

  -- what an entry of a place is
  module _ (e : Entry A) (i : ℕ) (l : i < length es) (made : IsEntryOf f.laws value act order (rows_at es i) e.0 e.1) where
    entry-form : (told e).equations ≡ form_at forms i
    entry-form = ap (exact_rows f.laws value) made.rows ∙ sym (form-rows f value es i)

    entry-members : IsRisingListOf act.group.order (S i) e.1.stabiliser
    entry-members = subst (λ (z : List (ℕ × (ℕ → Value f))). IsRisingListOf act.group.order (Keeps f act z) e.1.stabiliser) (sym (form-rows f value es i)) made.stabiliser

    entry-holds : (q : ℕ) → q < act.group.order → S i q ↔ Contains (told e).stabiliser q
    entry-holds q m = (λ h. has-listed act.group.order (S i) e.1.stabiliser entry-members q m h, λ c. listed-has act.group.order (S i) e.1.stabiliser entry-members q c)

    fixed-space : AreSame (IsInFixedSpace f.laws act (told e).stabiliser) (Vanishes f.laws act.dim (row_vectors (form_at forms i)))
    fixed-space v =
        let b = holds.only i (up i l) in
        let closed = keeps-closed f act b.0 (form_at forms i) b.1 b.2 v in (
          λ k. closed.1 (λ q m h. k q (has-listed act.group.order (S i) e.1.stabiliser entry-members q m h)),
          λ k q c. listed-has act.group.order (S i) e.1.stabiliser entry-members q c v k,
        )

    entry-direction : IsDirection f.laws act (told e)
    entry-direction =
        let b = holds.only i (up i l) in
        let s = spaces i (up i l) in
        let r : IsEquationsOf f.laws act.dim (IsInFixedSpace f.laws act (told e).stabiliser) (form_at forms i) = record {
          form = b.2.form;
          spans = λ x. (
            λ g. let t = (b.2.spans x).0 g in (t.0, λ v a. t.1 v ((fix-vanishes f act b.0 (form_at forms i) b.2 v).0 ((fixed-space v).0 a))),
            λ t. (b.2.spans x).1 (t.0, λ v a. t.1 v ((fixed-space v).1 ((fix-vanishes f act b.0 (form_at forms i) b.2 v).1 a))),
          );
        } in
        record {
          isotropy = (s.0, list-same act.group.order (S i) (λ q. IsFixed f.laws act q s.0) e.1.stabiliser (λ q m. (s.2 q m).0) (λ q m. (s.2 q m).1) entry-members);
          equations = subst (λ (z : List (ℕ × (ℕ → Value f))). IsEquationsOf f.laws act.dim (IsInFixedSpace f.laws act (told e).stabiliser) z) (sym entry-form) r;
          whole = λ q m h. has-listed act.group.order (S i) e.1.stabiliser entry-members q m (λ v k. h v ((fixed-space v).1 k));
        }

  module _ (entries : List (Entry A)) (made : AreCollected f.laws value E act order es least (length es) entries) where
    abbrev ds : List (Direction (Value f))
    ds = map told entries

    place-at : (k : ℕ) (d : Entry A) → k < length entries → HasPlace f.laws value act order es least (length es) (get_or entries k d)
    place-at k d l = All-get_or (HasPlace f.laws value act order es least (length es)) entries k d l made.from

    count-ds : length ds ≡ length entries
    count-ds = length-map entries told

    told-at : (k : ℕ) (d : Entry A) (z : Direction (Value f)) → k < length entries → get_or ds k z ≡ told (get_or entries k d)
    told-at k d z l = get_or-map told entries k d z l

    -- the entry behind a direction
    behind : (k : ℕ) (d : Direction (Value f)) → slice_get ds k ≡ Some d → (e : Entry A) × (k < length entries) × (get_or entries k e ≡ e) × (d ≡ told e)
    behind k d h = behind-by entries k h
      where
        behind-by : (xs : List (Entry A)) (k : ℕ) → slice_get (map told xs) k ≡ Some d → (e : Entry A) × (k < length xs) × (get_or xs k e ≡ e) × (d ≡ told e)
        behind-by [] k h = let t : None ≡ Some d = h in absurd cc
        behind-by (x ∷ xs) zero h = let t : Some (told x) ≡ Some d = h in (x, omega arith, refl, cc)
        behind-by (x ∷ xs) (suc k) h = let r = behind-by xs k h in let l = r.1 in (r.0, omega arith, r.2, r.3)

    -- entries of one place are at one place of the list
    same-place : (j k : ℕ) (d : Entry A) → j < length entries → k < length entries → (i : ℕ) → IsEntryOf f.laws value act order (rows_at es i) (get_or entries j d).0 (get_or entries j d).1 →
        IsEntryOf f.laws value act order (rows_at es i) (get_or entries k d).0 (get_or entries k d).1 → j ≡ k
    same-place j k d l m i a b =
        let x : Entry A = get_or entries j d in
        let y : Entry A = get_or entries k d in
        let rows : x.1.equations.rows ≡ y.1.equations.rows = a.rows ∙ sym b.rows in
        let wa : HaveWidth act.dim x.1.equations.rows = subst (λ (n : ℕ). HaveWidth n x.1.equations.rows) a.form.width a.form.form.shape in
        let wb : HaveWidth act.dim y.1.equations.rows = subst (λ (n : ℕ). HaveWidth n y.1.equations.rows) b.form.width b.form.form.shape in
        let t : same_entry E x y ≡ true = lines-equal f value E tells act.dim x.1.equations.rows y.1.equations.rows wa wb (ap (exact_rows f.laws value) rows) in
        let t' : same_entry E y x ≡ true = lines-equal f value E tells act.dim y.1.equations.rows x.1.equations.rows wb wa (ap (exact_rows f.laws value) (sym rows)) in
        elim (order_of j k) [
          | inl n ↦ let z : true ≡ false = sym t ∙ apart_from_distinct (same_entry E) entries j k d made.once n m in absurd cc
          | inr (inl n) ↦ n
          | inr (inr n) ↦ let z : true ≡ false = sym t' ∙ apart_from_distinct (same_entry E) entries k j d made.once n l in absurd cc
        ]

    pub all-directions : All (IsDirection f.laws act) ds
    all-directions k z l =
        let m : k < length entries = subst (λ (n : ℕ). k < n) count-ds l in
        all-by entries k z m (λ d. let p = place-at k d m in entry-direction (get_or entries k d) p.place p.below p.made)
      where
        all-by : (xs : List (Entry A)) (k : ℕ) (z : Direction (Value f)) → k < length xs → ((d : Entry A) → IsDirection f.laws act (told (get_or xs k d))) → IsDirection f.laws act (get_or (map told xs) k z)
        all-by [] k z l h = absurd (omega arith)
        all-by (x ∷ xs) zero z l h = h x
        all-by (x ∷ xs) (suc k) z l h = all-by xs k z (omega arith) h

    -- exactly one direction for the class of each stabiliser
    pub one : (v : ℕ → Value f) → HasOneOfClass f.laws act v ds
    one v =
        let t = vectors v in
        let j : ℕ = t.0 in
        let jl : j < length es = down j t.1 in
        let k : ℕ = slice_index least j in
        let kl : k < length es = all.below j jl in
        let c = of-least j jl in
        let has = made.each k kl (own-least j jl) in
        let e : Entry A = has.entry in
        let p : ℕ = has.there.0 in
        let pl : p < length entries = has.there.1 in
        let d : Direction (Value f) = told e in
        let in_ds : p < length ds = subst (λ (n : ℕ). p < n) (sym count-ds) pl in
        let hold = entry-holds e k kl has.made in
        record {
          at = p;
          direction = d;
          is_at = slice_get-get_or ds p d in_ds ∙ ap Some (told-at p e d pl ∙ ap told has.there.2);
          of_class = (
            c.0,
            c.1,
            λ a l.
                let b = (c.2 a l) in
                let q = t.2 (conjugate act.group c.0 a) (conjugate-below act.group law.group c.0 a c.1 l) in (
                  λ h. q.0 (b.0 ((hold a l).1 h)),
                  λ h. (hold a l).0 (b.1 (q.1 h)),
                ),
          );
          only = λ n d' h cl.
              let x = behind n d' h in
              let e' : Entry A = get_or entries n x.0 in
              let y : HasPlace f.laws value act order es least (length es) e' = place-at n x.0 x.1 in
              let told' : d' ≡ told e' = x.3 ∙ ap told (sym x.2) in
              let hold' = entry-holds e' y.place y.below y.made in
              let conj : Conjugates act.group law.group cl.0 (S y.place) (S j) =
              λ a l.
              let q = t.2 (conjugate act.group cl.0 a) (conjugate-below act.group law.group cl.0 a cl.1 l) in (
                λ h'. q.1 ((cl.2 a l).0 (subst (λ (z : Direction (Value f)). Contains z.stabiliser a) (sym told') ((hold' a l).0 h'))),
                λ h'. (hold' a l).1 (subst (λ (z : Direction (Value f)). Contains z.stabiliser a) told' ((cl.2 a l).1 (q.0 h'))),
              ) in
              let same : y.place ≡ k = sym y.own ∙ one-least cl.0 y.place j cl.1 y.below jl conj in
              let made' : IsEntryOf f.laws value act order (rows_at es k) e'.0 e'.1 = subst (λ (z : ℕ). IsEntryOf f.laws value act order (rows_at es z) e'.0 e'.1) same y.made in
              let at_p : get_or entries p x.0 ≡ e = get_or_default entries p x.0 e pl ∙ has.there.2 in
              let made_p : IsEntryOf f.laws value act order (rows_at es k) (get_or entries p x.0).0 (get_or entries p x.0).1 = subst (λ (z : Entry A). IsEntryOf f.laws value act order (rows_at es k) z.0 z.1) (sym at_p) has.made in
              same-place n p x.0 x.1 pl k made' made_p;
        }

    -- a direction is the least of its class
    pub least-of-class : (d e : Direction (Value f)) → Contains ds d → IsDirection f.laws act e → AreConjugate act d.stabiliser e.stabiliser → direction_cmp f.cmp act order d e ≢ Greater
    least-of-class d e c h conj =
        let x = behind c.0 d (slice_get-get_or ds c.0 d c.1 ∙ ap Some c.2) in
        let e' : Entry A = get_or entries c.0 x.0 in
        let y : HasPlace f.laws value act order es least (length es) e' = place-at c.0 x.0 x.1 in
        let told' : d ≡ told e' = x.3 ∙ ap told (sym x.2) in
        let v : ℕ → Value f = h.isotropy.0 in
        let t = vectors v in
        let j : ℕ = t.0 in
        let jl : j < length es = down j t.1 in
        let own : (q : ℕ) → q < act.group.order → S j q ↔ Contains e.stabiliser q =
        λ q l. (λ k. has-listed act.group.order (λ b. IsFixed f.laws act b v) e.stabiliser h.isotropy.1 q l ((t.2 q l).0 k), λ k. (t.2 q l).1 (listed-has act.group.order (λ b. IsFixed f.laws act b v) e.stabiliser h.isotropy.1 q k)) in
        let hold = entry-holds e' y.place y.below y.made in
        let conj' : AreConjugate act (told e').stabiliser e.stabiliser = subst (λ (z : Direction (Value f)). AreConjugate act z.stabiliser e.stabiliser) told' conj in
        let q : ℕ = conj'.0 in
        let link : Conjugates act.group law.group q (S y.place) (S j) =
        λ a l.
        let o = own (conjugate act.group q a) (conjugate-below act.group law.group q a conj'.1 l) in (
          λ k. o.1 ((conj'.2 a l).1 ((hold a l).0 k)),
          λ k. (hold a l).1 ((conj'.2 a l).0 (o.0 k)),
        ) in
        let later : is_gt (place_cmp R es y.place j) ≡ false = no-later q y.place j conj'.1 y.below jl y.own link in
        let eq_e : e.equations ≡ form_at forms j = direction-form f act forms holds e j t.1 h (listed-below act.group.order (λ b. IsFixed f.laws act b v) e.stabiliser h.isotropy.1) own in
        let eq_d : (told e').equations ≡ form_at forms y.place = entry-form e' y.place y.below y.made in
        let rows : length (told e').equations ≡ length e.equations = ap length eq_d ∙ held-length f act law forms holds q y.place j conj'.1 (up y.place y.below) t.1 link ∙ ap length (sym eq_e) in
        let members : length (told e').stabiliser ≡ length e.stabiliser =
        conjugate-members f act law (told e').stabiliser e.stabiliser q conj'.1 (λ b. S y.place b) (λ b. S j b) (entry-members e' y.place y.below y.made) (list-same act.group.order (λ b. IsFixed f.laws act b v) (S j) e.stabiliser (λ b l. (t.2 b l).1) (λ b l. (t.2 b l).0) h.isotropy.1) link in
        let last : direction_cmp f.cmp act order (told e') e ≡ place_cmp R es y.place j =
        same-cmp f act order (told e') e rows members ∙ (λ i. equations_cmp f.cmp act.dim (eq_d i) (eq_e i)) ∙ sym (places-written y.place j) in
        subst (λ (z : Direction (Value f)). direction_cmp f.cmp act order z e ≢ Greater) (sym told') (not-greater (direction_cmp f.cmp act order (told e') e) (ap is_gt last ∙ later))
