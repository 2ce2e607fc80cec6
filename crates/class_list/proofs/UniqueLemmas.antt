-- There is only one listing.
use Rattle.std.proofs.Common.{◌≡◌, ◌≢◌, ◌<◌, ◌+◌, ◌⊎◌, inl, inr, ℕ, suc, zero, true, false, List, [], ◌∷◌, length, get_or, Contains, refl, sym, ◌∙◌, ap, subst, arith}
use Rattle.std.specs.declared.cmp.Ordering.{Ordering}
use Rattle.std.specs.declared.cmp.Ordering.TheVariants.{Less, Equal, Greater}
use Rattle.std.specs.Ordering.{is_gt, ordering_reverse}
use Rattle.std.specs.Cmp.{IsTotalOrder}
use Rattle.std.specs.List.Sorted.{IsStrictlySortedBy}
use Rattle.std.proofs.lemmas.Cmp.{tied_itself}
use Rattle.std.proofs.lemmas.List.Elements.{All-contains, All-get_or, All-from_recursion}
use Rattle.std.proofs.lemmas.Map.Keys.{sorted_head, sorted_tail, sorted_from_all_adjacent}
use Rattle.std.proofs.lemmas.Option.{slice_get-get_or, get_or_from_slice_get, slice_get_within}
use Rattle.algebra.specs.RisingListLaws.{has-listed, listed-below, listed-has, same-members}
use Rattle.cyclo24.specs.ExactField.{ExactField, Value}
use Rattle.lin_alg.specs.Action.{Action, IsAction, IsFixed}
use Rattle.lin_alg.specs.EquationLaws.{vanish-subspace}
use Rattle.lin_alg.specs.Equations.{dot, Vanishes, IsEquationsOf}
use Rattle.lin_alg.specs.Fixed.{mover}
use Rattle.lin_alg.specs.InsertLaws.{span-rows, span-least, rows-mono}
use Rattle.lin_alg.specs.MoverLaws.{mover-within, mover-row}
use Rattle.lin_alg.specs.Spans.{row_vectors, IsInSpan}
use Rattle.class_list.specs.declared.order.Order.{Order}
use Rattle.class_list.specs.Directions.{Direction, IsDirection, IsOfClass, IsListing, direction_cmp}
use Rattle.class_list.specs.Stabilisers.{IsInFixedSpace, AreConjugate, conjugate}
use Rattle.class_list.proofs.GroupLemmas.{conjugates-own, conjugates-back, conjugate-below}
use Rattle.class_list.proofs.ClassLemmas.{ties, not-before}
use Rattle.class_list.proofs.OrderLemmas.{direction-total, direction-tied}

none_in : {X : Type 0} (x : X) → Contains [] x → ⊥
none_in x h = let l : h.0 < 0 = h.1 in omega arith

first_or : {X : Type 0} (x q : X) (xs : List X) → Contains (x ∷ xs) q → (x ≡ q) ⊎ Contains xs q
first_or x q xs (zero, l, e) = inl e
first_or x q xs (suc k, l, e) = inr (k, omega arith, e)

here : {X : Type 0} (x : X) (xs : List X) → Contains (x ∷ xs) x
here x xs = (0, omega arith, refl)

behind : {X : Type 0} (x q : X) (xs : List X) → Contains xs q → Contains (x ∷ xs) q
behind x q xs (k, l, e) = (suc k, omega arith, e)

module _ {X : Type 0} (R : X → X → Ordering) (o : IsTotalOrder R) where
  before-first : (x q : X) (xs : List X) → IsStrictlySortedBy R (x ∷ xs) → Contains xs q → R x q ≡ Less
  before-first x q xs s c = All-contains (λ y. R x y ≡ Less) xs q (All-from_recursion (λ y. R x y ≡ Less) xs (sorted_head R x xs s)) c

  not-both : (x y : X) → R x y ≡ Less → R y x ≡ Less → ⊥
  not-both x y a b = let e : Less ≡ Greater = sym a ∙ o.antisymm x y ∙ ap ordering_reverse b in cc

  not-itself : (x : X) → R x x ≡ Less → ⊥
  not-itself x a = let e : Less ≡ Equal = sym a ∙ tied_itself o x in cc

  -- two strictly sorted lists with the same members are one
  pub sorted-one : (xs ys : List X) → IsStrictlySortedBy R xs → IsStrictlySortedBy R ys → ((q : X) → Contains xs q → Contains ys q) → ((q : X) → Contains ys q → Contains xs q) → xs ≡ ys
  sorted-one [] [] rx ry to from = refl
  sorted-one [] (y ∷ ys) rx ry to from = absurd (none_in y (from y (here y ys)))
  sorted-one (x ∷ xs) [] rx ry to from = absurd (none_in x (to x (here x xs)))
  sorted-one (x ∷ xs) (y ∷ ys) rx ry to from =
      let first : x ≡ y = same_first (first_or y x ys (to x (here x xs))) (first_or x y xs (from y (here y ys))) in
      let others : xs ≡ ys = sorted-one xs ys (sorted_tail R x xs rx) (sorted_tail R y ys ry)
      (λ q c. from_tail x y q xs ys rx first c (first_or y q ys (to q (behind x q xs c))))
      (λ q c. from_tail y x q ys xs ry (sym first) c (first_or x q xs (from q (behind y q ys c)))) in
      λ i. first i ∷ others i
    where
      same_first : (y ≡ x) ⊎ Contains ys x → (x ≡ y) ⊎ Contains xs y → x ≡ y
      same_first (inl e) k = sym e
      same_first (inr h) (inl e) = e
      same_first (inr h) (inr k) = absurd (not-both y x (before-first y x ys ry h) (before-first x y xs rx k))

      from_tail : (x y q : X) (xs ys : List X) → IsStrictlySortedBy R (x ∷ xs) → x ≡ y → Contains xs q → (y ≡ q) ⊎ Contains ys q → Contains ys q
      from_tail x y q xs ys rx e c (inl h) = absurd (not-itself x (subst (λ (z : X). R x z ≡ Less) (sym (e ∙ h)) (before-first x q xs rx c)))
      from_tail x y q xs ys rx e c (inr h) = h

not_greater : (o : Ordering) → o ≢ Greater → is_gt o ≡ false
not_greater Less n = refl
not_greater Equal n = refl
not_greater Greater n = absurd (n refl)

less_or : (o : Ordering) → is_gt o ≡ false → (o ≡ Equal → ⊥) → o ≡ Less
less_or Less h n = refl
less_or Equal h n = absurd (n refl)
less_or Greater h n = let t : true ≡ false = h in absurd cc

module _ (f : ExactField) (act : Action) (law : IsAction f.laws act) where
  direction-below : (d : Direction (Value f)) → IsDirection f.laws act d → (q : ℕ) → Contains d.stabiliser q → q < act.group.order
  direction-below d h = listed-below act.group.order (λ b. IsFixed f.laws act b h.isotropy.0) d.stabiliser h.isotropy.1

  -- the stabiliser of its own vector is of the class of a direction
  own-class : (d : Direction (Value f)) (h : IsDirection f.laws act d) → IsOfClass f.laws act h.isotropy.0 d
  own-class d h = (
    0,
    law.group.identity_below,
    λ a l.
        let own = conjugates-own act.group law.group (λ b. IsFixed f.laws act b h.isotropy.0) a l in (
          λ c. own.0 (listed-has act.group.order (λ b. IsFixed f.laws act b h.isotropy.0) d.stabiliser h.isotropy.1 a c),
          λ k. has-listed act.group.order (λ b. IsFixed f.laws act b h.isotropy.0) d.stabiliser h.isotropy.1 a l (own.1 k),
        ),
  )

  -- directions of the class of one vector are conjugate
  class-conjugate : (d e : Direction (Value f)) (hd : IsDirection f.laws act d) → IsOfClass f.laws act hd.isotropy.0 e → AreConjugate act e.stabiliser d.stabiliser
  class-conjugate d e hd c = (
    c.0,
    c.1,
    λ a l.
        let both = c.2 a l in
        let b : ℕ = conjugate act.group c.0 a in
        let bl : b < act.group.order = conjugate-below act.group law.group c.0 a c.1 l in (
          λ k. both.1 (listed-has act.group.order (λ p. IsFixed f.laws act p hd.isotropy.0) d.stabiliser hd.isotropy.1 b k),
          λ k. has-listed act.group.order (λ p. IsFixed f.laws act p hd.isotropy.0) d.stabiliser hd.isotropy.1 b bl (both.0 k),
        ),
  )

  conjugate-back_of : (hs ks : List ℕ) → AreConjugate act hs ks → AreConjugate act ks hs
  conjugate-back_of hs ks c =
      let t = conjugates-back act.group law.group c.0 (Contains hs) (Contains ks) c.1 (λ a l. ((c.2 a l).1, (c.2 a l).0)) in
      (act.group.inverse c.0, law.group.inverse_below c.0 c.1, λ a l. ((t a l).1, (t a l).0))

  -- where the equations of a list's fixed space vanish, each member leaves the vector as it is
  equations-fixed : (hs : List ℕ) (rs : List (ℕ × (ℕ → Value f))) → IsEquationsOf f.laws act.dim (IsInFixedSpace f.laws act hs) rs → (v : ℕ → Value f) → Vanishes f.laws act.dim (row_vectors rs) v → IsInFixedSpace f.laws act hs v
  equations-fixed hs rs e v k q c i l =
      (mover-row f act q i v l).0
      (span-least f.laws (λ y. dot f.laws act.dim y v ≡ f.laws.nought) (vanish-subspace f.laws act.dim v) (row_vectors rs) k (mover f.laws act q i)
      ((e.spans (mover f.laws act q i)).1 (mover-within f act q i, λ w a. (mover-row f act q i w l).1 (a q c i l))))

  fixed-equations : (hs : List ℕ) (rs : List (ℕ × (ℕ → Value f))) → IsEquationsOf f.laws act.dim (IsInFixedSpace f.laws act hs) rs → (v : ℕ → Value f) → IsInFixedSpace f.laws act hs v → Vanishes f.laws act.dim (row_vectors rs) v
  fixed-equations hs rs e v a = rows-mono f.laws (IsInSpan f.laws (row_vectors rs)) (λ y. dot f.laws act.dim y v ≡ f.laws.nought) (λ x g. ((e.spans x).0 g).1 v a) (row_vectors rs) (span-rows f.laws (row_vectors rs))

  holds-all : (d e : Direction (Value f)) → IsDirection f.laws act d → IsDirection f.laws act e → d.equations ≡ e.equations → (q : ℕ) → Contains d.stabiliser q → Contains e.stabiliser q
  holds-all d e hd he eq q c =
      he.whole q (direction-below d hd q c) (λ v k.
      equations-fixed d.stabiliser d.equations hd.equations v (subst (λ (z : List (ℕ × (ℕ → Value f))). Vanishes f.laws act.dim (row_vectors z) v) (sym eq) (fixed-equations e.stabiliser e.equations he.equations v k)) q c)

  -- directions with the same equations are one
  direction-only : (d e : Direction (Value f)) → IsDirection f.laws act d → IsDirection f.laws act e → d.equations ≡ e.equations → d ≡ e
  direction-only d e hd he eq =
      let members : d.stabiliser ≡ e.stabiliser = same-members act.group.order (λ b. IsFixed f.laws act b hd.isotropy.0) (λ b. IsFixed f.laws act b he.isotropy.0) d.stabiliser e.stabiliser hd.isotropy.1 he.isotropy.1 (holds-all d e hd he eq) (holds-all e d he hd (sym eq)) in
      λ i. record { equations = eq i; stabiliser = members i }

  -- directions that tie are one
  direction-same : (order : Order) (d e : Direction (Value f)) → IsDirection f.laws act d → IsDirection f.laws act e → direction_cmp f.cmp act order d e ≡ Equal → d ≡ e
  direction-same order d e hd he t = direction-only d e hd he (direction-tied f act order d e hd.equations.form he.equations.form t)

  module _ (order : Order) (ds : List (Direction (Value f))) (h : IsListing f.laws f.cmp act order ds) where
    at_place : (k : ℕ) (d : Direction (Value f)) → k < length ds → IsDirection f.laws act (get_or ds k d)
    at_place k d l = All-get_or (IsDirection f.laws act) ds k d l h.directions

    -- different places hold different directions
    once : (j k : ℕ) (d : Direction (Value f)) → j < length ds → k < length ds → get_or ds j d ≡ get_or ds k d → j ≡ k
    once j k d l m e =
        let hd = at_place j d l in
        let v : ℕ → Value f = hd.isotropy.0 in
        let own : IsOfClass f.laws act v (get_or ds j d) = own-class (get_or ds j d) hd in
        let one = h.one v in
        one.only j (get_or ds j d) (slice_get-get_or ds j d l) own ∙ sym (one.only k (get_or ds k d) (slice_get-get_or ds k d m) (subst (IsOfClass f.laws act v) e own))

    adjacent : (d : Direction (Value f)) (k : ℕ) → k + 1 < length ds → direction_cmp f.cmp act order (get_or ds k d) (get_or ds (k + 1) d) ≡ Less
    adjacent d k l =
        let o = direction-total f act order in
        let kl : k < length ds = omega arith in
        let a : is_gt (direction_cmp f.cmp act order (get_or ds k d) (get_or ds (k + 1) d)) ≡ false = not-before o (get_or ds (k + 1) d) (get_or ds k d) (h.sorted k d (omega arith) l) in
        less_or (direction_cmp f.cmp act order (get_or ds k d) (get_or ds (k + 1) d)) a (λ t.
        let e : get_or ds k d ≡ get_or ds (k + 1) d = direction-same order (get_or ds k d) (get_or ds (k + 1) d) (at_place k d kl) (at_place (k + 1) d l) t in
        let n : k ≡ k + 1 = once k (k + 1) d kl l e in
        absurd (omega arith))

    -- a listing is strictly sorted
    pub strict : IsStrictlySortedBy (direction_cmp f.cmp act order) ds
    strict = let d : Direction (Value f) = record { equations = []; stabiliser = [] } in sorted_from_all_adjacent (direction-total f act order) ds d (adjacent d)

  module _ (order : Order) (ds es : List (Direction (Value f))) (hd : IsListing f.laws f.cmp act order ds) (he : IsListing f.laws f.cmp act order es) where
    -- each direction of the one is in the other
    member : (d : Direction (Value f)) → Contains ds d → Contains es d
    member d c =
        let h : IsDirection f.laws act d = All-contains (IsDirection f.laws act) ds d hd.directions c in
        let one = he.one h.isotropy.0 in
        let e : Direction (Value f) = one.direction in
        let ce : Contains es e = (one.at, slice_get_within es one.at e one.is_at, get_or_from_slice_get es one.at e e one.is_at) in
        let k : IsDirection f.laws act e = All-contains (IsDirection f.laws act) es e he.directions ce in
        let conj : AreConjugate act e.stabiliser d.stabiliser = class-conjugate d e h one.of_class in
        let a : is_gt (direction_cmp f.cmp act order e d) ≡ false = not_greater (direction_cmp f.cmp act order e d) (he.least e d ce h conj) in
        let b : is_gt (direction_cmp f.cmp act order d e) ≡ false = not_greater (direction_cmp f.cmp act order d e) (hd.least d e c k (conjugate-back_of e.stabiliser d.stabiliser conj)) in
        let tie : direction_cmp f.cmp act order d e ≡ Equal = ties (direction-total f act order) d e b a in
        let same : d ≡ e = direction-same order d e h k tie in
        subst (Contains es) (sym same) ce

  -- there is only one listing
  pub listing-one : (order : Order) (ds es : List (Direction (Value f))) → IsListing f.laws f.cmp act order ds → IsListing f.laws f.cmp act order es → ds ≡ es
  listing-one order ds es hd he =
      sorted-one (direction_cmp f.cmp act order) (direction-total f act order) ds es (strict order ds hd) (strict order es he) (member order ds es hd he) (member order es ds he hd)
