-- A listing of the directions of pairs has one direction for each pair.
use Rattle.std.proofs.Common.{◌≡◌, sym, subst, ℕ, ◌↔◌, List, get_or}
use Rattle.std.specs.Prelude.{All}
use Rattle.algebra.specs.RisingLists.{IsRisingListOf}
use Rattle.cyclo24.specs.ExactField.{ExactField, Value}
use Rattle.cyclo24.specs.ExactK24.{k24, k24_laws}
use Rattle.lin_alg.specs.Action.{Action, IsFixed}
use Rattle.class_list.specs.Directions.{Direction, IsDirection, IsOfClass, HasOneOfClass, IsListing}
use Rattle.class_list.specs.Stabilisers.{conjugate}
use Rattle.couple.specs.Coupled.{coupled, pair, second, IsInBoth, AreInBoth}
use Rattle.list_report.specs.Closing.{order_by}
use Rattle.couple_report.specs.CoupleFound.{CoupledForm, CoupledListing, AreCoupled, IsCoupledListing}
use Rattle.couple_report.specs.PairListings.{IsOfPair, HasOneOfPair, IsOfSomePair, ListsPairs}
use Rattle.couple_report.specs.Pairs.{FormedPair}

-- the laws of pairs of vectors
abbrev pub PairsAreFixed : ExactField → Type 0
PairsAreFixed f = (a b : Action) (v w : ℕ → Value f) (q : ℕ) → IsFixed f.laws (coupled f.laws a b) q (pair a v w) ↔ IsInBoth f.laws a b v w q

abbrev pub EachIsPair : ExactField → Type 0
EachIsPair f = (a : Action) (u : ℕ → Value f) (j : ℕ) → pair a u (second a u) j ≡ u j

abbrev pub PairsHaveStabilisers : ExactField → Type 0
PairsHaveStabilisers f =
    (a b : Action) (v w : ℕ → Value f) (hs : List ℕ) → IsRisingListOf a.group.order (λ q. IsFixed f.laws (coupled f.laws a b) q (pair a v w)) hs ↔ AreInBoth f.laws a b v w hs

module _ (f : ExactField) (a b : Action) (fixed : PairsAreFixed f) where
  -- of the class of a pair
  class-to : (v w : ℕ → Value f) (d : Direction (Value f)) → IsOfClass f.laws (coupled f.laws a b) (pair a v w) d → IsOfPair f.laws a b v w d
  class-to v w d (q, l, k) =
      (q, l, λ e le. let t = fixed a b v w (conjugate a.group q e) in (λ c. t.0 ((k e le).0 c), λ x. (k e le).1 (t.1 x)))

  class-back : (v w : ℕ → Value f) (d : Direction (Value f)) → IsOfPair f.laws a b v w d → IsOfClass f.laws (coupled f.laws a b) (pair a v w) d
  class-back v w d (q, l, k) =
      (q, l, λ e le. let t = fixed a b v w (conjugate a.group q e) in (λ c. t.1 ((k e le).0 c), λ x. (k e le).1 (t.0 x)))

  one-pair : (v w : ℕ → Value f) (ds : List (Direction (Value f))) → HasOneOfClass f.laws (coupled f.laws a b) (pair a v w) ds → HasOneOfPair f.laws a b v w ds
  one-pair v w ds h = record {
    at = h.at;
    direction = h.direction;
    is_at = h.is_at;
    of_pair = class-to v w h.direction h.of_class;
    only = λ k d e c. h.only k d e (class-back v w d c);
  }

  module _ (each : EachIsPair f) (stabiliser : PairsHaveStabilisers f) where
    -- each vector is a pair
    some-pair : (d : Direction (Value f)) → IsDirection f.laws (coupled f.laws a b) d → IsOfSomePair f.laws a b d
    some-pair d h =
        let u = h.isotropy.0 in
        let same : u ≡ pair a u (second a u) = λ t j. sym (each a u j) t in
        let P : (ℕ → Value f) → Type 0 = λ v. IsRisingListOf a.group.order (λ q. IsFixed f.laws (coupled f.laws a b) q v) d.stabiliser in
        (u, second a u, (stabiliser a b u (second a u) d.stabiliser).0 (subst P same h.isotropy.1))

    pub lists-pairs : (ds : List (Direction (Value f))) → All (IsDirection f.laws (coupled f.laws a b)) ds → ((v : ℕ → Value f) → HasOneOfClass f.laws (coupled f.laws a b) v ds) → ListsPairs f.laws a b ds
    lists-pairs ds all one = record { one = λ v w. one-pair v w ds (one (pair a v w)); each = λ k d l. some-pair (get_or ds k d) (all k d l) }

pub listing-pairs : PairsAreFixed k24 → EachIsPair k24 → PairsHaveStabilisers k24 → (x : FormedPair) (c : CoupledForm) (l : CoupledListing) → AreCoupled x c → IsCoupledListing c l → ListsPairs k24_laws x.left.act x.right.act l.directions
listing-pairs fixed each stabiliser x c l h k =
    let P : CoupledForm → Type 0 = λ z. IsListing k24_laws k24.cmp z.act (order_by z.format) l.directions in
    let t = subst P h.1 k.0 in
    lists-pairs k24 x.left.act x.right.act fixed each stabiliser l.directions t.directions t.one
