-- The stabilisers of directions are subgroups.
use Rattle.std.proofs.Common.{sym, ap, ◌∙◌, ℕ, zero, suc, ◌<◌, List, [], ◌∷◌, arith}
use Rattle.std.specs.List.{All}
use Rattle.algebra.specs.RisingListLaws.{listed-below, listed-has, has-listed}
use Rattle.algebra.specs.Subgroup.{IsSubgroup}
use Rattle.cyclo24.specs.ExactField.{ExactField, Value}
use Rattle.cyclo24.specs.ExactK24.{k24, k24_laws}
use Rattle.cyclo24.specs.K24.{exact24}
use Rattle.cyclo24.specs.declared.k24.K24.{K24}
use Rattle.lin_alg.specs.Action.{Action, IsAction, IsFixed, image}
use Rattle.lin_alg.specs.ActionLaws.{image-same, image-product, image-identity, fixed-product}
use Rattle.class_list.specs.Directions.{IsDirection}
use Rattle.class_list.specs.Seen.{DirectionView, direction_of, directions_of}
use Rattle.class_list.specs.Stabilisers.{IsStabiliserOf}

module _ (f : ExactField) (act : Action) (law : IsAction f.laws act) where
  fixed-inverse : (v : ℕ → Value f) (a : ℕ) → a < act.group.order → IsFixed f.laws act a v → IsFixed f.laws act (act.group.inverse a) v
  fixed-inverse v a l h i k =
      let b = act.group.inverse a in
      sym (image-same f act b (image f.laws act a v) v h i) ∙ sym (image-product f act law b a (law.group.inverse_below a l) l v i k)
      ∙ ap (λ p. image f.laws act p v i) (law.group.inverse-product a l) ∙ image-identity f act law v i k

  pub stabiliser-subgroup : (v : ℕ → Value f) (hs : List ℕ) → IsStabiliserOf f.laws act v hs → IsSubgroup act.group hs
  stabiliser-subgroup v hs s =
      let n = act.group.order in
      let P : ℕ → Type 0 = λ q. IsFixed f.laws act q v in
      let below = listed-below n P hs s in
      let fixes = listed-has n P hs s in
      record {
        below = below;
        identity = has-listed n P hs s 0 law.group.identity_below (λ i l. image-identity f act law v i l);
        product = λ a b x y. has-listed n P hs s (act.group.product a b) (law.group.product_below a b (below a x) (below b y)) (fixed-product f act law a b (below a x) (below b y) v (fixes a x) (fixes b y));
        inverse = λ a x. has-listed n P hs s (act.group.inverse a) (law.group.inverse_below a (below a x)) (fixed-inverse v a (below a x) (fixes a x));
      }

rest-directions : (act : Action) (d : DirectionView K24) (ds : List (DirectionView K24)) → All (IsDirection k24_laws act) (directions_of k24_laws exact24 (d ∷ ds)) → All (IsDirection k24_laws act) (directions_of k24_laws exact24 ds)
rest-directions act d ds h k e l = h (suc k) e (omega arith)

-- those of all directions
pub all-subgroups : (act : Action) → IsAction k24_laws act → (ds : List (DirectionView K24)) → All (IsDirection k24_laws act) (directions_of k24_laws exact24 ds)
    → All (λ (d : DirectionView K24). IsSubgroup act.group d.stabiliser) ds
all-subgroups act law [] h k e l = absurd (omega arith)
all-subgroups act law (d ∷ ds) h zero e l = let i = (h 0 (direction_of k24_laws exact24 d) (omega arith)).isotropy in stabiliser-subgroup k24 act law i.0 d.stabiliser i.1
all-subgroups act law (d ∷ ds) h (suc k) e l = all-subgroups act law ds (rest-directions act d ds h) k e (omega arith)
