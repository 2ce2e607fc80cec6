-- What actions obey.
--
-- image-plus, image-same, image-product, image-identity: images of vectors
-- fixed-plus, fixed-product: what is fixed
-- fixed-generated: what the generators fix, each element fixes
use Rattle.std.proofs.Common.{◌≡◌, ℕ, ◌<◌, sym, ◌∙◌, ap, if◌then◌else◌}
use Rattle.std.specs.Cmp.{nat_eq_equiv}
use Rattle.cyclo24.specs.ExactField.{ExactField, Value}
use Rattle.cyclo24.specs.ValueLaws.{value-set}
use Rattle.algebra.specs.GeneratedLaws.{generated-holds}
use Rattle.lin_alg.specs.Action.{Action, IsAction, IsFixed, entry_of, image}
use Rattle.lin_alg.specs.EquationLaws.{dot-unit}
use Rattle.lin_alg.specs.Equations.{unit_vector}
use Rattle.lin_alg.specs.Matrices.{unit_entry}
use Rattle.cyclo24.specs.Sums.{total}
use Rattle.cyclo24.specs.TotalLaws.{times-total, total-plus, total-same, total-swap, total-times}

module _ (f : ExactField) (act : Action) where
  pub image-plus : (q : ℕ) (v w : ℕ → Value f) (i : ℕ) → image f.laws act q (λ j. f.laws.plus (v j) (w j)) i ≡ f.laws.plus (image f.laws act q v i) (image f.laws act q w i)
  image-plus q v w i =
      total-same f.laws act.dim _ _ (λ k l. f.laws.times-plus (entry_of f.laws act q i k) (v k) (w k))
      ∙ total-plus f.laws act.dim (λ k. f.laws.times (entry_of f.laws act q i k) (v k)) (λ k. f.laws.times (entry_of f.laws act q i k) (w k))

  pub fixed-plus : (q : ℕ) (v w : ℕ → Value f) → IsFixed f.laws act q v → IsFixed f.laws act q w → IsFixed f.laws act q (λ j. f.laws.plus (v j) (w j))
  fixed-plus q v w h k i l = image-plus q v w i ∙ ap (λ x. f.laws.plus x (image f.laws act q w i)) (h i l) ∙ ap (f.laws.plus (v i)) (k i l)

  pub image-same : (q : ℕ) (v w : ℕ → Value f) → ((j : ℕ) → j < act.dim → v j ≡ w j) → (i : ℕ) → image f.laws act q v i ≡ image f.laws act q w i
  image-same q v w e i = total-same f.laws act.dim _ _ (λ k l. ap (f.laws.times (entry_of f.laws act q i k)) (e k l))

  -- the matrix of a product is the product of the matrices
  pub image-product : IsAction f.laws act → (a b : ℕ) → a < act.group.order → b < act.group.order → (v : ℕ → Value f) (i : ℕ) → i < act.dim →
      image f.laws act (act.group.product a b) v i ≡ image f.laws act a (image f.laws act b v) i
  image-product law a b la lb v i li =
      let x : ℕ → ℕ → Value f = λ k j. f.laws.times (f.laws.times (entry_of f.laws act a i k) (entry_of f.laws act b k j)) (v j) in
      total-same f.laws act.dim _ (λ j. total f.laws act.dim (λ k. x k j))
      (λ j l. ap (λ y. f.laws.times y (v j)) (law.multiplies a b la lb i j li l)
      ∙ sym (times-total f.laws act.dim (v j) (λ k. f.laws.times (entry_of f.laws act a i k) (entry_of f.laws act b k j))))
      ∙ total-swap f.laws act.dim act.dim (λ j k. x k j)
      ∙ total-same f.laws act.dim _ _ (λ k l.
      total-same f.laws act.dim _ _ (λ j m. f.laws.times_assoc (entry_of f.laws act a i k) (entry_of f.laws act b k j) (v j))
      ∙ total-times f.laws act.dim (entry_of f.laws act a i k) (λ j. f.laws.times (entry_of f.laws act b k j) (v j)))

  pub fixed-product : IsAction f.laws act → (a b : ℕ) → a < act.group.order → b < act.group.order → (v : ℕ → Value f) →
      IsFixed f.laws act a v → IsFixed f.laws act b v → IsFixed f.laws act (act.group.product a b) v
  fixed-product law a b la lb v h k i l = image-product law a b la lb v i l ∙ image-same a (image f.laws act b v) v k i ∙ h i l

  -- element 0 fixes each vector
  pub image-identity : IsAction f.laws act → (v : ℕ → Value f) (i : ℕ) → i < act.dim → image f.laws act 0 v i ≡ v i
  image-identity law v i l =
      total-same f.laws act.dim _ _ (λ j m. ap (λ x. f.laws.times x (v j)) (law.identity i j l m) ∙ f.laws.times_comm (unit_entry f.laws i j) (v j) ∙ ap (f.laws.times (v j)) (turned i j))
      ∙ dot-unit f.laws act.dim v i l
    where
      turned : (i j : ℕ) → unit_entry f.laws i j ≡ unit_vector f.laws i j
      turned i j = ap (λ b. if b then f.laws.unit else f.laws.nought) (nat_eq_equiv.symm i j)

  -- one proof of each equation between exact values
  fixed-prop : (q : ℕ) (v : ℕ → Value f) → IsProp (IsFixed f.laws act q v)
  fixed-prop q v h k = λ t i l. value-set f (image f.laws act q v i) (v i) (h i l) (k i l) t

  -- what the generators fix, each element fixes
  pub fixed-generated : IsAction f.laws act → (v : ℕ → Value f) → ((i : ℕ) → i < act.generators → IsFixed f.laws act (act.generator i) v) → (q : ℕ) → q < act.group.order → IsFixed f.laws act q v
  fixed-generated law v h =
      generated-holds act.group law.group act.generators act.generator law.generator_below law.generated (λ q. IsFixed f.laws act q v) (λ q l. fixed-prop q v) (image-identity law v)
      (λ i q li l k. fixed-product law (act.generator i) q (law.generator_below i li) l v (h i li) k)
