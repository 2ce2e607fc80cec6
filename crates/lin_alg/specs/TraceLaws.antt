-- Laws of traces.
--
-- trace-same: equal entries have equal traces
-- trace-cyclic: the trace of a b is that of b a
-- trace-class: the trace of a representation is a class function
use Rattle.std.proofs.Common.{◌≡◌, ℕ, sym, ◌∙◌, ap}
use Rattle.algebra.specs.NumberedGroup.{Group, IsGroup}
use Rattle.algebra.specs.NumberedGroupLaws.{back-product}
use Rattle.cyclo24.specs.FieldOn.{FieldOn}
use Rattle.cyclo24.specs.TotalLaws.{total-same, total-swap}
use Rattle.lin_alg.specs.Matrices.{mul, trace, AreEqualBelow, IsRepresentation, IsClassFunction}

module _ {K : Type 0} (f : FieldOn K) where
  pub trace-same : (d : ℕ) (a b : ℕ → ℕ → K) → AreEqualBelow d a b → trace f d a ≡ trace f d b
  trace-same d a b e = total-same f d (λ i. a i i) (λ i. b i i) (λ i l. e i i l l)

  pub trace-cyclic : (d : ℕ) (a b : ℕ → ℕ → K) → trace f d (mul f d a b) ≡ trace f d (mul f d b a)
  trace-cyclic d a b = total-swap f d d (λ i k. f.times (a i k) (b k i)) ∙ total-same f d _ _ (λ k l. total-same f d _ _ (λ i m. f.times_comm (a i k) (b k i)))

  pub trace-class : (g : Group) → IsGroup g → (d : ℕ) (m : ℕ → ℕ → ℕ → K) → IsRepresentation f g d m → IsClassFunction g (λ q. trace f d (m q))
  trace-class g h d m r q p lq lp =
      let pq = g.product p q in
      let s = g.inverse p in
      let lpq = h.product_below p q lp lq in
      let ls = h.inverse_below p lp in
      trace-same d (m (g.product pq s)) (mul f d (m pq) (m s)) (r pq s lpq ls)
      ∙ trace-cyclic d (m pq) (m s)
      ∙ sym (trace-same d (m (g.product s pq)) (mul f d (m s) (m pq)) (r s pq ls lpq))
      ∙ ap (λ x. trace f d (m x)) (back-product g h p q lp lq)
