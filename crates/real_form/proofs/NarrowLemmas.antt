use Rattle.std.proofs.Common.{◌≡◌, ℕ, ◌+◌, ◌*◌, ◌/◌, ◌%◌, ◌<◌, sym, ◌∙◌, ap, subst, arith}
use Rattle.std.proofs.lemmas.Nat.{div_below, mod_below, div-add-mod'}
use Rattle.cyclo24.specs.ExactField.{ExactField, Value}
use Rattle.cyclo24.specs.Sums.{total}
use Rattle.cyclo24.specs.TotalLaws.{total-same}
use Rattle.lin_alg.specs.Matrix.{MatrixView, entry, IsWideTerm, IsWideDot}
use Rattle.real_form.specs.Products.{IsWideRow}

module _ (f : ExactField) where
  -- a sum of products is wide by its factors below d alone
  pub dot-same : (d : ℕ) (x y x' y' : ℕ → Value f) → ((k : ℕ) → k < d → x k ≡ x' k) → ((k : ℕ) → k < d → y k ≡ y' k) → IsWideDot f d x y → IsWideDot f d x' y'
  dot-same d x y x' y' ex ey w =
      let k : ℕ = w.0 in
      let l : k < d = w.1 in
      let before : total f.laws k (λ l. f.laws.times (x l) (y l)) ≡ total f.laws k (λ l. f.laws.times (x' l) (y' l)) =
      total-same f.laws k _ _ (λ m b z. f.laws.times (ex m (omega (arith, b, l)) z) (ey m (omega (arith, b, l)) z)) in (
        k,
        l,
        subst (λ (s : Value f). IsWideTerm f s (x' k) (y' k)) before
            (subst (λ (b : Value f). IsWideTerm f (total f.laws k (λ l. f.laws.times (x l) (y l))) (x' k) b) (ey k l)
            (subst (λ (a : Value f). IsWideTerm f (total f.laws k (λ l. f.laws.times (x l) (y l))) a (y k)) (ex k l) w.2)),
      )

module _ {A : Type 0} (f : ExactField) (value : A → Value f) (left right : MatrixView A) (d T R : ℕ) where
  -- no product of a row and a matrix is wide
  pub narrow-at : (cols : ℕ) → cols ≡ d →
      ((p r j : ℕ) → p < left.rows → r < R → j < cols → IsWideDot f cols (entry f.laws value left p) (λ k. entry f.laws value right (r * cols + k) j) → ⊥) →
      (p r j : ℕ) → p < left.rows → r < R → j < d → IsWideDot f d (entry f.laws value left p) (λ k. entry f.laws value right (r * d + k) j) → ⊥
  narrow-at cols e =
      subst (λ (c : ℕ). (p r j : ℕ) → p < left.rows → r < R → j < c → IsWideDot f c (entry f.laws value left p) (λ k. entry f.laws value right (r * c + k) j) → ⊥) e

  -- a wide product of kept matrices is one of the matrices that they hold
  pub wide-row : (P Q : ℕ → ℕ → ℕ → Value f) (rows cols : ℕ) → rows ≡ T * d → cols ≡ d →
      ((t i j : ℕ) → t < T → i < d → j < d → entry f.laws value left (t * d + i) j ≡ P t i j) →
      ((r i j : ℕ) → r < R → i < d → j < d → entry f.laws value right (r * d + i) j ≡ Q r i j) →
      (p r j : ℕ) × (p < rows) × (r < R) × (j < cols) × IsWideDot f cols (entry f.laws value left p) (λ k. entry f.laws value right (r * cols + k) j) →
      (a b i : ℕ) × (a < T) × (b < R) × (i < d) × IsWideRow f d (P a i) (Q b)
  wide-row P Q rows cols er ec el eq w =
      let p : ℕ = w.0 in
      let r : ℕ = w.1 in
      let j : ℕ = w.2 in
      let lr : r < R = w.4 in
      let lp : p < T * d = subst (λ (x : ℕ). p < x) er w.3 in
      let lj : j < d = subst (λ (x : ℕ). j < x) ec w.5 in
      let some : 0 < d = omega (arith, lj) in
      let a : ℕ = p / d in
      let i : ℕ = p % d in
      let la : a < T = div_below p d T some lp in
      let li : i < d = mod_below p d some in
      let at : a * d + i ≡ p = div-add-mod' p d in
      let dot : IsWideDot f d (entry f.laws value left p) (λ k. entry f.laws value right (r * d + k) j) =
      subst (λ (c : ℕ). IsWideDot f c (entry f.laws value left p) (λ k. entry f.laws value right (r * c + k) j)) ec w.6 in (
        a,
        r,
        i,
        la,
        lr,
        li,
        (
          j,
          lj,
          dot-same f d (entry f.laws value left p) (λ k. entry f.laws value right (r * d + k) j) (P a i) (λ k. Q r k j)
              (λ k lk. ap (λ q. entry f.laws value left q k) (sym at) ∙ el a i k la li lk) (λ k lk. eq r k j lr lk lj) dot,
        ),
      )
