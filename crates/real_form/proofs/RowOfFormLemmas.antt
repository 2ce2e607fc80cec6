use Rattle.std.proofs.Common.{◌≡◌, ℕ, ◌+◌, ◌*◌, ◌/◌, ◌%◌, ◌<◌, ◌≤◌, sym, ◌∙◌, subst, arith}
use Rattle.std.proofs.lemmas.Nat.{mul-add-lt, div_below, mod_below}
use Rattle.std.proofs.Math.Nat.{mul-le-mul_left, mul_comm}
use Rattle.cyclo24.specs.ExactField.{ExactField, Value}
use Rattle.cyclo24.specs.Sums.{total}
use Rattle.lin_alg.specs.Matrix.{MatrixView, entry, IsWideDot}
use Rattle.lin_alg.specs.Action.{lift}
use Rattle.real_form.specs.Actions.{factored_entry, lift-list}

row_below : (m n q i : ℕ) → q < m → i < n → q * n + i < m * n
row_below m n q i l k = let h : q * n + i < n * m = mul-add-lt q n i m l k in let c : m * n ≡ n * m = mul_comm m n in omega (arith, h, c)

row_end : (m n q : ℕ) → q < m → q * n + n ≤ m * n
row_end m n q l =
    let k : ℕ = q + 1 in
    let b : k ≤ m = omega (arith, l) in
    let a : n * k ≤ n * m = mul-le-mul_left n b in
    let c : n * k ≡ k * n = mul_comm n k in
    let d : n * m ≡ m * n = mul_comm n m in
    let e : k * n ≡ q * n + n = omega arith in
    omega (arith, a, c, d, e)

pub left-place : (q R T d i : ℕ) → 0 < T → q < R * T → i < d → (q % T) * d + i < T * d
left-place q R T d i some l k = row_below T d (q % T) i (mod_below q T some) k

pub right-place : (q R T d : ℕ) → 0 < T → q < R * T → (q / T) * d + d ≤ R * d
right-place q R T d some l = row_end R d (q / T) (div_below q T R some l)

module _ {A : Type 0} (f : ExactField) (value : A → Value f) (left right : MatrixView A) where
  pub factored-row : (d t q i j cols count width : ℕ) → cols ≡ d → count ≡ t → width ≡ d → (x : Value f) →
      x ≡ total f.laws cols (λ k. f.laws.times (entry f.laws value left ((q % count) * width + i) k) (entry f.laws value right ((q / count) * width + k) j)) →
      x ≡ lift f.laws (factored_entry f.laws value d t left right q i j).0
  unfolding factored_entry
  factored-row d t q i j cols count width ec et ew x e =
      e ∙ (λ z. total f.laws (ec z) (λ k. f.laws.times (entry f.laws value left ((q % et z) * ew z + i) k) (entry f.laws value right ((q / et z) * ew z + k) j)))
      ∙ sym (lift-list f (total f.laws d (λ k. f.laws.times (entry f.laws value left ((q % t) * d + i) k) (entry f.laws value right ((q / t) * d + k) j))))

  pub never-wide : (d rows : ℕ) → ((p r j : ℕ) → p < left.rows → r < rows → j < d → IsWideDot f d (entry f.laws value left p) (λ k. entry f.laws value right (r * d + k) j) → ⊥) →
      (p first r cols width : ℕ) → p < left.rows → r < rows → first ≡ r * d → cols ≡ d → width ≡ d →
      (j : ℕ) × (j < width) × IsWideDot f cols (entry f.laws value left p) (λ k. entry f.laws value right (first + k) j) → ⊥
  never-wide d rows narrow p first r cols width lp lr ef ec ew w =
      let lj : w.0 < d = subst (λ (k : ℕ). w.0 < k) ew w.1 in
      narrow p r w.0 lp lr lj
      (subst (λ (m : ℕ). IsWideDot f d (entry f.laws value left p) (λ k. entry f.laws value right (m + k) w.0)) ef
      (subst (λ (m : ℕ). IsWideDot f m (entry f.laws value left p) (λ k. entry f.laws value right (first + k) w.0)) ec w.2))
