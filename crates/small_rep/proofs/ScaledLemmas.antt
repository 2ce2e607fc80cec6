-- Matrices that are filled row by row.
use Rattle.std.proofs.Common.{◌≡◌, sym, ap, ◌∙◌, ℕ, ◌<◌, ◌≤◌, ◌+◌, ◌*◌, ◌/◌, ◌%◌, List, [], nat_eq, ◌&&◌, arith, if◌then◌else◌, eq-eqb, ne_eqb, inl, inr}
use Rattle.std.specs.Prelude.{slice_index_or}
use Rattle.std.proofs.lemmas.Bool.{cases_eq, and_left, and_right}
use Rattle.std.proofs.lemmas.Nat.{div-mul-add, mod-mul-add, mul-add-lt, div-add-mod'}
use Rattle.iso_text.specs.declared.numbers.Term.{Term}
use Rattle.cyclo24.specs.declared.z24.Z24.{Z24}
use Rattle.cyclo24.specs.ExactZ24.{ExactZ24, z24, z24_laws}
use Rattle.cyclo24.specs.Terms.{terms_value}
use Rattle.cyclo24.specs.Z24.{exact_z24}
use Rattle.lin_alg.specs.Matrix.{MatrixView, entry, with_entry}

-- the factor times number e
abbrev pub scaled_number : List (List Term) → Z24 → ℕ → ExactZ24
scaled_number numbers factor e = z24_laws.times (exact_z24 factor) (terms_value (slice_index_or numbers e []))

-- the entries of the first k numbers
pub record IsScaled (n : ℕ) (numbers : List (List Term)) (factor : Z24) (m : MatrixView Z24) (k : ℕ) : Type 0 where
  pub rows : m.rows ≡ n
  pub cols : m.cols ≡ n
  pub entries : (x y : ℕ) → x < n → y < n → x * n + y < k → entry z24_laws exact_z24 m x y ≡ scaled_number numbers factor (x * n + y)

with-at : (i j x y : ℕ) (v : ExactZ24) (m : ℕ → ℕ → ExactZ24) → x ≡ i → y ≡ j → with_entry i j v m x y ≡ v
with-at i j x y v m e f = ap (λ t. if t then v else m x y) (λ k. eq-eqb x i e k && eq-eqb y j f k)

with-other : (i j x y : ℕ) (v : ExactZ24) (m : ℕ → ℕ → ExactZ24) → (x ≡ i → y ≡ j → ⊥) → with_entry i j v m x y ≡ m x y
with-other i j x y v m d = ap (λ t. if t then v else m x y) (elim (cases_eq x i) [
  | inl e ↦ and_right (nat_eq x i) (nat_eq y j) (ne_eqb y j (d e))
  | inr e ↦ and_left (nat_eq x i) (nat_eq y j) (ne_eqb x i e)
])

row-of : (n x y e : ℕ) → y < n → x * n + y ≡ e → x ≡ e / n
row-of n x y e l f = sym (div-mul-add x n y l) ∙ ap (λ z. z / n) f

column-of : (n x y e : ℕ) → y < n → x * n + y ≡ e → y ≡ e % n
column-of n x y e l f = sym (mod-mul-add x n y l) ∙ ap (λ z. z % n) f

place-of : (n x y e : ℕ) → x ≡ e / n → y ≡ e % n → x * n + y ≡ e
place-of n x y e f g = (λ i. f i * n + g i) ∙ div-add-mod' e n

module _ (n : ℕ) (numbers : List (List Term)) (factor : Z24) where
  pub scaled-start : (m : MatrixView Z24) → m.rows ≡ n → m.cols ≡ n → IsScaled n numbers factor m 0
  scaled-start m r c = record { rows = r; cols = c; entries = λ x y lx ly l. absurd (omega (arith, l)) }

  pub scaled-step : (m m' : MatrixView Z24) (e : ℕ) (v : Z24) → IsScaled n numbers factor m e → m'.rows ≡ m.rows → m'.cols ≡ m.cols → exact_z24 v ≡ scaled_number numbers factor e
      → ((k l : ℕ) → entry z24_laws exact_z24 m' k l ≡ with_entry (e / n) (e % n) (exact_z24 v) (entry z24_laws exact_z24 m) k l) → IsScaled n numbers factor m' (e + 1)
  scaled-step m m' e v h r c f g = record {
    rows = r ∙ h.rows;
    cols = c ∙ h.cols;
    entries = λ x y lx ly l. g x y ∙ elim (cases_eq (x * n + y) e) [
      | inl q ↦ with-at (e / n) (e % n) x y (exact_z24 v) (entry z24_laws exact_z24 m) (row-of n x y e ly q) (column-of n x y e ly q) ∙ f ∙ ap (scaled_number numbers factor) (sym q)
      | inr q ↦
          let b : x * n + y < e = omega (arith, l, q) in
          with-other (e / n) (e % n) x y (exact_z24 v) (entry z24_laws exact_z24 m) (λ a d. q (place-of n x y e a d)) ∙ h.entries x y lx ly b
    ];
  }

  pub scaled-all : (m : MatrixView Z24) (e : ℕ) → n * n ≤ e → IsScaled n numbers factor m e → (x y : ℕ) → x < n → y < n → entry z24_laws exact_z24 m x y ≡ scaled_number numbers factor (x * n + y)
  scaled-all m e k h x y lx ly = h.entries x y lx ly (let l : x * n + y < n * n = mul-add-lt x n y n lx ly in omega (arith, l, k))
