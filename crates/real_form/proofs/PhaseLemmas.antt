use Rattle.std.proofs.Common.{◌≡◌, ℕ, zero, suc, ◌≤◌, ◌<◌, refl, sym, ◌∙◌, arith, List, length, set, length-set}
use Rattle.cyclo24.specs.declared.k24.K24.{K24}
use Rattle.cyclo24.specs.K24.{exact24}
use Rattle.cyclo24.specs.ExactField.{ExactField, Value}
use Rattle.cyclo24.specs.ExactK24.{k24, k24_laws}
use Rattle.cyclo24.specs.ExactZ24.{power, real_part, imag_part}
use Rattle.lin_alg.specs.RowLaws.{vector-past}
use Rattle.lin_alg.specs.SpanLaws.{funext}
use Rattle.lin_alg.specs.Rows.{vector}
use Rattle.real_form.specs.Complexes.{z24_parts}
use Rattle.real_form.specs.Sparse.{two, phase_row}
use Rattle.real_form.proofs.PartsLaws.{parts-re, parts-im, parts-past}
use Rattle.real_form.proofs.SparseLemmas.{AreKept, set-kept}
use Rattle.real_form.proofs.VectorLemmas.{vector-set_same}

-- four entries are written
module _ {A : Type 0} (f : ExactField) (value : A → Value f) (t : ℕ → Value f) where
  set-length : (row : List A) (j : ℕ) (x : A) → length row ≡ 4 → length (set row j x) ≡ 4
  set-length row j x e = let s : length (set row j x) ≡ length row = rw length-set refl in s ∙ e

  below-four : (P : ℕ → Type 0) → P 0 → P 1 → P 2 → P 3 → ((j : ℕ) → 4 ≤ j → P j) → (j : ℕ) → P j
  below-four P a b x y h zero = a
  below-four P a b x y h (suc zero) = b
  below-four P a b x y h (suc (suc zero)) = x
  below-four P a b x y h (suc (suc (suc zero))) = y
  below-four P a b x y h (suc (suc (suc (suc j)))) = h (suc (suc (suc (suc j)))) (omega arith)

  pub four-written : (row : List A) (a b x y : A) → length row ≡ 4 → value a ≡ t 0 → value b ≡ t 1 → value x ≡ t 2 → value y ≡ t 3 → ((j : ℕ) → 4 ≤ j → f.laws.nought ≡ t j) →
      vector f.laws value (set (set (set (set row 0 a) 1 b) 2 x) 3 y) ≡ t
  four-written row a b x y len ea eb ex ey past =
      let r1 : List A = set row 0 a in
      let r2 : List A = set r1 1 b in
      let r3 : List A = set r2 2 x in
      let r4 : List A = set r3 3 y in
      let n1 : length r1 ≡ 4 = set-length row 0 a len in
      let n2 : length r2 ≡ 4 = set-length r1 1 b n1 in
      let n3 : length r3 ≡ 4 = set-length r2 2 x n2 in
      let n4 : length r4 ≡ 4 = set-length r3 3 y n3 in
      let l0 : 0 < length row = omega (arith, len) in
      let l1 : 1 < length r1 = omega (arith, n1) in
      let l2 : 2 < length r2 = omega (arith, n2) in
      let l3 : 3 < length r3 = omega (arith, n3) in
      let k2 : AreKept f value t r1 r2 = set-kept f value t r1 1 b l1 eb in
      let k3 : AreKept f value t r2 r3 = set-kept f value t r2 2 x l2 ex in
      let k4 : AreKept f value t r3 r4 = set-kept f value t r3 3 y l3 ey in
      funext (below-four (λ j. vector f.laws value r4 j ≡ t j)
      (k4 0 (k3 0 (k2 0 (vector-set_same f value row 0 a l0 ∙ ea))))
      (k4 1 (k3 1 (vector-set_same f value r1 1 b l1 ∙ eb)))
      (k4 2 (vector-set_same f value r2 2 x l2 ∙ ex))
      (vector-set_same f value r3 3 y l3 ∙ ey)
      (λ j l. vector-past f value r4 j (omega (arith, l, n4)) ∙ past j l))

pub phases-written : (row : List K24) (a b x y : K24) (p o : ℕ) → length row ≡ 4 → exact24 a ≡ real_part (power p) → exact24 b ≡ real_part (power o) → exact24 x ≡ imag_part (power p) → exact24 y ≡ imag_part (power o) →
    vector k24_laws exact24 (set (set (set (set row 0 a) 1 b) 2 x) 3 y) ≡ phase_row p o
phases-written row a b x y p o len ea eb ex ey =
    four-written k24 exact24 (phase_row p o) row a b x y len
    (ea ∙ sym (parts-re z24_parts 2 (two (power p) (power o)) 0 (omega arith)))
    (eb ∙ sym (parts-re z24_parts 2 (two (power p) (power o)) 1 (omega arith)))
    (ex ∙ sym (parts-im z24_parts 2 (two (power p) (power o)) 0 (omega arith)))
    (ey ∙ sym (parts-im z24_parts 2 (two (power p) (power o)) 1 (omega arith)))
    (λ j l. sym (parts-past z24_parts 2 (two (power p) (power o)) j l))
