use Rattle.std.proofs.Common.{◌≡◌, ℕ, ◌+◌, ◌*◌, ◌-◌, ◌<◌, ◌≤◌, ◌∙◌, subst, arith, length}
use Rattle.lin_alg.specs.Spans.{IsInSpan}
use Rattle.lin_alg.specs.Matrices.{IsRepresentation}
use Rattle.lin_alg.specs.Solving.{plain_rows}
use Rattle.super_group.specs.Quotient.{SupercellGroup, IsQuotient, order_of, quotient_group}
use Rattle.real_form.specs.Parts.{Parts, orbit}
use Rattle.real_form.proofs.OrbitLaws.{plain-within, block-member}
use Rattle.real_form.proofs.Factors.{factored, block-below, below_order, translation_of_order, some_translation}

pub next_block : (r t : ℕ) → (r + 1) * t ≡ r * t + t
next_block r t = omega arith

module _ {Z K : Type 0} (p : Parts Z K) (n : ℕ) (s : SupercellGroup) (h : IsQuotient s) (D : ℕ → ℕ → ℕ → Z) (rep : IsRepresentation p.complex (quotient_group s) n D) (w : ℕ → Z) where
  -- where the first row of a block is in the span of those before, so are the others
  pub block-skipped : (r : ℕ) → r < length s.parent.ops → IsInSpan p.real (plain_rows (orbit p n D w) (r * length s.translations)) (orbit p n D w (r * length s.translations)) →
      (i : ℕ) → r * length s.translations + 1 ≤ i → i < (r + 1) * length s.translations → IsInSpan p.real (plain_rows (orbit p n D w) (r * length s.translations + 1)) (orbit p n D w i)
  block-skipped r lr member i li ui =
      let T : ℕ = length s.translations in
      let first : ℕ = r * T in
      let t : ℕ = i - first in
      let e = next_block r T in
      let lt : t < T = omega (arith, li, ui, e) in
      let at : first + t ≡ i = omega (arith, li) in
      let zero : first + 0 ≡ first = omega arith in
      let lf0 : first + 0 < order_of s = below_order s h r 0 lr (some_translation s h) in
      let lf : first < order_of s = subst (λ (k : ℕ). k < order_of s) zero lf0 in
      plain-within p.real (orbit p n D w) first (first + 1) (omega arith) (orbit p n D w i)
      (block-member p n (quotient_group s) D rep w t first i (translation_of_order s h t lt) lf
      (λ k l. block-below s h r t k (omega (arith, lr)) lt l)
      (factored s h r t lr lt ∙ at) member)
