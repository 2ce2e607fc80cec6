-- A search in a rising list of places.
use Rattle.std.proofs.Common.{◌≡◌, ap, ◌∙◌, ℕ, ◌+◌, inl, inr, ℤ, List, [], get_or, arith}
use Rattle.std.proofs.lemmas.Bool.{cases_order}
use Rattle.std.proofs.lemmas.Cmp.{lists_total, int_cmp_total, tied_itself}
use Rattle.std.proofs.lemmas.List.{get_or_default}
use Rattle.std.proofs.lemmas.List.Sorted.{searchable_from_sorted}
use Rattle.std.proofs.lemmas.Map.Lookups.{exact_signed}
use Rattle.std.specs.Cmp.{IsTotalOrder}
use Rattle.std.specs.Cmp.Lexicographic.{slice_cmp}
use Rattle.std.specs.List.{Contains}
use Rattle.std.specs.List.Sorted.{IsSortedBy, IsNonDecreasingBy, IsPartitionPoint}
use Rattle.std.specs.Ordering.{int_cmp, is_lt, ordering_index, ordering_reverse}
use Rattle.std.specs.declared.cmp.Ordering.TheVariants.{Less, Equal, Greater}
use Rattle.space_ops.specs.LeastShiftLaws.{lists_exact}
use Rattle.wyckoff.specs.OrbitParts.{IsRising, AreShaped}

triples : IsTotalOrder (slice_cmp int_cmp)
triples = lists_total int_cmp_total

pub found : (places : List (List ℤ)) (v : List ℤ) (t : ℕ) → slice_cmp int_cmp (get_or places t []) v ≡ Equal → get_or places t [] ≡ v
found places v t e = lists_exact int_cmp exact_signed (get_or places t []) v e

module _ (places : List (List ℤ)) (v : List ℤ) (rising : IsRising places) (shaped : AreShaped places) where
  sorted : IsSortedBy (λ a b. is_lt (slice_cmp int_cmp a b)) places
  sorted k d l m =
      let low = get_or places k [] in
      let high = get_or places (k + 1) [] in
      let e : slice_cmp int_cmp low high ≡ Less =
      (λ i. slice_cmp int_cmp (shaped k (omega arith) i) (shaped (k + 1) m i)) ∙ rising k (k + 1) (omega arith) m in
      (λ i. is_lt (slice_cmp int_cmp (get_or_default places (k + 1) d [] m i) (get_or_default places k d [] (omega arith) i)))
      ∙ ap is_lt (triples.antisymm high low ∙ ap ordering_reverse e)

  pub not_missing : Contains places v → (i : ℕ)
      → (IsNonDecreasingBy (λ y. ordering_index (slice_cmp int_cmp y v)) places → IsPartitionPoint (λ y. slice_cmp int_cmp y v ≡ Less) (λ y. slice_cmp int_cmp y v ≡ Greater) places i) → ⊥
  not_missing (t, l, e) i f =
      let p = f (searchable_from_sorted triples (λ x. x) places v sorted) in
      let same : get_or places t [] ≡ v = get_or_default places t [] v l ∙ e in
      let tied : slice_cmp int_cmp (get_or places t []) v ≡ Equal = ap (λ x. slice_cmp int_cmp x v) same ∙ tied_itself triples v in
      elim (cases_order t i) [
        | inl q ↦ let g : slice_cmp int_cmp (get_or places t []) v ≡ Greater = p.1 t [] (omega arith) l in cc
        | inr (inl q) ↦ let g : slice_cmp int_cmp (get_or places t []) v ≡ Less = p.0 t [] (omega arith) q in cc
        | inr (inr q) ↦ let g : slice_cmp int_cmp (get_or places t []) v ≡ Greater = p.1 t [] (omega arith) l in cc
      ]
