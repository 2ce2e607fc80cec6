-- A search in a rising list of triples.
use Rattle.std.proofs.Common.{◌≡◌, sym, ap, ◌∙◌, ℕ, ◌<◌, ◌+◌, inl, inr, ℤ, List, [], length, get_or, arith}
use Rattle.std.proofs.lemmas.Bool.{cases_order}
use Rattle.std.proofs.lemmas.Cmp.{lists_total, int_cmp_total, tied_itself}
use Rattle.std.proofs.lemmas.Map.Lookups.{exact_signed}
use Rattle.std.proofs.lemmas.List.Sorted.{searchable_from_sorted}
use Rattle.std.specs.Cmp.{IsTotalOrder}
use Rattle.std.specs.Cmp.Lexicographic.{slice_cmp}
use Rattle.std.specs.List.Sorted.{IsSortedBy, IsNonDecreasingBy, IsPartitionPoint}
use Rattle.std.specs.Ordering.{int_cmp, is_lt, ordering_index, ordering_reverse}
use Rattle.std.specs.declared.cmp.Ordering.TheVariants.{Less, Equal, Greater}
use Rattle.space_ops.specs.Op.{vector_of, shift_of}
use Rattle.space_ops.specs.LeastShiftLaws.{lists_exact}
use Rattle.super_group.specs.Quotient.{place_among}
use Rattle.super_group.specs.QuotientParts.{IsRisingList, IsAmong}
use Rattle.super_group.specs.PlaceLaws.{place_among-at}
use Rattle.std.proofs.lemmas.List.{get_or_default}

triples : IsTotalOrder (slice_cmp int_cmp)
triples = lists_total int_cmp_total

module _ (ts : List (List ℤ)) (v : List ℤ) (h : IsRisingList ts) (triple : v ≡ shift_of (vector_of v)) where
  pub found : (t : ℕ) → t < length ts → slice_cmp int_cmp (get_or ts t []) v ≡ Equal → t ≡ place_among ts (vector_of v)
  found t l e = sym (place_among-at ts h t l (vector_of v) (ap vector_of (lists_exact int_cmp exact_signed (get_or ts t []) v e)))

  sorted : IsSortedBy (λ a b. is_lt (slice_cmp int_cmp a b)) ts
  sorted k d l m =
      let low = get_or ts k [] in
      let high = get_or ts (k + 1) [] in
      let e : slice_cmp int_cmp low high ≡ Less =
      (λ i. slice_cmp int_cmp (h.shaped k (omega arith) i) (h.shaped (k + 1) m i)) ∙ h.rising k (k + 1) (omega arith) m in
      (λ i. is_lt (slice_cmp int_cmp (get_or_default ts (k + 1) d [] m i) (get_or_default ts k d [] (omega arith) i)))
      ∙ ap is_lt (triples.antisymm high low ∙ ap ordering_reverse e)

  pub not_missing : IsAmong ts (vector_of v) → (i : ℕ)
      → (IsNonDecreasingBy (λ y. ordering_index (slice_cmp int_cmp y v)) ts → IsPartitionPoint (λ y. slice_cmp int_cmp y v ≡ Less) (λ y. slice_cmp int_cmp y v ≡ Greater) ts i) → ⊥
  not_missing (t, l, e) i f =
      let p = f (searchable_from_sorted triples (λ x. x) ts v sorted) in
      let same : get_or ts t [] ≡ v = h.shaped t l ∙ ap shift_of e ∙ sym triple in
      let tied : slice_cmp int_cmp (get_or ts t []) v ≡ Equal = ap (λ x. slice_cmp int_cmp x v) same ∙ tied_itself triples v in
      elim (cases_order t i) [
        | inl q ↦ let g : slice_cmp int_cmp (get_or ts t []) v ≡ Greater = p.1 t [] (omega arith) l in cc
        | inr (inl q) ↦ let g : slice_cmp int_cmp (get_or ts t []) v ≡ Less = p.0 t [] (omega arith) q in cc
        | inr (inr q) ↦ let g : slice_cmp int_cmp (get_or ts t []) v ≡ Greater = p.1 t [] (omega arith) l in cc
      ]
