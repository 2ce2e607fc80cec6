-- A closed list in order is the list of its group.
use Rattle.std.proofs.Common.{◌≡◌, refl, sym, ap, ◌∙◌, subst, ℕ, zero, suc, ◌<◌, ◌≤◌, ◌⊎◌, inl, inr, true, false, ℤ, List, [], ◌∷◌, length, get_or, arith}
use Rattle.std.proofs.lemmas.Cmp.{lists_total, on_total, then_total, int_cmp_total}
use Rattle.std.proofs.lemmas.List.{get_or_default}
use Rattle.std.proofs.lemmas.List.Edits.{Swapped, swapped_from_swap, length-swap}
use Rattle.std.proofs.lemmas.List.Elements.{Contains-get_or}
use Rattle.std.proofs.lemmas.List.Sorted.{ranks_by, IsPermutation-keeps, All-permutation, Contains-permutation, length_permutation, sorted_far}
use Rattle.std.proofs.lemmas.Map.Lookups.{exact_signed}
use Rattle.std.specs.Cmp.{IsTotalOrder, IsStrictWeakOrder}
use Rattle.std.specs.List.{swap, Contains}
use Rattle.std.specs.List.Sorted.{IsPermutation, IsSorted}
use Rattle.std.specs.Ordering.{int_cmp, is_lt, ordering_then, ordering_reverse}
use Rattle.std.specs.Cmp.Lexicographic.{slice_cmp}
use Rattle.std.specs.declared.cmp.Ordering.{Ordering}
use Rattle.std.specs.declared.cmp.Ordering.TheVariants.{Less, Equal, Greater}
use Rattle.space_ops.specs.declared.op.Op.{Op}
use Rattle.space_ops.specs.declared.lattice.Lattice.{Lattice}
use Rattle.space_ops.specs.Seitz.{Seitz}
use Rattle.space_ops.specs.Op.{seitz_of, identity_op, matrix_of, rows_of, IsSmallMatrix}
use Rattle.space_ops.specs.Words.{op_at, vector_difference, IsLatticeVector, IsSameUpToLattice, IsWord}
use Rattle.space_ops.specs.LeastShift.{IsShaped, IsLeastShift}
use Rattle.space_ops.specs.LeastShiftLaws.{lists_exact}
use Rattle.space_ops.specs.Order.{rows_cmp, op_cmp, IsSortedAfterFirst}
use Rattle.space_ops.specs.Group.{AreGenerators, matrix_cmp, IsListed, IsListOf, IsParentGroup}
use Rattle.space_ops.specs.Closing.{IsClosedList}

rows_cmp-total : IsTotalOrder rows_cmp
rows_cmp-total = lists_total (lists_total int_cmp_total)

op_cmp-total : IsTotalOrder op_cmp
op_cmp-total = then_total (on_total (λ (o : Op). o.rot) rows_cmp-total) (on_total (λ (o : Op). o.shift) (lists_total int_cmp_total))

rows_exact : (a b : List (List ℤ)) → rows_cmp a b ≡ Equal → a ≡ b
rows_exact = lists_exact (slice_cmp int_cmp) (lists_exact int_cmp exact_signed)

-- not after, and of another rotation: before
before : (a b : Op) → is_lt (op_cmp b a) ≡ false → (a.rot ≡ b.rot → ⊥) → rows_cmp a.rot b.rot ≡ Less
before a b f n = by_order (rows_cmp a.rot b.rot) refl where
  by_order : (o : Ordering) → o ≡ rows_cmp a.rot b.rot → o ≡ Less
  by_order Less e = refl
  by_order Equal e = absurd (n (rows_exact a.rot b.rot (sym e)))
  by_order Greater e =
      let r : rows_cmp b.rot a.rot ≡ Less = rows_cmp-total.antisymm b.rot a.rot ∙ ap ordering_reverse (sym e) in
      let t : is_lt (op_cmp b a) ≡ true = ap (λ o. is_lt (ordering_then o (slice_cmp int_cmp b.shift a.shift))) r in
      let d : false ≡ true = sym f ∙ t in
      cc

abbrev Apart : List Op → Type 0
Apart ops = (i j : ℕ) → i < length ops → j < length ops → (op_at ops i).rot ≡ (op_at ops j).rot → i ≡ j

place_of : (i a b : ℕ) → (i ≡ a) ⊎ ((i ≡ b) ⊎ ((i ≡ a → ⊥) × (i ≡ b → ⊥)))
place_of i a b = grind arith

-- what stands at k after the swap stood at m
abbrev IsSource : ℕ → ℕ → ℕ → ℕ → Type 0
IsSource a b k m = ((k ≡ a) × (m ≡ b)) ⊎ (((k ≡ b) × (m ≡ a)) ⊎ ((m ≡ k) × (k ≡ a → ⊥) × (k ≡ b → ⊥)))

source-injective : (a b i j m n : ℕ) → IsSource a b i m → IsSource a b j n → m ≡ n → i ≡ j
source-injective a b i j m n (inl h) (inl k) e = h.0 ∙ sym k.0
source-injective a b i j m n (inl h) (inr (inl k)) e = omega (arith, h.0, h.1, k.0, k.1, e)
source-injective a b i j m n (inl h) (inr (inr k)) e = absurd (k.2 (sym k.0 ∙ sym e ∙ h.1))
source-injective a b i j m n (inr (inl h)) (inl k) e = omega (arith, h.0, h.1, k.0, k.1, e)
source-injective a b i j m n (inr (inl h)) (inr (inl k)) e = h.0 ∙ sym k.0
source-injective a b i j m n (inr (inl h)) (inr (inr k)) e = absurd (k.1 (sym k.0 ∙ sym e ∙ h.1))
source-injective a b i j m n (inr (inr h)) (inl k) e = absurd (h.2 (sym h.0 ∙ e ∙ k.1))
source-injective a b i j m n (inr (inr h)) (inr (inl k)) e = absurd (h.1 (sym h.0 ∙ e ∙ k.1))
source-injective a b i j m n (inr (inr h)) (inr (inr k)) e = sym h.0 ∙ e ∙ k.0

apart-swap : (ops : List Op) (a b : ℕ) → a < length ops → b < length ops → Apart ops → Apart (swap ops a b)
apart-swap ops a b la lb h i j li lj e =
    let p = from i li in
    let q = from j lj in
    source-injective a b i j p.0 q.0 p.3 q.3 (h p.0 q.0 p.1 q.1 (sym p.2 ∙ e ∙ q.2))
  where
    from : (k : ℕ) → k < length (swap ops a b) → (m : ℕ) × (m < length ops) × ((op_at (swap ops a b) k).rot ≡ (op_at ops m).rot) × IsSource a b k m
    from k l =
        let s : Swapped (λ i. get_or ops i identity_op) (λ i. get_or (swap ops a b) i identity_op) a b = swapped_from_swap ops (swap ops a b) a b identity_op la lb refl in
        let n : length (swap ops a b) ≡ length ops = length-swap ops a b in
        elim (place_of k a b) [
          | inl f ↦ (b, lb, ap (λ i. (op_at (swap ops a b) i).rot) f ∙ ap (λ (o : Op). (seitz_of o).rot) s.0, inl (f, refl))
          | inr r ↦ elim r [
            | inl f ↦ (a, la, ap (λ i. (op_at (swap ops a b) i).rot) f ∙ ap (λ (o : Op). (seitz_of o).rot) s.1, inr (inl (f, refl)))
            | inr f ↦ (k, omega arith, ap (λ (o : Op). (seitz_of o).rot) (s.2 k f.0 f.1), inr (inr (refl, f.0, f.1)))
          ]
        ]

apart-permutation : (xs ys : List Op) → IsPermutation xs ys → Apart xs → Apart ys
apart-permutation xs ys p h = IsPermutation-keeps xs Apart h apart-swap ys p

op_weak : IsStrictWeakOrder (λ x y. is_lt (op_cmp x y))
op_weak = ranks_by op_cmp-total (λ (x : Op). x)

module _ (G : List Op) (L : Lattice) (first : Op) (xs ys : List Op) (h : IsClosedList G L (first ∷ xs)) (p : IsPermutation xs ys) (up : IsSorted op_cmp ys) where
  same_length : length ys ≡ length xs
  same_length = length_permutation xs ys p

  -- what holds of each member of the one list holds of each of the other
  each : (P : Op → Type 0) → ((i : ℕ) → i < suc (length xs) → P (get_or (first ∷ xs) i identity_op)) → (i : ℕ) → i < suc (length ys) → P (get_or (first ∷ ys) i identity_op)
  each P f zero l = f zero (omega arith)
  each P f (suc i) l =
      All-permutation P xs ys p (λ k d m. subst P (get_or_default xs k identity_op d m) (f (suc k) (omega arith))) i identity_op (omega arith)

  apart-rest : Apart ys
  apart-rest = apart-permutation xs ys p (λ i j l m e. let k : suc i ≡ suc j = h.are.apart (suc i) (suc j) (omega arith) (omega arith) e in omega arith)

  not_first : (i : ℕ) → i < length ys → (op_at ys i).rot ≡ (seitz_of first).rot → ⊥
  not_first i l = All-permutation (λ (o : Op). (seitz_of o).rot ≡ (seitz_of first).rot → ⊥) xs ys p
      (λ k d m e. let f : suc k ≡ zero = h.are.apart (suc k) zero (omega arith) (omega arith) (ap (λ (o : Op). (seitz_of o).rot) (get_or_default xs k identity_op d m) ∙ e) in absurd (omega arith))
      i identity_op l

  apart-sorted : Apart (first ∷ ys)
  apart-sorted zero zero l m e = refl
  apart-sorted zero (suc j) l m e = absurd (not_first j (omega arith) (sym e))
  apart-sorted (suc i) zero l m e = absurd (not_first i (omega arith) e)
  apart-sorted (suc i) (suc j) l m e = ap suc (apart-rest i j (omega arith) (omega arith) e)

  shaped-sorted : (i : ℕ) → i < suc (length ys) → IsShaped (get_or (first ∷ ys) i identity_op)
  shaped-sorted = each IsShaped h.are.shaped

  rows : (i : ℕ) → i < length ys → (get_or ys i identity_op).rot ≡ rows_of (op_at ys i).rot
  rows i l = ap (λ (o : Op). o.rot) (shaped-sorted (suc i) (omega arith))

  rising-rest : (i j : ℕ) → i < j → j < length ys → matrix_cmp (op_at ys i).rot (op_at ys j).rot ≡ Less
  rising-rest i j l m =
      let a = get_or ys i identity_op in
      let b = get_or ys j identity_op in
      (λ t. rows_cmp (sym (rows i (omega arith)) t) (sym (rows j m) t))
      ∙ before a b (sorted_far (λ x y. is_lt (op_cmp x y)) op_weak ys up i j identity_op (omega arith) m)
      (λ e. let k : i ≡ j = apart-rest i j (omega arith) m (ap matrix_of e) in absurd (omega arith))

  rising-sorted : (i j : ℕ) → 0 < i → i < j → j < suc (length ys) → matrix_cmp (op_at (first ∷ ys) i).rot (op_at (first ∷ ys) j).rot ≡ Less
  rising-sorted zero j z l m = absurd (omega arith)
  rising-sorted (suc i) zero z l m = absurd (omega arith)
  rising-sorted (suc i) (suc j) z l m = rising-rest i j (omega arith) (omega arith)

  moved : (i : ℕ) → i < suc (length xs) → (j : ℕ) × (j < suc (length ys)) × (get_or (first ∷ xs) i identity_op ≡ get_or (first ∷ ys) j identity_op)
  moved zero l = (zero, omega arith, refl)
  moved (suc i) l =
      let x = get_or xs i identity_op in
      let c : Contains ys x = Contains-permutation xs ys x p (Contains-get_or xs i identity_op (omega arith)) in
      let m : c.0 < length ys = c.1 in
      (suc c.0, omega arith, sym c.2 ∙ get_or_default ys c.0 x identity_op c.1)

  complete-sorted : (g : Seitz ℤ) → IsWord G L g → IsListed L (first ∷ ys) g
  complete-sorted g w =
      let a = h.complete g w in
      let m = moved a.place a.below in
      record { place = m.0; below = m.1; same = subst (λ (o : Op). IsSameUpToLattice L g (seitz_of o)) m.2 a.same }

  least-sorted : (i : ℕ) → i < suc (length ys) → IsLeastShift L (op_at (first ∷ ys) i).shift (op_at (first ∷ ys) i).shift
  least-sorted = each (λ o. IsLeastShift L (seitz_of o).shift (seitz_of o).shift) h.are.least

  list-sorted : IsListOf G L (first ∷ ys)
  list-sorted = record {
    some = omega arith;
    identity = h.are.identity;
    apart = apart-sorted;
    rising = rising-sorted;
    are_words = each (λ o. IsWord G L (seitz_of o)) h.are.are_words;
    complete = complete-sorted;
    in_cell = λ i l. (least-sorted i l).in_cell;
    least = λ i l g w e c.
        let a = complete-sorted g w in
        let k : a.place ≡ i = apart-sorted a.place i a.below l (sym a.same.rotation ∙ e) in
        (least-sorted i l).least g.shift c (subst (λ n. IsLatticeVector L (vector_difference g.shift (op_at (first ∷ ys) n).shift)) k a.same.translation);
    shaped = shaped-sorted;
  }

pub in_order : (G : List Op) (L : Lattice) (H H' : List Op) → IsClosedList G L H → IsSortedAfterFirst H H'
    → IsListOf G L H' × (length H' ≤ 48) × ((i : ℕ) → i < length H' → IsSmallMatrix (op_at H' i).rot)
in_order G L [] H' h s = absurd (let l = h.are.some in omega arith)
in_order G L (first ∷ xs) H' h s =
    let n = length_permutation xs s.rest s.permutation in
    subst (λ (ops : List Op). IsListOf G L ops × (length ops ≤ 48) × ((i : ℕ) → i < length ops → IsSmallMatrix (op_at ops i).rot)) (sym s.is) (
      list-sorted G L first xs s.rest h s.permutation s.sorted,
      omega (arith, n, h.are.few),
      each G L first xs s.rest h s.permutation s.sorted (λ o. IsSmallMatrix (seitz_of o).rot) h.are.small,
    )

pub parent_of : (G gens : List Op) (L : Lattice) (H H' : List Op) → gens ≡ G → AreGenerators G → IsClosedList G L H → IsSortedAfterFirst H H'
    → IsParentGroup (record { ops = H'; lattice = L; generators = gens })
parent_of G gens L H H' e a h s =
    let m = in_order G L H H' h s in
    subst (λ (g : List Op). IsParentGroup (record { ops = H'; lattice = L; generators = g })) (sym e)
    (record { generators = a; list = m.0; few = m.1; small = m.2 })
