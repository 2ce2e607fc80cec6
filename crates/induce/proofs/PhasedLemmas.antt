-- The entries of D(r T + t), from those of D(r T).
use Rattle.std.proofs.Common.{◌≡◌, sym, ap, ◌∙◌, subst, ℕ, ◌<◌, ◌+◌, ◌*◌, ◌/◌, ◌%◌, Bool, true, false, length, get_or, if◌then◌else◌}
use Rattle.std.proofs.lemmas.Nat.{div-mul-add, mod-mul-add, div_below}
use Rattle.cyclo24.specs.FieldOn.{FieldOn}
use Rattle.cyclo24.specs.FieldLaws.{times-nought}
use Rattle.cyclo24.specs.ExactZ24.{z24_laws, power}
use Rattle.cyclo24.specs.Z24RootsLaws.{times-power}
use Rattle.space_ops.specs.Member.{rotation_of}
use Rattle.kstar.specs.Moves.{little_number}
use Rattle.super_group.specs.Quotient.{SupercellGroup, order_of, element_of}
use Rattle.super_group.specs.QuotientLaws.{row_below}
use Rattle.small_rep.specs.SmallRep.{phased, is_listed, little_matrix}
use Rattle.induce.specs.declared.tables.Tables.{Tables}
use Rattle.induce.specs.declared.tables.Place.{Place}
use Rattle.induce.specs.Induced.{little_part, is_block, part_phase, induced_matrix, IsStarOn}
use Rattle.induce.specs.Tables.{size_in, dimension_in, matrices_in, matrix_in, AreTablesOf, IsPlaceOf}
use Rattle.induce.proofs.TableLemmas.{part-rotation, phase-split}
use Rattle.induce.proofs.MoveLemmas.{some_rows, operation_below, operation_of}
use Rattle.induce.proofs.PlaceLemmas.{phase_below, entry_other}

-- a root times a root times x, or nothing
module _ {K : Type 0} (f : FieldOn K) (n : ℕ) (root : ℕ → K) (roots : (a b : ℕ) → f.times (root a) (root b) ≡ root ((a + b) % n)) where
  tested : (b : Bool) (u v w : ℕ) (x : K) → w ≡ (u + v) % n → (if b then f.times (root w) x else f.nought) ≡ f.times (root u) (if b then f.times (root v) x else f.nought)
  tested true u v w x e = ap (λ y. f.times y x) (ap root e ∙ sym (roots u v)) ∙ f.times_assoc (root u) (root v) x
  tested false u v w x e = sym (times-nought f (root u))

module _ (q : SupercellGroup) (t : Tables) (h : AreTablesOf q t) (u j : ℕ) (lu : u < length q.translations) (lj : j < length t.star.by) where
  abbrev T : ℕ
  T = length q.translations

  on : IsStarOn q t.star
  on = h.inducible.on

  pub place_below : j * T + u < length t.phases.items
  place_below = subst (λ n. j * T + u < n) (sym h.phases.count) (row_below (length t.star.by) T j u lj lu)

  phase_is : get_or t.phases.items (j * T + u) 0 ≡ part_phase q.parent t.star (element_of q u) j j
  phase_is =
      h.phases.each (j * T + u) (row_below (length t.star.by) T j u lj lu)
      ∙ (λ i. part_phase q.parent t.star (element_of q (mod-mul-add j T u lu i)) (div-mul-add j T u lu i) (div-mul-add j T u lu i))

  module _ (n : ℕ) (e : n ≡ T) where
    pub found_place_below : j * n + u < length t.phases.items
    found_place_below = subst (λ m. j * m + u < length t.phases.items) (sym e) place_below

    module _ (phase : ℕ) (f : phase ≡ get_or t.phases.items (j * n + u) 0) where
      found_is : phase ≡ part_phase q.parent t.star (element_of q u) j j
      found_is = f ∙ ap (λ m. get_or t.phases.items (j * m + u) 0) e ∙ phase_is

      pub found_below : phase < 24
      found_below = subst (λ k. k < 24) (sym found_is) (phase_below q t.star u j j)

      -- block (j, i) of D(r T + t), from that of D(r T)
      module _ (r i : ℕ) (lr : r < length q.parent.ops) (li : i < length t.star.by) where
        le : r * T + u < order_of q
        le = row_below (length q.parent.ops) T r u lr lu

        lb : r * T < order_of q
        lb = operation_below q t.star on r lr

        turn_is : (r * T + u) / T ≡ r
        turn_is = div-mul-add r T u lu

        same_rotation : rotation_of q.parent (little_part q.parent t.star (element_of q (r * T + u)) j i) ≡ rotation_of q.parent (little_part q.parent t.star (element_of q (r * T)) j i)
        same_rotation =
            part-rotation q t.star on (r * T + u) j i le lj li ∙ ap (λ k. little_number q.parent t.star k j i) (turn_is ∙ sym (operation_of q t.star on r))
            ∙ sym (part-rotation q t.star on (r * T) j i lb lj li)

        split : part_phase q.parent t.star (element_of q (r * T + u)) j i ≡ (phase + part_phase q.parent t.star (element_of q (r * T)) j i) % 24
        split =
            phase-split q t.star on (r * T + u) j i le lj li
            ∙ (λ k. (part_phase q.parent t.star (element_of q (mod-mul-add r T u lu k)) j j + part_phase q.parent t.star (element_of q (turn_is k * T)) j i) % 24)
            ∙ ap (λ k. (k + part_phase q.parent t.star (element_of q (r * T)) j i) % 24) (sym found_is)

        block_phased : (x y : ℕ)
            → (if is_block q.parent t.star (element_of q (r * T + u)) j i then little_matrix q.parent t.star (matrices_in t) (little_part q.parent t.star (element_of q (r * T + u)) j i) x y else z24_laws.nought)
            ≡ phased phase (if is_block q.parent t.star (element_of q (r * T)) j i then little_matrix q.parent t.star (matrices_in t) (little_part q.parent t.star (element_of q (r * T)) j i) x y else z24_laws.nought)
        unfolding little_matrix
        block_phased x y =
            (λ k. if is_listed t.star.little (same_rotation k) then phased (part_phase q.parent t.star (element_of q (r * T + u)) j i) (matrices_in t (same_rotation k) x y) else z24_laws.nought)
            ∙ tested z24_laws 24 power times-power (is_block q.parent t.star (element_of q (r * T)) j i) phase (part_phase q.parent t.star (element_of q (r * T)) j i)
            (part_phase q.parent t.star (element_of q (r * T + u)) j i) (matrices_in t (rotation_of q.parent (little_part q.parent t.star (element_of q (r * T)) j i)) x y) split

  pub entry_phased : (n : ℕ) → n ≡ T → (phase : ℕ) → phase ≡ get_or t.phases.items (j * n + u) 0 → (r a b : ℕ) → r < length q.parent.ops → a < dimension_in t → b < dimension_in t → a / size_in t ≡ j
      → matrix_in q t (r * T + u) a b ≡ phased phase (matrix_in q t (r * T) a b)
  unfolding induced_matrix
  entry_phased n e phase f r a b lr la lb k =
      let m = size_in t in
      let i = b / m in
      let li = div_below b m (length t.star.by) (some_rows (length t.star.by) m b lb) lb in
      subst
      (λ w.
      (if is_block q.parent t.star (element_of q (r * T + u)) w i then little_matrix q.parent t.star (matrices_in t) (little_part q.parent t.star (element_of q (r * T + u)) w i) (a % m) (b % m) else z24_laws.nought)
      ≡ phased phase (if is_block q.parent t.star (element_of q (r * T)) w i then little_matrix q.parent t.star (matrices_in t) (little_part q.parent t.star (element_of q (r * T)) w i) (a % m) (b % m) else z24_laws.nought))
      (sym k) (block_phased n e phase f r i lr li (a % m) (b % m))

-- outside the block of its column an entry is 0
pub entry_zero : (q : SupercellGroup) (t : Tables) (e i : ℕ) (place : Place) → IsPlaceOf q t e i place → (a b : ℕ) → a < dimension_in t → b / size_in t ≡ i → (a / size_in t ≡ place.row → ⊥)
    → matrix_in q t e a b ≡ z24_laws.nought
entry_zero q t e i place h a b la k d =
    let m = size_in t in
    sym (entry_other q t e a b place (subst (λ w. IsPlaceOf q t e w place) (sym k) h) (div_below a m (length t.star.by) (some_rows (length t.star.by) m a la) la) (λ w. d (sym w)) z24_laws.nought (λ i. z24_laws.nought))
