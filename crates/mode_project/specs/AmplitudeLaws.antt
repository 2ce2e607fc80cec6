-- What amplitudes obey.
--
-- free-rising: the columns of a form without a pivot are a rising list
-- modes-basis: the modes of an orbit are a basis, with rising sites
-- amplitudes-unique: two lists of amplitudes of one vector are equal
use Rattle.std.proofs.Common.{◌≡◌, ℕ, suc, zero, ◌+◌, ◌<◌, ◌≤◌, inl, inr, Bool, true, false, refl, sym, ◌∙◌, ap, subst, arith, List, [], ◌∷◌, ◌++◌, length, map, if◌then◌else◌}
use Rattle.std.specs.Prelude.{slice_index}
use Rattle.std.proofs.lemmas.List.{length-append, length-map}
use Rattle.algebra.specs.RisingLists.{IsRisingListOf}
use Rattle.algebra.specs.RisingListLaws.{list-skip, list-more}
use Rattle.cyclo24.specs.FieldLaws.{times-nought}
use Rattle.cyclo24.specs.FieldOn.{FieldOn}
use Rattle.cyclo24.specs.SumLaws.{all-nought}
use Rattle.lin_alg.specs.EquationLaws.{dec}
use Rattle.lin_alg.specs.Equations.{unit_vector}
use Rattle.lin_alg.specs.InsertLaws.{span-rows}
use Rattle.lin_alg.specs.Reduced.{IsWithin, is_pivot, free_columns}
use Rattle.lin_alg.specs.Solving.{combination}
use Rattle.lin_alg.specs.SolvingLaws.{solution-only}
use Rattle.lin_alg.specs.Spans.{row_vectors, IsInSpan}
use Rattle.mode_project.specs.AtomSpace.{AtomSpace, size_of}
use Rattle.mode_project.specs.Amplitudes.{AreAmplitudes, IsModeBasis}
use Rattle.mode_project.specs.ListLaws.{each-row, vectors-length}
use Rattle.mode_project.specs.ModeLaws.{modes-count, modes-independent, modes-span}
use Rattle.mode_project.specs.Modes.{AreModes, all_modes, vector_at}

pub free-rising : {V : Type 0} (rs : List (ℕ × V)) (w : ℕ) → IsRisingListOf w (λ c. is_pivot c rs ≡ false) (free_columns w rs)
free-rising rs zero = record {
  below = λ i l. absurd (omega (arith, l));
  has = λ i l. absurd (omega (arith, l));
  rising = λ i j l m. absurd (omega (arith, m));
  every = λ r l. absurd (omega (arith, l));
}
free-rising rs (suc w) =
    let old : List ℕ = free_columns w rs in
    let next : (b : Bool) → is_pivot w rs ≡ b → IsRisingListOf (w + 1) (λ c. is_pivot c rs ≡ false) (if b then old else old ++ w ∷ []) =
    elim [
      | true ↦ λ e. list-skip w (λ c. is_pivot c rs ≡ false) old (free-rising rs w) (λ z. let t : true ≡ false = sym e ∙ z in absurd cc)
      | false ↦ λ e. list-more w (λ c. is_pivot c rs ≡ false) old (free-rising rs w) e
    ] in
    let n : w + 1 ≡ suc w = omega arith in
    subst (λ (m : ℕ). IsRisingListOf m (λ c. is_pivot c rs ≡ false) (free_columns (suc w) rs)) n (next (is_pivot w rs) refl)

module _ {K : Type 0} (f : FieldOn K) where
  pub modes-basis : (s : AtomSpace) (ws : List (ℕ → K)) (ms : List (ℕ × (ℕ → K))) (sites : List ℕ) → AreModes f s ws ms sites → IsModeBasis f (size_of s) ms sites
  modes-basis s ws ms sites h = record {
    count = modes-count f s ws ms sites h;
    independent = modes-independent f s ws ms sites h;
    spanning = modes-span f s ws ms sites h;
    rising = subst (λ (us : List ℕ). (i k : ℕ) → i < k → k < length us → slice_index us i < slice_index us k) (sym h.free.2) (free-rising h.free.0 (size_of s)).rising;
  }

  module _ (d : ℕ) (ms : List (ℕ × (ℕ → K))) (sites : List ℕ) (h : IsModeBasis f d ms sites) where
    abbrev mode : ℕ → ℕ → K
    mode = vector_at f (all_modes f ms sites)

    pub modes-number : length (all_modes f ms sites) ≡ d
    modes-number =
        let e : length (all_modes f ms sites) ≡ length (row_vectors ms) + length (map (unit_vector f) sites) = length-append (row_vectors ms) (map (unit_vector f) sites) in
        let k : length (row_vectors ms) ≡ length ms = vectors-length ms in
        let l : length (map (unit_vector f) sites) ≡ length sites = length-map sites (unit_vector f) in
        let n : length ms + length sites ≡ d = h.count in
        omega (arith, e, k, l, n)

    -- each mode has d entries
    pub modes-within : (m : ℕ) → m < d → IsWithin f d (mode m)
    modes-within m l =
        let all = all_modes f ms sites in
        let l' : m < length all = subst (λ (n : ℕ). m < n) (sym modes-number) l in
        (h.spanning (mode m)).0 (each-row f (IsInSpan f all) all (span-rows f all) m l')

    -- past the d columns each sum is 0
    pub sum-past : (a : ℕ → K) (c : ℕ) → d ≤ c → combination f d a mode c ≡ f.nought
    sum-past a c l = all-nought f d _ (λ m b. ap (f.times (a m)) (modes-within m b c l) ∙ times-nought f (a m))

    pub amplitudes-unique : (v a b : ℕ → K) → AreAmplitudes f d mode d v a → AreAmplitudes f d mode d v b → (m : ℕ) → m < d → b m ≡ a m
    amplitudes-unique v a b k l =
        solution-only f d mode h.independent (combination f d a mode) a b (λ c. refl)
        (λ c. elim (dec c d) [
          | inl i ↦ l c i ∙ sym (k c i)
          | inr i ↦ sum-past b c i ∙ sym (sum-past a c i)
        ])
