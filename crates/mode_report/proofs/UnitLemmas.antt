-- The lines of a mode that is 1 in one column and 0 elsewhere.
use Rattle.std.proofs.Common.{◌≡◌, refl, sym, ap, ◌∙◌, ℕ, ◌+◌, ◌*◌, ◌/◌, ◌%◌, ◌<◌, Bool, true, false, cond, nat_eq, List, [], ◌++◌, flat_map, arith}
use Rattle.std.specs.Prelude.{codes, decimal, not, ◌&&◌}
use Rattle.std.specs.List.{range_with_len}
use Rattle.std.proofs.lemmas.Bool.{false≢true, eqb-true, eq-eqb, ne_eqb}
use Rattle.cyclo24.specs.FieldOn.{FieldOn}
use Rattle.cyclo24.specs.ExactK24.{k24_laws}
use Rattle.cyclo24.specs.TextK24.{text24}
use Rattle.iso_text.specs.Lines.{line}
use Rattle.lin_alg.specs.Equations.{unit_vector}
use Rattle.mode_report.specs.ModesReport.{move_lines, number_lines}
use Rattle.mode_report.specs.MoveParts.{are_nought, unit_text, unit_line, entry_line}
use Rattle.mode_report.proofs.TextLemmas.{only-one}

-- two tests of equal outcome
same-test : (a b c d : ℕ) → (a ≡ b → c ≡ d) → (c ≡ d → a ≡ b) → nat_eq a b ≡ nat_eq c d
same-test a b c d g h = by (nat_eq a b) refl
  where
    by : (x : Bool) → nat_eq a b ≡ x → x ≡ nat_eq c d
    by true e = sym (eq-eqb c d (g (eqb-true a b e)))
    by false e = sym (ne_eqb c d (λ s. false≢true (sym e ∙ eq-eqb a b (h s))))

unequal : (a b : ℕ) → not (nat_eq a b) ≡ true → a ≡ b → ⊥
unequal a b e s = false≢true (sym (ap not (eq-eqb a b s)) ∙ e)

some-false : (a b c : Bool) → (a ≡ true → b ≡ true → c ≡ true → ⊥) → (a && b && c) ≡ false
some-false true true true h = absurd (h refl refl refl)
some-false true true false h = refl
some-false true false c h = refl
some-false false b c h = refl

-- a unit vector over any field

module _ {K : Type 0} (f : FieldOn K) where
  nought-by : (b : Bool) → f.is_nought (cond b f.unit f.nought) ≡ not b
  nought-by true = f.is_nought-unit
  nought-by false = f.is_nought-nought

  abbrev still : (ℕ → K) → ℕ → Bool
  still v i = are_nought f (v (i * 3)) (v (i * 3 + 1)) (v (i * 3 + 2))

  still-is : (p i : ℕ) → still (unit_vector f p) i ≡ (not (nat_eq (i * 3) p) && not (nat_eq (i * 3 + 1) p) && not (nat_eq (i * 3 + 2) p))
  still-is p i = (λ j. nought-by (nat_eq (i * 3) p) j && nought-by (nat_eq (i * 3 + 1) p) j && nought-by (nat_eq (i * 3 + 2) p) j)

  still-other : (p i : ℕ) → (i ≡ p / 3 → ⊥) → still (unit_vector f p) i ≡ true
  still-other p i n =
      let a : i * 3 ≡ p → ⊥ = λ e. n (omega (arith, e)) in
      let b : i * 3 + 1 ≡ p → ⊥ = λ e. n (omega (arith, e)) in
      let c : i * 3 + 2 ≡ p → ⊥ = λ e. n (omega (arith, e)) in
      still-is p i ∙ (λ j. not (ne_eqb (i * 3) p a j) && not (ne_eqb (i * 3 + 1) p b j) && not (ne_eqb (i * 3 + 2) p c j))

  moves-own : (p : ℕ) → still (unit_vector f p) (p / 3) ≡ false
  moves-own p =
      let i = p / 3 in
      still-is p i ∙ some-false _ _ _ (λ a b c. let x = unequal (i * 3) p a in let y = unequal (i * 3 + 1) p b in let z = unequal (i * 3 + 2) p c in absurd (omega (arith, x, y, z)))

  -- an entry of the atom that moves
  entry-own : (p k i : ℕ) → i ≡ p / 3 * 3 + k → unit_vector f p i ≡ unit_vector f (p % 3) k
  entry-own p k i e = ap (λ b. cond b f.unit f.nought) (same-test i p k (p % 3) (λ s. omega (arith, s, e)) (λ s. omega (arith, s, e)))

  module _ (t : K → List ℕ) where
    abbrev words : ℕ → K → K → K → List ℕ
    words number x y z = line (codes "move " ++ decimal number ++ codes " " ++ t x ++ codes " " ++ t y ++ codes " " ++ t z) []

    abbrev atom : (ℕ → K) → ℕ → List ℕ
    atom v i = cond (still v i) [] (words (i + 1) (v (i * 3)) (v (i * 3 + 1)) (v (i * 3 + 2)))

    own-line : (p : ℕ) → words (p / 3 + 1) (unit_vector f (p % 3) 0) (unit_vector f (p % 3) 1) (unit_vector f (p % 3) 2) ≡ atom (unit_vector f p) (p / 3)
    own-line p =
        let i = p / 3 in
        let a = entry-own p 0 (i * 3) (omega arith) in
        let b = entry-own p 1 (i * 3 + 1) refl in
        let c = entry-own p 2 (i * 3 + 2) refl in
        (λ j. words (i + 1) (sym a j) (sym b j) (sym c j))
        ∙ ap (λ s. cond s [] (words (i + 1) (unit_vector f p (i * 3)) (unit_vector f p (i * 3 + 1)) (unit_vector f p (i * 3 + 2)))) (sym (moves-own p))

    other-line : (p i : ℕ) → (i ≡ p / 3 → ⊥) → atom (unit_vector f p) i ≡ []
    other-line p i n =
        ap (λ s. cond s [] (words (i + 1) (unit_vector f p (i * 3)) (unit_vector f p (i * 3 + 1)) (unit_vector f p (i * 3 + 2)))) (still-other p i n)

    unit-lines : (p atoms : ℕ) → p < atoms * 3
        → words (p / 3 + 1) (unit_vector f (p % 3) 0) (unit_vector f (p % 3) 1) (unit_vector f (p % 3) 2) ≡ flat_map (atom (unit_vector f p)) (range_with_len 0 atoms)
    unit-lines p atoms l = own-line p ∙ sym (only-one (atom (unit_vector f p)) atoms (p / 3) (omega arith) (λ i k. other-line p i))

-- the one line is that of all atoms
pub unit-moves : (p atoms : ℕ) → p < atoms * 3 → unit_line (p / 3 + 1) (p % 3) ≡ move_lines atoms (unit_vector k24_laws p)
unfolding unit_text
unit-moves p atoms l = unit-lines k24_laws text24 p atoms l

-- one number an atom

module _ {K : Type 0} (f : FieldOn K) (t : K → List ℕ) where
  abbrev entry : ℕ → K → List ℕ
  entry number x = line (codes "move " ++ decimal number ++ codes " " ++ t x) []

  abbrev entries : ℕ → K → List ℕ
  entries number x = cond (f.is_nought x) [] (entry number x)

  own-entry : (p : ℕ) → entries (p + 1) (unit_vector f p p) ≡ entry (p + 1) f.unit
  own-entry p =
      ap (λ b. entries (p + 1) (cond b f.unit f.nought)) (eq-eqb p p refl) ∙ ap (λ s. cond s [] (entry (p + 1) f.unit)) f.is_nought-unit

  other-entry : (p i : ℕ) → (i ≡ p → ⊥) → entries (i + 1) (unit_vector f p i) ≡ []
  other-entry p i n =
      ap (λ b. entries (i + 1) (cond b f.unit f.nought)) (ne_eqb i p n) ∙ ap (λ s. cond s [] (entry (i + 1) f.nought)) f.is_nought-nought

  unit-entries : (p atoms : ℕ) → p < atoms * 1 → entry (p + 1) f.unit ≡ flat_map (λ i. entries (i + 1) (unit_vector f p i)) (range_with_len 0 atoms)
  unit-entries p atoms l = sym (own-entry p) ∙ sym (only-one (λ i. entries (i + 1) (unit_vector f p i)) atoms p (omega (arith, l)) (λ i k n. other-entry p i n))

-- the one line is that of all atoms
pub unit-numbers : (p atoms : ℕ) → p < atoms * 1 → entry_line (p + 1) k24_laws.unit ≡ number_lines atoms (unit_vector k24_laws p)
unit-numbers p atoms l = unit-entries k24_laws text24 p atoms l
