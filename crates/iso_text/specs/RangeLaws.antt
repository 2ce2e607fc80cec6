-- What holds of three values, and of the numbers of wave vectors, by their places.
--
-- AreThree-entry, AreThree-entries: each of three values, each entry of three rows of three
-- AreThree-weaker, AreThree-map: what follows for each value, and for what is made of each
-- IsWithin-weaker: a wider bound
-- fraction-denominator, wave-denominators, block-denominators, denominators-entry: the denominators of wave vectors
use Rattle.std.proofs.Common.{ℕ, ◌<◌, ◌≤◌, ℤ, List, [], map, length, slice_index_or, ◌∙◌, arith}
use Rattle.std.specs.List.{All}
use Rattle.std.proofs.lemmas.Int.{ints}
use Rattle.std.proofs.lemmas.List.{length-map}
use Rattle.std.proofs.lemmas.List.Elements.{All-map, All-weaker}
use Rattle.iso_text.specs.Ranges.{IsBlock}
use Rattle.iso_text.specs.WordRanges.{IsWithin, AreThree, IsDenominator, IsFraction}
use Rattle.iso_text.specs.declared.numbers.Frac.{Frac}
use Rattle.iso_text.specs.declared.sections.IrrepText.{IrrepText}

-- each of three values
pub AreThree-entry : {V : Type 0} (P : V → Type 0) (vs : List V) (i : ℕ) (d : V) → AreThree P vs → i < 3 → P (slice_index_or vs i d)
AreThree-entry P vs i d three below = three.each i d (omega (arith, three.count, below))

-- each entry of three rows of three
pub AreThree-entries : {V : Type 0} (P : V → Type 0) (rows : List (List V)) (i j : ℕ) (r : List V) (d : V) → AreThree (AreThree P) rows → i < 3 → j < 3 → P (slice_index_or (slice_index_or rows i r) j d)
AreThree-entries P rows i j r d three row_below below = AreThree-entry P (slice_index_or rows i r) j d (AreThree-entry (AreThree P) rows i r three row_below) below

pub AreThree-weaker : {V : Type 0} (P Q : V → Type 0) → ((v : V) → P v → Q v) → (vs : List V) → AreThree P vs → AreThree Q vs
AreThree-weaker P Q law vs three = record { count = three.count; each = All-weaker P Q law vs three.each }

pub AreThree-map : {V W : Type 0} (P : W → Type 0) (f : V → W) (vs : List V) → AreThree (λ v. P (f v)) vs → AreThree P (map f vs)
AreThree-map P f vs three = record { count = length-map vs f ∙ three.count; each = All-map P f vs three.each }

pub IsWithin-weaker : (m n : ℕ) (x : ℤ) → m ≤ n → IsWithin m x → IsWithin n x
IsWithin-weaker m n x most near = (omega (arith, ints, most, near.0), omega (arith, ints, most, near.1))

pub fraction-denominator : (v : Frac) → IsFraction v → IsDenominator v.den
fraction-denominator v is = record { positive = is.positive; few = is.few; divides = is.divides }

-- the denominators of a wave vector
pub wave-denominators : (k : List Frac) → AreThree IsFraction k → AreThree IsDenominator (map (λ v. v.den) k)
wave-denominators k wave = AreThree-map IsDenominator (λ v. v.den) k (AreThree-weaker IsFraction (λ v. IsDenominator v.den) fraction-denominator k wave)

-- the denominators of the wave vectors of irrep blocks
pub block-denominators : (irreps : List IrrepText) → All IsBlock irreps → All (AreThree IsDenominator) (map (λ i. map (λ v. v.den) i.k) irreps)
block-denominators irreps blocks =
    All-map (AreThree IsDenominator) (λ i. map (λ v. v.den) i.k) irreps (All-weaker IsBlock (λ i. AreThree IsDenominator (map (λ v. v.den) i.k)) (λ i block. wave-denominators i.k block.wave) irreps blocks)

pub denominators-entry : (dens : List (List ℕ)) (n j : ℕ) → All (AreThree IsDenominator) dens → n < length dens → j < 3 → IsDenominator (slice_index_or (slice_index_or dens n []) j 1)
denominators-entry dens n j each triple below = AreThree-entry IsDenominator (slice_index_or dens n []) j 1 (each n [] triple) below
