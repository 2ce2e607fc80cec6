-- The wave vector of an irrep is its row of twelfths, by fractions in lowest terms.
--
-- wave_of i: the wave vector of an irrep
-- fraction-at: its parts are fractions; wave-vector: they are twelfths
-- lowest-row: they are those of the row in lowest terms
use Rattle.std.proofs.Common.{◌≡◌, sym, ap, ◌∙◌, ℕ, ◌*◌, ◌/◌, ◌%◌, ◌<◌, pos, ◌*ℤ◌, arith}
use Rattle.std.proofs.Math.IntN.{pos-*ℤ-pos}
use Rattle.algebra.specs.WholeLaws.{whole_ring}
use Rattle.iso_text.specs.Fractions.{IsLowest}
use Rattle.iso_text.specs.Ranges.{IsBlock}
use Rattle.iso_text.specs.WordRanges.{IsFraction}
use Rattle.iso_text.specs.declared.numbers.Frac.{Frac}
use Rattle.iso_text.specs.declared.sections.IrrepText.{IrrepText}
use Rattle.kstar.specs.declared.wave_vector.KVector.{KVector}
use Rattle.kstar.specs.Fraction.{part_of, IsTwelfths, IsWaveVector, twelfths_of, IsLowestRow}
use Rattle.report_steps.specs.Irreps.{row_of_irrep}

-- the wave vector
abbrev pub wave_of : IrrepText → KVector
wave_of i = record { parts = i.k }

module _ (i : IrrepText) (b : IsBlock i) where
  -- its parts are fractions
  pub fraction-at : (j : ℕ) → j < 3 → IsFraction (part_of (wave_of i) j)
  fraction-at j l = let c = b.wave.count in b.wave.each j (record { num = pos 0; den = 1 }) (omega (arith, c, l))

  twelfths-at : (j : ℕ) → j < 3 → IsTwelfths (part_of (wave_of i) j)
  twelfths-at j l = let f = fraction-at j l in record { positive = f.positive; divides = f.divides; near = f.near }

  -- they are twelfths
  pub wave-vector : IsWaveVector (wave_of i)
  wave-vector = record { first = twelfths-at 0 (omega arith); second = twelfths-at 1 (omega arith); third = twelfths-at 2 (omega arith) }

  whole-twelfth : (d : ℕ) → 0 < d → 12 % d ≡ 0 → 12 ≡ (12 / d) * d
  whole-twelfth d l e = omega arith

  lowest : (f : Frac) → IsFraction f → IsLowest (twelfths_of f) 12 f
  lowest f h = record {
    same = ap (λ n. f.num *ℤ pos n) (whole-twelfth f.den h.positive h.divides) ∙ ap (λ x. f.num *ℤ x) (sym (pos-*ℤ-pos (12 / f.den) f.den)) ∙ sym (whole_ring.mul_assoc f.num (pos (12 / f.den)) (pos f.den));
    positive = h.positive;
    coprime = h.lowest;
  }

  -- they are those of the row in lowest terms
  pub lowest-row : IsLowestRow (row_of_irrep i) (wave_of i)
  lowest-row = record {
    first = lowest (part_of (wave_of i) 0) (fraction-at 0 (omega arith));
    second = lowest (part_of (wave_of i) 1) (fraction-at 1 (omega arith));
    third = lowest (part_of (wave_of i) 2) (fraction-at 2 (omega arith));
  }
