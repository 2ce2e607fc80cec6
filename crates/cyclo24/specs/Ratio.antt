-- Rational numbers in 64 bits and packed in 32.
--
-- ratio4 r: the number with four numerators in 128 bits; packed_ratio4 r: the packed one with four numerators
-- swapped r: the denominator of r over its first numerator
use Rattle.std.specs.Prelude.{pos}
use Rattle.cyclo24.specs.declared.ratio.Ratio.{Ratio}
use Rattle.cyclo24.specs.declared.ratio.PackedRatio.{PackedRatio}
use Rattle.cyclo24.specs.declared.packed4.Packed4.{Packed4}
use Rattle.cyclo24.specs.declared.fraction4.Fraction4.{Fraction4}

abbrev pub ratio4 : Ratio → Fraction4
ratio4 r = record { d = record { n = r.d.n }; a0 = record { n = r.n.n }; a1 = record { n = pos 0 }; a2 = record { n = pos 0 }; a3 = record { n = pos 0 } }

abbrev pub packed_ratio4 : PackedRatio → Packed4
packed_ratio4 r = record { d = r.d; a0 = r.n; a1 = record { n = pos 0 }; a2 = record { n = pos 0 }; a3 = record { n = pos 0 } }

-- the denominator over the first numerator
abbrev pub swapped : Fraction4 → Fraction4
swapped r = record { d = r.a0; a0 = r.d; a1 = record { n = pos 0 }; a2 = record { n = pos 0 }; a3 = record { n = pos 0 } }
