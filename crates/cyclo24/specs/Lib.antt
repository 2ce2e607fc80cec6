-- The modules, each behind those that it stands on.

-- fields
pub mod FieldOn
-- exact values
pub mod ExactField
-- numbers c0 + c1 z + .. + c7 z^7 over a ring, where z^8 = z^4 - 1
pub mod Eight
-- numbers a0 + a1 r2 + a2 r3 + a3 r6 over a ring, where r2 r2 = 2, r3 r3 = 3 and r2 r3 = r6
pub mod Four
-- conjugates and parts of the numbers c0 + c1 z + .. + c7 z^7, where z^8 = z^4 - 1
pub mod EightParts
-- what numbers over r2, r3 and r6 obey
pub mod FourLaws
-- laws of the numbers c0 + c1 z + .. + c7 z^7 over a commutative ring
pub mod EightLaws
-- greatest common divisors
pub mod Gcd
-- fractions in lowest terms
pub mod Fraction
-- rings whose members are fixed numbers of whole numbers
pub mod Numerators
-- the numbers c0 + c1 z + .. + c7 z^7 of whole coefficients as lists of eight whole numbers
pub mod EightNorm
-- tests joined by "and" and "or".
pub mod BoolLaws
-- the greatest common divisor by its properties
pub mod GcdLaws
-- the fractions in lowest terms of a ring with a content are a field
pub mod FractionLaws
-- what divides all of a list of whole numbers
pub mod CommonLaws
-- the square roots of 2 and 3 are no fractions, by descent
pub mod RootsLaws
-- numbers over r2, r3 and r6 with whole coefficients as lists
pub mod FourNorm
-- numbers over r2, r3 and r6 with whole coefficients as lists
pub mod FourNormLaws
-- the numbers c0 + c1 z + .. + c7 z^7 of whole coefficients as lists of eight whole numbers
pub mod EightNormLaws
-- maps from fractions to fractions by a map of their numerators
pub mod FractionMapsLaws
-- fractions of numerators as lists of whole numbers
pub mod Listed
-- finite sums in a field
pub mod Sums
-- a field carried to another type with the same numbers
pub mod Carry
-- fractions of numerators and their lists are the same numbers
pub mod ListedLaws
-- maps of exact values by maps of their numerators
pub mod ExactMapsLaws
-- computations that write numbers on the way, and are refused where one of these is wide
pub mod Checked
-- the formulas of the 24th cyclotomic field on eight numerators over a denominator, with all numbers that are written
pub mod Written8
-- products of eight numerators over a denominator, before lowest terms
pub mod Written8Products
-- the formulas of the field Q(sqrt 2, sqrt 3) on four numerators over a denominator, with all numbers that are written
pub mod Written4
-- conjugates and parts of eight numerators over a denominator, before lowest terms
pub mod Written8Parts
-- the inverse of four numerators over a denominator, before lowest terms
pub mod Written4Inverse
-- the exact values of the field Q(sqrt 2, sqrt 3)
pub mod ExactK24
-- the 24th cyclotomic field
pub mod ExactZ24
-- laws of the 24th cyclotomic field in its own words
pub mod Z24Laws
-- products and inverses in the 24th cyclotomic field by real and imaginary parts
pub mod Z24Parts
-- what follows from the laws of a field
pub mod FieldLaws
-- whole numbers in a field
pub mod Numerals
-- what whole numbers in a field obey
pub mod NumeralLaws
-- products and inverses in the 24th cyclotomic field by real and imaginary parts
pub mod Z24PartsLaws
-- the powers of z = exp(2 pi i / 24)
pub mod Z24Roots
-- the square roots of 2, 3 and 6 in Q(sqrt 2, sqrt 3)
pub mod RootsK24
-- the powers of z = exp(2 pi i / 24)
pub mod Z24RootsLaws
-- what the test for wide numbers says, and checked computations one after another
pub mod CheckedLaws
-- what the formulas on eight numerators over a denominator give
pub mod Written8Laws
-- the values of the formulas on eight numerators over a denominator, and that they are narrow where they are answered
pub mod Written8ValuesLaws
-- what the calls on values of the 24th cyclotomic field give
pub mod Z24Calls
-- what the operations of a field of exact lists give, as lists
pub mod ExactLaws
-- what the calls on values of the 24th cyclotomic field give
pub mod Z24CallsLaws
-- values of the 24th cyclotomic field
pub mod Z24
-- the derived order of values is that of their exact values
pub mod Z24OrderLaws
-- the inverse in the 24th cyclotomic field step by step
pub mod Z24Inverse
-- the inverse in the 24th cyclotomic field step by step
pub mod Z24InverseLaws
-- how a sum of multiples of units is written
pub mod NumberText
-- how a number of the 24th cyclotomic field is written
pub mod TextZ24
-- sums of terms, each a fraction times a unit
pub mod Terms
-- what sums of terms that are held over 24 give
pub mod TermsLaws
-- the exact value of a sum of terms by its coefficients over 24
pub mod TermsValuesLaws
-- what finite sums in a field obey
pub mod TotalLaws
-- sums in a field in pieces, with one term, and in another order
pub mod SumLaws
-- exact values are a set
pub mod ValueLaws
-- what the formulas on four numerators over a denominator give
pub mod Written4Laws
-- the values of the formulas on four numerators over a denominator, and that they are narrow where they are answered
pub mod Written4ValuesLaws
-- what the calls on values of Q(sqrt 2, sqrt 3) give
pub mod K24Laws
-- values of the field Q(sqrt 2, sqrt 3)
pub mod K24
-- values of the field Q(sqrt 2, sqrt 3) compare as their exact values
pub mod K24OrderLaws
-- whole numbers and their quotients in a field of exact lists
pub mod ExactNumerals
-- whole numbers and fractions as values of Q(sqrt 2, sqrt 3)
pub mod K24Numbers
-- whole numbers and fractions as values of Q(sqrt 2, sqrt 3)
pub mod K24NumbersLaws
-- how a number of Q(sqrt 2, sqrt 3) is written
pub mod TextK24
-- the text of a multiple by cases
pub mod TextLaws
-- a sum of squares in Q(sqrt 2, sqrt 3) is zero only where each is
pub mod RealK24Laws
-- products of the square roots of 2, 3 and 6
pub mod RootsK24Laws
-- short products
pub mod Short
-- products and sums of numbers that 64 bits hold
pub mod SmallLaws
-- sums of short products, in which no written number is wide
pub mod ShortLaws
-- four numerators over a denominator whose products, sums and inverses are computed in 64 bits
pub mod Short4
-- what is computed on four numerators over a denominator in 64 bits
pub mod Short4Laws
-- answers on four numerators over a denominator, in lowest terms
pub mod Lowest4
-- that the short ways to a product, a sum and an inverse give what the formulas do, and write nothing wide
pub mod Lowest4Laws
-- eight numerators over a denominator whose products and sums are computed in 64 bits
pub mod Short8
-- a rational number on eight numerators over a denominator, in 64 bits
pub mod Short8Laws
-- answers on eight numerators over a denominator, in lowest terms
pub mod Lowest8
-- sums of products place by place in which no written number is wide
pub mod DotLaws
-- that the short ways to a product and a sum give what the formulas do, and write nothing wide
pub mod Lowest8Laws
-- whole numbers of 8 bits as values of both fields
pub mod SmallNumbersLaws
-- values by the numbers of their lists
pub mod Coefficients
-- that values are made of the numbers of their lists, and operations are the written formulas
pub mod CoefficientsLaws
-- short numbers, and lists in which a number isn't short
pub mod Long
-- what the test for short numbers says
pub mod LongLaws
-- four numerators over a denominator, packed in 32 bits
pub mod Packed4
-- what the formulas on packed numbers give
pub mod PackedLaws
-- rational numbers in 64 bits and packed in 32
pub mod Ratio
-- what the formulas on packed rational numbers give
pub mod RatioLaws
-- the inverse of a rational number: its denominator over its numerator
pub mod SwappedLaws
-- in 128 bits the inverse of a short number writes nothing wide
pub mod ShortInverseLaws
-- the field of the exact values of Q(sqrt 2, sqrt 3), whose operations are wide where their results are long
pub mod ExactShort
-- what follows for each short type from the laws of K24
pub mod ExactShortLaws
-- short values of the field Q(sqrt 2, sqrt 3)
pub mod ShortK24
-- short rational values
pub mod ShortRational
-- short values compare as their exact values
pub mod ShortK24OrderLaws
-- short rational values compare as their exact values
pub mod ShortRationalOrderLaws
