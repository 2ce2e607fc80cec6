-- Products of the square roots of 2, 3 and 6.
--
-- r2_square, r3_square, r2-times-r3: r2 r2 = 2, r3 r3 = 3, r2 r3 = r6
use Rattle.std.proofs.Common.{◌≡◌, ◌∙◌, pos}
use Rattle.cyclo24.specs.Gcd.{gcd}
use Rattle.cyclo24.specs.Numerals.{of_whole}
use Rattle.cyclo24.specs.FourNorm.{whole4, four}
use Rattle.cyclo24.specs.FourNormLaws.{four_is}
use Rattle.cyclo24.specs.ListedLaws.{same_exact}
use Rattle.cyclo24.specs.ExactLaws.{times-is}
use Rattle.cyclo24.specs.ExactK24.{k24_laws}
use Rattle.cyclo24.specs.K24NumbersLaws.{whole_list}
use Rattle.cyclo24.specs.RootsK24.{r2, r3, r6}

pub r2_square : k24_laws.times r2 r2 ≡ of_whole k24_laws (pos 2)
unfolding gcd
r2_square = same_exact (k24_laws.times r2 r2) (of_whole k24_laws (pos 2)) (times-is whole4 four four_is r2 r2 ∙ whole_list (pos 2))

pub r3_square : k24_laws.times r3 r3 ≡ of_whole k24_laws (pos 3)
unfolding gcd
r3_square = same_exact (k24_laws.times r3 r3) (of_whole k24_laws (pos 3)) (times-is whole4 four four_is r3 r3 ∙ whole_list (pos 3))

pub r2-times-r3 : k24_laws.times r2 r3 ≡ r6
unfolding gcd
r2-times-r3 = same_exact (k24_laws.times r2 r3) r6 (times-is whole4 four four_is r2 r3)
