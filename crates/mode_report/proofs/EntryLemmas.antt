-- The texts of 0 and 1, as entries of unit vectors.
use Rattle.std.proofs.Common.{◌≡◌, refl, sym, ap, ◌∙◌, ℕ, cond, List, ℤ, pos}
use Rattle.std.specs.Prelude.{codes}
use Rattle.std.specs.Fmt.{digits}
use Rattle.std.proofs.lemmas.Bool.{eq-eqb, ne_eqb}
use Rattle.cyclo24.specs.ExactK24.{k24_laws}
use Rattle.cyclo24.specs.ExactLaws.{low}
use Rattle.cyclo24.specs.Gcd.{gcd}
use Rattle.cyclo24.specs.K24Numbers.{whole_numbers}
use Rattle.cyclo24.specs.K24NumbersLaws.{whole_list}
use Rattle.cyclo24.specs.Listed.{numerators}
use Rattle.cyclo24.specs.NumberText.{part_text, signed_text, number_text}
use Rattle.cyclo24.specs.TextK24.{text24, units24}
use Rattle.mode_report.specs.MoveParts.{unit_text}

abbrev text_of : List ℤ → List ℕ
text_of x = number_text (low 4 x) (numerators 4 x) units24

zero-text : text_of (whole_numbers (pos 0)) ≡ codes "0"
zero-text = refl

one-text : text_of (whole_numbers (pos 1)) ≡ codes "1"
unfolding signed_text part_text gcd digits
one-text = refl

nought-text : codes "0" ≡ text24 k24_laws.nought
nought-text = sym zero-text ∙ ap text_of (whole_list (pos 0))

one-list : whole_numbers (pos 1) ≡ (k24_laws.plus k24_laws.unit k24_laws.nought).0
one-list = whole_list (pos 1)

unit-text : codes "1" ≡ text24 k24_laws.unit
unit-text = sym one-text ∙ ap text_of one-list ∙ ap text24 (k24_laws.plus-nought k24_laws.unit)

pub text-one : (p k : ℕ) → k ≡ p → codes "1" ≡ unit_text p k
unfolding unit_text
text-one p k e = unit-text ∙ ap (λ b. text24 (cond b k24_laws.unit k24_laws.nought)) (sym (eq-eqb k p e))

pub text-zero : (p k : ℕ) → (k ≡ p → ⊥) → codes "0" ≡ unit_text p k
unfolding unit_text
text-zero p k n = nought-text ∙ ap (λ b. text24 (cond b k24_laws.unit k24_laws.nought)) (sym (ne_eqb k p n))
