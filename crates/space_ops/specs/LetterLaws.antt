-- Lattices and their letters belong to each other.
--
-- letter-back: the lattice of its own letter
-- lattice-letter: the letter of the lattice that a letter names
use Rattle.std.proofs.Common.{◌≡◌, refl, ap, ◌∙◌, ℕ, List, [], ◌∷◌, Some, ◌==◌, if◌then◌else◌}
use Rattle.std.proofs.lemmas.Bool.{eqb-true}
use Rattle.algebra.specs.SolveLaws.{by_test}
use Rattle.space_ops.specs.declared.lattice.Lattice.{Lattice}
use Rattle.space_ops.specs.declared.lattice.Lattice.TheVariants.{P, A, B, C, I, R, F}
use Rattle.space_ops.specs.Lattice.{letter_of, lattice_among, lattice_of, lattices}

pub letter-back : (lattice : Lattice) → lattice_of (letter_of lattice) ≡ Some lattice
letter-back P = refl
letter-back A = refl
letter-back B = refl
letter-back C = refl
letter-back I = refl
letter-back R = refl
letter-back F = refl

some_value : (x y : Lattice) → Some x ≡ Some y → x ≡ y
some_value x y h = cc h

among-letter : (ls : List Lattice) (letter : ℕ) (lattice : Lattice) → lattice_among ls letter ≡ Some lattice → letter ≡ letter_of lattice
among-letter [] letter lattice = λ h. cc h
among-letter (l ∷ ls) letter lattice =
    by_test (λ b. (if b then Some l else lattice_among ls letter) ≡ Some lattice → letter ≡ letter_of lattice) (letter == letter_of l)
    (λ e h. eqb-true letter (letter_of l) e ∙ ap letter_of (some_value l lattice h)) (λ e h. among-letter ls letter lattice h)

pub lattice-letter : (letter : ℕ) (lattice : Lattice) → lattice_of letter ≡ Some lattice → letter ≡ letter_of lattice
lattice-letter = among-letter lattices
