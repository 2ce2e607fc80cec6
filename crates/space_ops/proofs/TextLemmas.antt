-- Texts that were pushed piece by piece.
use Rattle.std.proofs.Common.{◌≡◌, ◌∙◌, ap, ℕ, ◌/◌, ℤ, List, ◌++◌, Bool, true, false, append_assoc, codes, unsigned_abs, ◌&&◌}
use Rattle.space_ops.specs.OpText.{is_zero, sign_text, coefficient_text, term_text, common_with_twelve, fraction_text, translation_text, letters_text, coordinate_text}
use Rattle.space_ops.specs.Op.{number_at}

-- two pieces after t
pub two_pieces : (t a b u v : List ℕ) → u ≡ t ++ a → v ≡ u ++ b → v ≡ t ++ (a ++ b)
two_pieces t a b u v e f = f ∙ ap (λ x. x ++ b) e ∙ append_assoc t a b

pub term-pushed : (is_first : Bool) (c : ℤ) (letter t u v w : List ℕ) → is_zero c ≡ false
    → u ≡ t ++ sign_text is_first c → v ≡ u ++ coefficient_text (unsigned_abs c) → w ≡ v ++ letter → w ≡ t ++ term_text is_first c letter
unfolding term_text
term-pushed is_first c letter t u v w z e f g = rw z (two_pieces t (sign_text is_first c ++ coefficient_text (unsigned_abs c)) letter v w (two_pieces t (sign_text is_first c) (coefficient_text (unsigned_abs c)) u v e f) g)

pub translation-pushed : (c : ℤ) (t u v : List ℕ) → is_zero c ≡ false → u ≡ t ++ sign_text false c
    → v ≡ u ++ fraction_text (unsigned_abs c / common_with_twelve (unsigned_abs c)) (12 / common_with_twelve (unsigned_abs c)) → v ≡ t ++ translation_text c
unfolding translation_text
translation-pushed c t u v z e f = rw z (two_pieces t (sign_text false c) (fraction_text (unsigned_abs c / common_with_twelve (unsigned_abs c)) (12 / common_with_twelve (unsigned_abs c))) u v e f)

pub letters-pushed : (x y z : ℤ) (t u v w : List ℕ) → u ≡ t ++ term_text true x (codes "x") → v ≡ u ++ term_text (is_zero x) y (codes "y")
    → w ≡ v ++ term_text (is_zero x && is_zero y) z (codes "z") → w ≡ t ++ letters_text x y z
unfolding letters_text
letters-pushed x y z t u v w e f g =
    two_pieces t (term_text true x (codes "x") ++ term_text (is_zero x) y (codes "y")) (term_text (is_zero x && is_zero y) z (codes "z")) v w (two_pieces t (term_text true x (codes "x")) (term_text (is_zero x) y (codes "y")) u v e f) g

pub coordinate-pushed : (row : List ℤ) (s : ℤ) (t u v : List ℕ)
    → (is_zero (number_at row 0) && is_zero (number_at row 1)) && (is_zero (number_at row 2) && is_zero s) ≡ false
    → u ≡ t ++ letters_text (number_at row 0) (number_at row 1) (number_at row 2) → v ≡ u ++ translation_text s → v ≡ t ++ coordinate_text row s
unfolding coordinate_text
coordinate-pushed row s t u v z e f =
    rw z (two_pieces t (letters_text (number_at row 0) (number_at row 1) (number_at row 2)) (translation_text s) u v e f)

pub text-pushed : (a b c t1 t2 t3 t4 t5 : List ℕ) → t1 ≡ a → t2 ≡ t1 ++ codes "," → t3 ≡ t2 ++ b → t4 ≡ t3 ++ codes "," → t5 ≡ t4 ++ c
    → t5 ≡ a ++ codes "," ++ b ++ codes "," ++ c
text-pushed a b c t1 t2 t3 t4 t5 e f g h k = cc
