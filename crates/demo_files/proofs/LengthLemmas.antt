-- Demo files are short.
--
-- short-demo: a demo file has at most 1,048,576 bytes
use Rattle.std.proofs.Common.{◌≡◌, refl, ap, subst, ℕ, zero, suc, ◌+◌, ◌*◌, ◌/◌, ◌%◌, ◌<◌, ◌≤◌, ◌==◌, ◌&&◌, if◌then◌else◌, Bool, true, false, ℤ, pos, negsuc, ◌*ℤ◌, unsigned_abs, List, [], ◌∷◌, ◌++◌, length, get_or, take, flat_map, codes, decimal, arith}
use Rattle.std.proofs.lemmas.Int.{ints}
use Rattle.std.proofs.lemmas.Fmt.{length-decimal-le}
use Rattle.std.proofs.lemmas.List.{length-append}
use Rattle.algebra.specs.Whole.{whole}
use Rattle.iso_text.specs.Lines.{line}
use Rattle.space_ops.specs.declared.op.Op.{Op}
use Rattle.space_ops.specs.Matrix.{determinant}
use Rattle.space_ops.specs.MemberLaws.{listed-small, listed-near, listed-unimodular}
use Rattle.space_ops.specs.Op.{IsWithin, IsShiftWithin, IsSmallRotation, IsUnimodular, matrix_of, number_at, row_at, identity_op}
use Rattle.space_ops.specs.OpText.{is_zero, sign_text, coefficient_text, term_text, common_with_twelve, fraction_text, translation_text, letters_text, coordinate_text, text_of}
use Rattle.demo_files.specs.Demo.{symbol_text, wave_text, factor_of, entry_text, entries_text, rows_text, matrix_line, demo_head, perovskite_lines, general_atoms, general_lines, demo_text, IsDemoFile}
use Rattle.demo_files.proofs.DemoTexts.{unit-near}

-- ---- lists

joined : (xs ys : List ℕ) (m n : ℕ) → length xs ≤ m → length ys ≤ n → length (xs ++ ys) ≤ m + n
joined xs ys m n a b = let e = length-append xs ys in omega (arith, e, a, b)

joined-three : (xs ys zs : List ℕ) (l m n : ℕ) → length xs ≤ l → length ys ≤ m → length zs ≤ n → length (xs ++ ys ++ zs) ≤ l + m + n
joined-three xs ys zs l m n a b c = joined (xs ++ ys) zs (l + m) n (joined xs ys l m a b) c

each-short : {X : Type 0} (f : X → List ℕ) (xs : List X) (n : ℕ) (d : X) → ((i : ℕ) → i < length xs → length (f (get_or xs i d)) ≤ n) → length (flat_map f xs) ≤ length xs * n
each-short f [] n d h = omega arith
each-short f (x ∷ xs) n d h =
    let rest = each-short f xs n d (λ i l. h (suc i) (omega (arith, l))) in
    let one : length (f x) ≤ n = h 0 (omega arith) in
    let e : n + length xs * n ≡ suc (length xs) * n = grind arith in
    subst (λ m. length (f x ++ flat_map f xs) ≤ m) e (joined (f x) (flat_map f xs) n (length xs * n) one rest)

line-short : (t : List ℕ) (n : ℕ) → length t ≤ n → length (line t []) ≤ n + 1
line-short t n h = joined t (10 ∷ []) n 1 h (omega arith)

-- ---- numbers

one-digit : (n : ℕ) → n ≤ 9 → length (decimal n) ≤ 1
one-digit n h = length-decimal-le 1 n (omega arith) (omega (arith, h)) (omega (arith, h))

two-digits : (n : ℕ) → n ≤ 99 → length (decimal n) ≤ 2
two-digits n h = length-decimal-le 2 n (omega arith) (omega (arith, h)) (omega (arith, h))

sign-short : (b : Bool) (z : ℤ) → length (sign_text b z) ≤ 1
sign-short true (pos n) = omega arith
sign-short true (negsuc n) = omega arith
sign-short false (pos n) = omega arith
sign-short false (negsuc n) = omega arith

near-abs : (n : ℕ) (z : ℤ) → IsWithin n z → unsigned_abs z ≤ n
near-abs n (pos k) h = omega (arith, ints, h.0, h.1)
near-abs n (negsuc k) h = omega (arith, ints, h.0, h.1)

-- ---- operations

if-short : (b : Bool) (xs ys : List ℕ) (n : ℕ) → length xs ≤ n → length ys ≤ n → length (if b then xs else ys) ≤ n
if-short true xs ys n a b = a
if-short false xs ys n a b = b

coefficient-short : (n : ℕ) → n ≤ 9 → length (coefficient_text n) ≤ 1
coefficient-short n h = if-short (n == 1) [] (decimal n) 1 (omega arith) (one-digit n h)

term-short : (b : Bool) (z : ℤ) (letter : List ℕ) → length letter ≤ 1 → IsWithin 3 z → length (term_text b z letter) ≤ 3
unfolding term_text
term-short b z letter h w =
    let n = near-abs 3 z w in
    if-short (is_zero z) [] (sign_text b z ++ coefficient_text (unsigned_abs z) ++ letter) 3 (omega arith)
    (joined-three (sign_text b z) (coefficient_text (unsigned_abs z)) letter 1 1 1 (sign-short b z) (coefficient-short (unsigned_abs z) (omega (arith, n))) h)

fraction-short : (p q : ℕ) → p ≤ 99 → q ≤ 99 → length (fraction_text p q) ≤ 5
fraction-short p q a b =
    joined (decimal p) (if q == 1 then [] else codes "/" ++ decimal q) 2 3 (two-digits p a)
    (if-short (q == 1) [] (codes "/" ++ decimal q) 3 (omega arith) (joined (codes "/") (decimal q) 1 2 (omega arith) (two-digits q b)))

quotient-less : (n g : ℕ) → n / g ≤ n
quotient-less n g = omega arith

translation-short : (t : ℤ) → IsWithin 11 t → length (translation_text t) ≤ 6
unfolding translation_text
translation-short t w =
    let n = unsigned_abs t in
    let g = common_with_twelve n in
    let a = near-abs 11 t w in
    let b = quotient-less n g in
    let c = quotient-less 12 g in
    if-short (is_zero t) [] (sign_text false t ++ fraction_text (n / g) (12 / g)) 6 (omega arith)
    (joined (sign_text false t) (fraction_text (n / g) (12 / g)) 1 5 (sign-short false t) (fraction-short (n / g) (12 / g) (omega (arith, a, b)) (omega (arith, c))))

coordinate-short : (row : List ℤ) (t : ℤ) → IsShiftWithin 3 row → IsWithin 11 t → length (coordinate_text row t) ≤ 15
unfolding coordinate_text letters_text
coordinate-short row t h w =
    let x = number_at row 0 in
    let y = number_at row 1 in
    let z = number_at row 2 in
    let letters = joined-three (term_text true x (codes "x")) (term_text (is_zero x) y (codes "y")) (term_text (is_zero x && is_zero y) z (codes "z")) 3 3 3 (term-short true x (codes "x") (omega arith) h.0)
    (term-short (is_zero x) y (codes "y") (omega arith) h.1) (term-short (is_zero x && is_zero y) z (codes "z") (omega arith) h.2) in
    if-short ((is_zero x && is_zero y) && (is_zero z && is_zero t)) (codes "0") (letters_text x y z ++ translation_text t) 15 (omega arith)
    (joined (letters_text x y z) (translation_text t) 9 6 letters (translation-short t w))

op-short : (op : Op) → IsSmallRotation op.rot → IsShiftWithin 11 op.shift → length (text_of op) ≤ 47
unfolding text_of
op-short op h w =
    let one = coordinate_text (row_at op.rot 0) (number_at op.shift 0) in
    let two = coordinate_text (row_at op.rot 1) (number_at op.shift 1) in
    let three = coordinate_text (row_at op.rot 2) (number_at op.shift 2) in
    let front = joined-three one (codes ",") two 15 1 15 (coordinate-short (row_at op.rot 0) (number_at op.shift 0) h.0 w.0) (omega arith) (coordinate-short (row_at op.rot 1) (number_at op.shift 1) h.1 w.1) in
    joined-three (one ++ codes "," ++ two) (codes ",") three 31 1 15 front (omega arith) (coordinate-short (row_at op.rot 2) (number_at op.shift 2) h.2 w.2)

-- ---- lines

entry-short : (z : ℤ) → IsWithin 3 z → length (entry_text z) ≤ 3
unfolding entry_text
entry-short z w =
    let n = near-abs 3 z w in
    joined-three (codes " ") (sign_text true z) (decimal (unsigned_abs z)) 1 1 1 (omega arith) (sign-short true z) (one-digit (unsigned_abs z) (omega (arith, n)))

scaled-near : (c z : ℤ) → IsWithin 1 c → IsWithin 3 z → IsWithin 3 (c *ℤ z)
scaled-near (pos zero) z h w = (omega (arith, ints), omega (arith, ints))
scaled-near (pos (suc zero)) z h w = (omega (arith, ints, w.0), omega (arith, ints, w.1))
scaled-near (pos (suc (suc n))) z h w = absurd (omega (arith, ints, h.1))
scaled-near (negsuc zero) z h w = (omega (arith, ints, w.1), omega (arith, ints, w.0))
scaled-near (negsuc (suc n)) z h w = absurd (omega (arith, ints, h.0))

entries-short : (c : ℤ) (row : List ℤ) → IsWithin 1 c → IsShiftWithin 3 row → length (entries_text c row) ≤ 9
unfolding entries_text
entries-short c row s h =
    let at : ℕ → List ℕ = λ i. entry_text (c *ℤ number_at row i) in
    joined-three (at 0) (at 1) (at 2) 3 3 3 (entry-short (c *ℤ number_at row 0) (scaled-near c (number_at row 0) s h.0)) (entry-short (c *ℤ number_at row 1) (scaled-near c (number_at row 1) s h.1))
    (entry-short (c *ℤ number_at row 2) (scaled-near c (number_at row 2) s h.2))

rows-short : (c : ℤ) (rot : List (List ℤ)) → IsWithin 1 c → IsSmallRotation rot → length (rows_text c rot) ≤ 27
unfolding rows_text
rows-short c rot s h =
    let at : ℕ → List ℕ = λ i. entries_text c (row_at rot i) in
    joined-three (at 0) (at 1) (at 2) 9 9 9 (entries-short c (row_at rot 0) s h.0) (entries-short c (row_at rot 1) s h.1) (entries-short c (row_at rot 2) s h.2)

factor-near : (number : ℕ) (op : Op) → IsUnimodular (matrix_of op.rot) → IsWithin 1 (factor_of number op)
unfolding factor_of
factor-near number op u = go ((number / 8) % 2 == 0)
  where
    go : (b : Bool) → IsWithin 1 (if b then pos 1 else determinant whole (matrix_of op.rot))
    go true = (omega (arith, ints), omega (arith, ints))
    go false = unit-near (determinant whole (matrix_of op.rot)) u

matrix-short : (number : ℕ) (op : Op) → IsSmallRotation op.rot → IsShiftWithin 11 op.shift → IsUnimodular (matrix_of op.rot) → length (matrix_line number op) ≤ 79
unfolding matrix_line
matrix-short number op h w u =
    let rows = rows_text (factor_of number op) op.rot in
    line-short (codes "mat " ++ text_of op ++ rows) 78
    (joined-three (codes "mat ") (text_of op) rows 4 47 27 (omega arith) (op-short op h w) (rows-short (factor_of number op) op.rot (factor-near number op u) h))

symbol-short : (number : ℕ) → length (symbol_text number) ≤ 8
unfolding symbol_text
symbol-short number =
    let h = number % 4 in
    if-short (h == 0) (codes "P 2 2 3") (if h == 1 then codes "-P 2 2 3" else (if h == 2 then codes "P 4 2 3" else codes "-P 4 2 3")) 8 (omega arith)
    (if-short (h == 1) (codes "-P 2 2 3") (if h == 2 then codes "P 4 2 3" else codes "-P 4 2 3") 8 (omega arith) (if-short (h == 2) (codes "P 4 2 3") (codes "-P 4 2 3") 8 (omega arith) (omega arith)))

wave-short : (number : ℕ) → length (wave_text number) ≤ 11
unfolding wave_text
wave-short number = if-short ((number / 4) % 2 == 0) (codes "0 0 0") (codes "1/2 1/2 1/2") 11 (omega arith) (omega arith)

head-short : (number : ℕ) → length (demo_head number) ≤ 48
unfolding demo_head
head-short number =
    let symbol = symbol_text number in
    let wave = wave_text number in
    let tail = joined (codes "k " ++ wave) (10 ∷ []) 13 1 (joined (codes "k ") wave 2 11 (omega arith) (wave-short number)) (omega arith) in
    let irrep = joined (codes "irrep V 3") (10 ∷ line (codes "k " ++ wave) []) 9 15 (omega arith) (joined (10 ∷ []) (line (codes "k " ++ wave) []) 1 14 (omega arith) tail) in
    let hall = joined (codes "hall " ++ symbol) (10 ∷ line (codes "irrep V 3") (line (codes "k " ++ wave) [])) 13 25 (joined (codes "hall ") symbol 5 8 (omega arith) (symbol-short number))
    (joined (10 ∷ []) (line (codes "irrep V 3") (line (codes "k " ++ wave) [])) 1 24 (omega arith) irrep) in
    joined (codes "isodist 1") (10 ∷ line (codes "hall " ++ symbol) (line (codes "irrep V 3") (line (codes "k " ++ wave) []))) 9 39 (omega arith)
    (joined (10 ∷ []) (line (codes "hall " ++ symbol) (line (codes "irrep V 3") (line (codes "k " ++ wave) []))) 1 38 (omega arith) hall)

atoms-short : length perovskite_lines ≤ 60
unfolding perovskite_lines
atoms-short = omega arith

general-short : (number : ℕ) → length (general_lines number) ≤ 90
unfolding general_lines
general-short number = go (number / 16)
  where
    go : (m : ℕ) → length (flat_map (λ (atom : List ℕ). line atom []) (take m general_atoms)) ≤ 90
    go zero = omega arith
    go (suc zero) = omega arith
    go (suc (suc zero)) = omega arith
    go (suc (suc (suc zero))) = omega arith
    go (suc (suc (suc (suc m)))) = omega arith

-- ---- the file

pub short-demo : (number : ℕ) (text : List ℕ) → IsDemoFile number text → length text ≤ 1048576
unfolding demo_text
short-demo number text h =
    let p = h.group in
    let list = h.is_parent.listed in
    let matrices = flat_map (matrix_line number) p.ops in
    let each = each-short (matrix_line number) p.ops 79 identity_op
    (λ i l.
    let o = get_or p.ops i identity_op in
    matrix-short number o (listed-small p list i l o refl) (listed-near p list i l o refl) (listed-unimodular p list i l o refl)) in
    let few = list.few in
    let some : length matrices ≤ 3792 = omega (arith, each, few) in
    let front = joined (demo_head number) matrices 48 3792 (head-short number) some in
    let atoms = joined-three (demo_head number ++ matrices) perovskite_lines (general_lines number) 3840 60 90 front atoms-short (general-short number) in
    let all : length (demo_text number p.ops) ≤ 3994 = joined (demo_head number ++ matrices ++ perovskite_lines ++ general_lines number) (line (codes "end") []) 3990 4 atoms (omega arith) in
    let e : length text ≡ length (demo_text number p.ops) = ap length h.text_is in
    omega (arith, all, e)
