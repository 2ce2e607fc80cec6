-- Lines and their ends.
use Rattle.std.proofs.Common.{◌≡◌, ℕ, zero, suc, ◌+◌, ◌<◌, Bool, true, false, List, [], ◌∷◌, length, take, drop, get_or, map, refl, sym, ◌∙◌, ap, arith, if◌then◌else◌, ◌==◌, ◌&&◌}
use Rattle.std.specs.List.{list_all}
use Rattle.std.proofs.lemmas.List.Folds.{list_all_at, list_all_more}
use Rattle.std.proofs.lemmas.Grind.{common_steps}
use Rattle.std.proofs.lemmas.Bool.Decides.{nat_tests}
use Rattle.iso_text.specs.Cuts.{front, back, behind, onto_first, is_byte, is_blank}
use Rattle.iso_text.specs.Lines.{raw_lines, lines_of, without_return, without_trail}

pub ends_in_return : (line : List ℕ) (n : ℕ) → length line ≡ n + 1 → get_or line n 0 ≡ 13 → take n line ≡ without_return line
ends_in_return [] n size here = absurd (omega arith)
ends_in_return (c ∷ []) zero size here = sym (ap (λ x. if x == 13 then [] else x ∷ []) here)
ends_in_return (c ∷ []) (suc n) size here = absurd (omega arith)
ends_in_return (c ∷ d ∷ cs) zero size here = absurd (omega arith)
ends_in_return (c ∷ d ∷ cs) (suc n) size here = ap (λ t. c ∷ t) (ends_in_return (d ∷ cs) n (omega (arith, size)) here)

is_other : (c : ℕ) → ¬ (c ≡ 13) → (c == 13) ≡ false
is_other c other = grind (arith, nat_tests)

pub ends_otherwise : (line : List ℕ) (n : ℕ) → length line ≡ n + 1 → ¬ (get_or line n 0 ≡ 13) → line ≡ without_return line
ends_otherwise [] n size here = absurd (omega arith)
ends_otherwise (c ∷ []) zero size here = sym (ap (λ x. if x then [] else c ∷ []) (is_other c here))
ends_otherwise (c ∷ []) (suc n) size here = absurd (omega arith)
ends_otherwise (c ∷ d ∷ cs) zero size here = absurd (omega arith)
ends_otherwise (c ∷ d ∷ cs) (suc n) size here = ap (λ t. c ∷ t) (ends_otherwise (d ∷ cs) n (omega (arith, size)) here)

line_step : (c d : ℕ) (ds : List ℕ) (t : Bool) → (c == 10) ≡ t → raw_lines (d ∷ ds) ≡ front (is_byte 10) (d ∷ ds) ∷ raw_lines (behind (is_byte 10) (d ∷ ds)) → raw_lines (c ∷ (d ∷ ds)) ≡ front (is_byte 10) (c ∷ (d ∷ ds)) ∷ raw_lines (behind (is_byte 10) (c ∷ (d ∷ ds)))
line_step c d ds true is rest =
    ap (λ t. if t then [] ∷ raw_lines (d ∷ ds) else onto_first c (raw_lines (d ∷ ds))) is
    ∙ sym (ap (λ t. (if t then [] else c ∷ front (is_byte 10) (d ∷ ds)) ∷ raw_lines (drop 1 (if t then c ∷ d ∷ ds else back (is_byte 10) (d ∷ ds)))) is)
line_step c d ds false is rest =
    ap (λ t. if t then [] ∷ raw_lines (d ∷ ds) else onto_first c (raw_lines (d ∷ ds))) is ∙ ap (onto_first c) rest
    ∙ sym (ap (λ t. (if t then [] else c ∷ front (is_byte 10) (d ∷ ds)) ∷ raw_lines (drop 1 (if t then c ∷ d ∷ ds else back (is_byte 10) (d ∷ ds)))) is)

one_byte : (c : ℕ) (t : Bool) → (c == 10) ≡ t → raw_lines (c ∷ []) ≡ front (is_byte 10) (c ∷ []) ∷ raw_lines (behind (is_byte 10) (c ∷ []))
one_byte c true is = rw is refl
one_byte c false is = rw is refl

-- the first line of some bytes
pub raw_lines-first : (text : List ℕ) → 0 < length text → raw_lines text ≡ front (is_byte 10) text ∷ raw_lines (behind (is_byte 10) text)
raw_lines-first [] some = absurd (omega arith)
raw_lines-first (c ∷ []) some = one_byte c (c == 10) refl
raw_lines-first (c ∷ d ∷ ds) some = line_step c d ds (c == 10) refl (raw_lines-first (d ∷ ds) (omega arith))

pub lines_of-first : (text : List ℕ) → 0 < length text → lines_of text ≡ without_return (front (is_byte 10) text) ∷ lines_of (behind (is_byte 10) text)
lines_of-first text some = ap (map without_return) (raw_lines-first text some)

-- the last byte is no blank
pub trail_stops : (text : List ℕ) (n : ℕ) → length text ≡ n + 1 → is_blank (get_or text n 0) ≡ false → text ≡ without_trail text
trail_stops [] n size last = absurd (omega arith)
trail_stops (c ∷ []) zero size last = rw last refl
trail_stops (c ∷ []) (suc n) size last = absurd (omega arith)
trail_stops (c ∷ d ∷ cs) zero size last = absurd (omega arith)
trail_stops (c ∷ d ∷ cs) (suc n) size last =
    ap (λ t. c ∷ t) (trail_stops (d ∷ cs) n (omega (arith, size)) last)
    ∙ sym (ap (λ t. if t then [] else c ∷ without_trail (d ∷ cs)) (list_all_at is_blank (c ∷ d ∷ cs) (suc n) 0 (omega (arith, size)) last))

take_all : (text : List ℕ) (n : ℕ) → length text ≡ n + 1 → take (n + 1) text ≡ text
take_all text n size = grind (arith, common_steps)

pub true_right : (b c : Bool) → c ≡ true → (b && c) ≡ b
true_right true c is = is
true_right false c is = refl

-- the last byte is a blank
pub all_but_last : (text : List ℕ) (n : ℕ) → length text ≡ n + 1 → is_blank (get_or text n 0) ≡ true → list_all is_blank text ≡ list_all is_blank (take n text)
all_but_last text n size last =
    ap (list_all is_blank) (sym (take_all text n size)) ∙ list_all_more is_blank text n 0 (omega arith) ∙ true_right (list_all is_blank (take n text)) (is_blank (get_or text n 0)) last

pub trail_goes : (text : List ℕ) (n : ℕ) → length text ≡ n + 1 → is_blank (get_or text n 0) ≡ true → without_trail text ≡ without_trail (take n text)
trail_goes [] n size last = absurd (omega arith)
trail_goes (c ∷ []) zero size last = rw last refl
trail_goes (c ∷ []) (suc n) size last = absurd (omega arith)
trail_goes (c ∷ d ∷ cs) zero size last = absurd (omega arith)
trail_goes (c ∷ d ∷ cs) (suc n) size last =
    ap (λ t. if is_blank c && t then [] else c ∷ without_trail (d ∷ cs)) (all_but_last (d ∷ cs) n (omega (arith, size)) last)
    ∙ ap (λ t. if is_blank c && list_all is_blank (take n (d ∷ cs)) then [] else c ∷ t) (trail_goes (d ∷ cs) n (omega (arith, size)) last)
