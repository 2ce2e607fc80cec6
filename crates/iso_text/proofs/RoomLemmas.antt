-- Whether a section has room, by the numbers of items of all sections.
use Rattle.std.proofs.Common.{◌≡◌, ℕ, zero, suc, ◌+◌, ◌-◌, ◌<◌, ◌≤◌, ◌==◌, ◌&&◌, Bool, true, false, List, [], ◌∷◌, length, map, get_or, take, drop, nat_lt, refl, sym, ◌∙◌, ap, arith, length-drop}
use Rattle.std.specs.List.{list_all}
use Rattle.std.proofs.lemmas.Bool.{lt-ltb, le-ltb}
use Rattle.std.proofs.lemmas.List.{take_all}
use Rattle.std.proofs.lemmas.List.Folds.{list_all-map}
use Rattle.iso_text.specs.Draft.{has_room}
use Rattle.iso_text.specs.FileLines.{Section, sections}
use Rattle.iso_text.specs.FileValue.{File}
use Rattle.iso_text.specs.declared.section_steps.Section.{Section as Rule}

-- the most items of section n
abbrev pub most_at : ℕ → List Section → ℕ
most_at n [] = 0
most_at zero (s ∷ behind) = s.most
most_at (suc n) (s ∷ behind) = most_at n behind

abbrev pub counts : List Section → List ℕ
counts ss = map (λ s. length s.items) ss

-- by the count of section n and of those behind it
pub room_by_counts : (n : ℕ) (ss : List Section) → n < length ss → (nat_lt (get_or (counts ss) n 0) (most_at n ss) && list_all (λ k. k == 0) (drop (suc n) (counts ss))) ≡ has_room n ss
room_by_counts n [] below = absurd (omega (arith, below))
room_by_counts zero (s ∷ behind) below = ap (λ b. nat_lt (length s.items) s.most && b) (list_all-map (λ k. k == 0) (λ t. length t.items) behind)
room_by_counts (suc n) (s ∷ behind) below = room_by_counts n behind (omega (arith, below))

length_counts : (ss : List Section) → length (counts ss) ≡ length ss
length_counts [] = refl
length_counts (s ∷ behind) = omega (arith, length_counts behind)

behind_is : (n : ℕ) (xs : List ℕ) (m : ℕ) → length xs ≡ m → take (m - (n + 1)) (drop (n + 1) xs) ≡ drop (suc n) xs
behind_is n xs m size = take_all (m - (n + 1)) (drop (n + 1) xs) (omega (arith, size, length-drop (n + 1) xs)) ∙ ap (λ k. drop k xs) {y = suc n} (omega arith)

pub room_then : (z : Bool) (n m most : ℕ) (ss : List Section) (ks : List ℕ) → length ss ≡ m → n < m → ks ≡ counts ss → most ≡ most_at n ss → get_or ks n 0 < most → z ≡ list_all (λ k. k == 0) (take (m - (n + 1)) (drop (n + 1) ks)) → z ≡ has_room n ss
room_then z n m most ss ks size below are is few behind =
    behind ∙ ap (λ xs. list_all (λ k. k == 0) (take (m - (n + 1)) (drop (n + 1) xs))) are
    ∙ ap (list_all (λ k. k == 0)) (behind_is n (counts ss) m (length_counts ss ∙ size))
    ∙ ap (λ b. b && list_all (λ k. k == 0) (drop (suc n) (counts ss))) (sym (lt-ltb (get_or (counts ss) n 0) (most_at n ss) (omega (arith, few, is, ap (λ xs. get_or xs n 0) are))))
    ∙ room_by_counts n ss (omega (arith, below, size))

pub room_else : (n m most : ℕ) (ss : List Section) (ks : List ℕ) → length ss ≡ m → n < m → ks ≡ counts ss → most ≡ most_at n ss → most ≤ get_or ks n 0 → nat_lt (get_or ks n 0) most ≡ has_room n ss
room_else n m most ss ks size below are is full =
    le-ltb (get_or ks n 0) most full
    ∙ ap (λ b. b && list_all (λ k. k == 0) (drop (suc n) (counts ss))) (sym (le-ltb (get_or (counts ss) n 0) (most_at n ss) (omega (arith, full, is, ap (λ xs. get_or xs n 0) are))))
    ∙ room_by_counts n ss (omega (arith, below, size))

-- a case for each of the seven sections
pub seven : (P : ℕ → Type 0) → P 0 → P 1 → P 2 → P 3 → P 4 → P 5 → P 6 → (n : ℕ) → n < 7 → P n
seven P a b c d e f g zero h = a
seven P a b c d e f g (suc zero) h = b
seven P a b c d e f g (suc (suc zero)) h = c
seven P a b c d e f g (suc (suc (suc zero))) h = d
seven P a b c d e f g (suc (suc (suc (suc zero)))) h = e
seven P a b c d e f g (suc (suc (suc (suc (suc zero))))) h = f
seven P a b c d e f g (suc (suc (suc (suc (suc (suc zero)))))) h = g
seven P a b c d e f g (suc (suc (suc (suc (suc (suc (suc n))))))) h = absurd (omega (arith, h))

abbrev pub rule : ℕ → Bool → Bool → Rule
rule most second matched = record { most = most; is_second = second; is_matched = matched }

-- the table of the sections
abbrev pub table : List Rule
table = rule 8 false false ∷ rule 64 false false ∷ rule 1 false false ∷ rule 1 true true ∷ rule 4096 false true ∷ rule 4096 true false ∷ rule 4096 true false ∷ []

-- the table has the most items of each section
pub table_most : (f : File) (n : ℕ) → n < 7 → (get_or table n (rule 0 false false)).most ≡ most_at n (sections f)
table_most f n below = seven (λ n. (get_or table n (rule 0 false false)).most ≡ most_at n (sections f)) refl refl refl refl refl refl refl n below
