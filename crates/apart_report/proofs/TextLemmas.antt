-- The lines of pairs.
use Rattle.std.proofs.Common.{◌≡◌, refl, sym, ap, ◌∙◌, subst, ℕ, zero, suc, ◌+◌, ◌<◌, ◌≤◌, Bool, false, List, [], ◌∷◌, ◌++◌, length, take, get_or, flat_map, arith, append_assoc}
use Rattle.std.proofs.lemmas.Grind.{flat_map-append}
use Rattle.std.proofs.lemmas.List.{append-nil, take_more, take_all}
use Rattle.std.specs.List.{concat}
use Rattle.iso_text.specs.declared.sections.IrrepText.{IrrepText}
use Rattle.mode_report.specs.AllModes.{name_at}
use Rattle.apart_report.specs.ApartReport.{ToldPair, pair_line}
use Rattle.apart_report.specs.Held.{AreBelow, number_pairs, told_in}
use Rattle.apart_report.proofs.PairLemmas.{numbers-below}

pub name-inside : (irreps : List IrrepText) (j : ℕ) (d : IrrepText) → j < length irreps → (get_or irreps j d).name ≡ name_at irreps j
name-inside [] j d l = absurd (omega (arith, l))
name-inside (x ∷ irreps) zero d l = refl
name-inside (x ∷ irreps) (suc j) d l = name-inside irreps j d (omega (arith, l))

abbrev told_by : List IrrepText → ℕ × ℕ → Bool → ToldPair
told_by irreps p answer = record { name = name_at irreps p.0; other = name_at irreps p.1; apart = answer }

told-at : (irreps : List IrrepText) (pairs : List (ℕ × ℕ)) (answers : List Bool) (k : ℕ) (p : ℕ × ℕ) (b : Bool) (d : ToldPair) → k < length answers → length answers ≡ length pairs
    → told_by irreps (get_or pairs k p) (get_or answers k b) ≡ get_or (told_in irreps pairs answers) k d
told-at irreps pairs [] k p b d l e = absurd (omega (arith, l))
told-at irreps [] (a ∷ answers) k p b d l e = absurd (omega (arith, e))
told-at irreps (x ∷ pairs) (a ∷ answers) zero p b d l e = refl
told-at irreps (x ∷ pairs) (a ∷ answers) (suc k) p b d l e = told-at irreps pairs answers k p b d (omega (arith, l)) (omega (arith, e))

told-length : (irreps : List IrrepText) (pairs : List (ℕ × ℕ)) (answers : List Bool) → length answers ≡ length pairs → length (told_in irreps pairs answers) ≡ length answers
told-length irreps [] [] e = refl
told-length irreps [] (a ∷ answers) e = absurd (omega (arith, e))
told-length irreps (x ∷ pairs) [] e = refl
told-length irreps (x ∷ pairs) (a ∷ answers) e = ap suc (told-length irreps pairs answers (omega (arith, e)))

line-more : {X : Type 0} (f : X → List ℕ) (xs : List X) (old now new : List ℕ) (x : X) (k : ℕ) (d : X) → k < length xs → now ≡ old ++ flat_map f (take k xs) → new ≡ now ++ f x → x ≡ get_or xs k d
    → new ≡ old ++ flat_map f (take (k + 1) xs)
line-more f xs old now new x k d l a b e =
    let part = flat_map f (take k xs) in
    b ∙ (λ i. a i ++ f (e i)) ∙ append_assoc old part (f (get_or xs k d)) ∙ ap (λ t. old ++ (part ++ t)) (sym (append-nil (f (get_or xs k d))))
    ∙ ap (λ t. old ++ t) (sym (flat_map-append f (take k xs) (get_or xs k d ∷ []))) ∙ ap (λ t. old ++ flat_map f t) (sym (take_more xs k d l))

-- the line of the next pair
pub pair-more : (irreps : List IrrepText) (pairs : List (ℕ × ℕ)) (answers : List Bool) (old now new name other : List ℕ) (k : ℕ) → k < length answers → length answers ≡ length pairs
    → now ≡ old ++ flat_map pair_line (take k (told_in irreps pairs answers)) → name ≡ name_at irreps (get_or pairs k (0, 0)).0 → other ≡ name_at irreps (get_or pairs k (0, 0)).1
    → new ≡ now ++ pair_line (record { name = name; other = other; apart = get_or answers k false }) → new ≡ old ++ flat_map pair_line (take (k + 1) (told_in irreps pairs answers))
pair-more irreps pairs answers old now new name other k l e a n o b =
    let d : ToldPair = record { name = name; other = other; apart = get_or answers k false } in
    let same : d ≡ told_by irreps (get_or pairs k (0, 0)) (get_or answers k false) = λ i. record { name = n i; other = o i; apart = get_or answers k false } in
    let m : k < length (told_in irreps pairs answers) = subst (λ j. k < j) (sym (told-length irreps pairs answers e)) l in
    line-more pair_line (told_in irreps pairs answers) old now new d k d m a b (same ∙ told-at irreps pairs answers k (0, 0) false d l e)

pub pairs-whole : (irreps : List IrrepText) (pairs : List (ℕ × ℕ)) (answers : List Bool) (old now : List ℕ) (k : ℕ) → length answers ≤ k → length answers ≡ length pairs
    → now ≡ old ++ flat_map pair_line (take k (told_in irreps pairs answers)) → now ≡ old ++ flat_map pair_line (told_in irreps pairs answers)
pairs-whole irreps pairs answers old now k l e a =
    let count = told-length irreps pairs answers e in
    let whole : length (told_in irreps pairs answers) ≤ k = omega (arith, l, count) in
    a ∙ ap (λ xs. old ++ flat_map pair_line xs) (take_all k (told_in irreps pairs answers) whole)

-- the pairs that a code found are all pairs of numbers
pub below-found : (count n : ℕ) (pairs : List (ℕ × ℕ)) → pairs ≡ number_pairs n → n ≡ count → AreBelow count pairs
below-found count n pairs e f =
    let P : List (ℕ × ℕ) → Type 0 = λ ps. AreBelow count ps in
    subst P (sym (e ∙ ap number_pairs f)) (numbers-below count)

-- two pieces, one behind the other
pub two-pieces : (a b : List ℕ) → concat (a ∷ b ∷ []) ≡ a ++ b
two-pieces a b = ap (λ t. a ++ t) (append-nil b)

pub pairs-are : (n count : ℕ) (pairs : List (ℕ × ℕ)) → pairs ≡ number_pairs n → n ≡ count → pairs ≡ number_pairs count
pairs-are n count pairs e f = e ∙ ap number_pairs f
