-- The first place of a number.
use Rattle.std.proofs.Common.{◌≡◌, sym, ℕ, ◌<◌, ◌≤◌, true, false, List, length, nat_eq, get_or, eq-eqb, arith}
use Rattle.std.proofs.lemmas.Bool.{both_ways}
use Rattle.std.proofs.lemmas.List.Folds.{list_any_none}
use Rattle.std.proofs.lemmas.List.Sums.{position_or_len_is}
use Rattle.std.proofs.lemmas.List.Elements.{All-from_get_or}
use Rattle.small_rep.specs.SmallRep.{is_listed}
use Rattle.small_rep.specs.Rep.{first_place}

pub place_none : (xs : List ℕ) (r n : ℕ) → length xs ≤ n → ((k : ℕ) → k < n → nat_eq (get_or xs k 0) r ≡ false) → is_listed xs r ≡ true → ⊥
place_none xs r n l h t = both_ways (is_listed xs r) (list_any_none (λ x. nat_eq x r) xs (All-from_get_or (λ x. nat_eq x r ≡ false) xs 0 (λ i b. h i (omega (arith, b, l))))) t

pub place_is : (xs : List ℕ) (r i : ℕ) → i < length xs → ((k : ℕ) → k < i → nat_eq (get_or xs k 0) r ≡ false) → get_or xs i 0 ≡ r → i ≡ first_place xs r
place_is xs r i l h e = sym (position_or_len_is (λ x. nat_eq x r) xs i 0 (omega (arith, l)) h (λ b. eq-eqb (get_or xs i 0) r e))
