-- Rows with one entry written.
--
-- written_same, written_other: the entry that was written, and another; read_at: an entry read
-- written_below: the entries below the next place
use Rattle.std.proofs.Common.{◌≡◌, ◌<◌, ◌+◌, ℕ, List, length, map, get_or, set, ap, ◌∙◌, sym, arith, length-set, below_more}
use Rattle.std.proofs.lemmas.List.{get_or-map, get_or-set_same, get_or-set_other, map-set}
use Rattle.cyclo24.specs.FieldOn.{FieldOn}
use Rattle.lin_alg.specs.Rows.{vector}

module _ {A K : Type 0} (f : FieldOn K) (value : A → K) where
  -- the entry that was written
  pub written_same : (xs : List A) (j : ℕ) (x : A) → j < length xs → vector f value (set xs j x) j ≡ value x
  written_same xs j x l = get_or-map value (set xs j x) j x f.nought (rw length-set l) ∙ ap value (get_or-set_same xs j x x l)

  -- and another
  pub written_other : (xs : List A) (j k : ℕ) (x : A) → (k ≡ j → ⊥) → vector f value (set xs j x) k ≡ vector f value xs k
  written_other xs j k x n = ap (λ ys. get_or ys k f.nought) (map-set value xs j x) ∙ get_or-set_other (map value xs) j k (value x) f.nought n

  -- an entry read
  pub read_at : (xs : List A) (j : ℕ) (x : A) → j < length xs → x ≡ get_or xs j x → vector f value xs j ≡ value x
  read_at xs j x l e = get_or-map value xs j x f.nought l ∙ ap value (sym e)

  -- the entries below the next place
  pub written_below : (target : ℕ → K) (xs : List A) (j : ℕ) (x : A) → j < length xs → value x ≡ target j → ((k : ℕ) → k < j → vector f value xs k ≡ target k)
      → (k : ℕ) → k < j + 1 → vector f value (set xs j x) k ≡ target k
  written_below target xs j x l e h =
      below_more (λ k. vector f value (set xs j x) k ≡ target k) j
      (λ k m. let n : k ≡ j → ⊥ = omega arith in written_other xs j k x n ∙ h k m)
      (written_same xs j x l ∙ e)
