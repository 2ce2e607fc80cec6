-- Matrices T with T T = s T: the trace is s times a whole number, and T is 0 where that number is 0.
--
-- scaled-rank: the whole number. Each row that isn't 0 takes off one column times one row, with the trace s
use Rattle.std.proofs.Common.{◌≡◌, ℕ, suc, zero, ◌<◌, ◌≤◌, ◌⊎◌, inl, inr, true, false, refl, sym, ◌∙◌, ap, arith}
use Rattle.cyclo24.specs.FieldOn.{FieldOn, ones}
use Rattle.cyclo24.specs.FieldLaws.{times-nought, times-neg, unit-times, less-nought, less-at-nought, less-own, less-back}
use Rattle.cyclo24.specs.SumLaws.{all-nought}
use Rattle.cyclo24.specs.TotalLaws.{total-same, total-plus, total-times}
use Rattle.lin_alg.specs.Equations.{dot}
use Rattle.lin_alg.specs.EquationLaws.{dot-less}
use Rattle.lin_alg.specs.Matrices.{mul, trace}
use Rattle.lin_alg.specs.UnionLaws.{lower}

at_or_past : (k a : ℕ) → k ≤ a → (a ≡ k) ⊎ (suc k ≤ a)
at_or_past k a l = grind arith

module _ {K : Type 0} (f : FieldOn K) where
  -- a place that isn't 0, if there is one
  place_in : (v : ℕ → K) (m : ℕ) → ((c : ℕ) → c < m → v c ≡ f.nought) ⊎ ((c : ℕ) × (c < m) × (f.is_nought (v c) ≡ false))
  place_in v zero = inl (λ c l. absurd (omega (arith, l)))
  place_in v (suc m) =
      elim (place_in v m) [
        | inr h ↦ let l : h.0 < suc m = omega (arith, h.1) in inr (h.0, l, h.2)
        | inl z ↦
            (elim (f.is_nought (v m)) as (λ b. (f.is_nought (v m) ≡ b) → ((c : ℕ) → c < suc m → v c ≡ f.nought) ⊎ ((c : ℕ) × (c < suc m) × (f.is_nought (v c) ≡ false))) [
              | true ↦ λ e. inl (λ c l. elim (lower c m l) [ inl k ↦ z c k | inr k ↦ ap v k ∙ f.is_nought-true (v m) e ])
              | false ↦ λ e. let l : m < suc m = omega arith in inr (m, l, e)
            ]) refl
      ]

  dot-comm : (m : ℕ) (u v : ℕ → K) → dot f m u v ≡ dot f m v u
  dot-comm m u v = total-same f m _ _ (λ k l. f.times_comm (u k) (v k))

  times-past : (x y z : K) → f.times x (f.times y z) ≡ f.times y (f.times x z)
  times-past x y z = sym (f.times_assoc x y z) ∙ ap (λ w. f.times w z) (f.times_comm x y) ∙ f.times_assoc y x z

  module _ (m : ℕ) (s : K) where
    -- T T = s T
    abbrev pub IsScaled : (ℕ → ℕ → K) → Type 0
    IsScaled t = (k j : ℕ) → k < m → j < m → mul f m t t k j ≡ f.times s (t k j)

    -- the entry of T in row i and column c isn't 0
    module _ (t : ℕ → ℕ → K) (sq : IsScaled t) (i c : ℕ) (li : i < m) (lc : c < m) (some : f.is_nought (t i c) ≡ false) where
      abbrev x : ℕ → K
      x k = t k c

      abbrev y : ℕ → K
      y j = f.times (f.inverse (t i c)) (t i j)

      -- T less column c times row i over its entry in column c
      abbrev rest : ℕ → ℕ → K
      rest k j = f.plus (t k j) (f.neg (f.times (x k) (y j)))

      y-column : (j : ℕ) → j < m → dot f m y (λ l. t l j) ≡ f.times s (y j)
      y-column j lj =
          total-same f m _ _ (λ l ll. f.times_assoc (f.inverse (t i c)) (t i l) (t l j))
          ∙ total-times f m (f.inverse (t i c)) (λ l. f.times (t i l) (t l j))
          ∙ ap (f.times (f.inverse (t i c))) (sq i j li lj) ∙ times-past (f.inverse (t i c)) s (t i j)

      y-own : y c ≡ f.unit
      y-own = f.times_comm (f.inverse (t i c)) (t i c) ∙ f.times-inverse (t i c) some

      y-x : dot f m y x ≡ s
      y-x = y-column c lc ∙ ap (f.times s) y-own ∙ f.times-unit s

      rest-row : (k : ℕ) (g : ℕ → K) → dot f m (rest k) g ≡ f.plus (dot f m (t k) g) (f.neg (f.times (x k) (dot f m y g)))
      rest-row k g =
          dot-comm m (rest k) g ∙ dot-less f m g (t k) (x k) y ∙ (λ z. f.plus (dot-comm m g (t k) z) (f.neg (f.times (x k) (dot-comm m g y z))))

      scaled-less : (a b : K) (p : K) → f.plus (f.times s a) (f.neg (f.times b (f.times s p))) ≡ f.times s (f.plus a (f.neg (f.times b p)))
      scaled-less a b p =
          ap (λ z. f.plus (f.times s a) (f.neg z)) (times-past b s p)
          ∙ ap (f.plus (f.times s a)) (sym (times-neg f s (f.times b p))) ∙ sym (f.times-plus s a (f.neg (f.times b p)))

      rest-column : (k j : ℕ) → k < m → j < m → dot f m (rest k) (λ l. t l j) ≡ f.times s (rest k j)
      rest-column k j lk lj =
          rest-row k (λ l. t l j) ∙ (λ z. f.plus (sq k j lk lj z) (f.neg (f.times (x k) (y-column j lj z)))) ∙ scaled-less (t k j) (x k) (y j)

      rest-own : (k : ℕ) → rest k c ≡ f.nought
      rest-own k = ap (λ z. f.plus (x k) (f.neg (f.times (x k) z))) y-own ∙ less-own f (x k)

      rest-scaled : IsScaled rest
      rest-scaled k j lk lj =
          total-same f m _ _ (λ l ll. ap (λ z. f.times (rest k l) (f.plus (t l j) (f.neg z))) (f.times_comm (x l) (y j)))
          ∙ dot-less f m (rest k) (λ l. t l j) (y j) x
          ∙ (λ z. f.plus (rest-column k j lk lj z) (f.neg (f.times (y j) ((rest-column k c lk lc ∙ ap (f.times s) (rest-own k) ∙ times-nought f s) z))))
          ∙ less-at-nought f (f.times s (rest k j)) (y j)

      rest-trace : trace f m t ≡ f.plus (trace f m rest) s
      rest-trace =
          total-same f m _ _ (λ k l. sym (less-back f (t k k) (x k) (y k)))
          ∙ total-plus f m (λ k. rest k k) (λ k. f.times (x k) (y k))
          ∙ ap (f.plus (trace f m rest)) (dot-comm m x y ∙ y-x)

      rest-row-own : (j : ℕ) → rest i j ≡ f.nought
      rest-row-own j =
          ap (λ z. f.plus (t i j) (f.neg z))
          (sym (f.times_assoc (t i c) (f.inverse (t i c)) (t i j)) ∙ ap (λ z. f.times z (t i j)) (f.times-inverse (t i c) some) ∙ unit-times f (t i j))
          ∙ f.plus-neg (t i j)

      rest-row-nought : (k j : ℕ) → t k j ≡ f.nought → t k c ≡ f.nought → rest k j ≡ f.nought
      rest-row-nought k j a b = ap (λ z. f.plus (t k j) (f.neg (f.times z (y j)))) b ∙ less-nought f (t k j) (y j) ∙ a

    -- the rows from k on are 0
    abbrev AreNoughtFrom : ℕ → (ℕ → ℕ → K) → Type 0
    AreNoughtFrom k t = (a j : ℕ) → k ≤ a → a < m → j < m → t a j ≡ f.nought

    abbrev pub HasRank : (ℕ → ℕ → K) → Type 0
    HasRank t = (r : ℕ) × (trace f m t ≡ f.times s (ones f r)) × (r ≡ 0 → (a j : ℕ) → a < m → j < m → t a j ≡ f.nought)

    one-more : (r : ℕ) (z : K) → z ≡ f.times s (ones f r) → f.plus z s ≡ f.times s (ones f (suc r))
    one-more r z e =
        ap (λ w. f.plus w s) e ∙ f.plus_comm (f.times s (ones f r)) s ∙ ap (λ w. f.plus w (f.times s (ones f r))) (sym (f.times-unit s))
        ∙ sym (f.times-plus s f.unit (ones f r))

    rank-from : (k : ℕ) → k ≤ m → (t : ℕ → ℕ → K) → IsScaled t → AreNoughtFrom k t → HasRank t
    rank-from zero l t sq none =
        let all : (a j : ℕ) → a < m → j < m → t a j ≡ f.nought = λ a j la lj. none a j (omega arith) la lj in
        (0, all-nought f m (λ a. t a a) (λ a la. all a a la la) ∙ sym (times-nought f s), λ _. all)
    rank-from (suc k) l t sq none =
        let lk : k < m = omega (arith, l) in
        let l' : k ≤ m = omega (arith, l) in
        elim (place_in (t k) m) [
          | inl z ↦
              rank-from k l' t sq (λ a j la am lj. elim (at_or_past k a la) [
                | inl e ↦ ap (λ (b : ℕ). t b j) e ∙ z j lj
                | inr e ↦ none a j e am lj
              ])
          | inr h ↦
              let c = h.0 in
              let u : ℕ → ℕ → K = rest t sq k c lk h.1 h.2 in
              let found = rank-from k l' u (rest-scaled t sq k c lk h.1 h.2) (λ a j la am lj. elim (at_or_past k a la) [
                | inl e ↦ ap (λ (b : ℕ). u b j) e ∙ rest-row-own t sq k c lk h.1 h.2 j
                | inr e ↦ rest-row-nought t sq k c lk h.1 h.2 a j (none a j e am lj) (none a c e am h.1)
              ]) in
              (suc found.0, rest-trace t sq k c lk h.1 h.2 ∙ one-more found.0 (trace f m u) found.1, λ e. absurd (omega (arith, e)))
        ]

    pub scaled-rank : (t : ℕ → ℕ → K) → IsScaled t → HasRank t
    scaled-rank t sq = rank-from m (omega arith) t sq (λ a j l la lj. absurd (omega (arith, l, la)))
