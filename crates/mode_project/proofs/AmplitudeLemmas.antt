use Rattle.std.proofs.Common.{◌≡◌, ℕ, suc, zero, ◌+◌, ◌*◌, ◌^◌, ◌<◌, ◌≤◌, ◌⊎◌, inl, inr, refl, sym, ◌∙◌, ap, subst, arith, lt-ltb, le-ltb, if◌then◌else◌, List, [], ◌∷◌, length, map}
use Rattle.std.proofs.lemmas.Bool.Decides.{eqb_tells}
use Rattle.std.proofs.lemmas.List.{get_or_default}
use Rattle.std.proofs.lemmas.Nat.{mul-le}
use Rattle.std.specs.List.{slice_index, Contains}
use Rattle.std.specs.Prelude.{slice_index_or}
use Rattle.cyclo24.specs.FieldOn.{FieldOn}
use Rattle.cyclo24.specs.FieldLaws.{nought-plus, times-nought, neg-plus}
use Rattle.cyclo24.specs.Sums.{total}
use Rattle.cyclo24.specs.SumLaws.{all-nought, one-term, total-append}
use Rattle.cyclo24.specs.TotalLaws.{total-same}
use Rattle.lin_alg.specs.EquationLaws.{dec, eq-self, unit-other}
use Rattle.lin_alg.specs.Equations.{unit_vector}
use Rattle.lin_alg.specs.Reduced.{IsWithin}
use Rattle.lin_alg.specs.Solving.{combination, AreIndependent, joined, plain_rows}
use Rattle.lin_alg.specs.SolvingLaws.{joined-front, joined-behind}
use Rattle.lin_alg.specs.SpanLaws.{order, unit-not-nought}
use Rattle.lin_alg.specs.Spans.{row_vectors, IsInSpan}
use Rattle.mode_project.specs.Amplitudes.{AreAmplitudes, IsModeBasis, ArePivotColumns, cut_to, cut_row}
use Rattle.mode_project.specs.AmplitudeLaws.{modes-number, modes-within, sum-past}
use Rattle.mode_project.specs.ListLaws.{vectors-length, at-front, plain-same}
use Rattle.mode_project.specs.Modes.{all_modes, vector_at}
use Rattle.mode_project.proofs.CombinationLemmas.{span-combination}
use Rattle.mode_project.proofs.FoundLemmas.{at-unit}
use Rattle.mode_project.proofs.JointLemmas.{at-past}

-- a number that a list contains, by its place
pub contains : (us : List ℕ) (k c : ℕ) → k < length us → slice_index us k ≡ c → Contains us c
contains us k c l e = (k, l, get_or_default us k c 0 l ∙ e)

pub contained : (us : List ℕ) (c : ℕ) → (w : Contains us c) → slice_index us w.0 ≡ c
contained us c w = get_or_default us w.0 0 c w.1 ∙ w.2

held-or : (us : List ℕ) (c : ℕ) → Contains us c ⊎ (Contains us c → ⊥)
held-or [] c = inr (λ w. let l : w.0 < 0 = w.1 in absurd (omega (arith, l)))
held-or (u ∷ us) c =
    elim (eqb_tells u c) [
      | inl e ↦ inl (0, omega arith, e.1)
      | inr n ↦ elim (held-or us c) [
        | inl w ↦ inl (suc w.0, (let l : w.0 < length us = w.1 in omega (arith, l)), w.2)
        | inr o ↦ inr (λ w. by_place n.1 o w.0 w.1 w.2)
      ]
    ]
  where
    by_place : (u ≡ c → ⊥) → (Contains us c → ⊥) → (k : ℕ) → (l : k < length (u ∷ us)) → slice_index_or (u ∷ us) k c ≡ c → ⊥
    by_place n o zero l e = n e
    by_place n o (suc k) l e = o (k, (let m : suc k < suc (length us) = l in omega (arith, m)), e)

module _ {K : Type 0} (f : FieldOn K) where
  at-row : (ms : List (ℕ × (ℕ → K))) (sites : List ℕ) (m : ℕ) → m < length ms → vector_at f (all_modes f ms sites) m ≡ vector_at f (row_vectors ms) m
  at-row ms sites m l = at-front f (row_vectors ms) (map (unit_vector f) sites) m (subst (λ (n : ℕ). m < n) (sym (vectors-length ms)) l)

  at-site : (ms : List (ℕ × (ℕ → K))) (sites : List ℕ) (k : ℕ) → k < length sites → vector_at f (all_modes f ms sites) (length ms + k) ≡ unit_vector f (slice_index sites k)
  at-site ms sites k l =
      ap (λ n. vector_at f (all_modes f ms sites) (n + k)) (sym (vectors-length ms)) ∙ at-past f (row_vectors ms) (map (unit_vector f) sites) k ∙ at-unit f sites k l

  -- a row cut to columns
  pub cut-at : (columns : List ℕ) (v : ℕ → K) (j : ℕ) → j < length columns → cut_to f columns v j ≡ v (slice_index columns j)
  cut-at columns v j l = ap (λ b. if b then v (slice_index columns j) else f.nought) (lt-ltb j (length columns) l)

  pub cut-past : (columns : List ℕ) (v : ℕ → K) (j : ℕ) → length columns ≤ j → cut_to f columns v j ≡ f.nought
  cut-past columns v j l = ap (λ b. if b then v (slice_index columns j) else f.nought) (le-ltb j (length columns) l)

  module _ (d : ℕ) (ms : List (ℕ × (ℕ → K))) (sites : List ℕ) (h : IsModeBasis f d ms sites) where
    abbrev mode : ℕ → ℕ → K
    mode = vector_at f (all_modes f ms sites)

    abbrev row : ℕ → ℕ → K
    row = vector_at f (row_vectors ms)

    abbrev r : ℕ
    r = length ms

    abbrev s : ℕ
    s = length sites

    -- the multiples of unit vectors at a column
    abbrev units : (ℕ → K) → ℕ → K
    units z c = total f s (λ k. f.times (z k) (unit_vector f (slice_index sites k) c))

    -- the sum of all modes in two pieces
    in-pieces : (a : ℕ → K) (c : ℕ) → combination f d a mode c ≡ f.plus (combination f r a row c) (units (λ k. a (r + k)) c)
    in-pieces a c =
        ap (λ n. combination f n a mode c) (sym h.count) ∙ total-append f r s (λ m. f.times (a m) (mode m c))
        ∙ (λ i. f.plus (total-same f r _ _ (λ m l. ap (λ (v : ℕ → K). f.times (a m) (v c)) (at-row ms sites m l)) i)
        (total-same f s _ _ (λ k l. ap (λ (v : ℕ → K). f.times (a (r + k)) (v c)) (at-site ms sites k l)) i))

    distinct : (j k : ℕ) → j < s → k < s → slice_index sites k ≡ slice_index sites j → j ≡ k
    distinct j k lj lk e =
        elim (order j k) [
          | inl l ↦ let t : slice_index sites j < slice_index sites k = h.rising j k l lk in absurd (omega (arith, t, e))
          | inr (inl q) ↦ q
          | inr (inr l) ↦ let t : slice_index sites k < slice_index sites j = h.rising k j l lj in absurd (omega (arith, t, e))
        ]

    units-own : (z : ℕ → K) (k : ℕ) → k < s → units z (slice_index sites k) ≡ z k
    units-own z k l =
        let p = slice_index sites k in
        one-term f s k _ l (λ j b n. ap (f.times (z j)) (unit-other f (slice_index sites j) p (λ e. n (distinct j k b l e))) ∙ times-nought f (z j))
        ∙ ap (f.times (z k)) (ap (λ b. if b then f.unit else f.nought) (eq-self p)) ∙ f.times-unit (z k)

    units-none : (z : ℕ → K) (c : ℕ) → (Contains sites c → ⊥) → units z c ≡ f.nought
    units-none z c n = all-nought f s _ (λ j l. ap (f.times (z j)) (unit-other f (slice_index sites j) c (λ e. n (contains sites j c l (sym e)))) ∙ times-nought f (z j))

    -- where no unit vector counts, a sum is that of the rows
    rows-alone : (a : ℕ → K) (c : ℕ) → (Contains sites c → ⊥) → combination f d a mode c ≡ combination f r a row c
    rows-alone a c n = in-pieces a c ∙ ap (f.plus (combination f r a row c)) (units-none (λ k. a (r + k)) c n) ∙ f.plus-nought (combination f r a row c)

    -- each site is a column
    pub site-inside : (k : ℕ) → k < s → slice_index sites k < d
    site-inside k l =
        let p = slice_index sites k in
        elim (dec p d) [
          | inl b ↦ b
          | inr b ↦
              let m : r + k < d = let n : r + s ≡ d = h.count in omega (arith, n, l) in
              let z : mode (r + k) p ≡ f.nought = modes-within f d ms sites h (r + k) m p b in
              absurd (unit-not-nought f (sym (ap (λ (v : ℕ → K). v p) (at-site ms sites k l) ∙ ap (λ t. if t then f.unit else f.nought) (eq-self p)) ∙ z))
        ]

    module _ (columns : List ℕ) (p : ArePivotColumns d sites columns) where
      abbrev cut : ℕ → ℕ → K
      cut = cut_row f columns ms

      cut-sum : (x : ℕ → K) (j : ℕ) → j < length columns → combination f r x cut j ≡ combination f r x row (slice_index columns j)
      cut-sum x j l = total-same f r _ _ (λ m b. ap (f.times (x m)) (cut-at columns (row m) j l))

      cut-none : (x : ℕ → K) (j : ℕ) → length columns ≤ j → combination f r x cut j ≡ f.nought
      cut-none x j l = all-nought f r _ (λ m b. ap (f.times (x m)) (cut-past columns (row m) j l) ∙ times-nought f (x m))

      module _ (v x a : ℕ → K) (front : (m : ℕ) → m < r → a m ≡ x m) where
        front-sum : (c : ℕ) → combination f r a row c ≡ combination f r x row c
        front-sum c = total-same f r _ _ (λ m l. ap (λ y. f.times y (row m c)) (front m l))

        pivot-column : AreAmplitudes f r cut (length columns) (cut_to f columns v) x → (j : ℕ) → j < length columns → combination f d a mode (slice_index columns j) ≡ v (slice_index columns j)
        pivot-column hx j l =
            let c = slice_index columns j in
            rows-alone a c (p.has j l) ∙ front-sum c ∙ sym (cut-sum x j l) ∙ hx j l ∙ cut-at columns v j l

        site-column : ((k : ℕ) → k < s → a (r + k) ≡ f.plus (v (slice_index sites k)) (f.neg (combination f r x row (slice_index sites k))))
            → (k : ℕ) → k < s → combination f d a mode (slice_index sites k) ≡ v (slice_index sites k)
        site-column behind k l =
            let c = slice_index sites k in
            let sum = combination f r x row c in
            in-pieces a c ∙ (λ i. f.plus (front-sum c i) ((units-own (λ j. a (r + j)) k l ∙ behind k l) i))
            ∙ f.plus_comm sum (f.plus (v c) (f.neg sum)) ∙ f.plus_assoc (v c) (f.neg sum) sum ∙ ap (f.plus (v c)) (neg-plus f sum) ∙ f.plus-nought (v c)

        -- amplitudes of the rows in the pivot columns, with what they leave at the sites, are amplitudes of all modes
        pub amplitudes-hold : AreAmplitudes f r cut (length columns) (cut_to f columns v) x
            → ((k : ℕ) → k < s → a (r + k) ≡ f.plus (v (slice_index sites k)) (f.neg (combination f r x row (slice_index sites k))))
            → AreAmplitudes f d mode d v a
        amplitudes-hold hx behind c lc =
            elim (held-or sites c) [
              | inl w ↦ subst (λ (i : ℕ). combination f d a mode i ≡ v i) (contained sites c w) (site-column behind w.0 w.1)
              | inr n ↦ let w = p.every c lc n in subst (λ (i : ℕ). combination f d a mode i ≡ v i) w.2 (pivot-column hx w.0 w.1)
            ]

      -- the cut rows are independent
      pub cut-independent : AreIndependent f r cut
      cut-independent x hz i l =
          let none : ℕ → K = λ c. f.nought in
          let rest : ℕ → K = λ k. f.neg (combination f r x row (slice_index sites k)) in
          let a : ℕ → K = joined r x rest in
          let front : (m : ℕ) → m < r → a m ≡ x m = joined-front r x rest in
          let behind : (k : ℕ) → k < s → a (r + k) ≡ f.plus (none (slice_index sites k)) (rest k) = λ k b. joined-behind r x rest k ∙ sym (nought-plus f (rest k)) in
          let sums : AreAmplitudes f d mode d none a = amplitudes-hold none x a front (λ j b. hz j ∙ sym (cut-at columns none j b)) behind in
          let l' : i < d = let n : r + s ≡ d = h.count in omega (arith, n, l) in
          sym (front i l) ∙ h.independent a (λ c. elim (dec c d) [ inl b ↦ sums c b | inr b ↦ sum-past f d ms sites h a c b ]) i l'

      -- each vector has a solution in the pivot columns
      pub cut-solvable : (v : ℕ → K) → IsWithin f d v → (y : ℕ → K) × ((j : ℕ) → combination f r y cut j ≡ cut_to f columns v j)
      cut-solvable v w =
          let all = all_modes f ms sites in
          let rows : IsInSpan f (plain_rows mode d) v = subst (λ (n : ℕ). IsInSpan f (plain_rows mode n) v) (modes-number f d ms sites h) ((plain-same f all v).1 ((h.spanning v).1 w)) in
          let y = span-combination f d mode v rows in (
            y.0,
            λ j. elim (dec j (length columns)) [
              | inl l ↦
                  let c = slice_index columns j in
                  cut-sum y.0 j l ∙ sym (rows-alone y.0 c (p.has j l)) ∙ ap (λ (u : ℕ → K). u c) y.2 ∙ sym (cut-at columns v j l)
              | inr l ↦ cut-none y.0 j l ∙ sym (cut-past columns v j l)
            ],
          )

-- rising numbers below d are at most d
rising-least : (us : List ℕ) → ((i k : ℕ) → i < k → k < length us → slice_index us i < slice_index us k) → (k : ℕ) → k < length us → k ≤ slice_index us k
rising-least us h zero l = omega arith
rising-least us h (suc k) l =
    let e : k ≤ slice_index us k = rising-least us h k (omega (arith, l)) in
    let t : slice_index us k < slice_index us (suc k) = h k (suc k) (omega arith) l in
    omega (arith, e, t)

pub rising-few : (d : ℕ) (us : List ℕ) → ((i k : ℕ) → i < k → k < length us → slice_index us i < slice_index us k) → ((k : ℕ) → k < length us → slice_index us k < d) → length us ≤ d
rising-few d us h b =
    by_length (length us) refl
  where
    by_length : (n : ℕ) → length us ≡ n → length us ≤ d
    by_length zero e = omega (arith, e)
    by_length (suc n) e =
        let l : n < length us = omega (arith, e) in
        let k : n ≤ slice_index us n = rising-least us h n l in
        let m : slice_index us n < d = b n l in
        omega (arith, e, k, m)

pub few-entries : (d a b : ℕ) → a ≤ d → b ≤ d → d < 2 ^ 16 → a * b < 2 ^ 32
few-entries d a b la lb l =
    let e : a * b ≤ 65535 * 65535 = mul-le a b 65535 65535 (omega (arith, la, l)) (omega (arith, lb, l)) in
    omega (arith, e)
