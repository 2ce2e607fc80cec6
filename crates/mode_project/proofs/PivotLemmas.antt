use Rattle.std.proofs.Common.{◌≡◌, ℕ, ◌+◌, ◌<◌, ◌≤◌, inl, inr, sym, ◌∙◌, ap, subst, arith, below_more, List, [], ◌∷◌, ◌++◌, length}
use Rattle.std.specs.List.{slice_index, Contains}
use Rattle.algebra.specs.RisingListLaws.{list-skip, list-more}
use Rattle.lin_alg.specs.SpanLaws.{order}
use Rattle.mode_project.specs.AmplitudeParts.{IsWalk}
use Rattle.mode_project.proofs.AmplitudeLemmas.{contains, contained}

pub walk-start : (sites columns : List ℕ) → columns ≡ [] → IsWalk sites 0 0 columns
walk-start sites columns e =
    let none : IsWalk sites 0 0 [] = record {
      seen = omega arith;
      before = λ k l. absurd (omega (arith, l));
      behind = λ k l m. omega arith;
      pivots = record { below = λ i l. absurd (omega (arith, l)); has = λ i l. absurd (omega (arith, l)); rising = λ i j l m. absurd (omega (arith, m)); every = λ r l. absurd (omega (arith, l)) };
    } in
    subst (λ (xs : List ℕ). IsWalk sites 0 0 xs) (sym e) none

at_least : (j x : ℕ) → j ≤ x → (x ≡ j → ⊥) → j + 1 ≤ x
at_least j x l n = grind arith

module _ (sites : List ℕ) (rising : (i k : ℕ) → i < k → k < length sites → slice_index sites i < slice_index sites k) (j next : ℕ) (columns : List ℕ) (w : IsWalk sites j next columns) where
  -- the next site is column j
  pub walk-site : next < length sites → slice_index sites next ≡ j → IsWalk sites (j + 1) (next + 1) columns
  walk-site l e = record {
    seen = omega (arith, l);
    before = below_more (λ k. slice_index sites k < j + 1) next (λ k m. let t : slice_index sites k < j = w.before k m in omega (arith, t)) (omega (arith, e));
    behind = λ k m n. let t : slice_index sites next < slice_index sites k = rising next k (omega (arith, m)) n in omega (arith, t, e);
    pivots = list-skip j (λ c. Contains sites c → ⊥) columns w.pivots (λ out. out (contains sites next j l e));
  }

  module _ (other : (next < length sites) × (slice_index sites next ≡ j) → ⊥) where
    no-site : (k : ℕ) → k < length sites → slice_index sites k ≡ j → ⊥
    no-site k l e =
        elim (order k next) [
          | inl b ↦ let t : slice_index sites k < j = w.before k b in absurd (omega (arith, t, e))
          | inr (inl q) ↦ other (subst (λ (n : ℕ). n < length sites) q l, ap (slice_index sites) (sym q) ∙ e)
          | inr (inr b) ↦
              let ln : next < length sites = omega (arith, b, l) in
              let t : j ≤ slice_index sites next = w.behind next (omega arith) ln in
              let u : slice_index sites next < slice_index sites k = rising next k b l in
              absurd (omega (arith, t, u, e))
        ]

    -- column j is no site
    pub walk-column : (new : List ℕ) → new ≡ columns ++ j ∷ [] → IsWalk sites (j + 1) next new
    walk-column new q =
        let more : IsWalk sites (j + 1) next (columns ++ j ∷ []) = record {
          seen = w.seen;
          before = λ k m. let t : slice_index sites k < j = w.before k m in omega (arith, t);
          behind = λ k m n. at_least j (slice_index sites k) (w.behind k m n) (no-site k n);
          pivots = list-more j (λ c. Contains sites c → ⊥) columns w.pivots (λ h. no-site h.0 h.1 (contained sites j h));
        } in
        subst (λ (xs : List ℕ). IsWalk sites (j + 1) next xs) (sym q) more
