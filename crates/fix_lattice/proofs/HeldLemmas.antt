-- What growing lists of fixed subspaces obey.
--
-- put-all, grown-meet, grown-all: what new forms are
-- singles-start, singles-put: the Fix(q) of single elements
-- cut-fixed: what two fixed subspaces have in common is one
-- forms-more, forms-few, singles-few: how many forms there are
use Rattle.std.proofs.Common.{◌≡◌, ℕ, suc, ◌<◌, ◌≤◌, inl, inr, refl, sym, ◌∙◌, ap, subst, List, [], ◌∷◌, ◌++◌, arith, length, get_or}
use Rattle.cyclo24.specs.ExactField.{ExactField, Value}
use Rattle.lin_alg.specs.Action.{Action}
use Rattle.lin_alg.specs.EquationLaws.{dec}
use Rattle.lin_alg.specs.Fixed.{IsFixForm}
use Rattle.lin_alg.specs.Reduced.{IsForm}
use Rattle.fix_lattice.specs.Lattice.{form_at, AreMoreFixes, AreMoreSingles}
use Rattle.fix_lattice.specs.Held.{IsFixSpace, IsSingleSpace, IsMeet, IsGrown, IsPut, IsNoted, HoldsSingles}
use Rattle.fix_lattice.proofs.ListLemmas.{length-last, each-last}
use Rattle.fix_lattice.specs.LatticeLaws.{are-more, meet-form, singles-more}

module _ (f : ExactField) (act : Action) where
  -- what the old forms and x are, the new forms are
  pub put-all : (P : List (ℕ × (ℕ → Value f)) → Type 0) (old new : List (List (ℕ × (ℕ → Value f)))) (x : List (ℕ × (ℕ → Value f))) (p : ℕ) → IsPut old x new p →
      ((i : ℕ) → i < length old → P (form_at old i)) → P x → (i : ℕ) → i < length new → P (form_at new i)
  put-all P old new x p t a b i l =
      elim (dec i (length old)) [
        | inl m ↦ subst P (sym (t.grown.first i m)) (a i m)
        | inr m ↦ subst P (sym (t.last i m l)) b
      ]

  -- what an old form is, it stays
  pub grown-at : (P : List (ℕ × (ℕ → Value f)) → Type 0) (old new : List (List (ℕ × (ℕ → Value f)))) → IsGrown old new → (i : ℕ) → i < length old → P (form_at old i) → P (form_at new i)
  grown-at P old new t i l h = subst P (sym (t.first i l)) h

  pub grown-meet : (old new : List (List (ℕ × (ℕ → Value f)))) → IsGrown old new → (i k j : ℕ) → i < length old → k < length old → j < length old →
      IsMeet f.laws act.dim (form_at old i) (form_at old k) (form_at old j) → IsMeet f.laws act.dim (form_at new i) (form_at new k) (form_at new j)
  grown-meet old new t i k j il kl jl h =
      subst (λ (u : List (ℕ × (ℕ → Value f))). IsMeet f.laws act.dim u (form_at new k) (form_at new j)) (sym (t.first i il))
      (subst (λ (e : List (ℕ × (ℕ → Value f))). IsMeet f.laws act.dim (form_at old i) e (form_at new j)) (sym (t.first k kl))
      (subst (IsMeet f.laws act.dim (form_at old i) (form_at old k)) (sym (t.first j jl)) h))

  pub grown-own : (forms : List (List (ℕ × (ℕ → Value f)))) → IsGrown forms forms
  grown-own forms = record { longer = omega arith; first = λ i l. refl }

  pub grown-then : (a b c : List (List (ℕ × (ℕ → Value f)))) → IsGrown a b → IsGrown b c → IsGrown a c
  grown-then a b c s t =
      let m = s.longer in
      let n = t.longer in
      record { longer = omega arith; first = λ i l. let k : i < length b = omega arith in t.first i k ∙ s.first i l }

  pub singles-start : HoldsSingles f.laws act [] [] [] 0
  singles-start = record { elements_length = refl; element = λ k l. absurd (omega arith); places_length = refl; place = λ q l. absurd (omega arith) }

  -- the Fix(q) of one more element
  pub singles-put : (old new : List (List (ℕ × (ℕ → Value f)))) (places elements named : List ℕ) (x : List (ℕ × (ℕ → Value f))) (p q : ℕ) → q < act.group.order →
      HoldsSingles f.laws act old places elements q → IsFixForm f.laws act (q ∷ []) x → IsPut old x new p → IsNoted (length old) (length new) q elements named →
      HoldsSingles f.laws act new (places ++ p ∷ []) named (suc q)
  singles-put old new places elements named x p q l h e t n =
      let longer = t.grown.longer in
      let old_length = h.elements_length in
      let old_element : (k : ℕ) → k < length elements → (get_or elements k 0 < act.group.order) × IsFixForm f.laws act (get_or elements k 0 ∷ []) (form_at new k) =
      λ k kl. let m : k < length old = omega arith in ((h.element k kl).0, grown-at (IsFixForm f.laws act (get_or elements k 0 ∷ [])) old new t.grown k m (h.element k kl).1) in
      let places_length = h.places_length in
      record {
        elements_length = elim n [
          | inl s ↦ ap length s.1 ∙ old_length ∙ sym s.0
          | inr s ↦ ap length s.1 ∙ length-last elements q ∙ ap suc old_length ∙ sym s.0
        ];
        element = elim n [
          | inl s ↦ subst (λ (z : List ℕ). (k : ℕ) → k < length z → (get_or z k 0 < act.group.order) × IsFixForm f.laws act (get_or z k 0 ∷ []) (form_at new k)) (sym s.1) old_element
          | inr s ↦
              let grew = s.0 in
              let m : length old < length new = omega arith in
              let k : length old ≤ length old = omega arith in
              let own : IsFixForm f.laws act (q ∷ []) (form_at new (length elements)) =
              subst (λ (z : ℕ). IsFixForm f.laws act (q ∷ []) (form_at new z)) (sym old_length) (subst (IsFixForm f.laws act (q ∷ [])) (sym (t.last (length old) k m)) e) in
              subst (λ (z : List ℕ). (k : ℕ) → k < length z → (get_or z k 0 < act.group.order) × IsFixForm f.laws act (get_or z k 0 ∷ []) (form_at new k)) (sym s.1)
              (each-last (λ k r. (r < act.group.order) × IsFixForm f.laws act (r ∷ []) (form_at new k)) elements q 0 old_element (l, own))
        ];
        places_length = length-last places p ∙ ap suc places_length;
        place = λ r m.
            let rl : r < length (places ++ p ∷ []) = let n = length-last places p in omega arith in
            each-last (λ r z. (z < length new) × IsFixForm f.laws act (r ∷ []) (form_at new z)) places p 0
            (λ r k.
            let rq : r < q = omega arith in
            let o = h.place r rq in
            let ol = o.0 in
            (omega arith, grown-at (IsFixForm f.laws act (r ∷ [])) old new t.grown (get_or places r 0) ol o.1))
            (t.inside, subst (λ (z : ℕ). IsFixForm f.laws act (z ∷ []) (form_at new p)) (sym places_length) (subst (IsFixForm f.laws act (q ∷ [])) (sym t.there) e)) r rl;
      }

  pub single-fix : (rs : List (ℕ × (ℕ → Value f))) → IsSingleSpace f.laws act rs → IsFixSpace f.laws act rs
  single-fix rs s = (s.0 ∷ [], ((s.1.0, tt), s.1.1))

  pub singles-only : (forms : List (List (ℕ × (ℕ → Value f)))) (places elements : List ℕ) (n : ℕ) → HoldsSingles f.laws act forms places elements n →
      (i : ℕ) → i < length forms → IsSingleSpace f.laws act (form_at forms i)
  singles-only forms places elements n h i l =
      let e = h.elements_length in
      let o = h.element i (omega arith) in
      (get_or elements i 0, o)

  -- what two fixed subspaces have in common is one, where one is a Fix(q)
  pub cut-fixed : (u e x : List (ℕ × (ℕ → Value f))) → IsFixSpace f.laws act u → IsSingleSpace f.laws act e → IsForm f.laws act.dim x → IsMeet f.laws act.dim u e x → IsFixSpace f.laws act x
  cut-fixed u e x o s r m = (s.0 ∷ o.0, ((s.1.0, o.1.0), meet-form f act o.0 s.0 u e x o.1.1 s.1.1 r m))

  -- different fixed subspaces past a limit show more
  pub forms-more : (forms : List (List (ℕ × (ℕ → Value f)))) (n : ℕ) → n < length forms → ((i : ℕ) → i < length forms → IsFixSpace f.laws act (form_at forms i)) →
      ((i j : ℕ) → i < j → j < length forms → form_at forms i ≡ form_at forms j → ⊥) → AreMoreFixes f.laws act n
  forms-more forms n l only once =
      are-more f act (form_at forms) n
      (λ i b. let il : i < length forms = omega arith in only i il)
      (λ i j g b. let jl : j < length forms = omega arith in once i j g jl)

  pub forms-few : (forms : List (List (ℕ × (ℕ → Value f)))) (n : ℕ) → ((i : ℕ) → i < length forms → IsFixSpace f.laws act (form_at forms i)) →
      ((i j : ℕ) → i < j → j < length forms → form_at forms i ≡ form_at forms j → ⊥) → (AreMoreFixes f.laws act n → ⊥) → length forms ≤ n
  forms-few forms n only once few =
      elim (dec n (length forms)) [
        | inl l ↦ absurd (few (forms-more forms n l only once))
        | inr l ↦ l
      ]

  pub singles-few : (forms : List (List (ℕ × (ℕ → Value f)))) (fixes d : ℕ) → fixes ≤ length forms → ((k : ℕ) → k < fixes → IsSingleSpace f.laws act (form_at forms k)) →
      ((i j : ℕ) → i < j → j < length forms → form_at forms i ≡ form_at forms j → ⊥) → (AreMoreSingles f.laws act d → ⊥) → fixes ≤ d
  singles-few forms fixes d within single once few =
      elim (dec d fixes) [
        | inl l ↦ absurd (few (singles-more f act (form_at forms) d
            (λ i b. let il : i < fixes = omega arith in single i il)
            (λ i j g b. let jl : j < length forms = omega arith in once i j g jl)))
        | inr l ↦ l
      ]
