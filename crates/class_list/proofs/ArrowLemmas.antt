-- Arrows that are made one by one.
use Rattle.std.proofs.Common.{ℕ, ◌<◌, ◌≤◌, ◌+◌, inl, inr, List, [], ◌∷◌, ◌++◌, length, sym, subst, arith}
use Rattle.std.proofs.lemmas.List.Elements.{Contains-push, Contains-push_cases, Contains-append_left}
use Rattle.cyclo24.specs.ExactField.{ExactField, Value}
use Rattle.lin_alg.specs.Action.{Action, IsAction}
use Rattle.fix_lattice.specs.Lattice.{form_at}
use Rattle.class_list.specs.declared.arrows.Arrow.{Arrow}
use Rattle.fix_lattice.specs.Classes.{IsImageForm}
use Rattle.class_list.proofs.NumberLemmas.{last_or}
use Rattle.class_list.specs.Images.{IsArrow, HasArrow, AreArrows}

module _ (f : ExactField) (act : Action) (forms : List (List (ℕ × (ℕ → Value f)))) where
  pub arrows-none : AreArrows f.laws act forms 0 0 []
  arrows-none = record {
    sound = λ s c. let l : c.0 < 0 = c.1 in absurd (omega arith);
    each = λ p k a b d. elim d [ inl l ↦ absurd (omega arith) | inr h ↦ let l : k < 0 = h.1 in absurd (omega arith) ];
  }

  kept : (arrows : List Arrow) (s : Arrow) (p k : ℕ) → HasArrow f.laws act forms arrows p k → HasArrow f.laws act forms (arrows ++ s ∷ []) p k
  kept arrows s p k h = record { arrow = h.arrow; there = Contains-append_left arrows (s ∷ []) h.arrow h.there; from = h.from; image = h.image }

  pub arrows-push : IsAction f.laws act → (j i to : ℕ) (arrows : List Arrow) → j < act.generators → i < length forms → to < length forms → IsImageForm f.laws act (act.generator j) (form_at forms i) (form_at forms to) →
      AreArrows f.laws act forms j i arrows → AreArrows f.laws act forms j (i + 1) (arrows ++ record { from = i; to = to } ∷ [])
  arrows-push law j i to arrows jl il tl e t =
      let s : Arrow = record { from = i; to = to } in
      let own : IsArrow f.laws act forms s = record { from = il; to = tl; element = act.generator j; below = law.generator_below j jl; image = e } in
      record {
        sound = λ x c. elim (Contains-push_cases arrows s x c) [ inl h ↦ t.sound x h | inr h ↦ subst (IsArrow f.laws act forms) h own ];
        each = λ p k a b d. elim d [
          | inl l ↦ kept arrows s p k (t.each p k a b (inl l))
          | inr h ↦ elim (last_or k i h.1) [
            | inl l ↦ kept arrows s p k (t.each p k a b (inr (h.0, l)))
            | inr q ↦ record {
              arrow = s;
              there = Contains-push arrows s;
              from = sym q;
              image = subst (λ (z : ℕ). IsImageForm f.laws act (act.generator z) (form_at forms k) (form_at forms to)) (sym h.0) (subst (λ (z : ℕ). IsImageForm f.laws act (act.generator j) (form_at forms z) (form_at forms to)) (sym q) e);
            }
          ]
        ];
      }

  pub arrows-round : (j i : ℕ) (arrows : List Arrow) → length forms ≤ i → AreArrows f.laws act forms j i arrows → AreArrows f.laws act forms (j + 1) 0 arrows
  arrows-round j i arrows l t = record {
    sound = t.sound;
    each = λ p k a b d. elim d [
      | inl m ↦ elim (last_or p j m) [ inl n ↦ t.each p k a b (inl n) | inr e ↦ t.each p k a b (inr (e, omega arith)) ]
      | inr h ↦ let m : k < 0 = h.1 in absurd (omega arith)
    ];
  }
