-- How many forms are held.
use Rattle.std.proofs.Common.{◌≡◌, ◌↔◌, ℕ, sym, ◌∙◌, subst, ◌+◌, ◌<◌, ◌≤◌, ◌⊎◌, inl, inr, Bool, true, List, [], arith, length, get_or}
use Rattle.cyclo24.specs.ExactField.{ExactField, Value}
use Rattle.lin_alg.specs.Action.{Action}
use Rattle.lin_alg.specs.Echelon.{EchelonView}
use Rattle.fix_lattice.specs.Lattice.{form_at, AreMoreFixes, AreMoreSingles}
use Rattle.fix_lattice.specs.Held.{IsFixSpace, IsSingleSpace, HoldsSingles}
use Rattle.fix_lattice.proofs.HeldLemmas.{forms-more, forms-few, singles-few, singles-only}
use Rattle.fix_lattice.specs.Classes.{IsClosing, IsImageForm, AreImages}
use Rattle.fix_lattice.specs.Cuts.{AreShort, AreFewCuts}
use Rattle.fix_lattice.proofs.ClosingLemmas.{cuts-bound}
use Rattle.fix_lattice.specs.Subspaces.{AreHeld, exact_forms}
use Rattle.fix_lattice.proofs.FormLemmas.{held-once}
use Rattle.fix_lattice.specs.FormLaws.{exact-length}
use Rattle.fix_lattice.proofs.ListLemmas.{same-default}

module _ {A : Type 0} (f : ExactField) (value : A → Value f) (E : A → A → Bool) (tells : (x y : A) → (E x y ≡ true) ↔ (value x ≡ value y)) (act : Action) where
  -- held fixed subspaces past a limit
  pub held-more : (w n : ℕ) (es : List (EchelonView A)) → AreHeld f.laws value E w es → n < length es →
      ((i : ℕ) → i < length (exact_forms f.laws value es) → IsFixSpace f.laws act (form_at (exact_forms f.laws value es) i)) → AreMoreFixes f.laws act n
  held-more w n es h l only =
      let e = exact-length f.laws value es in
      forms-more f act (exact_forms f.laws value es) n (omega arith) only (held-once f value E tells w es h.whole h.once)

  pub held-few : (w n : ℕ) (es : List (EchelonView A)) → AreHeld f.laws value E w es →
      ((i : ℕ) → i < length (exact_forms f.laws value es) → IsFixSpace f.laws act (form_at (exact_forms f.laws value es) i)) → (AreMoreFixes f.laws act n → ⊥) → length es ≤ n
  held-few w n es h only few =
      let e = exact-length f.laws value es in
      let l = forms-few f act (exact_forms f.laws value es) n only (held-once f value E tells w es h.whole h.once) few in
      omega arith

  pub held-singles-few : (w fixes d : ℕ) (es : List (EchelonView A)) → AreHeld f.laws value E w es → fixes ≤ length es →
      ((k : ℕ) → k < fixes → IsSingleSpace f.laws act (form_at (exact_forms f.laws value es) k)) → (AreMoreSingles f.laws act d → ⊥) → fixes ≤ d
  held-singles-few w fixes d es h l single few =
      let e = exact-length f.laws value es in
      singles-few f act (exact_forms f.laws value es) fixes d (omega arith) single (held-once f value E tells w es h.whole h.once) few

  -- and of what single elements fix
  pub held-singles : (w d : ℕ) (es : List (EchelonView A)) (places elements : List ℕ) → AreHeld f.laws value E w es → HoldsSingles f.laws act (exact_forms f.laws value es) places elements act.group.order → (AreMoreSingles f.laws act d → ⊥) → length es ≤ d
  held-singles w d es places elements h t few =
      let e = exact-length f.laws value es in
      held-singles-few w (length es) d es h (omega arith) (λ k l. let m : k < length (exact_forms f.laws value es) = omega arith in singles-only f act (exact_forms f.laws value es) places elements act.group.order t k m) few

  module _ (w limit : ℕ) (es : List (EchelonView A)) (places elements : List ℕ) (cuts : List (List ℕ)) (sources : List (ℕ × ℕ))
      (h : AreHeld f.laws value E w es) (t : IsClosing f.laws act (exact_forms f.laws value es) places elements cuts sources) (within : length es ≤ limit) where
    forms-below : (n : ℕ) → ((AreMoreFixes f.laws act n → ⊥) ⊎ (limit ≤ n)) → length (exact_forms f.laws value es) ≤ n
    forms-below n few =
        let e = exact-length f.laws value es in
        let l : length es ≤ n = elim few [ inl b ↦ held-few w n es h t.only b | inr b ↦ omega arith ] in
        omega arith

    -- the cuts are few
    pub cuts-now : AreFewCuts f.laws act limit (length elements) cuts
    cuts-now n few = cuts-bound cuts (length (exact_forms f.laws value es)) n (length elements) (forms-below n few) t.rows t.short

    -- and with those of other rows, no more than forms
    pub cuts-next : (written : List (List ℕ)) → AreShort (length elements) written → length written ≤ length es → AreFewCuts f.laws act limit (length elements) written
    cuts-next written short l n few =
        let e = exact-length f.laws value es in
        cuts-bound written (length (exact_forms f.laws value es)) n (length elements) (forms-below n few) (omega arith) short

-- the two whose cut a form is stand before it
pub source-read : (f : ExactField) (act : Action) (forms : List (List (ℕ × (ℕ → Value f)))) (places elements : List ℕ) (cuts : List (List ℕ)) (sources : List (ℕ × ℕ)) →
    IsClosing f.laws act forms places elements cuts sources → (j : ℕ) (s : ℕ × ℕ) → j < length sources → s ≡ get_or sources j s → (s ≡ get_or sources j (0, 0)) × ((s.0 < length elements + j) × (s.1 < length elements))
source-read f act forms places elements cuts sources t j s l e =
    let d : s ≡ get_or sources j (0, 0) = e ∙ same-default sources j s (0, 0) l in
    let o = t.source j l in
    (d, subst (λ (z : ℕ × ℕ). (z.0 < length elements + j) × (z.1 < length elements)) (sym d) (o.0, o.1.0))

-- the image of a form before the end of the table
pub image-read : (f : ExactField) (act : Action) (forms : List (List (ℕ × (ℕ → Value f)))) (images : List (List ℕ)) → AreImages f.laws act forms images → (i p y : ℕ) → i < length images → p < act.generators →
    y ≡ get_or (get_or images i []) p 0 → (y < length forms) × IsImageForm f.laws act (act.generator p) (form_at forms i) (form_at forms y)
image-read f act forms images a i p y l m e = subst (λ (z : ℕ). (z < length forms) × IsImageForm f.laws act (act.generator p) (form_at forms i) (form_at forms z)) (sym e) ((a i l).image p m)
