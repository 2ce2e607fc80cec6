-- What forms obey as equations: a form is the equations of what its rows vanish on, and forms that vanish on the
-- same vectors are equal.
--
-- form-equations, form-unique, equations-unique: a form and what it vanishes on tell each other
-- cut-vanishes: a form of the span with one more row vanishes where both do
-- vanishes-subspace: what the rows vanish on is a subspace
-- form-length: a form has at most as many rows as columns
use Rattle.std.proofs.Common.{◌≡◌, ℕ, suc, ◌<◌, ◌≤◌, ◌+◌, ◌∙◌, List, [], ◌∷◌, length, ◌↔◌, arith}
use Rattle.cyclo24.specs.FieldOn.{FieldOn}
use Rattle.lin_alg.specs.Spans.{row_vectors, IsInSpan, IsSubspace, HasRows}
use Rattle.lin_alg.specs.Reduced.{IsReduced, ArePast, PivotsBelow, IsForm, IsWithin}
use Rattle.lin_alg.specs.SpanLaws.{reduced-unique}
use Rattle.lin_alg.specs.InsertLaws.{span-rows, span-least, rows-mono}
use Rattle.lin_alg.specs.Equations.{dot, Vanishes, IsEquationsOf}
use Rattle.cyclo24.specs.TotalLaws.{total-same}
use Rattle.lin_alg.specs.EquationLaws.{vanish-subspace, within-subspace, vanishing-span}

module _ {K : Type 0} (f : FieldOn K) (w : ℕ) where
  rows-within : (v : ℕ → K) (rs : List (ℕ → K)) → ((x : ℕ → K) → IsInSpan f rs x → dot f w x v ≡ f.nought) → Vanishes f w rs v
  rows-within v rs a = rows-mono f (IsInSpan f rs) (λ x. dot f w x v ≡ f.nought) a rs (span-rows f rs)

  -- a vector that the rows of one form vanish on, those of each form within its span do too
  pub vanishes-mono : (rs ss : List (ℕ → K)) → ((x : ℕ → K) → IsInSpan f ss x → IsInSpan f rs x) → (v : ℕ → K) → Vanishes f w rs v → Vanishes f w ss v
  vanishes-mono rs ss t v k = rows-within v ss (λ x h. span-least f (λ y. dot f w y v ≡ f.nought) (vanish-subspace f w v) rs k x (t x h))

  -- a form is the equations of what its rows vanish on
  pub form-equations : (U : (ℕ → K) → Type 0) (rs : List (ℕ × (ℕ → K))) → IsForm f w rs → ((v : ℕ → K) → Vanishes f w (row_vectors rs) v ↔ U v) → IsEquationsOf f w U rs
  form-equations U rs r e = record {
    form = r;
    spans = λ x. (
      λ h. (
        span-least f (IsWithin f w) (within-subspace f w) (row_vectors rs) r.within x h,
        λ v u. span-least f (λ y. dot f w y v ≡ f.nought) (vanish-subspace f w v) (row_vectors rs) ((e v).1 u) x h,
      ),
      λ h. vanishing-span f w rs x r.pivots r.reduced r.within h.0 (λ v k. h.1 v ((e v).0 k)),
    );
  }

  -- two forms that vanish on the same vectors are one
  pub form-unique : (rs ss : List (ℕ × (ℕ → K))) → IsForm f w rs → IsForm f w ss → ((v : ℕ → K) → Vanishes f w (row_vectors rs) v ↔ Vanishes f w (row_vectors ss) v) → rs ≡ ss
  form-unique rs ss r s e =
      let er = form-equations (Vanishes f w (row_vectors ss)) rs r e in
      let es = form-equations (Vanishes f w (row_vectors ss)) ss s (λ v. (λ k. k, λ k. k)) in
      reduced-unique f rs ss r.reduced s.reduced (λ x h. (es.spans x).1 ((er.spans x).0 h)) (λ x h. (er.spans x).1 ((es.spans x).0 h))

  -- equations of one set are one
  pub equations-unique : (U : (ℕ → K) → Type 0) (rs ss : List (ℕ × (ℕ → K))) → IsEquationsOf f w U rs → IsEquationsOf f w U ss → rs ≡ ss
  equations-unique U rs ss r s =
      reduced-unique f rs ss r.form.reduced s.form.reduced (λ x h. (s.spans x).1 ((r.spans x).0 h)) (λ x h. (r.spans x).1 ((s.spans x).0 h))

  -- the insertion of a row cuts by it
  pub cut-vanishes : (old new : List (ℕ → K)) (x : ℕ → K) → ((y : ℕ → K) → IsInSpan f new y ↔ IsInSpan f (x ∷ old) y) →
      (v : ℕ → K) → Vanishes f w new v ↔ ((dot f w x v ≡ f.nought) × Vanishes f w old v)
  cut-vanishes old new x e v = (vanishes-mono new (x ∷ old) (λ y. (e y).1) v, vanishes-mono (x ∷ old) new (λ y. (e y).0) v)

-- what the rows vanish on is a subspace
module _ {K : Type 0} (f : FieldOn K) (w : ℕ) where
  flip : (x v : ℕ → K) → dot f w x v ≡ dot f w v x
  flip x v = total-same f w _ _ (λ k l. f.times_comm (x k) (v k))

  vanishes-each : (P : (ℕ → K) → Type 0) (rs : List (ℕ → K)) → ((x : ℕ → K) → P x) → HasRows P rs
  vanishes-each P [] a = tt
  vanishes-each P (r ∷ rs) a = (a r, vanishes-each P rs a)

  vanishes-plus : (rs : List (ℕ → K)) (v u : ℕ → K) → Vanishes f w rs v → Vanishes f w rs u → Vanishes f w rs (λ j. f.plus (v j) (u j))
  vanishes-plus [] v u h k = tt
  vanishes-plus (r ∷ rs) v u h k = (
    flip r _ ∙ (vanish-subspace f w r).has_plus v u (flip v r ∙ h.0) (flip u r ∙ k.0),
    vanishes-plus rs v u h.1 k.1,
  )

  vanishes-times : (rs : List (ℕ → K)) (c : K) (v : ℕ → K) → Vanishes f w rs v → Vanishes f w rs (λ j. f.times c (v j))
  vanishes-times [] c v h = tt
  vanishes-times (r ∷ rs) c v h = (
    flip r _ ∙ (vanish-subspace f w r).has_times c v (flip v r ∙ h.0),
    vanishes-times rs c v h.1,
  )

  pub vanishes-subspace : (rs : List (ℕ → K)) → IsSubspace f (Vanishes f w rs)
  vanishes-subspace rs = record {
    has_nought = vanishes-each (λ x. dot f w x (λ _. f.nought) ≡ f.nought) rs (λ x. flip x _ ∙ (vanish-subspace f w x).has_nought);
    has_plus = vanishes-plus rs;
    has_times = vanishes-times rs;
  }

module _ {K : Type 0} (f : FieldOn K) (w : ℕ) where
  past-length : (p : ℕ) (rs : List (ℕ × (ℕ → K))) → p < w → ArePast f p rs → IsReduced f rs → PivotsBelow w rs → suc p + length rs ≤ w
  past-length p [] l a r b = omega arith
  past-length p (s ∷ rs) l a r b =
      let more = past-length s.0 rs b.0 r.1 r.2 b.1 in
      let past = a.0 in
      omega arith

  -- a form has at most as many rows as columns
  pub form-length : (rs : List (ℕ × (ℕ → K))) → IsForm f w rs → length rs ≤ w
  form-length [] r = omega arith
  form-length (s ∷ rs) r =
      let more = past-length s.0 rs r.pivots.0 r.reduced.1 r.reduced.2 r.pivots.1 in
      omega arith
