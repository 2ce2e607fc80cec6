-- What fixed subspaces and their equations obey.
--
-- fix-vanishes, fix-form, fix-same, meet-form, single-form: forms as equations of Fix(H)
-- are-more, singles-more, not-more: how many there are
-- vector-space, space-vector: the two sides of the theorem on stabilisers
use Rattle.std.proofs.Common.{◌≡◌, ℕ, suc, zero, ◌<◌, ◌≤◌, ◌⊎◌, inl, inr, sym, ap, subst, List, [], ◌∷◌, ◌↔◌, arith, length}
use Rattle.algebra.specs.NumberedGroup.{AllBelow}
use Rattle.algebra.specs.PigeonholeLaws.{pigeonhole}
use Rattle.cyclo24.specs.ExactField.{ExactField, Value}
use Rattle.lin_alg.specs.Action.{Action, IsFixed}
use Rattle.lin_alg.specs.EquationLaws.{vanish-subspace, dec}
use Rattle.lin_alg.specs.Equations.{dot}
use Rattle.lin_alg.specs.Fixed.{FixesAll, Fix, IsFixForm, IsIn, mover}
use Rattle.lin_alg.specs.FixedLaws.{stab-fix-stab, member-fixed, fixed-member}
use Rattle.lin_alg.specs.FormLaws.{form-equations, equations-unique}
use Rattle.lin_alg.specs.InsertLaws.{span-rows, span-least, rows-mono}
use Rattle.lin_alg.specs.MoverLaws.{mover-within, mover-row}
use Rattle.lin_alg.specs.Reduced.{IsForm}
use Rattle.lin_alg.specs.Spans.{row_vectors, IsInSpan, AreSame}
use Rattle.lin_alg.specs.UnionLaws.{lower}
use Rattle.lin_alg.specs.WitnessLaws.{fixed-or, form-stabiliser}
use Rattle.fix_lattice.specs.Lattice.{IsInSpace, form_at, HoldsFixes, AreMoreFixes, AreMoreSingles, HasStabiliserOf}

order : (i j : ℕ) → (i < j) ⊎ ((j < i) ⊎ (i ≡ j))
order i j = grind arith

-- what each place below n has, as one function
abbrev pub choose : {X : Type 0} (d : X) (Q : ℕ → X → Type 0) (n i : ℕ) → ((j : ℕ) → j < n → (h : X) × Q j h) → (i < n) ⊎ (n ≤ i) → X
choose d Q n i a (inl l) = (a i l).0
choose d Q n i a (inr l) = d

choose-has : {X : Type 0} (d : X) (Q : ℕ → X → Type 0) (n i : ℕ) (a : (j : ℕ) → j < n → (h : X) × Q j h) (e : (i < n) ⊎ (n ≤ i)) → i < n → Q i (choose d Q n i a e)
choose-has d Q n i a (inl l) m = (a i l).1
choose-has d Q n i a (inr l) m = absurd (omega arith)

module _ (f : ExactField) (act : Action) where
  mover-spans : (q : ℕ) (h : List ℕ) (rs : List (ℕ × (ℕ → Value f))) → IsFixForm f.laws act h rs → ((v : ℕ → Value f) → Fix f.laws act h v → IsFixed f.laws act q v) →
      (i : ℕ) → i < act.dim → IsInSpan f.laws (row_vectors rs) (mover f.laws act q i)
  mover-spans q h rs e a i l = (e.spans (mover f.laws act q i)).1 (mover-within f act q i, λ v b. (mover-row f act q i v l).1 (a v b i l))

  -- the equations of Fix(H) vanish exactly on Fix(H)
  pub fix-vanishes : (h : List ℕ) (rs : List (ℕ × (ℕ → Value f))) → IsFixForm f.laws act h rs → AreSame (IsInSpace f.laws act.dim rs) (Fix f.laws act h)
  fix-vanishes h rs e v = (
    λ k. member-fixed (IsFixed f.laws act) h v (λ q m i l. (mover-row f act q i v l).0
        (span-least f.laws (λ y. dot f.laws act.dim y v ≡ f.laws.nought) (vanish-subspace f.laws act.dim v) (row_vectors rs) k (mover f.laws act q i)
        (mover-spans q h rs e (λ w a. fixed-member (IsFixed f.laws act) h w q a m) i l))),
    λ a. rows-mono f.laws (IsInSpan f.laws (row_vectors rs)) (λ y. dot f.laws act.dim y v ≡ f.laws.nought) (λ x g. ((e.spans x).0 g).1 v a) (row_vectors rs) (span-rows f.laws (row_vectors rs)),
  )

  pub fix-form-same : (h k : List ℕ) (rs : List (ℕ × (ℕ → Value f))) → AreSame (Fix f.laws act h) (Fix f.laws act k) → IsFixForm f.laws act h rs → IsFixForm f.laws act k rs
  fix-form-same h k rs e r = record {
    form = r.form;
    spans = λ x. (
      λ g. let t = (r.spans x).0 g in (t.0, λ v a. t.1 v ((e v).1 a)),
      λ t. (r.spans x).1 (t.0, λ v a. t.1 v ((e v).0 a)),
    );
  }

  -- a form that vanishes exactly on Fix(H) is its equations
  pub fix-form : (h : List ℕ) (rs : List (ℕ × (ℕ → Value f))) → IsForm f.laws act.dim rs → AreSame (IsInSpace f.laws act.dim rs) (Fix f.laws act h) → IsFixForm f.laws act h rs
  fix-form h rs = form-equations f.laws act.dim (Fix f.laws act h) rs

  -- two lists have one Fix exactly where they have the same equations
  pub fix-same : (h k : List ℕ) (rs ss : List (ℕ × (ℕ → Value f))) → IsFixForm f.laws act h rs → IsFixForm f.laws act k ss →
      (rs ≡ ss) ↔ AreSame (Fix f.laws act h) (Fix f.laws act k)
  fix-same h k rs ss r s = (
    λ e v. (
      λ a. (fix-vanishes k ss s v).0 (subst (λ (z : List (ℕ × (ℕ → Value f))). IsInSpace f.laws act.dim z v) e ((fix-vanishes h rs r v).1 a)),
      λ a. (fix-vanishes h rs r v).0 (subst (λ (z : List (ℕ × (ℕ → Value f))). IsInSpace f.laws act.dim z v) (sym e) ((fix-vanishes k ss s v).1 a)),
    ),
    λ e. equations-unique f.laws act.dim (Fix f.laws act k) rs ss (fix-form-same h k rs e r) s,
  )

  -- a form that vanishes where the equations of Fix(q) and of Fix(H) do is the equations of Fix(q and H)
  pub meet-form : (h : List ℕ) (q : ℕ) (us es new : List (ℕ × (ℕ → Value f))) → IsFixForm f.laws act h us → IsFixForm f.laws act (q ∷ []) es → IsForm f.laws act.dim new →
      ((v : ℕ → Value f) → IsInSpace f.laws act.dim new v ↔ (IsInSpace f.laws act.dim es v × IsInSpace f.laws act.dim us v)) → IsFixForm f.laws act (q ∷ h) new
  meet-form h q us es new u e r cut =
      fix-form (q ∷ h) new r (λ v. (
        λ k. let both = (cut v).0 k in (((fix-vanishes (q ∷ []) es e v).0 both.0).0, (fix-vanishes h us u v).0 both.1),
        λ a. (cut v).1 ((fix-vanishes (q ∷ []) es e v).1 (a.0, tt), (fix-vanishes h us u v).1 a.1),
      ))

  -- a form that vanishes where each row of A(q) - 1 does is the equations of Fix(q)
  pub single-form : (q : ℕ) (rs : List (ℕ × (ℕ → Value f))) → IsForm f.laws act.dim rs →
      ((v : ℕ → Value f) → IsInSpace f.laws act.dim rs v ↔ ((i : ℕ) → i < act.dim → dot f.laws act.dim (mover f.laws act q i) v ≡ f.laws.nought)) → IsFixForm f.laws act (q ∷ []) rs
  single-form q rs r e =
      fix-form (q ∷ []) rs r (λ v. (
        λ k. (λ i l. (mover-row f act q i v l).0 ((e v).0 k i l), tt),
        λ a. (e v).1 (λ i l. (mover-row f act q i v l).1 (a.0 i l)),
      ))

  -- n held forms leave no more than n distinct Fix(H)
  pub not-more : (forms : List (List (ℕ × (ℕ → Value f)))) (n : ℕ) → HoldsFixes f.laws act forms → length forms ≤ n → AreMoreFixes f.laws act n → ⊥
  not-more forms n a l m =
      let found : (i : ℕ) → i < suc n → (k : ℕ) × (k < length forms) × IsFixForm f.laws act (m.0 i) (form_at forms k) = λ i b. a.each (m.0 i) (m.1 i (omega arith)) in
      let apart : (i j : ℕ) (b : i < suc n) (d : j < suc n) → i < j → (found i b).0 ≡ (found j d).0 → ⊥ =
      λ i j b d g e.
      m.2 i j g (omega arith) ((fix-same (m.0 i) (m.0 j) (form_at forms (found i b).0) (form_at forms (found j d).0) (found i b).2 (found j d).2).0 (ap (form_at forms) e)) in
      let few : suc n ≤ n =
      pigeonhole (suc n) n (λ i b. (found i b).0) (λ i b. let g = (found i b).1 in omega arith)
      (λ i j b d e. elim (order i j) [ inl g ↦ absurd (apart i j b d g e) | inr r ↦ elim r [ inl g ↦ absurd (apart j i d b g (sym e)) | inr s ↦ s ] ]) in
      absurd (omega arith)

  -- n + 1 different forms, each the equations of some Fix(H), show more than n
  pub are-more : (form : ℕ → List (ℕ × (ℕ → Value f))) (n : ℕ) →
      ((i : ℕ) → i < suc n → (h : List ℕ) × (AllBelow act.group.order h × IsFixForm f.laws act h (form i))) →
      ((i j : ℕ) → i < j → j < suc n → form i ≡ form j → ⊥) → AreMoreFixes f.laws act n
  are-more form n a once =
      let Q : ℕ → List ℕ → Type 0 = λ i h. AllBelow act.group.order h × IsFixForm f.laws act h (form i) in
      let h : ℕ → List ℕ = λ i. choose [] Q (suc n) i a (dec i (suc n)) in
      let has : (i : ℕ) → i < suc n → Q i (h i) = λ i l. choose-has [] Q (suc n) i a (dec i (suc n)) l in (
        h,
        λ i l. (has i (omega arith)).0,
        λ i j g l e.
            let jl : j < suc n = omega arith in
            let il : i < suc n = omega arith in
            once i j g jl ((fix-same (h i) (h j) (form i) (form j) (has i il).1 (has j jl).1).1 e),
      )

  single-same : (p q : ℕ) → AreSame (IsFixed f.laws act p) (IsFixed f.laws act q) → AreSame (Fix f.laws act (p ∷ [])) (Fix f.laws act (q ∷ []))
  single-same p q e v = (λ a. ((e v).0 a.0, tt), λ a. ((e v).1 a.0, tt))

  -- n + 1 different forms, each the equations of some Fix(q), show more than n single ones
  pub singles-more : (form : ℕ → List (ℕ × (ℕ → Value f))) (n : ℕ) →
      ((i : ℕ) → i < suc n → (q : ℕ) × ((q < act.group.order) × IsFixForm f.laws act (q ∷ []) (form i))) →
      ((i j : ℕ) → i < j → j < suc n → form i ≡ form j → ⊥) → AreMoreSingles f.laws act n
  singles-more form n a once =
      let Q : ℕ → ℕ → Type 0 = λ i q. (q < act.group.order) × IsFixForm f.laws act (q ∷ []) (form i) in
      let q : ℕ → ℕ = λ i. choose 0 Q (suc n) i a (dec i (suc n)) in
      let has : (i : ℕ) → i < suc n → Q i (q i) = λ i l. choose-has 0 Q (suc n) i a (dec i (suc n)) l in (
        q,
        λ i l. (has i (omega arith)).0,
        λ i j g l e.
            let jl : j < suc n = omega arith in
            let il : i < suc n = omega arith in
            once i j g jl ((fix-same (q i ∷ []) (q j ∷ []) (form i) (form j) (has i il).1 (has j jl).1).1 (single-same (q i) (q j) e)),
      )

  -- the stabiliser of a vector as a list
  stab-list : (v : ℕ → Value f) (n : ℕ) → n ≤ act.group.order → (s : List ℕ) × AllBelow act.group.order s × ((q : ℕ) → IsIn q s ↔ ((q < n) × IsFixed f.laws act q v))
  stab-list v zero l = ([], tt, λ q. (λ m. absurd m, λ a. let g = a.0 in absurd (omega arith)))
  stab-list v (suc n) l =
      let old = stab-list v n (omega arith) in
      let below : n < act.group.order = omega arith in
      elim (fixed-or f act n v) [
        | inl y ↦ (
          n ∷ old.0,
          (below, old.1),
          λ q. (
            λ m. elim m [ inl e ↦ (omega arith, subst (λ (z : ℕ). IsFixed f.laws act z v) (sym e) y) | inr k ↦ let t = (old.2 q).0 k in let g = t.0 in (omega arith, t.1) ],
            λ a. elim (lower q n a.0) [ inl b ↦ inr ((old.2 q).1 (b, a.1)) | inr e ↦ inl e ],
          ),
        )
        | inr y ↦ (
          old.0,
          old.1,
          λ q. (
            λ m. let t = (old.2 q).0 m in let g = t.0 in (omega arith, t.1),
            λ a. elim (lower q n a.0) [ inl b ↦ (old.2 q).1 (b, a.1) | inr e ↦ absurd (y (subst (λ (z : ℕ). IsFixed f.laws act z v) e a.1)) ],
          ),
        )
      ]

  -- each vector has the pointwise stabiliser of one held space
  pub vector-space : (forms : List (List (ℕ × (ℕ → Value f)))) → HoldsFixes f.laws act forms → (v : ℕ → Value f) →
      (i : ℕ) × (i < length forms) × HasStabiliserOf f.laws act (form_at forms i) v
  vector-space forms a v =
      let s = stab-list v act.group.order (omega arith) in
      let t = a.each s.0 s.1 in
      let g : (q : ℕ) → q < act.group.order → FixesAll (IsFixed f.laws act) (Fix f.laws act s.0) q ↔ IsFixed f.laws act q v =
      stab-fix-stab (IsFixed f.laws act) v s.0 (λ q. q < act.group.order) (λ q m. ((s.2 q).0 m).1) (λ q b h. (s.2 q).1 (b, h)) in (
        t.0,
        t.1,
        λ q b. (
          λ k. (g q b).0 (λ w z. k w ((fix-vanishes s.0 (form_at forms t.0) t.2 w).1 z)),
          λ h w k. (g q b).1 h w ((fix-vanishes s.0 (form_at forms t.0) t.2 w).0 k),
        ),
      )

  -- the pointwise stabiliser of each held space is the stabiliser of one of its vectors
  pub space-vector : (forms : List (List (ℕ × (ℕ → Value f)))) → HoldsFixes f.laws act forms →
      (i : ℕ) → i < length forms → (v : ℕ → Value f) × IsInSpace f.laws act.dim (form_at forms i) v × HasStabiliserOf f.laws act (form_at forms i) v
  space-vector forms a i l = form-stabiliser f act (form_at forms i) (a.only i l).2.form
