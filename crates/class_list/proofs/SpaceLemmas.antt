-- Held fixed subspaces and their pointwise stabilisers.
use Rattle.std.proofs.Common.{◌≡◌, ◌↔◌, ℕ, ◌<◌, inl, inr, List, [], ◌∷◌, length, Contains, sym, arith}
use Rattle.algebra.specs.NumberedGroup.{AllBelow}
use Rattle.cyclo24.specs.ExactField.{ExactField, Value}
use Rattle.lin_alg.specs.Action.{Action, IsAction, IsFixed}
use Rattle.lin_alg.specs.Equations.{Vanishes}
use Rattle.lin_alg.specs.Fixed.{FixesAll, Fix, IsFixForm, IsIn}
use Rattle.lin_alg.specs.FixedLaws.{member-fixed, fixed-member}
use Rattle.lin_alg.specs.FormLaws.{form-unique, equations-unique}
use Rattle.lin_alg.specs.Images.{moves_of}
use Rattle.lin_alg.specs.ImageLaws.{are-moves, fixes-fixed}
use Rattle.lin_alg.specs.Moves.{moved}
use Rattle.lin_alg.specs.MoveLaws.{stab-moved, stab-same}
use Rattle.lin_alg.specs.Spans.{row_vectors, AreSame}
use Rattle.fix_lattice.specs.Lattice.{form_at, HoldsFixes}
use Rattle.fix_lattice.specs.LatticeLaws.{fix-vanishes}
use Rattle.class_list.specs.Directions.{Direction, IsDirection}
use Rattle.fix_lattice.specs.Classes.{IsImageForm}
use Rattle.class_list.specs.Stabilisers.{IsInFixedSpace, conjugate}
use Rattle.class_list.proofs.GroupLemmas.{Conjugates}
use Rattle.class_list.proofs.NumberLemmas.{order_of}

pub in-below : (n : ℕ) (h : List ℕ) (q : ℕ) → AllBelow n h → IsIn q h → q < n
in-below n [] q a m = absurd m
in-below n (p ∷ h) q a m = elim m [ inl e ↦ let l : p < n = a.0 in omega arith | inr k ↦ in-below n h q a.1 k ]

module _ (f : ExactField) (act : Action) where
  -- q leaves all on which the rows vanish as it is
  abbrev pub Keeps : List (ℕ × (ℕ → Value f)) → ℕ → Type 0
  Keeps rs q = FixesAll (IsFixed f.laws act) (Vanishes f.laws act.dim (row_vectors rs)) q

  -- the equations of Fix(H) vanish exactly where each element that keeps their space leaves the vector as it is
  pub keeps-closed : (h : List ℕ) (rs : List (ℕ × (ℕ → Value f))) → AllBelow act.group.order h → IsFixForm f.laws act h rs →
      (v : ℕ → Value f) → Vanishes f.laws act.dim (row_vectors rs) v ↔ ((q : ℕ) → q < act.group.order → Keeps rs q → IsFixed f.laws act q v)
  keeps-closed h rs b r v = (
    λ k q l a. a v k,
    λ a. (fix-vanishes f act h rs r v).1 (member-fixed (IsFixed f.laws act) h v (λ q m. a q (in-below act.group.order h q b m)
        (λ w k. fixed-member (IsFixed f.laws act) h w q ((fix-vanishes f act h rs r w).0 k) m))),
  )

  module _ (law : IsAction f.laws act) where
    -- the elements that keep an image are conjugate to those that keep the space
    pub image-conjugates : (q : ℕ) (us xs : List (ℕ × (ℕ → Value f))) → q < act.group.order → IsImageForm f.laws act q us xs → Conjugates act.group law.group q (Keeps us) (Keeps xs)
    image-conjugates q us xs l e a m =
        let g = moves_of f.laws act in
        let U : (ℕ → Value f) → Type 0 = Vanishes f.laws act.dim (row_vectors us) in
        let X : (ℕ → Value f) → Type 0 = Vanishes f.laws act.dim (row_vectors xs) in
        let one = stab-moved g (are-moves f act law) q U l a m in
        let two = stab-same g (are-moves f act law) X (moved g q U) e (conjugate act.group q a) in (
          λ h v k. (fixes-fixed f act (conjugate act.group q a) v).0 (two.1 (one.0 (λ w u. (fixes-fixed f act a w).1 (h w u))) v k),
          λ h v k. (fixes-fixed f act a v).0 (one.1 (two.0 (λ w u. (fixes-fixed f act (conjugate act.group q a) w).1 (h w u))) v k),
        )

  module _ (forms : List (List (ℕ × (ℕ → Value f)))) (holds : HoldsFixes f.laws act forms) where
    -- a held space is known by the elements that keep it
    pub keeps-apart : (i j : ℕ) → i < length forms → j < length forms → ((q : ℕ) → q < act.group.order → Keeps (form_at forms i) q ↔ Keeps (form_at forms j) q) → i ≡ j
    keeps-apart i j l m e =
        let a = holds.only i l in
        let b = holds.only j m in
        let same : form_at forms i ≡ form_at forms j =
        form-unique f.laws act.dim (form_at forms i) (form_at forms j) a.2.form b.2.form (λ v. (
          λ k. (keeps-closed b.0 (form_at forms j) b.1 b.2 v).1 (λ q n h. (e q n).1 h v k),
          λ k. (keeps-closed a.0 (form_at forms i) a.1 a.2 v).1 (λ q n h. (e q n).0 h v k),
        )) in
        elim (order_of i j) [
          | inl n ↦ absurd (holds.once i j n m same)
          | inr (inl n) ↦ n
          | inr (inr n) ↦ absurd (holds.once j i n l (sym same))
        ]

    -- the equations of a direction are those of the held space that its stabiliser keeps
    pub direction-form : (d : Direction (Value f)) (j : ℕ) → j < length forms → IsDirection f.laws act d → ((q : ℕ) → Contains d.stabiliser q → q < act.group.order) →
        ((q : ℕ) → q < act.group.order → Keeps (form_at forms j) q ↔ Contains d.stabiliser q) → d.equations ≡ form_at forms j
    direction-form d j l h below e =
        let b = holds.only j l in
        let same : AreSame (IsInFixedSpace f.laws act d.stabiliser) (Fix f.laws act b.0) =
        λ v. (
          λ k. (fix-vanishes f act b.0 (form_at forms j) b.2 v).0 ((keeps-closed b.0 (form_at forms j) b.1 b.2 v).1 (λ q n a. k q ((e q n).0 a))),
          λ k q c. (e q (below q c)).1 c v ((fix-vanishes f act b.0 (form_at forms j) b.2 v).1 k),
        ) in
        let r : IsFixForm f.laws act b.0 d.equations = record {
          form = h.equations.form;
          spans = λ x. (
            λ g. let t = (h.equations.spans x).0 g in (t.0, λ v a. t.1 v ((same v).1 a)),
            λ t. (h.equations.spans x).1 (t.0, λ v a. t.1 v ((same v).0 a)),
          );
        } in
        equations-unique f.laws act.dim (Fix f.laws act b.0) d.equations (form_at forms j) r b.2
