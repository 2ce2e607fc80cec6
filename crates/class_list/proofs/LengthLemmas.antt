-- Conjugate held spaces have as many equations.
use Rattle.std.proofs.Common.{◌≡◌, ℕ, ◌<◌, List, length, sym}
use Rattle.cyclo24.specs.ExactField.{ExactField, Value}
use Rattle.lin_alg.specs.Action.{Action, IsAction}
use Rattle.lin_alg.specs.Equations.{Vanishes}
use Rattle.lin_alg.specs.Images.{moves_of}
use Rattle.lin_alg.specs.ImageLaws.{are-moves, fixes-fixed}
use Rattle.lin_alg.specs.LengthLaws.{conjugate-length}
use Rattle.lin_alg.specs.Moves.{FixOf}
use Rattle.lin_alg.specs.MoveLaws.{fix-conjugate}
use Rattle.lin_alg.specs.Spans.{row_vectors, AreSame}
use Rattle.fix_lattice.specs.Lattice.{form_at, HoldsFixes}
use Rattle.fix_lattice.specs.Classes.{IsImageForm}
use Rattle.class_list.proofs.GroupLemmas.{Conjugates}
use Rattle.class_list.proofs.SpaceLemmas.{Keeps, keeps-closed}

module _ (f : ExactField) (act : Action) (law : IsAction f.laws act) (forms : List (List (ℕ × (ℕ → Value f)))) (holds : HoldsFixes f.laws act forms) where
  closed-fix : (j : ℕ) → j < length forms → AreSame (Vanishes f.laws act.dim (row_vectors (form_at forms j))) (FixOf (moves_of f.laws act) (Keeps f act (form_at forms j)))
  closed-fix j l v =
      let b = holds.only j l in
      let t = keeps-closed f act b.0 (form_at forms j) b.1 b.2 v in (
        λ h a m k. (fixes-fixed f act a v).1 ((t.0 h) a m k),
        λ h. t.1 (λ a m k. (fixes-fixed f act a v).0 (h a m k)),
      )

  conjugate-image : (q i j : ℕ) → q < act.group.order → i < length forms → j < length forms → Conjugates act.group law.group q (Keeps f act (form_at forms i)) (Keeps f act (form_at forms j)) →
      IsImageForm f.laws act q (form_at forms i) (form_at forms j)
  conjugate-image q i j l m k c v =
      let g = moves_of f.laws act in
      let t = fix-conjugate g (are-moves f act law) q (Keeps f act (form_at forms i)) (Keeps f act (form_at forms j)) l c v in
      let a = closed-fix j k v in
      let b = closed-fix i m (g.move (act.group.inverse q) v) in
      (λ h. b.1 (t.0 (a.0 h)), λ h. a.1 (t.1 (b.0 h)))

  -- conjugate held spaces have as many equations
  pub held-length : (q i j : ℕ) → q < act.group.order → i < length forms → j < length forms → Conjugates act.group law.group q (Keeps f act (form_at forms i)) (Keeps f act (form_at forms j)) →
      length (form_at forms i) ≡ length (form_at forms j)
  held-length q i j l m k c =
      sym (conjugate-length f act law q l (form_at forms i) (form_at forms j) (holds.only i m).2.form (holds.only j k).2.form (conjugate-image q i j l m k c))
