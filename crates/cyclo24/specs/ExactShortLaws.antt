-- What follows for each short type from the laws of K24.
--
-- answered_exact, answered_wide: an answer by the numbers of the exact result
-- wide_err, wide_some: where it is refused; never: what isn't so; held_by: what is short and rational
use Rattle.std.proofs.Common.{◌≡◌, refl, sym, ap, ◌∙◌, subst, ℤ, List, Bool, true, false, Result, Ok, Err}
use Rattle.std.specs.Prelude.{◌↔◌, ◌&&◌, IfOk, IsErr, IsNone, IsTrue, is_err, is_some, Option, Some}
use Rattle.cyclo24.specs.declared.field.Wide.{Wide}
use Rattle.cyclo24.specs.ListedLaws.{same_exact}
use Rattle.cyclo24.specs.ExactK24.{Exact24}
use Rattle.cyclo24.specs.Long.{is_long}

pub answered_exact : {A : Type 0} (exact : A → Exact24) (r : Result A Wide) (xs : List ℤ) (v : Exact24) → xs ≡ v.0 → IfOk r (λ s. (exact s).0 ≡ xs) → IfOk r (λ s. exact s ≡ v)
answered_exact exact (Ok s) xs v e h = same_exact (exact s) v (h ∙ e)
answered_exact exact (Err w) xs v e h = h

pub answered_wide : {A : Type 0} (r : Result A Wide) (xs : List ℤ) (v : Exact24) → xs ≡ v.0 → (IsErr r ↔ IsTrue (is_long xs)) → IsErr r ↔ IsTrue (is_long v.0)
answered_wide r xs v e h = subst (λ ys. IsErr r ↔ IsTrue (is_long ys)) e h

apart : {c : Bool} → c ≡ true → c ≡ false → ⊥
apart p q = cc

pub wide_err : {A : Type 0} (r : Result A Wide) (w : Wide) (b : Bool) → (IsErr r ↔ IsTrue b) → r ≡ Err w → b ≡ true
wide_err r w b h e = h.0 (ap is_err e)

pub wide_some : {A : Type 0} (r : Option A) (x : A) (b : Bool) → (IsNone r ↔ IsTrue b) → r ≡ Some x → b ≡ false
wide_some r x true h e = absurd (apart (ap is_some e) (h.1 refl))
wide_some r x false h e = refl

pub never : (b : Bool) (P : Type 0) → b ≡ true → b ≡ false → P
never b P e f = absurd (apart e f)

pub held_by : (short rational : Bool) (N : Type 0) → short ≡ true → (N ↔ (rational ≡ false)) → N ↔ ((short && rational) ≡ false)
held_by short rational N e h = subst (λ b. N ↔ ((b && rational) ≡ false)) (sym e) h
