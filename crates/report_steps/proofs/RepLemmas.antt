-- The small representation of an irrep, or why there is none.
use Rattle.std.proofs.Common.{◌≡◌, sym, ap, ◌∙◌, subst, inl, inr, Result, Ok, Err, IfOk, IfErr}
use Rattle.iso_text.specs.declared.sections.IrrepText.{IrrepText}
use Rattle.space_ops.specs.Group.{Parent}
use Rattle.kstar.specs.Star.{WaveStar, IsStarOf}
use Rattle.small_rep.specs.declared.errors.RepError.{RepError}
use Rattle.small_rep.specs.Check.{IsCheckCause}
use Rattle.small_rep.specs.Reading.{AreReadFrom}
use Rattle.small_rep.specs.Rep.{RepView, matrices_of, IsRepOf}
use Rattle.small_rep.specs.RepCheck.{CheckedView}
use Rattle.small_rep.specs.SmallRep.{IsSmallRep}
use Rattle.report_steps.specs.declared.refusal.Refusal.{Refusal}
use Rattle.report_steps.specs.Held.{IsRepOfLines}
use Rattle.report_steps.specs.Irreps.{row_of_irrep, IsRepresented, IsRefusalOf, IsRepCause, RefusesRep, IsWideRep}
use Rattle.report_steps.specs.Steps.{OrWide}

module _ (p : Parent) (i : IrrepText) (s : WaveStar) (star : IsStarOf p (row_of_irrep i) s) (v : RepView) (size : v.size ≡ i.size) (read : AreReadFrom p s i.size i.mats (matrices_of v)) where
  -- a representation that the check accepts
  pub rep-accepted : {E : Type 0} (r : Result CheckedView E) → IsRepOf p s v → IfOk r (λ c. c.rep ≡ v) → IfOk r (λ _. IsSmallRep p s v.size (matrices_of v)) → IfOk r (λ c. IsRepOfLines p i s c)
  rep-accepted (Err e) of same small = tt
  rep-accepted (Ok c) of same small =
      let P : RepView → Type 0 = λ x. IsRepresented p i s (matrices_of x) in
      record {
        of = subst (IsRepOf p s) (sym same) of;
        size = ap (λ (x : RepView). x.size) same ∙ size;
        rep = subst P (sym same) (record { star = star; read = read; small = subst (λ n. IsSmallRep p s n (matrices_of v)) size small });
      }

  -- or why it doesn't
  pub rep-unaccepted : {T : Type 0} (r : Result T RepError) → IfErr r (λ e. IsCheckCause p s v.size (matrices_of v) e) → IfErr r (λ e. IsRepCause p i e)
  rep-unaccepted (Ok c) h = tt
  rep-unaccepted (Err e) h = (s, star, inr (matrices_of v, read, subst (λ n. IsCheckCause p s n (matrices_of v) e) size h))

pub rep-refused : (p : Parent) (i : IrrepText) (e : RepError) (r : Refusal) → IsRepCause p i e → IsRefusalOf i.name e r → OrWide (RefusesRep p) (IsWideRep p) i r
rep-refused p i e r c (inl h) = inl (e, c, h)
rep-refused p i e r c (inr (k, h, g)) = inr (k, subst (IsRepCause p i) h c, g)
