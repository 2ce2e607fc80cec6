-- One line, from its parts.
use Rattle.std.proofs.Common.{◌≡◌, refl, sym, ap, ◌∙◌, subst, ℕ, ◌<◌, ℤ, List, [], length, Result, Ok, Err, IfErr, IsTrue}
use Rattle.std.specs.Prelude.{slice_index_or, IsErrAnd}
use Rattle.iso_text.specs.declared.numbers.Term.{Term}
use Rattle.iso_text.specs.declared.sections.MatText.{MatText}
use Rattle.cyclo24.specs.ExactZ24.{ExactZ24, z24_laws, power, is_wide_product_z24}
use Rattle.cyclo24.specs.Terms.{terms_value}
use Rattle.lin_alg.specs.declared.errors.LinError.{LinError}
use Rattle.lin_alg.specs.declared.errors.LinError.TheVariants as lin_error
use Rattle.space_ops.specs.declared.op.Op.{Op}
use Rattle.algebra.specs.Whole.{whole}
use Rattle.space_ops.specs.Matrix.{minus_vector}
use Rattle.space_ops.specs.Seitz.{Seitz}
use Rattle.space_ops.specs.Op.{seitz_of}
use Rattle.space_ops.specs.Group.{Parent}
use Rattle.kstar.specs.WaveVector.{phase_of}
use Rattle.kstar.specs.Star.{WaveStar}
use Rattle.space_ops.specs.Member.{rest_of}
use Rattle.small_rep.specs.declared.errors.RepError.{RepError}
use Rattle.small_rep.specs.declared.errors.RepError.TheVariants.{Wide}
use Rattle.small_rep.specs.Errors.{rep_error_of}
use Rattle.small_rep.specs.SmallRep.{carried}
use Rattle.small_rep.specs.Reading.{IsWideAt}
use Rattle.small_rep.specs.LinesRead.{IsLineCause}

pub wide_at : (p : Parent) (s : WaveStar) (g : Seitz ℤ) (x : ExactZ24) (given numbers : List (List Term)) → x ≡ power (phase_of s.row (minus_vector whole (rest_of p g))) → given ≡ numbers
    → (e : ℕ) × (e < length given) × IsTrue (is_wide_product_z24 x (terms_value (slice_index_or given e []))) → IsWideAt p s g numbers
wide_at p s g x given numbers e f (k, l, t) =
    (k, subst (λ ns. k < length ns) f l, subst (λ ns. IsTrue (is_wide_product_z24 (power (phase_of s.row (minus_vector whole (rest_of p g)))) (terms_value (slice_index_or ns k [])))) f (subst (λ y. IsTrue (is_wide_product_z24 y (terms_value (slice_index_or given k [])))) e t))

pub line_cause : {T : Type 0} (p : Parent) (s : WaveStar) (m : MatText) (rotations : List ℕ) (r : Result T RepError) (e : LinError) → IsErrAnd r (λ x. x ≡ rep_error_of e)
    → (e ≡ lin_error.Wide → IsLineCause p s m rotations (Wide 0)) → IfErr r (IsLineCause p s m rotations)
line_cause p s m rotations (Err x) lin_error.Wide h f = subst (IsLineCause p s m rotations) (sym h) (f refl)
line_cause p s m rotations (Err x) lin_error.NoMemory h f = subst (IsLineCause p s m rotations) (sym h) tt
line_cause p s m rotations (Ok x) e h f = absurd h

pub carried_is : (p : Parent) (s : WaveStar) (g : Seitz ℤ) (x : ExactZ24) (given numbers : List (List Term)) (k : ℕ) → x ≡ power (phase_of s.row (minus_vector whole (rest_of p g))) → given ≡ numbers
    → z24_laws.times x (terms_value (slice_index_or given k [])) ≡ carried p s g (terms_value (slice_index_or numbers k []))
carried_is p s g x given numbers k e f = λ i. z24_laws.times (e i) (terms_value (slice_index_or (f i) k []))

pub factor_is : (p : Parent) (s : WaveStar) (o op : Op) (x : ExactZ24) → o ≡ op → x ≡ power (phase_of s.row (minus_vector whole (rest_of p (seitz_of o)))) → x ≡ power (phase_of s.row (minus_vector whole (rest_of p (seitz_of op))))
factor_is p s o op x e f = f ∙ ap (λ (y : Op). power (phase_of s.row (minus_vector whole (rest_of p (seitz_of y))))) e
