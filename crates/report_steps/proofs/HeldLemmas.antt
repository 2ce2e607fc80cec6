-- What the program holds of the irreps of a file behind each step.
use Rattle.std.proofs.Common.{◌≡◌, refl, sym, ap, subst, ℕ, ◌<◌, ◌≤◌, List, get_or}
use Rattle.std.proofs.lemmas.List.{get_or_default}
use Rattle.std.specs.Prelude.{All}
use Rattle.iso_text.specs.FileValue.{File}
use Rattle.iso_text.specs.Ranges.{IsBlock}
use Rattle.iso_text.specs.declared.sections.IrrepText.{IrrepText}
use Rattle.space_ops.specs.Group.{Parent}
use Rattle.kstar.specs.Star.{WaveStar}
use Rattle.super_group.specs.Multipliers.{AreMultipliers}
use Rattle.super_group.specs.Quotient.{SupercellGroup, IsQuotient, order_in}
use Rattle.induce.specs.CellPhase.{IsWholeOn}
use Rattle.small_rep.specs.Rep.{matrices_of}
use Rattle.induce.specs.InducedView.{InducedView, star_in}
use Rattle.induce.specs.Tables.{matrices_in}
use Rattle.induce.specs.CellPhaseLaws.{multipliers-whole, arms-whole}
use Rattle.report_steps.specs.declared.refusal.Refusal.TheVariants as refusal
use Rattle.report_steps.specs.declared.context.AcceptedRep.{AcceptedRep}
use Rattle.report_steps.specs.declared.refusal.Refusal.{Refusal}
use Rattle.report_steps.specs.Contexts.{Divided}
use Rattle.report_steps.specs.Held.{IsStarHeld, IsCellHeld, IsRepHeld, IsInducedHeld}
use Rattle.report_steps.specs.Irreps.{row_of_irrep, HasPhase, HasRep, RefusesRep, IsWideRep, HasInduced, RefusesInduced, IsWideInducedRep}
use Rattle.report_steps.specs.IrrepSteps.{IsFirstRefused, IsWideAmong, Each}
use Rattle.report_steps.specs.Stages.{RefusesOrder, IsDivided, RefusesReps, AreWideReps, RefusesDimensions, AreWideInduced}
use Rattle.report_steps.specs.Steps.{OrWide}
use Rattle.report_steps.proofs.EachLemmas.{each-all, each-with}
use Rattle.report_steps.proofs.WaveLemmas.{dens_of, has-denominators}
use Rattle.report_steps.specs.WaveLaws.{wave_of, wave-vector}

pub stars-blocks : (p : Parent) (irreps : List IrrepText) (stars : List WaveStar) → Each (IsStarHeld p) irreps stars → All IsBlock irreps
stars-blocks p irreps stars h = each-all (IsStarHeld p) IsBlock irreps stars (λ i s k. k.block) h

pub stars-phases : (p : Parent) (irreps : List IrrepText) (stars : List WaveStar) → Each (IsStarHeld p) irreps stars → All (HasPhase p) irreps
stars-phases p irreps stars h = each-all (IsStarHeld p) (HasPhase p) irreps stars (λ i s k. k.phases) h

-- each wave vector is whole on the supercell of the multipliers
whole-rows : (p : Parent) (d : List ℕ) (irreps : List IrrepText) → AreMultipliers p.ops (dens_of irreps) d → All IsBlock irreps → All (λ i. IsWholeOn d (row_of_irrep i)) irreps
whole-rows p d irreps m b k e l =
    let i = get_or irreps k e in
    let same : get_or irreps k i ≡ i = get_or_default irreps k i e l in
    multipliers-whole p.ops (dens_of irreps) d m k (wave_of i) (wave-vector i (b k e l)) (has-denominators irreps k i l same (b k e l))

cell-held : (q : SupercellGroup) → IsQuotient q → (i : IrrepText) (s : WaveStar) → IsWholeOn q.d (row_of_irrep i) → IsStarHeld q.parent i s → IsCellHeld q i s
cell-held q h i s w k = record { held = k; cells = arms-whole q.parent h.parent q.d h.supercell (row_of_irrep i) s k.star w }

cells-held : (q : SupercellGroup) → IsQuotient q → (irreps : List IrrepText) (stars : List WaveStar) → AreMultipliers q.parent.ops (dens_of irreps) q.d
    → Each (IsStarHeld q.parent) irreps stars → Each (IsCellHeld q) irreps stars
cells-held q h irreps stars m held =
    each-with (IsStarHeld q.parent) (IsCellHeld q) (λ i. IsWholeOn q.d (row_of_irrep i)) irreps stars (cell-held q h) (whole-rows q.parent q.d irreps m (stars-blocks q.parent irreps stars held)) held

-- the quotient by multipliers is too large
pub is-too-large : (file : File) (group : Parent) (dens : List (List ℕ)) (d : List ℕ) (order : ℕ) → dens ≡ dens_of file.irreps → AreMultipliers group.ops dens d → order ≡ order_in group d → 6144 < order
    → RefusesOrder (record { file = file; parent = group }) (refusal.TooLargeGroup order)
is-too-large file group dens d order listed m e l =
    (d, subst (λ (ds : List (List ℕ)). AreMultipliers group.ops ds d) listed m, subst (λ n. 6144 < n) e l, ap (λ n. refusal.TooLargeGroup n) e)

-- a quotient by the multipliers of the denominators
module _ (file : File) (group : Parent) (dens : List (List ℕ)) (d : List ℕ) (q : SupercellGroup) (listed : dens ≡ dens_of file.irreps) (m : AreMultipliers group.ops dens d)
    (parent : q.parent ≡ group) (multipliers : q.d ≡ d) (quotient : IsQuotient q) where
  same-multipliers : AreMultipliers group.ops (dens_of file.irreps) q.d
  same-multipliers = subst (λ (x : List ℕ). AreMultipliers group.ops (dens_of file.irreps) x) (sym multipliers) (subst (λ (ds : List (List ℕ)). AreMultipliers group.ops ds d) listed m)

  pub is-divided : order_in group d ≤ 6144 → IsDivided (record { file = file; parent = group }) (record { file = file; quotient = q })
  is-divided small = record {
    quotient = quotient;
    parent_is = parent;
    multipliers = same-multipliers;
    small = subst (λ (x : List ℕ). order_in group x ≤ 6144) (sym multipliers) small;
    file_is = refl;
  }

  pub are-celled : (stars : List WaveStar) → Each (IsStarHeld group) file.irreps stars → Each (IsCellHeld q) file.irreps stars
  are-celled stars held =
      cells-held q quotient file.irreps stars (subst (λ (g : Parent). AreMultipliers g.ops (dens_of file.irreps) q.d) (sym parent) same-multipliers)
      (subst (λ (g : Parent). Each (IsStarHeld g) file.irreps stars) (sym parent) held)

-- ---- the small representations, and what they induce

pub reps-given : (q : SupercellGroup) (irreps : List IrrepText) (reps : List AcceptedRep) → Each (IsRepHeld q) irreps reps → All (HasRep q.parent) irreps
reps-given q irreps reps h = each-all (IsRepHeld q) (HasRep q.parent) irreps reps (λ i a k. (a.star, matrices_of a.rep.rep, k.rep.rep)) h

pub induced-given : (q : SupercellGroup) (irreps : List IrrepText) (all : List InducedView) → Each (IsInducedHeld q) irreps all → All (HasInduced q) irreps
induced-given q irreps all h = each-all (IsInducedHeld q) (HasInduced q) irreps all (λ i v k. (star_in v, matrices_in v.tables, k.inducible)) h

-- the answers for the quotient and the irreps of a file are those for the file
module _ (d : Divided) (q : SupercellGroup) (irreps : List IrrepText) (e : q ≡ d.quotient) (h : irreps ≡ d.file.irreps) (r : Refusal) where
  pub reps-refused : OrWide (IsFirstRefused (HasRep q.parent) (RefusesRep q.parent)) (IsWideAmong (IsWideRep q.parent)) irreps r → OrWide RefusesReps AreWideReps d r
  reps-refused w =
      let P : SupercellGroup → Type 0 = λ x. OrWide (IsFirstRefused (HasRep x.parent) (RefusesRep x.parent)) (IsWideAmong (IsWideRep x.parent)) irreps r in
      let Q : List IrrepText → Type 0 = λ xs. OrWide (IsFirstRefused (HasRep d.quotient.parent) (RefusesRep d.quotient.parent)) (IsWideAmong (IsWideRep d.quotient.parent)) xs r in
      subst Q h (subst P e w)

  pub induced-refused : OrWide (IsFirstRefused (HasInduced q) (RefusesInduced q)) (IsWideAmong (IsWideInducedRep q)) irreps r → OrWide RefusesDimensions AreWideInduced d r
  induced-refused w =
      let P : SupercellGroup → Type 0 = λ x. OrWide (IsFirstRefused (HasInduced x) (RefusesInduced x)) (IsWideAmong (IsWideInducedRep x)) irreps r in
      let Q : List IrrepText → Type 0 = λ xs. OrWide (IsFirstRefused (HasInduced d.quotient) (RefusesInduced d.quotient)) (IsWideAmong (IsWideInducedRep d.quotient)) xs r in
      subst Q h (subst P e w)
