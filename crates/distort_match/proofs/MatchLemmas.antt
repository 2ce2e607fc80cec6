-- Why a match is refused, by its steps.
use Rattle.std.proofs.Common.{ℕ, ◌<◌, ◌≤◌, ◌*◌, ℤ, pos, ◌≤ℤ◌, ◌<ℤ◌, List, [], length, Option, slice_index_or, arith}
use Rattle.std.proofs.lemmas.Int.{ints}
use Rattle.space_ops.specs.Op.{IsWithin, IsShiftWithin}
use Rattle.super_group.specs.Supercell.{multiplier}
use Rattle.super_group.specs.Quotient.{SupercellGroup, IsQuotient}
use Rattle.distort_match.specs.declared.errors.MatchError.{MatchError}
use Rattle.distort_match.specs.declared.errors.MatchError.TheVariants.{Unmatched, Ambiguous, MissingAtom, BadCell, OffGrid, NoMemory}
use Rattle.distort_match.specs.Matches.{Matching}
use Rattle.distort_match.specs.Outcomes.{IsMatchCause}
use Rattle.distort_match.specs.MarkParts.{AreMarked, IsMissingCause}
use Rattle.distort_match.specs.CellPieces.{IsFrameCause}
use Rattle.distort_match.proofs.FinishLemmas.{first_missing}

module _ (m : Matching) where
  pub frame_refused : (error : MatchError) → IsFrameCause m.group m.cell error → IsMatchCause m error
  frame_refused (BadCell l) h = h
  frame_refused NoMemory h = tt
  frame_refused (Unmatched l) h = absurd h
  frame_refused (Ambiguous l) h = absurd h
  frame_refused (MissingAtom l v) h = absurd h
  frame_refused (OffGrid l) h = absurd h

  pub missing_refused : (marks : List (List (Option (List ℤ)))) → AreMarked m (length m.listed) 0 marks → (error : MatchError) → IsMissingCause m.orbits marks error → IsMatchCause m error
  missing_refused marks a (MissingAtom l v) h = first_missing m marks a l v h
  missing_refused marks a NoMemory h = tt
  missing_refused marks a (Unmatched l) h = absurd h
  missing_refused marks a (Ambiguous l) h = absurd h
  missing_refused marks a (BadCell l) h = absurd h
  missing_refused marks a (OffGrid l) h = absurd h

-- a translation inside the supercell has at most 144 twelfths
inside_near : (m : ℕ) (x : ℤ) → m ≤ 12 → (pos 0 ≤ℤ x) × (x <ℤ pos (12 * m)) → IsWithin 144 x
inside_near m x l h = (omega (arith, ints, h.0), omega (arith, ints, h.1, l))

pub translation_near : (s : SupercellGroup) → IsQuotient s → (t : ℕ) → t < length s.translations → IsShiftWithin 144 (slice_index_or s.translations t [])
translation_near s q t l =
    let h = q.translations.inside t l in
    (inside_near (multiplier s.d 0) _ (q.supercell.few 0 (omega arith)) h.0, inside_near (multiplier s.d 1) _ (q.supercell.few 1 (omega arith)) h.1, inside_near (multiplier s.d 2) _ (q.supercell.few 2 (omega arith)) h.2)
