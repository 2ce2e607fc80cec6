use Rattle.std.specs.Prelude.{pos, []}
use Rattle.std.proofs.Common.{slice_index_or}
use Rattle.iso_text.specs.RangeLaws.{AreThree-entry, AreThree-entries, IsWithin-weaker, block-denominators, denominators-entry}
use Rattle.iso_text.specs.WordRanges.{IsWithin, IsFraction}
use Rattle.iso_text.proofs.RangeLemmas.{file-in_range}
use Rattle.iso_text.proofs.range_laws.law_of_ranges.Goals as goal

pub returns-clause-files : goal.returns-clause-files
returns-clause-files c = file-in_range

pub returns-clause-rotations : goal.returns-clause-rotations
returns-clause-rotations c m n rows i j three most row_below below =
    IsWithin-weaker m n (slice_index_or (slice_index_or rows i []) j (pos 0)) most (AreThree-entries (IsWithin m) rows i j [] (pos 0) three row_below below)

pub returns-clause-vectors : goal.returns-clause-vectors
returns-clause-vectors c m n vector i three most below = IsWithin-weaker m n (slice_index_or vector i (pos 0)) most (AreThree-entry (IsWithin m) vector i (pos 0) three below)

pub returns-clause-fractions : goal.returns-clause-fractions
returns-clause-fractions c k i d = AreThree-entry IsFraction k i d

pub returns-clause-blocks : goal.returns-clause-blocks
returns-clause-blocks c = block-denominators

pub returns-clause-denominators : goal.returns-clause-denominators
returns-clause-denominators c = denominators-entry
