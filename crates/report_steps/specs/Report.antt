-- The texts of refusals.
--
-- irrep_words name what: what is wrong with an irrep; irreps_words name other what: with two; line_words n what: with a line
-- wanted_words wanted: a name that was asked for
-- refusal_text r: the text of a refusal; line_of r: its line on err
use Rattle.std.specs.Prelude.{ℕ, List, [], ◌++◌, Option, Some, None, codes, decimal}
use Rattle.cyclo24.specs.K24.{exact24}
use Rattle.cyclo24.specs.TextK24.{text24}
use Rattle.space_ops.specs.OpText.{text_of}
use Rattle.iso_text.specs.Lines.{line}
use Rattle.report_steps.specs.Fractions.{frac_text}
use Rattle.report_steps.specs.Places.{place_text}
use Rattle.report_steps.specs.declared.refusal.Refusal.{Refusal}
use Rattle.report_steps.specs.declared.refusal.Refusal.TheVariants as refusal

-- what is wrong with the irrep of this name
abbrev pub irrep_words : List ℕ → List ℕ → List ℕ
irrep_words name what = codes "irrep " ++ name ++ what

-- what is wrong with the irreps of these names together
abbrev pub irreps_words : List ℕ → List ℕ → List ℕ → List ℕ
irreps_words name other what = codes "irreps " ++ name ++ codes " " ++ other ++ what

-- what is wrong with the line of this number
abbrev pub line_words : ℕ → List ℕ → List ℕ
line_words n what = codes "line " ++ decimal n ++ what

-- a name that was asked for, behind a space
abbrev pub wanted_words : Option (List ℕ) → List ℕ
wanted_words None = []
wanted_words (Some name) = codes " " ++ name

-- the text of a refusal
abbrev pub refusal_text : Refusal → List ℕ
refusal_text (refusal.BadText n) = line_words n (codes ": bad text")
refusal_text (refusal.BadHall n) = line_words n (codes ": bad Hall symbol")
refusal_text (refusal.BadOperation n) = line_words n (codes ": determinant isn't 1 or -1")
refusal_text refusal.TooManyRotations = codes "too many rotations"
refusal_text refusal.ExtraTranslation = codes "extra translation"
refusal_text (refusal.BadPhase name phase) = irrep_words name (codes ": phase ") ++ frac_text phase
refusal_text (refusal.TooLargeGroup order) = codes "group order " ++ decimal order ++ codes " is past 6144"
refusal_text (refusal.NotLittle n) = line_words n (codes ": not in the little group")
refusal_text (refusal.RotationTwice n) = line_words n (codes ": rotation given twice")
refusal_text (refusal.RotationMissing name op) = irrep_words name (codes ": no matrix for ") ++ text_of op
refusal_text (refusal.NotUnit name) = irrep_words name (codes ": identity isn't the unit matrix")
refusal_text (refusal.NotMultiplying name a b) =
    irrep_words name (codes ": matrices of ") ++ text_of a ++ codes " and " ++ text_of b ++ codes " don't multiply"
refusal_text (refusal.NotIrreducible name sum count) = irrep_words name (codes ": character sum ") ++ text24 (exact24 sum) ++ codes ", not " ++ decimal count
refusal_text (refusal.TooManyDimensions name n) = irrep_words name (codes ": real dimension ") ++ decimal n ++ codes " is past 24"
refusal_text (refusal.VectorSize n given dimension) = line_words n (codes ": vector of ") ++ decimal given ++ codes " numbers, not " ++ decimal dimension
refusal_text (refusal.NoSuchIrrep wanted) = codes "no irrep" ++ wanted_words wanted
refusal_text (refusal.NoRealBasis name) = irrep_words name (codes ": no real basis")
refusal_text (refusal.TooManySubspaces name limit) = irrep_words name (codes ": more than ") ++ decimal limit ++ codes " fixed subspaces"
refusal_text (refusal.NoSuchDirection name number) = irrep_words name (codes ": no direction ") ++ decimal number
refusal_text (refusal.SameSite earlier n) = codes "lines " ++ decimal earlier ++ codes " and " ++ decimal n ++ codes ": one orbit"
refusal_text (refusal.TooManyAtoms n size) = line_words n (codes ": orbit of ") ++ decimal size ++ codes " coordinates is past 1152"
refusal_text (refusal.BadCell n) = line_words n (codes ": bad cell")
refusal_text (refusal.OffGrid n) = line_words n (codes ": place isn't on the grid")
refusal_text (refusal.Unmatched n) = line_words n (codes ": unmatched atom")
refusal_text (refusal.Ambiguous n) = line_words n (codes ": ambiguous atom")
refusal_text (refusal.MissingAtom label place) = codes "no listed atom for " ++ label ++ codes " " ++ place_text place
refusal_text (refusal.TooManyCoupled name other n) = irreps_words name other (codes ": real dimension ") ++ decimal n ++ codes " is past 24"
refusal_text (refusal.CoupledSubspaces name other limit) = irreps_words name other (codes ": more than ") ++ decimal limit ++ codes " fixed subspaces"
refusal_text (refusal.Wide family) = codes "number past 126 bits in family " ++ decimal family

-- the line of a refusal
abbrev pub line_of : Refusal → List ℕ
line_of r = line (codes "isodist: refused: " ++ refusal_text r) []
