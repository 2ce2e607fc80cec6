-- What the lines of a stabiliser obey.
--
-- KeptRise: the pure translations of a stabiliser have their lines with the translations rising
use Rattle.std.specs.Prelude.{◌≡◌, ℕ, List}
use Rattle.std.specs.List.{AllPairs}
use Rattle.std.specs.List.Sorted.{IsStrictlyIncreasing}
use Rattle.std.specs.declared.cmp.Ordering.TheVariants.{Less}
use Rattle.space_ops.specs.LeastShift.{vector_cmp}
use Rattle.super_group.specs.Quotient.{SupercellGroup, IsQuotient, element_of}
use Rattle.list_report.specs.StabiliserText.{members_with}

-- of the members with the identity's rotation each has a translation before those of all later ones
abbrev pub KeptRise : Type 0
KeptRise =
    (s : SupercellGroup) → IsQuotient s → (hs : List ℕ) → IsStrictlyIncreasing hs
    → AllPairs (λ a b. vector_cmp (element_of s a).shift (element_of s b).shift ≡ Less) (members_with s hs 0)
