-- What the parts of the code that writes stabilisers take and give.
--
-- reduced_with f so_far x: f of what was so far, if there is something, and one more
use Rattle.std.specs.Prelude.{Option, Some, None}

-- f of what was so far and one more, or that one alone
abbrev pub reduced_with : {X : Type 0} → (X → X → X) → Option X → X → X
reduced_with f None x = x
reduced_with f (Some y) x = f y x
