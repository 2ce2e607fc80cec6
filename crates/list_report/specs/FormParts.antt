-- What the parts of the code that writes forms take and give.
--
-- sum_with sum terms: a sum of terms that has begun, or none, with these terms behind it
use Rattle.std.specs.Prelude.{ℕ, List, ◌++◌, Option, Some, None, flat_map}
use Rattle.list_report.specs.FormText.{added_text, sum_text}

-- a sum that has begun, or none, with these terms behind it
abbrev pub sum_with : Option (List ℕ) → List (List ℕ) → List ℕ
sum_with None terms = sum_text terms
sum_with (Some text) terms = text ++ flat_map added_text terms
