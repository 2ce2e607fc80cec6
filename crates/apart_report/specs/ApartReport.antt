-- The report of `apart`.
--
-- ToldPair: two irreps by their names, and whether they are apart
-- pair_line t: the line of a pair
-- apart_text format told: the whole report
use Rattle.std.specs.Prelude.{ℕ, Bool, if◌then◌else◌, List, [], ◌++◌, flat_map, codes, decimal}
use Rattle.iso_text.specs.Lines.{line}

pub record ToldPair : Type 0 where
  pub name : List ℕ
  pub other : List ℕ
  pub apart : Bool

-- `pair A B yes` or `pair A B no`
abbrev pub pair_line : ToldPair → List ℕ
pair_line t = line (codes "pair " ++ t.name ++ codes " " ++ t.other ++ (if t.apart then codes " yes" else codes " no")) []

abbrev pub apart_text : ℕ → List ToldPair → List ℕ
apart_text format told = line (codes "isodist " ++ decimal format ++ codes " apart") [] ++ flat_map pair_line told
