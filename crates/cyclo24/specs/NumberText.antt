-- How a sum of multiples of units is written: `1/2-3/4*r2+r6`.
--
-- quotient_text n d: `n`, or `n/d` where d isn't 1
-- part_text n d unit: the multiple n/d of a unit, where the empty text is the unit 1
-- signed_text first d z unit: the multiple z/d in lowest terms with its sign, nothing where z is 0
-- number_text d zs units: the sum of the multiples of all units, `0` where all are 0
use Rattle.std.specs.Prelude.{ℕ, ◌/◌, ℤ, pos, List, [], ◌∷◌, ◌++◌, Bool, true, cond, codes, nat_eq, ◌&&◌, length, int_lt}
use Rattle.std.specs.Fmt.{decimal}
use Rattle.std.specs.Ordering.{int_eq}
use Rattle.std.specs.Int.RustNames.{unsigned_abs}
use Rattle.cyclo24.specs.Gcd.{gcd, all_zero}

-- 3/4, or 3 for 3/1
abbrev pub quotient_text : ℕ → ℕ → List ℕ
quotient_text n d = cond (nat_eq d 1) (decimal n) (decimal n ++ codes "/" ++ decimal d)

-- 3/4*r2, or r2 for 1/1*r2, or 3/4 for the unit 1
unfoldable pub part_text : ℕ → ℕ → List ℕ → List ℕ
part_text n d unit = cond (nat_eq (length unit) 0) (quotient_text n d) (cond (nat_eq n 1 && nat_eq d 1) unit (quotient_text n d ++ codes "*" ++ unit))

-- `-` before a negative number, and `+` before another that isn't the first
abbrev pub sign_text : Bool → ℤ → List ℕ
sign_text first z = cond (int_lt z (pos 0)) (codes "-") (cond first [] (codes "+"))

-- z/d of a unit in lowest terms with its sign, nothing where z is 0
unfoldable pub signed_text : Bool → ℕ → ℤ → List ℕ → List ℕ
signed_text first d z unit = cond (int_eq z (pos 0)) [] (let n = unsigned_abs z in sign_text first z ++ part_text (n / gcd n d) (d / gcd n d) unit)

-- the multiples of the units, one after the other
abbrev pub terms_text : Bool → ℕ → List ℤ → List (List ℕ) → List ℕ
terms_text first d [] units = []
terms_text first d (z ∷ zs) [] = []
terms_text first d (z ∷ zs) (unit ∷ units) = signed_text first d z unit ++ terms_text (first && int_eq z (pos 0)) d zs units

-- their sum, `0` where all are 0
abbrev pub number_text : ℕ → List ℤ → List (List ℕ) → List ℕ
number_text d zs units = cond (all_zero zs) (codes "0") (terms_text true d zs units)
