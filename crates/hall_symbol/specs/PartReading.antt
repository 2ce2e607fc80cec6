-- What the readers of a part compute: a reader of a front gives what it read and what stands behind it.
--
-- part_in word: the part that a word is
use Rattle.std.specs.Prelude.{ℕ, ◌-◌, Bool, true, false, ◌==◌, ◌&&◌, nat_le, if◌then◌else◌, List, [], ◌∷◌, Option, Some, None}
use Rattle.std.specs.List.{list_all}
use Rattle.hall_symbol.specs.declared.rotation.Axis.{Axis}
use Rattle.hall_symbol.specs.declared.rotation.Axis.TheVariants.{Along, Prime, DoublePrime, Star}
use Rattle.hall_symbol.specs.declared.rotation.CellAxis.TheVariants.{X, Y, Z}
use Rattle.hall_symbol.specs.declared.rotation.Order.{Order}
use Rattle.hall_symbol.specs.declared.rotation.Order.TheVariants as order
use Rattle.hall_symbol.specs.declared.part.Part.{Part}
use Rattle.hall_symbol.specs.Steps.{◌>>=◌}
use Rattle.hall_symbol.specs.Spelling.{is_letter, letters_shift}

abbrev pub sign_at : List ℕ → Bool × List ℕ
sign_at [] = (false, [])
sign_at (c ∷ cs) = if c == 45 then (true, cs) else (false, c ∷ cs)

abbrev pub order_of_byte : ℕ → Option Order
order_of_byte c =
    if c == 49 then Some order.One
    else (if c == 50 then Some order.Two
    else (if c == 51 then Some order.Three
    else (if c == 52 then Some order.Four
    else (if c == 54 then Some order.Six else None))))

unfoldable pub order_at : List ℕ → Option (Order × List ℕ)
order_at [] = None
order_at (c ∷ cs) = order_of_byte c >>= λ n. Some (n, cs)

-- the digit, or 0 where none stands
unfoldable pub digit_at : List ℕ → ℕ × List ℕ
digit_at [] = (0, [])
digit_at (c ∷ cs) = if nat_le 49 c && nat_le c 57 then (c - 48, cs) else (0, c ∷ cs)

abbrev pub axis_of_byte : ℕ → Option Axis
axis_of_byte c =
    if c == 120 then Some (Along X)
    else (if c == 121 then Some (Along Y)
    else (if c == 122 then Some (Along Z)
    else (if c == 39 then Some Prime
    else (if c == 34 then Some DoublePrime
    else (if c == 42 then Some Star else None)))))

-- the axis that was read, or the whole text
abbrev pub axis_or : Option Axis → List ℕ → List ℕ → Option Axis × List ℕ
axis_or None cs text = (None, text)
axis_or (Some a) cs text = (Some a, cs)

unfoldable pub axis_at : List ℕ → Option Axis × List ℕ
axis_at [] = (None, [])
axis_at (c ∷ cs) = axis_or (axis_of_byte c) cs (c ∷ cs)

unfoldable pub letters_of : List ℕ → Option (List ℕ)
letters_of cs = if list_all is_letter cs then Some (letters_shift cs) else None

-- the digit, of which one at most stands
abbrev pub one_digit : ℕ → ℕ → Option ℕ
one_digit front back = if front == 0 then Some back else (if back == 0 then Some front else None)

-- from the axis on
unfoldable pub part_from : Bool → Order → ℕ → List ℕ → Option Part
part_from negated n front text =
    let axis = axis_at text in
    let back = digit_at axis.1 in
    one_digit front back.0 >>= λ digit.
    letters_of back.1 >>= λ letters.
    Some (record { negated = negated; order = n; digit = digit; axis = axis.0; letters = letters })

-- the part that a word is
unfoldable pub part_in : List ℕ → Option Part
part_in word =
    let sign = sign_at word in
    order_at sign.1 >>= λ n.
    let front = digit_at n.1 in
    part_from sign.0 n.0 front.0 front.1
