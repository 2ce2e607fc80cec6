-- What the words of operations spell is within the ranges of the format.
--
-- AreThree-of: three values
-- operation-in_range: entries from -3 to 3, shifts of at most 120 cell edges
use Rattle.std.proofs.Common.{◌≡◌, ℕ, ℤ, pos, ◌*◌, ◌/◌, ◌≤◌, Bool, List, [], ◌∷◌, Option, Some, None, refl, sym, subst, inl, inr, arith}
use Rattle.std.specs.Prelude.{unwrap_or, IfSome}
use Rattle.std.specs.List.{All, filter_map, cons_option}
use Rattle.std.specs.Option.{option_to_list}
use Rattle.std.proofs.Math.Nat.{div-le_self, mul-le-mul_left, mul-le-mul_right}
use Rattle.std.proofs.lemmas.Int.{ints}
use Rattle.std.proofs.lemmas.List.Elements.{All-nil, All-cons, All-head, All-tail}
use Rattle.iso_text.specs.Fractions.{signed}
use Rattle.iso_text.specs.Operations.{coefficients, rows}
use Rattle.iso_text.specs.OperationSpellings.{SpellsFactor, SpellsLetter, SpellsPart, SpellsRow, SpellsOperation, in_x, in_y, in_z, in_shift}
use Rattle.iso_text.specs.WordRanges.{IsWithin, AreThree, IsOperation}
use Rattle.iso_text.specs.declared.numbers.OpText.{OpText}
use Rattle.iso_text.specs.declared.operation_words.Part.{Part}
use Rattle.iso_text.specs.declared.operation_words.Part.TheVariants.{X, Y, Z, Shift}
use Rattle.iso_text.specs.declared.operation_words.Row.{Row}
use Rattle.iso_text.proofs.WordRangeLemmas.{IsWithin-signed, sum-in_range}

factor_few : (text : List ℕ) (n : ℕ) → SpellsFactor text n → n ≤ 3
factor_few text n (inl w) = omega (arith, w.1)
factor_few text n (inr (inl w)) = omega (arith, w.1)
factor_few text n (inr (inr w)) = omega (arith, w.1)

abbrev IsPart : Part → Type 0
IsPart (X a) = IsWithin 3 a
IsPart (Y a) = IsWithin 3 a
IsPart (Z a) = IsWithin 3 a
IsPart (Shift a) = IsWithin 1440 a

letter-in_range : (a : ℤ) (text : List ℕ) (part : Part) → IsWithin 3 a → SpellsLetter a text part → IsPart part
letter-in_range a text part near (inl w) = subst IsPart (sym w.1) near
letter-in_range a text part near (inr (inl w)) = subst IsPart (sym w.1) near
letter-in_range a text part near (inr (inr w)) = subst IsPart (sym w.1) near

twelfths_few : (n d : ℕ) → n ≤ 120 → n * (12 / d) ≤ 1440
twelfths_few n d small = omega (arith, mul-le-mul_left n (div-le_self 12 d), mul-le-mul_right 12 small)

part-in_range : (negative : Bool) (text : List ℕ) (part : Part) → SpellsPart negative text part → IsPart part
part-in_range negative text part (inl s) = letter-in_range (signed negative s.amount) s.letter part (IsWithin-signed negative s.amount 3 (factor_few s.factor s.amount s.times)) s.spelled
part-in_range negative text part (inr s) = subst IsPart (sym s.value) (IsWithin-signed negative (s.num * (12 / s.den)) 1440 (twelfths_few s.num s.den s.small))

-- what stands of each kind among the terms
module _ (pick : Part → Option ℤ) (n : ℕ) (law : (part : Part) → IsPart part → IfSome (pick part) (IsWithin n)) where
  add_picked : (o : Option ℤ) (xs : List ℤ) → IfSome o (IsWithin n) → All (IsWithin n) xs → All (IsWithin n) (cons_option o xs)
  add_picked None xs one more = more
  add_picked (Some x) xs one more = All-cons (IsWithin n) x xs one more

  picked : (parts : List Part) → All IsPart parts → All (IsWithin n) (filter_map pick parts)
  picked [] parts = All-nil (IsWithin n)
  picked (part ∷ parts) all = add_picked (pick part) (filter_map pick parts) (law part (All-head IsPart part parts all)) (picked parts (All-tail IsPart part parts all))

  only : (o : Option ℤ) → All (IsWithin n) (option_to_list o) → IsWithin n (unwrap_or o (pos 0))
  only None all = (omega (arith, ints), omega (arith, ints))
  only (Some x) all = All-head (IsWithin n) x [] all

  entry : (o : Option ℤ) (parts : List Part) → All IsPart parts → filter_map pick parts ≡ option_to_list o → IsWithin n (unwrap_or o (pos 0))
  entry o parts all e = only o (subst (λ xs. All (IsWithin n) xs) e (picked parts all))

of_x : (part : Part) → IsPart part → IfSome (in_x part) (IsWithin 3)
of_x (X a) near = near
of_x (Y a) near = tt
of_x (Z a) near = tt
of_x (Shift a) near = tt

of_y : (part : Part) → IsPart part → IfSome (in_y part) (IsWithin 3)
of_y (X a) near = tt
of_y (Y a) near = near
of_y (Z a) near = tt
of_y (Shift a) near = tt

of_z : (part : Part) → IsPart part → IfSome (in_z part) (IsWithin 3)
of_z (X a) near = tt
of_z (Y a) near = tt
of_z (Z a) near = near
of_z (Shift a) near = tt

of_shift : (part : Part) → IsPart part → IfSome (in_shift part) (IsWithin 1440)
of_shift (X a) near = tt
of_shift (Y a) near = tt
of_shift (Z a) near = tt
of_shift (Shift a) near = near

pub AreThree-of : {V : Type 0} (P : V → Type 0) (a b c : V) → P a → P b → P c → AreThree P (a ∷ b ∷ c ∷ [])
AreThree-of P a b c x y z = record { count = refl; each = All-cons P a (b ∷ c ∷ []) x (All-cons P b (c ∷ []) y (All-cons P c [] z (All-nil P))) }

row_parts : (text : List ℕ) (row : Row) → (s : SpellsRow text row) → All IsPart s.parts
row_parts text row s = sum-in_range SpellsPart IsPart part-in_range text s.parts s.sum

row-in_range : (text : List ℕ) (row : Row) → SpellsRow text row → AreThree (IsWithin 3) (coefficients row)
row-in_range text row s =
    let all = row_parts text row s in
    AreThree-of (IsWithin 3) (unwrap_or row.x (pos 0)) (unwrap_or row.y (pos 0)) (unwrap_or row.z (pos 0)) (entry in_x 3 of_x row.x s.parts all s.x) (entry in_y 3 of_y row.y s.parts all s.y) (entry in_z 3 of_z row.z s.parts all s.z)

shift-in_range : (text : List ℕ) (row : Row) → SpellsRow text row → IsWithin 1440 (unwrap_or row.shift (pos 0))
shift-in_range text row s = entry in_shift 1440 of_shift row.shift s.parts (row_parts text row s) s.shift

pub operation-in_range : (text : List ℕ) (op : OpText) → SpellsOperation text op → IsOperation op
operation-in_range text op s =
    let is : IsOperation (rows s.a s.b s.c) = record {
      rows = AreThree-of (AreThree (IsWithin 3)) (coefficients s.a) (coefficients s.b) (coefficients s.c) (row-in_range s.first s.a s.along_a) (row-in_range s.second s.b s.along_b) (row-in_range s.third s.c s.along_c);
      shift = AreThree-of (IsWithin 1440) (unwrap_or s.a.shift (pos 0)) (unwrap_or s.b.shift (pos 0)) (unwrap_or s.c.shift (pos 0)) (shift-in_range s.first s.a s.along_a) (shift-in_range s.second s.b s.along_b) (shift-in_range s.third s.c s.along_c);
    } in
    subst IsOperation (sym s.value) is
