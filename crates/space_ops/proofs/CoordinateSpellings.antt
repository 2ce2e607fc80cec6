-- A coordinate as it is printed is a coordinate of a file's words.
use Rattle.std.proofs.Common.{◌≡◌, ◌∙◌, refl, sym, ap, ℕ, ℤ, pos, Bool, true, false, ◌&&◌, List, [], ◌∷◌, ◌++◌, append_assoc, codes, Option, Some, None, filter_map, option_to_list, if◌then◌else◌, inl, inr, arith, subst}
use Rattle.std.specs.Prelude.{unwrap_or}
use Rattle.std.specs.List.{cons_option}
use Rattle.std.proofs.lemmas.Bool.{and_parts}
use Rattle.algebra.specs.SolveLaws.{by_test}
use Rattle.iso_text.specs.Operations.{coefficients}
use Rattle.iso_text.specs.SumSpellings.{SpellsSum}
use Rattle.iso_text.specs.OperationSpellings.{SpellsShift, SpellsPart, SpellsRow, in_x, in_y, in_z, in_shift}
use Rattle.iso_text.specs.declared.operation_words.Part.{Part}
use Rattle.iso_text.specs.declared.operation_words.Part.TheVariants.{X, Y, Z, Shift}
use Rattle.iso_text.specs.declared.operation_words.Row.{Row}
use Rattle.space_ops.specs.Op.{IsWithin}
use Rattle.space_ops.specs.OpText.{is_zero, term_text, translation_text, letters_text, coordinate_text}
use Rattle.space_ops.proofs.PartSpellings.{zero_is, SpellsParts, unless_zero, term-spelled, translation-spelled}

-- the text is a coordinate with these entries and this translation
pub record SpellsCoordinate (text : List ℕ) (row : List ℤ) (t : ℤ) : Type 0 where
  pub entries : Row
  pub spelled : SpellsRow text entries
  pub rotation : coefficients entries ≡ row
  pub shift : unwrap_or entries.shift (pos 0) ≡ t

-- `0`
nought : SpellsShift false (codes "0") (Shift (pos 0))
nought = record {
  num = 0;
  den = 1;
  ratio = record { front = codes "0"; over = []; joined = refl; whole = record { some = omega arith; spelled = record { few = omega arith; digits = refl; value = refl } }; divisor = refl };
  small = omega arith;
  divisor = refl;
  value = refl;
}

empty-spelled : SpellsCoordinate (codes "0") (pos 0 ∷ pos 0 ∷ pos 0 ∷ []) (pos 0)
empty-spelled = record {
  entries = record { x = None; y = None; z = None; shift = Some (pos 0) };
  spelled = record {
    parts = Shift (pos 0) ∷ [];
    sum = record {
      negative = false;
      front = [];
      item = codes "0";
      others = [];
      first = Shift (pos 0);
      rest = [];
      joined = refl;
      signed_by = inr (inr (refl, refl));
      spelled = inr nought;
      more = refl;
      values = refl;
    };
    x = refl;
    y = refl;
    z = refl;
    shift = refl;
  };
  rotation = refl;
  shift = refl;
}

-- the number of a part, where it stands there
abbrev number_unless : Bool → ℤ → Option ℤ
number_unless true c = None
number_unless false c = Some c

number-back : (zeroes : Bool) (c : ℤ) → is_zero c ≡ zeroes → unwrap_or (number_unless zeroes c) (pos 0) ≡ c
number-back true c e = sym (zero_is c e)
number-back false c e = refl

-- what stands of one kind among the parts
passed_over : (pick : Part → Option ℤ) (zeroes : Bool) (part : Part) (parts : List Part) → pick part ≡ None → filter_map pick (unless_zero zeroes part ++ parts) ≡ filter_map pick parts
passed_over pick true part parts none = refl
passed_over pick false part parts none = ap (λ o. cons_option o (filter_map pick parts)) none

picked : (pick : Part → Option ℤ) (zeroes : Bool) (part : Part) (c : ℤ) (parts : List Part) → pick part ≡ Some c → filter_map pick parts ≡ [] → filter_map pick (unless_zero zeroes part ++ parts) ≡ option_to_list (number_unless zeroes c)
picked pick true part c parts some rest = rest
picked pick false part c parts some rest = ap (λ o. cons_option o (filter_map pick parts)) some ∙ ap (λ xs. c ∷ xs) rest

last_over : (pick : Part → Option ℤ) (zeroes : Bool) (part : Part) → pick part ≡ None → filter_map pick (unless_zero zeroes part) ≡ []
last_over pick true part none = refl
last_over pick false part none = ap (λ o. cons_option o []) none

last_picked : (zeroes : Bool) (t : ℤ) → filter_map in_shift (unless_zero zeroes (Shift t)) ≡ option_to_list (number_unless zeroes t)
last_picked true t = refl
last_picked false t = refl

-- the letters and the translation of a coordinate, by which of them are zero
module _ (zx zy zz zt : Bool) (x y z t : ℤ) where
  abbrev behind_y : List Part
  behind_y = unless_zero zz (Z z) ++ unless_zero zt (Shift t)

  abbrev behind_x : List Part
  behind_x = unless_zero zy (Y y) ++ behind_y

  abbrev all_parts : List Part
  all_parts = unless_zero zx (X x) ++ behind_x

  abbrev entries_of : Row
  entries_of = record { x = number_unless zx x; y = number_unless zy y; z = number_unless zz z; shift = number_unless zt t }

  row-spelled : (text : List ℕ) → SpellsSum SpellsPart text all_parts → SpellsRow text entries_of
  row-spelled text sum = record {
    parts = all_parts;
    sum = sum;
    x = picked in_x zx (X x) x behind_x refl (passed_over in_x zy (Y y) behind_y refl ∙ passed_over in_x zz (Z z) (unless_zero zt (Shift t)) refl ∙ last_over in_x zt (Shift t) refl);
    y = passed_over in_y zx (X x) behind_x refl ∙ picked in_y zy (Y y) y behind_y refl (passed_over in_y zz (Z z) (unless_zero zt (Shift t)) refl ∙ last_over in_y zt (Shift t) refl);
    z = passed_over in_z zx (X x) behind_x refl ∙ passed_over in_z zy (Y y) behind_y refl ∙ picked in_z zz (Z z) z (unless_zero zt (Shift t)) refl (last_over in_z zt (Shift t) refl);
    shift = passed_over in_shift zx (X x) behind_x refl ∙ passed_over in_shift zy (Y y) behind_y refl ∙ passed_over in_shift zz (Z z) (unless_zero zt (Shift t)) refl ∙ last_picked zt t;
  }

-- where not all are zero, the parts are a sum
some_part : (zx zy zz zt : Bool) (x y z t : ℤ) (text : List ℕ) → ((zx && zy) && (zz && zt)) ≡ false → SpellsParts true text (all_parts zx zy zz zt x y z t) → SpellsSum SpellsPart text (all_parts zx zy zz zt x y z t)
some_part false zy zz zt x y z t text e spelled = spelled
some_part true false zz zt x y z t text e spelled = spelled
some_part true true false zt x y z t text e spelled = spelled
some_part true true true false x y z t text e spelled = spelled
some_part true true true true x y z t text e spelled = absurd (cc)

letters-joined : (x y z : ℤ) (text : List ℕ) → letters_text x y z ++ text ≡ term_text true x (codes "x") ++ (term_text (is_zero x) y (codes "y") ++ (term_text (is_zero x && is_zero y) z (codes "z") ++ text))
unfolding letters_text
letters-joined x y z text = simp append_assoc

parts-spelled : (x y z t : ℤ) → IsWithin 3 x → IsWithin 3 y → IsWithin 3 z → IsWithin 120 t
    → SpellsParts true (letters_text x y z ++ translation_text t) (all_parts (is_zero x) (is_zero y) (is_zero z) (is_zero t) x y z t)
parts-spelled x y z t near_x near_y near_z near_t =
    let parts = all_parts (is_zero x) (is_zero y) (is_zero z) (is_zero t) x y z t in
    subst (λ text. SpellsParts true text parts) (sym (letters-joined x y z (translation_text t)))
    (term-spelled true (is_zero x) x (codes "x") _ (X x) _ refl near_x (inl (refl, refl))
    (term-spelled (is_zero x) (is_zero y) y (codes "y") _ (Y y) _ refl near_y (inr (inl (refl, refl)))
    (term-spelled (is_zero x && is_zero y) (is_zero z) z (codes "z") _ (Z z) _ refl near_z (inr (inr (refl, refl)))
    (translation-spelled ((is_zero x && is_zero y) && is_zero z) (is_zero t) t refl near_t))))

all-zero : (x y z t : ℤ) → ((is_zero x && is_zero y) && (is_zero z && is_zero t)) ≡ true → SpellsCoordinate (codes "0") (x ∷ y ∷ z ∷ []) t
all-zero x y z t e =
    let both = and_parts (is_zero x && is_zero y) (is_zero z && is_zero t) e in
    let front = and_parts (is_zero x) (is_zero y) both.0 in
    let back = and_parts (is_zero z) (is_zero t) both.1 in
    rw (zero_is x front.0, zero_is y front.1, zero_is z back.0, zero_is t back.1) empty-spelled

not-zero : (x y z t : ℤ) → ((is_zero x && is_zero y) && (is_zero z && is_zero t)) ≡ false → IsWithin 3 x → IsWithin 3 y → IsWithin 3 z → IsWithin 120 t
    → SpellsCoordinate (letters_text x y z ++ translation_text t) (x ∷ y ∷ z ∷ []) t
not-zero x y z t e near_x near_y near_z near_t =
    let text = letters_text x y z ++ translation_text t in
    let zx = is_zero x in
    let zy = is_zero y in
    let zz = is_zero z in
    let zt = is_zero t in
    record {
      entries = entries_of zx zy zz zt x y z t;
      spelled = row-spelled zx zy zz zt x y z t text (some_part zx zy zz zt x y z t text e (parts-spelled x y z t near_x near_y near_z near_t));
      rotation = λ i. number-back zx x refl i ∷ number-back zy y refl i ∷ number-back zz z refl i ∷ [];
      shift = number-back zt t refl;
    }

pub coordinate-spelled : (x y z t : ℤ) → IsWithin 3 x → IsWithin 3 y → IsWithin 3 z → IsWithin 120 t → SpellsCoordinate (coordinate_text (x ∷ y ∷ z ∷ []) t) (x ∷ y ∷ z ∷ []) t
unfolding coordinate_text
coordinate-spelled x y z t near_x near_y near_z near_t =
    by_test (λ b. SpellsCoordinate (if b then codes "0" else letters_text x y z ++ translation_text t) (x ∷ y ∷ z ∷ []) t) ((is_zero x && is_zero y) && (is_zero z && is_zero t))
    (λ e. all-zero x y z t e) (λ e. not-zero x y z t e near_x near_y near_z near_t)
