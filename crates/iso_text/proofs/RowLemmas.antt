-- The terms of a coordinate, and the row that they fill.
use Rattle.std.proofs.Common.{◌≡◌, ℕ, ℤ, List, [], ◌∷◌, ◌++◌, Option, Some, None, refl, sym, ◌∙◌, ap, append-nil, if◌then◌else◌}
use Rattle.std.specs.Prelude.{option_and_then, is_none}
use Rattle.std.specs.List.{filter_map}
use Rattle.std.specs.Option.{option_map, option_to_list}
use Rattle.iso_text.specs.Operations.{part_of, signed_part_of, with_part, with_parts}
use Rattle.iso_text.specs.OperationSpellings.{in_x, in_y, in_z, in_shift}
use Rattle.iso_text.specs.declared.operation_words.Part.{Part}
use Rattle.iso_text.specs.declared.operation_words.Part.TheVariants.{X, Y, Z, Shift}
use Rattle.iso_text.specs.declared.operation_words.Row.{Row}
use Rattle.iso_text.proofs.Steps.{bind, guard, none_is}
use Rattle.iso_text.proofs.SumLemmas.{read_signed, read_all, all_cons}

signed_parts : (part : List ℕ) → signed_part_of part ≡ read_signed part_of part
signed_parts [] = refl
signed_parts (c ∷ cs) = refl

-- the row with all these terms more
abbrev pub fill : Row → List Part → Option Row
fill row [] = Some row
fill row (part ∷ parts) = option_and_then (λ next. fill next parts) (with_part row part)

-- what entries stand in a row, with those of more terms, stand in another
pub record Fills (row : Row) (parts : List Part) (full : Row) : Type 0 where
  pub x : option_to_list row.x ++ filter_map in_x parts ≡ option_to_list full.x
  pub y : option_to_list row.y ++ filter_map in_y parts ≡ option_to_list full.y
  pub z : option_to_list row.z ++ filter_map in_z parts ≡ option_to_list full.z
  pub shift : option_to_list row.shift ++ filter_map in_shift parts ≡ option_to_list full.shift

front_none : (o : Option ℤ) (l : List ℤ) → o ≡ None → option_to_list o ++ l ≡ l
front_none o l none = ap (λ x. option_to_list x ++ l) none

pub fill-sound : (row : Row) (parts : List Part) (full : Row) → fill row parts ≡ Some full → Fills row parts full
fill-sound row [] full e =
    let same : row ≡ full = cc in
    record {
      x = append-nil (option_to_list row.x) ∙ ap (λ r. option_to_list r.x) same;
      y = append-nil (option_to_list row.y) ∙ ap (λ r. option_to_list r.y) same;
      z = append-nil (option_to_list row.z) ∙ ap (λ r. option_to_list r.z) same;
      shift = append-nil (option_to_list row.shift) ∙ ap (λ r. option_to_list r.shift) same;
    }
fill-sound row (X a ∷ parts) full e =
    let one = bind (with_part row (X a)) (λ next. fill next parts) full e in
    let test = guard (is_none row.x) (record row { x = Some a }) one.0 one.1 in
    let more = fill-sound (record row { x = Some a }) parts full (ap (λ r. fill r parts) test.1 ∙ one.2) in
    record { x = front_none row.x (a ∷ filter_map in_x parts) (none_is row.x test.0) ∙ more.x; y = more.y; z = more.z; shift = more.shift }
fill-sound row (Y a ∷ parts) full e =
    let one = bind (with_part row (Y a)) (λ next. fill next parts) full e in
    let test = guard (is_none row.y) (record row { y = Some a }) one.0 one.1 in
    let more = fill-sound (record row { y = Some a }) parts full (ap (λ r. fill r parts) test.1 ∙ one.2) in
    record { x = more.x; y = front_none row.y (a ∷ filter_map in_y parts) (none_is row.y test.0) ∙ more.y; z = more.z; shift = more.shift }
fill-sound row (Z a ∷ parts) full e =
    let one = bind (with_part row (Z a)) (λ next. fill next parts) full e in
    let test = guard (is_none row.z) (record row { z = Some a }) one.0 one.1 in
    let more = fill-sound (record row { z = Some a }) parts full (ap (λ r. fill r parts) test.1 ∙ one.2) in
    record { x = more.x; y = more.y; z = front_none row.z (a ∷ filter_map in_z parts) (none_is row.z test.0) ∙ more.z; shift = more.shift }
fill-sound row (Shift a ∷ parts) full e =
    let one = bind (with_part row (Shift a)) (λ next. fill next parts) full e in
    let test = guard (is_none row.shift) (record row { shift = Some a }) one.0 one.1 in
    let more = fill-sound (record row { shift = Some a }) parts full (ap (λ r. fill r parts) test.1 ∙ one.2) in
    record { x = more.x; y = more.y; z = more.z; shift = front_none row.shift (a ∷ filter_map in_shift parts) (none_is row.shift test.0) ∙ more.shift }

-- an entry that one more value still fits to doesn't stand yet
free_entry : (o full : Option ℤ) (a : ℤ) (l : List ℤ) → option_to_list o ++ (a ∷ l) ≡ option_to_list full → o ≡ None
free_entry None full a l e = refl
free_entry (Some b) None a l e = absurd (cc)
free_entry (Some b) (Some c) a l e = absurd (cc)

same_entry : (o full : Option ℤ) → option_to_list o ++ [] ≡ option_to_list full → o ≡ full
same_entry None None e = refl
same_entry None (Some c) e = absurd (cc)
same_entry (Some b) None e = absurd (cc)
same_entry (Some b) (Some c) e = cc

row_is : (a b c : Option ℤ) (s : Option ℤ) (full : Row) → a ≡ full.x → b ≡ full.y → c ≡ full.z → s ≡ full.shift → record { x = a; y = b; z = c; shift = s } ≡ full
row_is a b c s full x y z shift =
    ap (λ e. record { x = e; y = b; z = c; shift = s }) x ∙ ap (λ e. record { x = full.x; y = e; z = c; shift = s }) y
    ∙ ap (λ e. record { x = full.x; y = full.y; z = e; shift = s }) z ∙ ap (λ e. record { x = full.x; y = full.y; z = full.z; shift = e }) shift

with_entry : {X : Type 0} (o : Option ℤ) (next : X) → o ≡ None → (if is_none o then Some next else None) ≡ Some next
with_entry o next none = ap (λ x. if is_none x then Some next else None) none

pub fill-complete : (row : Row) (parts : List Part) (full : Row) → Fills row parts full → fill row parts ≡ Some full
fill-complete row [] full f =
    ap (λ r. Some r) (row_is row.x row.y row.z row.shift full (same_entry row.x full.x f.x) (same_entry row.y full.y f.y) (same_entry row.z full.z f.z) (same_entry row.shift full.shift f.shift))
fill-complete row (X a ∷ parts) full f =
    let none = free_entry row.x full.x a (filter_map in_x parts) f.x in
    let next : Row = record row { x = Some a } in
    let more : Fills next parts full = record { x = sym (front_none row.x (a ∷ filter_map in_x parts) none) ∙ f.x; y = f.y; z = f.z; shift = f.shift } in
    ap (λ o. option_and_then (λ r. fill r parts) o) (with_entry row.x next none) ∙ fill-complete next parts full more
fill-complete row (Y a ∷ parts) full f =
    let none = free_entry row.y full.y a (filter_map in_y parts) f.y in
    let next : Row = record row { y = Some a } in
    let more : Fills next parts full = record { x = f.x; y = sym (front_none row.y (a ∷ filter_map in_y parts) none) ∙ f.y; z = f.z; shift = f.shift } in
    ap (λ o. option_and_then (λ r. fill r parts) o) (with_entry row.y next none) ∙ fill-complete next parts full more
fill-complete row (Z a ∷ parts) full f =
    let none = free_entry row.z full.z a (filter_map in_z parts) f.z in
    let next : Row = record row { z = Some a } in
    let more : Fills next parts full = record { x = f.x; y = f.y; z = sym (front_none row.z (a ∷ filter_map in_z parts) none) ∙ f.z; shift = f.shift } in
    ap (λ o. option_and_then (λ r. fill r parts) o) (with_entry row.z next none) ∙ fill-complete next parts full more
fill-complete row (Shift a ∷ parts) full f =
    let none = free_entry row.shift full.shift a (filter_map in_shift parts) f.shift in
    let next : Row = record row { shift = Some a } in
    let more : Fills next parts full = record { x = f.x; y = f.y; z = f.z; shift = sym (front_none row.shift (a ∷ filter_map in_shift parts) none) ∙ f.shift } in
    ap (λ o. option_and_then (λ r. fill r parts) o) (with_entry row.shift next none) ∙ fill-complete next parts full more

-- the texts of the terms are read before the row is filled
pub parts-sound : (row : Row) (texts : List (List ℕ)) (full : Row) → with_parts row texts ≡ Some full → (parts : List Part) × (read_all part_of texts ≡ Some parts) × (fill row parts ≡ Some full)
parts-sound row [] full e = ([], refl, e)
parts-sound row (text ∷ texts) full e =
    let one = bind (option_and_then (with_part row) (signed_part_of text)) (λ next. with_parts next texts) full e in
    let two = bind (signed_part_of text) (with_part row) one.0 one.1 in
    let more = parts-sound one.0 texts full one.2 in (
      two.0 ∷ more.0,
      ap (λ o. option_and_then (λ v. option_map (λ vs. v ∷ vs) (read_all part_of texts)) o) (sym (signed_parts text) ∙ two.1) ∙ ap (λ o. option_map (λ vs. two.0 ∷ vs) o) more.1,
      ap (λ o. option_and_then (λ next. fill next more.0) o) two.2 ∙ more.2,
    )

pub parts-complete : (row : Row) (texts : List (List ℕ)) (parts : List Part) (full : Row) → read_all part_of texts ≡ Some parts → fill row parts ≡ Some full → with_parts row texts ≡ Some full
parts-complete row [] parts full read e = let same : [] ≡ parts = cc in ap (λ x. fill row x) same ∙ e
parts-complete row (text ∷ texts) parts full read e =
    let one = all_cons part_of text texts parts read in
    let two = bind (with_part row one.0) (λ next. fill next one.1) full (ap (λ x. fill row x) one.4 ∙ e) in
    ap (λ o. option_and_then (λ next. with_parts next texts) (option_and_then (with_part row) o)) (signed_parts text ∙ one.2)
    ∙ ap (λ o. option_and_then (λ next. with_parts next texts) o) two.1 ∙ parts-complete two.0 texts one.1 full one.3 two.2
