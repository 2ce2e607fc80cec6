-- Sections in their order, of which one grows by an item.
use Rattle.std.proofs.Common.{◌≡◌, ℕ, zero, suc, ◌==◌, true, List, [], ◌∷◌, ◌++◌, length, nat_le, nat_lt, refl, sym, ◌∙◌, ap, arith, append_assoc, append-nil, length-append}
use Rattle.std.specs.List.{flat_map, list_all}
use Rattle.std.proofs.lemmas.Bool.{ltb-true}
use Rattle.std.proofs.lemmas.Grind.{flat_map-append}
use Rattle.iso_text.specs.Draft.{has_room}
use Rattle.iso_text.specs.File.{is_few}
use Rattle.iso_text.specs.FileLines.{Section, section_lines}
use Rattle.iso_text.specs.declared.line_kinds.Line.{Line}
use Rattle.iso_text.proofs.BodyLemmas.{both, apart}
use Rattle.iso_text.proofs.Steps.{zero_length, le_leb}

-- section n has one item more at its end
abbrev pub added : ℕ → List Line → List Section → List Section
added n item [] = []
added zero item (s ∷ behind) = record s { items = s.items ++ item ∷ [] } ∷ behind
added (suc n) item (s ∷ behind) = s ∷ added n item behind

-- section n has these items
abbrev pub replaced : ℕ → List (List Line) → List Section → List Section
replaced n items [] = []
replaced zero items (s ∷ behind) = record s { items = items } ∷ behind
replaced (suc n) items (s ∷ behind) = s ∷ replaced n items behind

empty_lines : (ss : List Section) → list_all (λ s. length s.items == 0) ss ≡ true → flat_map section_lines ss ≡ []
empty_lines [] empty = refl
empty_lines (s ∷ behind) empty =
    let two = apart (length s.items == 0) (list_all (λ t. length t.items == 0) behind) empty in
    ap (λ x. flat_map (λ item. item) x ++ flat_map section_lines behind) (zero_length s.items two.0) ∙ empty_lines behind two.1

-- where section n has room, its new item's lines stand at the end
pub added_lines : (n : ℕ) (item : List Line) (ss : List Section) → has_room n ss ≡ true → flat_map section_lines (added n item ss) ≡ flat_map section_lines ss ++ item
added_lines n item [] room = absurd cc
added_lines zero item (s ∷ behind) room =
    let two = apart (nat_lt (length s.items) s.most) (list_all (λ t. length t.items == 0) behind) room in
    let none = empty_lines behind two.1 in
    let whole = flat_map (λ (x : List Line). x) s.items in
    ap (λ x. flat_map (λ y. y) (s.items ++ item ∷ []) ++ x) none
    ∙ append-nil (flat_map (λ y. y) (s.items ++ item ∷ []))
    ∙ flat_map-append (λ y. y) s.items (item ∷ [])
    ∙ ap (λ x. whole ++ x) (append-nil item)
    ∙ ap (λ x. x ++ item) (sym (ap (λ x. whole ++ x) none ∙ append-nil whole))
added_lines (suc n) item (s ∷ behind) room = ap (λ x. section_lines s ++ x) (added_lines n item behind room) ∙ sym (append_assoc (section_lines s) (flat_map section_lines behind) item)

more_few : (most : ℕ) (items : List (List Line)) (item : List Line) → nat_lt (length items) most ≡ true → nat_le (length (items ++ item ∷ [])) most ≡ true
more_few most items item room = le_leb (length (items ++ item ∷ [])) most (omega (arith, ltb-true (length items) most room, length-append items (item ∷ [])))

pub added_few : (n : ℕ) (item : List Line) (ss : List Section) → has_room n ss ≡ true → list_all is_few ss ≡ true → list_all is_few (added n item ss) ≡ true
added_few n item [] room few = absurd cc
added_few zero item (s ∷ behind) room few =
    let two = apart (nat_lt (length s.items) s.most) (list_all (λ t. length t.items == 0) behind) room in
    both (is_few (record s { items = s.items ++ item ∷ [] })) (list_all is_few behind) (more_few s.most s.items item two.0) ((apart (is_few s) (list_all is_few behind) few).1)
added_few (suc n) item (s ∷ behind) room few =
    let two = apart (is_few s) (list_all is_few behind) few in
    both (is_few s) (list_all is_few (added n item behind)) two.0 (added_few n item behind room two.1)

-- the lines of a file whose section n has one item more
pub grown_lines : (head : List Line) (n : ℕ) (item : List Line) (ss ts : List Section) → ts ≡ added n item ss → has_room n ss ≡ true → head ++ flat_map section_lines ts ≡ (head ++ flat_map section_lines ss) ++ item
grown_lines head n item ss ts is room =
    ap (λ x. head ++ flat_map section_lines x) is ∙ ap (λ x. head ++ x) (added_lines n item ss room) ∙ sym (append_assoc head (flat_map section_lines ss) item)

pub grown_few : (n : ℕ) (item : List Line) (ss ts : List Section) → ts ≡ added n item ss → has_room n ss ≡ true → list_all is_few ss ≡ true → list_all is_few ts ≡ true
grown_few n item ss ts is room few = ap (list_all is_few) is ∙ added_few n item ss room few
