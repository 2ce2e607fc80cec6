-- What a file says is within the ranges of the format.
--
-- file-in_range: all that a file says
-- read-in_range: all that a file says, where a reader answers with one
use Rattle.std.proofs.Common.{◌≡◌, ℕ, ◌*◌, ◌<◌, ◌≤◌, ◌==◌, true, ◌&&◌, nat_le, List, [], ◌∷◌, ◌++◌, map, length, Option, Some, None, Result, Ok, Err, IfOk, arith}
use Rattle.std.specs.Prelude.{IfSome, IfNone}
use Rattle.std.specs.List.{All, flat_map, list_all}
use Rattle.std.specs.Option.{option_to_list}
use Rattle.std.proofs.lemmas.Bool.Decides.{nat_tests}
use Rattle.std.proofs.lemmas.List.{length-map}
use Rattle.std.proofs.lemmas.List.Elements.{All-nil, All-cons, All-head, All-tail}
use Rattle.iso_text.proofs.LineRangeLemmas.{IsLine, said_lines}
use Rattle.iso_text.proofs.WordRangeLemmas.{apart}
use Rattle.iso_text.specs.File.{IsFile, has_entries, is_block, is_few, is_parent}
use Rattle.iso_text.specs.FileLines.{Section, section, each, section_lines, sections, parent_lines, block_lines, body_lines, file_lines}
use Rattle.iso_text.specs.FileValue.{File}
use Rattle.iso_text.specs.Ranges.{IsMat, IsVector, IsBlock, AreGenerators, IsInRange}
use Rattle.iso_text.specs.WordRanges.{AreAtMost}
use Rattle.iso_text.specs.declared.line_kinds.Line.{Line}
use Rattle.iso_text.specs.declared.line_kinds.Line.TheVariants.{Head, Hall, Lattice, Op, Irrep, K, Mat, RealVector, Atom, Tolerance, Cell, Listed, Value, Axial, End}
use Rattle.iso_text.specs.declared.sections.IrrepText.{IrrepText}
use Rattle.iso_text.specs.declared.sections.MatText.{MatText}
use Rattle.iso_text.specs.declared.sections.OpsText.{OpsText}

-- the parts of a list
module _ {X : Type 0} (P : X → Type 0) where
  All-front : (xs ys : List X) → All P (xs ++ ys) → All P xs
  All-front [] ys all = All-nil P
  All-front (x ∷ xs) ys all = All-cons P x xs (All-head P x (xs ++ ys) all) (All-front xs ys (All-tail P x (xs ++ ys) all))

  All-behind : (xs ys : List X) → All P (xs ++ ys) → All P ys
  All-behind [] ys all = all
  All-behind (x ∷ xs) ys all = All-behind xs ys (All-tail P x (xs ++ ys) all)

  All-from_map : {Y : Type 0} (f : Y → X) (ys : List Y) → All P (map f ys) → All (λ y. P (f y)) ys
  All-from_map f [] all = All-nil (λ y. P (f y))
  All-from_map f (y ∷ ys) all = All-cons (λ z. P (f z)) y ys (All-head P (f y) (map f ys) all) (All-from_map f ys (All-tail P (f y) (map f ys) all))

  All-from_option : (o : Option X) → All P (option_to_list o) → IfSome o P
  All-from_option None all = tt
  All-from_option (Some x) all = All-head P x [] all

-- what holds of each line holds of each item of a section
each_of : {V : Type 0} (line : V → Line) (vs : List V) → All IsLine (flat_map (λ item. item) (each line vs)) → All (λ v. IsLine (line v)) vs
each_of line [] all = All-nil (λ v. IsLine (line v))
each_of line (v ∷ vs) all =
    let more = flat_map (λ item. item) (each line vs) in
    All-cons (λ w. IsLine (line w)) v vs (All-head IsLine (line v) more all) (each_of line vs (All-tail IsLine (line v) more all))

-- each section has lines within their ranges, and few items
abbrev AreSections : List Section → Type 0
AreSections [] = Unit {0}
AreSections (s ∷ ss) = (All IsLine (section_lines s) × (length s.items ≤ s.most)) × AreSections ss

le_true : (a b : ℕ) → nat_le a b ≡ true → a ≤ b
le_true a b e = grind (arith, nat_tests)

is_this : (a b : ℕ) → (a == b) ≡ true → a ≡ b
is_this a b e = grind (arith, nat_tests)

sections_of : (ss : List Section) → All IsLine (flat_map section_lines ss) → list_all is_few ss ≡ true → AreSections ss
sections_of [] all few = tt
sections_of (s ∷ ss) all few =
    let parts = apart (is_few s) (list_all is_few ss) few in (
      (All-front IsLine (section_lines s) (flat_map section_lines ss) all, le_true (length s.items) s.most parts.0),
      sections_of ss (All-behind IsLine (section_lines s) (flat_map section_lines ss) all) parts.1,
    )

-- the items of a section with one line each
items_of : {V : Type 0} (most : ℕ) (line : V → Line) (vs : List V) → All IsLine (section_lines (section most (each line vs))) × (length (each line vs) ≤ most) → AreAtMost most (λ v. IsLine (line v)) vs
items_of most line vs s = record { few = omega (arith, s.1, length-map vs (λ v. line v ∷ [])); each = each_of line vs s.0 }

-- irrep blocks
mats_of : (size : ℕ) (mats : List MatText) → All (λ m. IsLine (Mat m)) mats → list_all (has_entries size) mats ≡ true → All (IsMat size) mats
mats_of size [] all fit = All-nil (IsMat size)
mats_of size (m ∷ mats) all fit =
    let parts = apart (has_entries size m) (list_all (has_entries size) mats) fit in
    let first = All-head (λ n. IsLine (Mat n)) m mats all in
    All-cons (IsMat size) m mats (record { operation = first.0; entries = record { count = is_this (length m.entries) (size * size) parts.0; each = first.1 } }) (mats_of size mats (All-tail (λ n. IsLine (Mat n)) m mats all) parts.1)

block_of : (i : IrrepText) → All IsLine (block_lines i) → is_block i ≡ true → IsBlock i
block_of i all sound =
    let mats = map (λ m. Mat m) i.mats in
    let vectors = map (λ v. RealVector v) (option_to_list i.vector) in
    let head = Irrep (record { line = i.line; name = i.name; size = i.size }) in
    let first = All-head IsLine head (K i.k ∷ (mats ++ vectors)) all in
    let rest = All-tail IsLine head (K i.k ∷ (mats ++ vectors)) all in
    let more = All-tail IsLine (K i.k) (mats ++ vectors) rest in
    let tests = apart (nat_le 1 (length i.mats) && nat_le (length i.mats) 96) (list_all (has_entries i.size) i.mats) sound in
    let counts = apart (nat_le 1 (length i.mats)) (nat_le (length i.mats) 96) tests.0 in
    record {
      name = first.0;
      some = first.1;
      few = first.2;
      wave = All-head IsLine (K i.k) (mats ++ vectors) rest;
      some_mats = le_true 1 (length i.mats) counts.0;
      few_mats = le_true (length i.mats) 96 counts.1;
      mats = mats_of i.size i.mats (All-from_map IsLine (λ m. Mat m) i.mats (All-front IsLine mats vectors more)) tests.1;
      vector = All-from_option IsVector i.vector (All-from_map IsLine (λ v. RealVector v) (option_to_list i.vector) (All-behind IsLine mats vectors more));
    }

blocks_of : (irreps : List IrrepText) → All IsLine (flat_map (λ item. item) (map block_lines irreps)) → list_all is_block irreps ≡ true → All IsBlock irreps
blocks_of [] all sound = All-nil IsBlock
blocks_of (i ∷ irreps) all sound =
    let more = flat_map (λ item. item) (map block_lines irreps) in
    let parts = apart (is_block i) (list_all is_block irreps) sound in
    All-cons IsBlock i irreps (block_of i (All-front IsLine (block_lines i) more all) parts.0) (blocks_of irreps (All-behind IsLine (block_lines i) more all) parts.1)

-- the parent
symbol_of : (n : ℕ) (hall : List ℕ) (g : Option OpsText) → All IsLine (parent_lines n hall g) → IfNone g (0 < length hall)
symbol_of n hall None all = All-head IsLine (Hall n hall) [] all
symbol_of n hall (Some g) all = tt

parent_of : (n : ℕ) (hall : List ℕ) (g : Option OpsText) → All IsLine (parent_lines n hall g) → is_parent hall g ≡ true → IfSome g AreGenerators
parent_of n hall None all sound = tt
parent_of n hall (Some g) all sound =
    let ops = map (λ o. Op o) g.ops in
    let tests = apart (length hall == 0 && nat_le 1 (length g.ops)) (nat_le (length g.ops) 5) sound in
    let counts = apart (length hall == 0) (nat_le 1 (length g.ops)) tests.0 in
    record {
      letter = All-head IsLine (Lattice n g.letter) ops all;
      some = le_true 1 (length g.ops) counts.1;
      few = le_true (length g.ops) 5 tests.1;
      each = All-from_map IsLine (λ o. Op o) g.ops (All-tail IsLine (Lattice n g.letter) ops all);
    }

-- a section with one item at most
one_of : {V : Type 0} (line : V → Line) (o : Option V) → All IsLine (section_lines (section 1 (each line (option_to_list o)))) → IfSome o (λ v. IsLine (line v))
one_of line o all = All-from_option (λ v. IsLine (line v)) o (each_of line (option_to_list o) all)

-- all that a file says is within the ranges of the format
pub file-in_range : (lines : List (List ℕ)) (f : File) → IsFile lines f → IsInRange f
file-in_range lines f h =
    let parent = parent_lines f.hall_line f.hall f.generators in
    let behind = flat_map section_lines (sections f) in
    let body = All-front IsLine (body_lines f) (End ∷ []) (said_lines 1 lines (file_lines f) h.said) in
    let rest = All-tail IsLine (Head f.format) (parent ++ behind) body in
    let s = sections_of (sections f) (All-behind IsLine parent behind rest) h.sound.few in
    record {
      format = All-head IsLine (Head f.format) (parent ++ behind) body;
      symbol = symbol_of f.hall_line f.hall f.generators (All-front IsLine parent behind rest);
      generators = parent_of f.hall_line f.hall f.generators (All-front IsLine parent behind rest) h.sound.parent;
      irreps = record { few = omega (arith, s.0.1, length-map f.irreps block_lines); each = blocks_of f.irreps s.0.0 h.sound.blocks };
      atoms = items_of 64 (λ a. Atom a) f.atoms s.1.0;
      tolerance = one_of (λ t. Tolerance t) f.tolerance s.1.1.0.0;
      cell = one_of (λ c. Cell c) f.cell s.1.1.1.0.0;
      listed = items_of 4096 (λ a. Listed a) f.listed s.1.1.1.1.0;
      values = items_of 4096 (λ v. Value v) f.values s.1.1.1.1.1.0;
      axials = items_of 4096 (λ v. Axial v) f.axials s.1.1.1.1.1.1.0;
    }

-- the same of a reader's answer
pub read-in_range : {E : Type 0} (lines : List (List ℕ)) (r : Result File E) → IfOk r (λ f. IsFile lines f) → IfOk r (λ f. IsInRange f)
read-in_range lines (Ok f) h = file-in_range lines f h
read-in_range lines (Err e) h = tt
