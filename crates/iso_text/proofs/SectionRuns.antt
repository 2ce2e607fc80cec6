-- Runs over the parent, a block, and the lines of one section.
use Rattle.std.proofs.Common.{◌≡◌, ℕ, ◌+◌, ◌≤◌, ◌==◌, true, false, List, [], ◌∷◌, ◌++◌, length, map, Option, Some, None, refl, sym, ◌∙◌, ap, arith, inl, inr, ◌&&◌, nat_lt, nat_le, append_assoc, append-nil, length-append, if◌then◌else◌}
use Rattle.std.specs.Prelude.{◌⊎◌, option_and_then, is_none, not}
use Rattle.std.specs.List.{list_all, flat_map}
use Rattle.std.specs.Option.{option_to_list}
use Rattle.std.proofs.lemmas.Bool.{lt-ltb}
use Rattle.std.proofs.lemmas.Bool.Decides.{nat_tests}
use Rattle.iso_text.specs.Draft.{section_takes, on_section, next_of, begin}
use Rattle.iso_text.specs.DraftLines.{draft, settled, on_irrep, takes_mat, takes_vector}
use Rattle.iso_text.specs.File.{is_parent, has_entries, is_block, is_new}
use Rattle.iso_text.specs.FileLines.{each, block_lines, parent_lines, empty_file}
use Rattle.iso_text.specs.FileValue.{File}
use Rattle.iso_text.specs.declared.draft.Draft.{Draft}
use Rattle.iso_text.specs.declared.draft.Stage.TheVariants as stage
use Rattle.iso_text.specs.declared.line_kinds.IrrepLine.{IrrepLine}
use Rattle.iso_text.specs.declared.line_kinds.Line.{Line}
use Rattle.iso_text.specs.declared.line_kinds.Line.TheVariants.{Head, Op, Irrep, K, Mat, RealVector}
use Rattle.iso_text.specs.declared.sections.IrrepText.{IrrepText}
use Rattle.iso_text.specs.declared.sections.MatText.{MatText}
use Rattle.iso_text.specs.declared.sections.OpLine.{OpLine}
use Rattle.iso_text.specs.declared.sections.OpsText.{OpsText}
use Rattle.iso_text.specs.declared.sections.VectorText.{VectorText}
use Rattle.iso_text.proofs.BodyLemmas.{both, apart}
use Rattle.iso_text.proofs.DraftRuns.{runs, then_runs}
use Rattle.iso_text.proofs.Steps.{zero_length}

-- what can follow the file so far: a draft that is settled as that file
abbrev pub Leads : Draft → List Line → File → Type 0
Leads d lines g = (e : Draft) × (runs d lines ≡ Some e) × (settled e.stage e.document ≡ Some g)

pub leads_on : (d : Draft) (a b : List Line) (g h : File) → (first : Leads d a g) → Leads first.0 b h → Leads d (a ++ b) h
leads_on d a b g h first rest = (rest.0, then_runs d first.0 a b (Some rest.0) first.1 rest.1, rest.2)

pub le_true : (a b : ℕ) → nat_le a b ≡ true → a ≤ b
le_true a b e = grind (arith, nat_tests)

-- the equation of one line that leads from a file to a longer one
abbrev pub Step : {V : Type 0} → (V → Line) → File → V → File → Type 0
Step line f v g = (d : Draft) → settled d.stage d.document ≡ Some f → next_of d (line v) ≡ Some (draft stage.Body g)

-- a line of a section that takes it
pub step_by : (d : Draft) (f : File) (n : ℕ) (next : Option Draft) (on : File → Option Draft) → settled d.stage d.document ≡ Some f → on f ≡ (if section_takes n f then next else None) → section_takes n f ≡ true → option_and_then on (settled d.stage d.document) ≡ next
step_by d f n next on is step takes = ap (option_and_then on) is ∙ step ∙ ap (λ b. if b then next else None) takes

pub length_each : {V : Type 0} (line : V → Line) (vs : List V) → length (each line vs) ≡ length vs
length_each line [] = refl
length_each line (v ∷ vs) = omega (arith, length_each line vs)

-- many lines of a section; where none stands, A need not hold
pub many_run : {V : Type 0} (A : Type 0) (line : V → Line) (put : List V → File) (most : ℕ)
    → ((before : List V) (v : V) → A → nat_lt (length (each line before)) most ≡ true → Step line (put before) v (put (before ++ v ∷ [])))
    → (vs before : List V) (d : Draft) → (vs ≡ []) ⊎ A → settled d.stage d.document ≡ Some (put before) → length before + length vs ≤ most → Leads d (flat_map (λ item. item) (each line vs)) (put (before ++ vs))
many_run A line put most step [] before d ok is few = (d, refl, is ∙ ap (λ x. Some (put x)) (sym (append-nil before)))
many_run A line put most step (v ∷ vs) before d (inl none) is few = absurd cc
many_run A line put most step (v ∷ vs) before d (inr a) is few =
    let longer = before ++ v ∷ [] in
    let room : nat_lt (length (each line before)) most ≡ true = lt-ltb (length (each line before)) most (omega (arith, few, length_each line before)) in
    let rest = many_run A line put most step vs longer (draft stage.Body (put longer)) (inr a) refl (omega (arith, few, length-append before (v ∷ []))) in (
      rest.0,
      ap (option_and_then (λ e. runs e (flat_map (λ item. item) (each line vs)))) (step before v a room d is) ∙ rest.1,
      rest.2 ∙ ap (λ x. Some (put x)) (append_assoc before (v ∷ []) vs),
    )

-- at most one line of a section
pub option_run : {V : Type 0} (line : V → Line) (o : Option V) (f : File) (put : Option V → File)
    → ((v : V) → o ≡ Some v → Step line f v (put (Some v)))
    → (d : Draft) → settled d.stage d.document ≡ Some f → f ≡ put None → Leads d (flat_map (λ item. item) (each line (option_to_list o))) (put o)
option_run line None f put step d is same = (d, refl, is ∙ ap (λ x. Some x) same)
option_run line (Some v) f put step d is same = (draft stage.Body (put (Some v)), ap (option_and_then (λ e. Some e)) (step v refl d is), refl)

-- more `op` lines
ops_run : (ops before : List OpLine) (n letter : ℕ) (f : File) → length before + length ops ≤ 5
    → runs (draft (stage.Lattice n (record { letter = letter; ops = before })) f) (map (λ o. Op o) ops) ≡ Some (draft (stage.Lattice n (record { letter = letter; ops = before ++ ops })) f)
ops_run [] before n letter f few = ap (λ x. Some (draft (stage.Lattice n (record { letter = letter; ops = x })) f)) (sym (append-nil before))
ops_run (o ∷ ops) before n letter f few =
    let longer = before ++ o ∷ [] in
    ap (λ b. option_and_then (λ e. runs e (map (λ x. Op x) ops)) (if b then Some (draft (stage.Lattice n (record { letter = letter; ops = longer })) f) else None)) (lt-ltb (length before) 5 (omega (arith, few)))
    ∙ ops_run ops longer n letter f (omega (arith, few, length-append before (o ∷ [])))
    ∙ ap (λ x. Some (draft (stage.Lattice n (record { letter = letter; ops = x })) f)) (append_assoc before (o ∷ []) ops)

pub not_empty : (n : ℕ) → nat_le 1 n ≡ true → (n == 0) ≡ false
not_empty n some = grind (arith, nat_tests)

-- the file with its parent
abbrev pub with_parent : ℕ → ℕ → List ℕ → Option OpsText → File
with_parent format n hall g = record (empty_file format) { hall_line = n; hall = hall; generators = g }

pub parent_runs : (format n : ℕ) (hall : List ℕ) (g : Option OpsText) → is_parent hall g ≡ true → (is_none g ≡ true) ⊎ (format ≡ 2) → Leads begin (Head format ∷ parent_lines n hall g) (with_parent format n hall g)
parent_runs format n hall None parent second = (draft stage.Body (with_parent format n hall None), refl, refl)
parent_runs format n hall (Some g) parent (inl none) = absurd cc
parent_runs format n hall (Some g) parent (inr two) =
    let counts = apart (length hall == 0 && nat_le 1 (length g.ops)) (nat_le (length g.ops) 5) parent in
    let front = apart (length hall == 0) (nat_le 1 (length g.ops)) counts.0 in
    let e : Draft = draft (stage.Lattice n g) (empty_file format) in (
      e,
      ap (λ k. option_and_then (λ x. runs x (map (λ o. Op o) g.ops)) (if k == 2 then Some (draft (stage.Lattice n (record { letter = g.letter; ops = [] })) (empty_file format)) else None)) two
          ∙ ops_run g.ops [] n g.letter (empty_file format) (omega (arith, le_true (length g.ops) 5 counts.1)),
      ap (λ b. if b then None else Some (record (empty_file format) { hall_line = n; generators = Some g })) (not_empty (length g.ops) front.1)
          ∙ ap (λ x. let h : File = with_parent format n x (Some g) in Some h) (sym (zero_length hall front.0)),
    )

-- more `mat` lines
mats_run : (mats : List MatText) (i : IrrepText) (f : File) → is_none i.vector ≡ true → length i.mats + length mats ≤ 96 → list_all (has_entries i.size) mats ≡ true
    → runs (draft (stage.Block i) f) (map (λ m. Mat m) mats) ≡ Some (draft (stage.Block (record i { mats = i.mats ++ mats })) f)
mats_run [] i f none few fit = ap (λ x. let j : IrrepText = record i { mats = x } in Some (draft (stage.Block j) f)) (sym (append-nil i.mats))
mats_run (m ∷ mats) i f none few fit =
    let two = apart (has_entries i.size m) (list_all (has_entries i.size) mats) fit in
    let longer : IrrepText = record i { mats = i.mats ++ m ∷ [] } in
    let takes : takes_mat m i ≡ true = both (is_none i.vector && nat_lt (length i.mats) 96) (has_entries i.size m) (both (is_none i.vector) (nat_lt (length i.mats) 96) none (lt-ltb (length i.mats) 96 (omega (arith, few)))) two.0 in
    ap (λ b. option_and_then (λ e. runs e (map (λ x. Mat x) mats)) (if b then Some (draft (stage.Block longer) f) else None)) takes
    ∙ mats_run mats longer f none (omega (arith, few, length-append i.mats (m ∷ []))) two.1
    ∙ ap (λ x. let j : IrrepText = record i { mats = x } in Some (draft (stage.Block j) f)) (append_assoc i.mats (m ∷ []) mats)

vector_runs : (i : IrrepText) (v : Option VectorText) (f : File) → (length i.mats == 0) ≡ false → (is_none v ≡ true) ⊎ (f.format ≡ 2)
    → runs (draft (stage.Block (record i { vector = None })) f) (map (λ x. RealVector x) (option_to_list v)) ≡ Some (draft (stage.Block (record i { vector = v })) f)
vector_runs i None f some second = refl
vector_runs i (Some v) f some (inl none) = absurd cc
vector_runs i (Some v) f some (inr two) =
    let whole : IrrepText = record i { vector = Some v } in
    let takes : takes_vector (record i { vector = None }) f ≡ true = both (f.format == 2 && true) (not (length i.mats == 0)) (ap (λ k. k == 2 && true) two) (ap not some) in
    ap (λ b. option_and_then (λ e. Some e) (if b then Some (draft (stage.Block whole) f) else None)) takes

-- a whole block
pub block_runs : (i : IrrepText) (d : Draft) (g : File) → settled d.stage d.document ≡ Some g → section_takes 0 g ≡ true → is_new i.name g.irreps ≡ true → is_block i ≡ true → (is_none i.vector ≡ true) ⊎ (g.format ≡ 2)
    → Leads d (block_lines i) (record g { irreps = g.irreps ++ i ∷ [] })
block_runs i d g is takes new good second =
    let head : IrrepLine = record { line = i.line; name = i.name; size = i.size } in
    let all = apart (nat_le 1 (length i.mats) && nat_le (length i.mats) 96) (list_all (has_entries i.size) i.mats) good in
    let counts = apart (nat_le 1 (length i.mats)) (nat_le (length i.mats) 96) all.0 in
    let some = not_empty (length i.mats) counts.0 in
    let opened : IrrepText = record i { mats = []; vector = None } in
    let filled : IrrepText = record i { vector = None } in
    let rest = map (λ m. Mat m) i.mats ++ map (λ v. RealVector v) (option_to_list i.vector) in (
      draft (stage.Block i) g,
      ap (option_and_then (λ e. runs e (K i.k ∷ rest))) (step_by d g 0 (on_irrep head g) (on_section (Irrep head)) is refl takes)
          ∙ ap (λ b. option_and_then (λ e. runs e (K i.k ∷ rest)) (if b then Some (draft (stage.Open head) g) else None)) new
          ∙ then_runs (draft (stage.Block opened) g) (draft (stage.Block filled) g) (map (λ m. Mat m) i.mats) (map (λ v. RealVector v) (option_to_list i.vector)) (Some (draft (stage.Block i) g))
          (mats_run i.mats opened g refl (omega (arith, le_true (length i.mats) 96 counts.1)) all.1)
          (vector_runs i i.vector g some second),
      ap (λ b. let h : File = record g { irreps = g.irreps ++ i ∷ [] } in if b then None else Some h) some,
    )
