-- Each file runs to its end.
use Rattle.std.proofs.Common.{◌≡◌, ℕ, ℤ, zero, suc, ◌+◌, ◌≤◌, ◌==◌, Bool, true, List, [], ◌∷◌, ◌++◌, length, map, Option, Some, None, refl, sym, ◌∙◌, ap, arith, inl, inr, ◌&&◌, nat_lt, nat_le, append_assoc, append-nil, length-append}
use Rattle.std.specs.Prelude.{◌⊎◌, option_and_then, is_none, is_some}
use Rattle.std.specs.List.{list_all, flat_map}
use Rattle.std.specs.Option.{option_to_list}
use Rattle.std.proofs.lemmas.Bool.{lt-ltb}
use Rattle.iso_text.specs.Draft.{section_takes, on_section, begin}
use Rattle.iso_text.specs.DraftLines.{draft, settled}
use Rattle.iso_text.specs.File.{IsSound, is_first_format, is_few, is_block, is_new, have_new_names}
use Rattle.iso_text.specs.FileLines.{Section, sections, each, block_lines, body_lines, parent_lines, file_lines}
use Rattle.iso_text.specs.FileValue.{File}
use Rattle.iso_text.specs.declared.draft.Draft.{Draft}
use Rattle.iso_text.specs.declared.draft.Stage.TheVariants as stage
use Rattle.iso_text.specs.declared.line_kinds.Line.{Line}
use Rattle.iso_text.specs.declared.line_kinds.Line.TheVariants.{Head, Atom, Tolerance, Cell, Listed, Value, Axial, End}
use Rattle.iso_text.specs.declared.sections.AtomText.{AtomText}
use Rattle.iso_text.specs.declared.sections.AxialText.{AxialText}
use Rattle.iso_text.specs.declared.sections.CellText.{CellText}
use Rattle.iso_text.specs.declared.sections.IrrepText.{IrrepText}
use Rattle.iso_text.specs.declared.sections.ValueText.{ValueText}
use Rattle.iso_text.proofs.BodyLemmas.{both, apart}
use Rattle.iso_text.proofs.DraftRuns.{runs, then_runs}
use Rattle.iso_text.proofs.RoomLemmas.{most_at}
use Rattle.iso_text.proofs.SectionRuns.{Leads, leads_on, le_true, step_by, many_run, length_each, option_run, with_parent, parent_runs, block_runs}
use Rattle.iso_text.proofs.Steps.{none_is, zero_length}

-- what format 1 excludes, or format 2
pub record Second (f : File) : Type 0 where
  pub parent : (is_none f.generators ≡ true) ⊎ (f.format ≡ 2)
  pub vectors : (list_all (λ i. is_none i.vector) f.irreps ≡ true) ⊎ (f.format ≡ 2)
  pub cell : (f.cell ≡ None) ⊎ (f.format ≡ 2)
  pub values : (f.values ≡ []) ⊎ (f.format ≡ 2)
  pub axials : (f.axials ≡ []) ⊎ (f.format ≡ 2)

second_is : (f : File) → ((f.format ≡ 1) × (is_first_format f ≡ true)) ⊎ (f.format ≡ 2) → Second f
second_is f (inr two) = record { parent = inr two; vectors = inr two; cell = inr two; values = inr two; axials = inr two }
second_is f (inl first) =
    let no_parent = is_none f.generators in
    let no_vectors = list_all (λ i. is_none i.vector) f.irreps in
    let a = apart (no_parent && no_vectors && is_none f.cell && length f.values == 0) (length f.axials == 0) first.1 in
    let b = apart (no_parent && no_vectors && is_none f.cell) (length f.values == 0) a.0 in
    let c = apart (no_parent && no_vectors) (is_none f.cell) b.0 in
    let d = apart no_parent no_vectors c.0 in
    record { parent = inl d.0; vectors = inl d.1; cell = inl (none_is f.cell c.1); values = inl (zero_length f.values b.1); axials = inl (zero_length f.axials a.1) }

-- the items of section n
abbrev items_at : ℕ → List Section → List (List Line)
items_at n [] = []
items_at zero (s ∷ behind) = s.items
items_at (suc n) (s ∷ behind) = items_at n behind

few_at : (n : ℕ) (ss : List Section) → list_all is_few ss ≡ true → nat_le (length (items_at n ss)) (most_at n ss) ≡ true
few_at n [] few = refl
few_at zero (s ∷ behind) few = (apart (is_few s) (list_all is_few behind) few).0
few_at (suc n) (s ∷ behind) few = few_at n behind ((apart (is_few s) (list_all is_few behind) few).1)

few_lines : {V : Type 0} (line : V → Line) (vs : List V) (most : ℕ) → nat_le (length (each line vs)) most ≡ true → length vs ≤ most
few_lines line vs most few = omega (arith, le_true (length (each line vs)) most few, length_each line vs)

length_blocks : (irreps : List IrrepText) → length (map block_lines irreps) ≡ length irreps
length_blocks [] = refl
length_blocks (i ∷ irreps) = omega (arith, length_blocks irreps)

-- the file with its first sections alone
abbrev pub with_irreps : File → List IrrepText → File
with_irreps f irreps = record (with_parent f.format f.hall_line f.hall f.generators) { irreps = irreps }

abbrev pub with_atoms : File → List AtomText → File
with_atoms f atoms = record (with_irreps f f.irreps) { atoms = atoms }

abbrev pub with_tolerance : File → Option ℤ → File
with_tolerance f tolerance = record (with_atoms f f.atoms) { tolerance = tolerance }

abbrev pub with_cell : File → Option CellText → File
with_cell f cell = record (with_tolerance f f.tolerance) { cell = cell }

abbrev pub with_listed : File → List AtomText → File
with_listed f listed = record (with_cell f f.cell) { listed = listed }

abbrev pub with_values : File → List ValueText → File
with_values f values = record (with_listed f f.listed) { values = values }

both_of : {A : Type 0} (a b : Bool) → ((a && b) ≡ true) ⊎ A → ((a ≡ true) ⊎ A) × ((b ≡ true) ⊎ A)
both_of a b (inl all) = let two = apart a b all in (inl two.0, inl two.1)
both_of a b (inr x) = (inr x, inr x)

-- many blocks
blocks_run : (f : File) (irreps before : List IrrepText) (d : Draft) → settled d.stage d.document ≡ Some (with_irreps f before) → length before + length irreps ≤ 8 → list_all is_block irreps ≡ true → have_new_names before irreps ≡ true
    → (list_all (λ i. is_none i.vector) irreps ≡ true) ⊎ (f.format ≡ 2) → Leads d (flat_map (λ item. item) (map block_lines irreps)) (with_irreps f (before ++ irreps))
blocks_run f [] before d is few good new second = (d, refl, is ∙ ap (λ x. Some (with_irreps f x)) (sym (append-nil before)))
blocks_run f (i ∷ irreps) before d is few good new second =
    let goods = apart (is_block i) (list_all is_block irreps) good in
    let news = apart (is_new i.name before) (have_new_names (before ++ i ∷ []) irreps) new in
    let seconds = both_of (is_none i.vector) (list_all (λ j. is_none j.vector) irreps) second in
    let room : nat_lt (length (map block_lines before)) 8 ≡ true = lt-ltb (length (map block_lines before)) 8 (omega (arith, few, length_blocks before)) in
    let takes : section_takes 0 (with_irreps f before) ≡ true = ap (λ b. b && true && true && true) room in
    let first = block_runs i d (with_irreps f before) is takes news.0 goods.0 seconds.0 in
    let rest = blocks_run f irreps (before ++ i ∷ []) first.0 first.2 (omega (arith, few, length-append before (i ∷ []))) goods.1 news.1 seconds.1 in
    (rest.0, then_runs d first.0 (block_lines i) (flat_map (λ item. item) (map block_lines irreps)) (Some rest.0) first.1 rest.1, rest.2 ∙ ap (λ x. Some (with_irreps f x)) (append_assoc before (i ∷ []) irreps))

atoms_run : (f : File) (d : Draft) → settled d.stage d.document ≡ Some (with_irreps f f.irreps) → length f.atoms ≤ 64 → Leads d (flat_map (λ item. item) (each (λ a. Atom a) f.atoms)) (with_atoms f f.atoms)
atoms_run f d is few =
    many_run (Unit {0}) (λ a. Atom a) (with_atoms f) 64
    (λ before a u room e at. step_by e (with_atoms f before) 1 (Some (draft stage.Body (with_atoms f (before ++ a ∷ [])))) (on_section (Atom a)) at refl (ap (λ b. b && true && true && true) room))
    f.atoms [] d (inr tt) is (omega (arith, few))

tolerance_runs : (f : File) (d : Draft) → settled d.stage d.document ≡ Some (with_atoms f f.atoms) → Leads d (flat_map (λ item. item) (each (λ t. Tolerance t) (option_to_list f.tolerance))) (with_tolerance f f.tolerance)
tolerance_runs f d is =
    option_run (λ t. Tolerance t) f.tolerance (with_atoms f f.atoms) (with_tolerance f)
    (λ t told e at. step_by e (with_atoms f f.atoms) 2 (Some (draft stage.Body (with_tolerance f (Some t)))) (on_section (Tolerance t)) at refl refl)
    d is refl

cell_runs : (f : File) (d : Draft) → settled d.stage d.document ≡ Some (with_tolerance f f.tolerance) → (f.cell ≡ None) ⊎ (f.format ≡ 2) → (f.cell ≡ None) ⊎ (is_some f.tolerance ≡ true)
    → Leads d (flat_map (λ item. item) (each (λ c. Cell c) (option_to_list f.cell))) (with_cell f f.cell)
cell_runs f d is second matched =
    option_run (λ c. Cell c) f.cell (with_tolerance f f.tolerance) (with_cell f)
    (λ c told e at. step_by e (with_tolerance f f.tolerance) 3 (Some (draft stage.Body (with_cell f (Some c)))) (on_section (Cell c)) at refl (both (true && f.format == 2) (is_some f.tolerance) (ap (λ k. true && k == 2) (is_there c told second)) (is_there c told matched)))
    d is refl
  where
    is_there : {A : Type 0} {o : Option CellText} (c : CellText) → o ≡ Some c → (o ≡ None) ⊎ A → A
    is_there c told (inl none) = absurd cc
    is_there c told (inr a) = a

listed_run : (f : File) (d : Draft) → settled d.stage d.document ≡ Some (with_cell f f.cell) → length f.listed ≤ 4096 → (f.listed ≡ []) ⊎ (is_some f.tolerance ≡ true) → Leads d (flat_map (λ item. item) (each (λ a. Listed a) f.listed)) (with_listed f f.listed)
listed_run f d is few matched =
    many_run (is_some f.tolerance ≡ true) (λ a. Listed a) (with_listed f) 4096
    (λ before a told room e at. step_by e (with_listed f before) 4 (Some (draft stage.Body (with_listed f (before ++ a ∷ [])))) (on_section (Listed a)) at refl (both (nat_lt (length (each (λ x. Listed x) before)) 4096 && true && true) (is_some f.tolerance) (ap (λ b. b && true && true) room) told))
    f.listed [] d matched is (omega (arith, few))

values_run : (f : File) (d : Draft) → settled d.stage d.document ≡ Some (with_listed f f.listed) → length f.values ≤ 4096 → (f.values ≡ []) ⊎ (f.format ≡ 2) → Leads d (flat_map (λ item. item) (each (λ v. Value v) f.values)) (with_values f f.values)
values_run f d is few second =
    many_run (f.format ≡ 2) (λ v. Value v) (with_values f) 4096
    (λ before v two room e at. step_by e (with_values f before) 5 (Some (draft stage.Body (with_values f (before ++ v ∷ [])))) (on_section (Value v)) at refl (ap (λ b. b && f.format == 2 && true) (ap (λ b. b && true) room) ∙ ap (λ k. k == 2 && true) two))
    f.values [] d second is (omega (arith, few))

-- the file with these axial vectors
abbrev with_axials : File → List AxialText → File
with_axials f axials = record (with_values f f.values) { axials = axials }

axials_run : (f : File) (d : Draft) → settled d.stage d.document ≡ Some (with_values f f.values) → length f.axials ≤ 4096 → (f.axials ≡ []) ⊎ (f.format ≡ 2) → Leads d (flat_map (λ item. item) (each (λ v. Axial v) f.axials)) f
axials_run f d is few second =
    many_run (f.format ≡ 2) (λ v. Axial v) (with_axials f) 4096
    (λ before v two room e at. step_by e (with_axials f before) 6 (Some (draft stage.Body (with_axials f (before ++ v ∷ [])))) (on_section (Axial v)) at refl (ap (λ b. b && f.format == 2 && true) (ap (λ b. b && true) room) ∙ ap (λ k. k == 2 && true) two))
    f.axials [] d second is (omega (arith, few))

cell_told : (tolerance : Option ℤ) (cell : Option CellText) (listed : List AtomText) → (tolerance ≡ None → (cell ≡ None) × (listed ≡ [])) → ((cell ≡ None) ⊎ (is_some tolerance ≡ true)) × ((listed ≡ []) ⊎ (is_some tolerance ≡ true))
cell_told None cell listed matched = let both_none = matched refl in (inl both_none.0, inl both_none.1)
cell_told (Some t) cell listed matched = (inr refl, inr refl)

leads_last : (d : Draft) (a : List Line) (g : File) → Leads d a g → Leads d (a ++ []) g
leads_last d a g first = (first.0, then_runs d first.0 a [] (Some first.0) first.1 refl, first.2)

ends : (d : Draft) (f : File) → settled d.stage d.document ≡ Some f → runs d (End ∷ []) ≡ Some (draft stage.Done f)
ends d f is = ap (λ o. option_and_then (λ e. Some e) (option_and_then (on_section End) o)) is

-- a file runs to its end
pub file_runs : (f : File) → IsSound f → runs begin (file_lines f) ≡ Some (draft stage.Done f)
file_runs f sound =
    let second = second_is f sound.format in
    let told = cell_told f.tolerance f.cell f.listed sound.matched in
    let few = λ (n : ℕ). few_at n (sections f) sound.few in
    let s0 : List Line = flat_map (λ item. item) (map block_lines f.irreps) in
    let s1 : List Line = flat_map (λ item. item) (each (λ a. Atom a) f.atoms) in
    let s2 : List Line = flat_map (λ item. item) (each (λ t. Tolerance t) (option_to_list f.tolerance)) in
    let s3 : List Line = flat_map (λ item. item) (each (λ c. Cell c) (option_to_list f.cell)) in
    let s4 : List Line = flat_map (λ item. item) (each (λ a. Listed a) f.listed) in
    let s5 : List Line = flat_map (λ item. item) (each (λ v. Value v) f.values) in
    let s6 : List Line = flat_map (λ item. item) (each (λ v. Axial v) f.axials) in
    let head : List Line = Head f.format ∷ parent_lines f.hall_line f.hall f.generators in
    let p = parent_runs f.format f.hall_line f.hall f.generators sound.parent second.parent in
    let r0 = blocks_run f f.irreps [] p.0 p.2 (omega (arith, le_true (length (map block_lines f.irreps)) 8 (few 0), length_blocks f.irreps)) sound.blocks sound.names second.vectors in
    let r1 = atoms_run f r0.0 r0.2 (few_lines (λ a. Atom a) f.atoms 64 (few 1)) in
    let r2 = tolerance_runs f r1.0 r1.2 in
    let r3 = cell_runs f r2.0 r2.2 second.cell told.0 in
    let r4 = listed_run f r3.0 r3.2 (few_lines (λ a. Listed a) f.listed 4096 (few 4)) told.1 in
    let r5 = values_run f r4.0 r4.2 (few_lines (λ v. Value v) f.values 4096 (few 5)) second.values in
    let r6 = axials_run f r5.0 r5.2 (few_lines (λ v. Axial v) f.axials 4096 (few 6)) second.axials in
    let t6 : Leads r5.0 (s6 ++ []) f = leads_last r5.0 s6 f r6 in
    let t5 : Leads r4.0 (s5 ++ (s6 ++ [])) f = leads_on r4.0 s5 (s6 ++ []) (with_values f f.values) f r5 t6 in
    let t4 : Leads r3.0 (s4 ++ (s5 ++ (s6 ++ []))) f = leads_on r3.0 s4 (s5 ++ (s6 ++ [])) (with_listed f f.listed) f r4 t5 in
    let t3 : Leads r2.0 (s3 ++ (s4 ++ (s5 ++ (s6 ++ [])))) f = leads_on r2.0 s3 (s4 ++ (s5 ++ (s6 ++ []))) (with_cell f f.cell) f r3 t4 in
    let t2 : Leads r1.0 (s2 ++ (s3 ++ (s4 ++ (s5 ++ (s6 ++ []))))) f = leads_on r1.0 s2 (s3 ++ (s4 ++ (s5 ++ (s6 ++ [])))) (with_tolerance f f.tolerance) f r2 t3 in
    let t1 : Leads r0.0 (s1 ++ (s2 ++ (s3 ++ (s4 ++ (s5 ++ (s6 ++ [])))))) f = leads_on r0.0 s1 (s2 ++ (s3 ++ (s4 ++ (s5 ++ (s6 ++ []))))) (with_atoms f f.atoms) f r1 t2 in
    let t0 : Leads p.0 (s0 ++ (s1 ++ (s2 ++ (s3 ++ (s4 ++ (s5 ++ (s6 ++ []))))))) f = leads_on p.0 s0 (s1 ++ (s2 ++ (s3 ++ (s4 ++ (s5 ++ (s6 ++ [])))))) (with_irreps f f.irreps) f r0 t1 in
    let all : Leads begin (body_lines f) f = leads_on begin head (s0 ++ (s1 ++ (s2 ++ (s3 ++ (s4 ++ (s5 ++ (s6 ++ []))))))) (with_parent f.format f.hall_line f.hall f.generators) f p t0 in
    then_runs begin all.0 (body_lines f) (End ∷ []) (Some (draft stage.Done f)) all.1 (ends all.0 f all.2)
