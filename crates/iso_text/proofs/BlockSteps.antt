-- The lines of an irrep block, and a block at the end of a file.
use Rattle.std.proofs.Common.{◌≡◌, Bool, true, false, List, [], ◌∷◌, ◌++◌, length, map, Option, Some, None, refl, sym, ◌∙◌, ap, subst, arith, inl, inr, ◌&&◌, ◌==◌, nat_le, nat_lt, append_assoc, append-nil, length-append}
use Rattle.std.specs.Prelude.{◌⊎◌, is_none, not}
use Rattle.std.specs.List.{list_all}
use Rattle.std.specs.Option.{option_to_list}
use Rattle.std.proofs.lemmas.Bool.{ltb-true}
use Rattle.std.proofs.lemmas.List.{map-append}
use Rattle.iso_text.specs.DraftLines.{draft, on_k, takes_mat, on_mat, takes_vector, on_vector}
use Rattle.iso_text.specs.File.{IsSound, is_first_format, is_block, has_entries}
use Rattle.iso_text.specs.FileLines.{sections, body_lines, block_lines, parent_lines}
use Rattle.iso_text.specs.FileValue.{File}
use Rattle.iso_text.specs.declared.draft.Draft.{Draft}
use Rattle.iso_text.specs.declared.draft.Stage.{Stage}
use Rattle.iso_text.specs.declared.draft.Stage.TheVariants as stage
use Rattle.iso_text.specs.declared.line_kinds.Line.{Line}
use Rattle.iso_text.specs.declared.line_kinds.Line.TheVariants.{Head, Irrep, K, Mat, RealVector}
use Rattle.iso_text.specs.declared.numbers.Frac.{Frac}
use Rattle.iso_text.specs.declared.sections.IrrepText.{IrrepText}
use Rattle.iso_text.specs.declared.sections.MatText.{MatText}
use Rattle.iso_text.specs.declared.sections.VectorText.{VectorText}
use Rattle.iso_text.proofs.BodyLemmas.{both, apart, all-snoc, same-snoc, new_names-snoc}
use Rattle.iso_text.proofs.DraftLines.{lines_at, IsAt, HasBlock, Holds}
use Rattle.iso_text.proofs.SectionLists.{added, replaced, grown_lines, grown_few}
use Rattle.iso_text.proofs.Steps.{guard, none_is, equal, le_leb, some_length}

pub k_keeps : (k : List Frac) (st : Stage) (f : File) (e : Draft) → on_k k st f ≡ Some e → IsAt st f → Holds e (lines_at st f ++ K k ∷ [])
k_keeps k (stage.Open h) f e step at =
    let block : IrrepText = record { name = h.name; line = h.line; size = h.size; k = k; mats = []; vector = None } in
    let same : draft (stage.Block block) f ≡ e = cc in
    subst (λ x. Holds x ((body_lines f ++ Irrep h ∷ []) ++ K k ∷ [])) same (record {
      at = record { takes = at; few = refl; entries = refl; vector = inl refl };
      lines = sym (append_assoc (body_lines f) (Irrep h ∷ []) (K k ∷ []));
    })
k_keeps k _ f e step at = absurd cc

mat_lines : (ms : List MatText) (m : MatText) (v : Option VectorText) → v ≡ None
    → map (λ x. Mat x) (ms ++ m ∷ []) ++ map (λ x. RealVector x) (option_to_list v) ≡ (map (λ x. Mat x) ms ++ map (λ x. RealVector x) (option_to_list v)) ++ Mat m ∷ []
mat_lines ms m None e =
    append-nil (map (λ x. Mat x) (ms ++ m ∷ [])) ∙ map-append (λ x. Mat x) ms (m ∷ []) ∙ ap (λ x. x ++ Mat m ∷ []) (sym (append-nil (map (λ y. Mat y) ms)))
mat_lines ms m (Some v) e = absurd cc

vector_lines : (ms : List MatText) (v : VectorText) (old : Option VectorText) → old ≡ None → map (λ x. Mat x) ms ++ RealVector v ∷ [] ≡ (map (λ x. Mat x) ms ++ map (λ x. RealVector x) (option_to_list old)) ++ RealVector v ∷ []
vector_lines ms v None e = ap (λ x. x ++ RealVector v ∷ []) (sym (append-nil (map (λ y. Mat y) ms)))
vector_lines ms v (Some old) e = absurd cc

-- the two lines in front of a block's matrices
abbrev front_lines : IrrepText → List Line
front_lines i = Irrep (record { line = i.line; name = i.name; size = i.size }) ∷ K i.k ∷ []

pub mat_keeps : (m : MatText) (st : Stage) (f : File) (e : Draft) → on_mat m st f ≡ Some e → IsAt st f → Holds e (lines_at st f ++ Mat m ∷ [])
mat_keeps m (stage.Block i) f e step at =
    let longer : IrrepText = record i { mats = i.mats ++ m ∷ [] } in
    let test = guard (takes_mat m i) (draft (stage.Block longer) f) e step in
    let two = apart (is_none i.vector && nat_lt (length i.mats) 96) (has_entries i.size m) test.0 in
    let first = apart (is_none i.vector) (nat_lt (length i.mats) 96) two.0 in
    subst (λ x. Holds x ((body_lines f ++ block_lines i) ++ Mat m ∷ [])) test.1 (record {
      at = record {
        takes = at.takes;
        few = le_leb (length (i.mats ++ m ∷ [])) 96 (omega (arith, ltb-true (length i.mats) 96 first.1, length-append i.mats (m ∷ [])));
        entries = all-snoc (has_entries i.size) i.mats m at.entries two.1;
        vector = inl first.0;
      };
      lines = ap (λ x. body_lines f ++ (front_lines i ++ x)) (mat_lines i.mats m i.vector (none_is i.vector first.0)) ∙ sym (append_assoc (body_lines f) (block_lines i) (Mat m ∷ []));
    })
mat_keeps m _ f e step at = absurd cc

not_true : (b : Bool) → not b ≡ true → b ≡ false
not_true true e = absurd cc
not_true false e = refl

pub vector_keeps : (v : VectorText) (st : Stage) (f : File) (e : Draft) → on_vector v st f ≡ Some e → IsAt st f → Holds e (lines_at st f ++ RealVector v ∷ [])
vector_keeps v (stage.Block i) f e step at =
    let whole : IrrepText = record i { vector = Some v } in
    let test = guard (takes_vector i f) (draft (stage.Block whole) f) e step in
    let two = apart (f.format == 2 && is_none i.vector) (not (length i.mats == 0)) test.0 in
    let first = apart (f.format == 2) (is_none i.vector) two.0 in
    subst (λ x. Holds x ((body_lines f ++ block_lines i) ++ RealVector v ∷ [])) test.1 (record {
      at = record { takes = at.takes; few = at.few; entries = at.entries; vector = inr (equal f.format 2 first.0, not_true (length i.mats == 0) two.1) };
      lines = ap (λ x. body_lines f ++ (front_lines i ++ x)) (vector_lines i.mats v i.vector (none_is i.vector first.1)) ∙ sym (append_assoc (body_lines f) (block_lines i) (RealVector v ∷ []));
    })
vector_keeps v _ f e step at = absurd cc

-- the file with a block at its end
abbrev pub closed : IrrepText → File → File
closed i f = record f { irreps = f.irreps ++ i ∷ [] }

pub closed_sections : (i : IrrepText) (f : File) → sections (closed i f) ≡ added 0 (block_lines i) (sections f)
closed_sections i f = ap (λ x. replaced 0 x (sections f)) (map-append block_lines f.irreps (i ∷ []))

closed_first : (i : IrrepText) (f : File) → is_none i.vector ≡ true → is_first_format f ≡ true → is_first_format (closed i f) ≡ true
closed_first i f none first =
    ap (λ b. is_none f.generators && b && is_none f.cell && length f.values == 0 && length f.axials == 0) (same-snoc (λ j. is_none j.vector) f.irreps i none) ∙ first

closed_format : (i : IrrepText) (f : File) → (is_none i.vector ≡ true) ⊎ ((f.format ≡ 2) × ((length i.mats == 0) ≡ false)) → ((f.format ≡ 1) × (is_first_format f ≡ true)) ⊎ (f.format ≡ 2)
    → ((f.format ≡ 1) × (is_first_format (closed i f) ≡ true)) ⊎ (f.format ≡ 2)
closed_format i f (inl none) (inl first) = inl (first.0, closed_first i f none first.1)
closed_format i f (inr vector) (inl first) = inr vector.0
closed_format i f vector (inr second) = inr second

pub closed_sound : (i : IrrepText) (f : File) → HasBlock i f → (length i.mats == 0) ≡ false → IsSound (closed i f)
closed_sound i f block some = let sound = block.takes.sound in record {
  format = closed_format i f block.vector sound.format;
  parent = sound.parent;
  few = grown_few 0 (block_lines i) (sections f) (sections (closed i f)) (closed_sections i f) block.takes.room sound.few;
  blocks = all-snoc is_block f.irreps i sound.blocks (both (nat_le 1 (length i.mats) && nat_le (length i.mats) 96) (list_all (has_entries i.size) i.mats) (both (nat_le 1 (length i.mats)) (nat_le (length i.mats) 96) (le_leb 1 (length i.mats) (omega (arith, some_length i.mats some))) block.few) block.entries);
  names = new_names-snoc [] f.irreps i sound.names block.takes.new;
  matched = sound.matched;
}

pub closed_lines : (i : IrrepText) (f : File) → HasBlock i f → body_lines (closed i f) ≡ body_lines f ++ block_lines i
closed_lines i f block = grown_lines (Head f.format ∷ parent_lines f.hall_line f.hall f.generators) 0 (block_lines i) (sections f) (sections (closed i f)) (closed_sections i f) block.takes.room
