-- Each draft can be completed to a file.
use Rattle.std.proofs.Common.{◌≡◌, ℕ, ◌*◌, ◌==◌, Bool, true, false, List, [], ◌∷◌, ◌++◌, length, replicate, Some, None, refl, ◌∙◌, ap, arith, inl, inr, ◌&&◌, nat_lt, if◌then◌else◌}
use Rattle.std.specs.Prelude.{◌⊎◌, option_and_then, is_none}
use Rattle.std.specs.List.{list_all}
use Rattle.std.proofs.lemmas.Bool.Decides.{nat_tests}
use Rattle.std.proofs.lemmas.List.{length-replicate}
use Rattle.iso_text.specs.Draft.{on_section}
use Rattle.iso_text.specs.DraftLines.{draft, takes_mat}
use Rattle.iso_text.specs.File.{has_entries}
use Rattle.iso_text.specs.FileLines.{empty_file}
use Rattle.iso_text.specs.FileValue.{File}
use Rattle.iso_text.specs.declared.draft.Stage.{Stage}
use Rattle.iso_text.specs.declared.draft.Stage.TheVariants as stage
use Rattle.iso_text.specs.declared.line_kinds.Line.{Line}
use Rattle.iso_text.specs.declared.line_kinds.Line.TheVariants.{Head, Hall, Op, K, Mat, End}
use Rattle.iso_text.specs.declared.sections.IrrepText.{IrrepText}
use Rattle.iso_text.specs.declared.sections.MatText.{MatText}
use Rattle.iso_text.specs.declared.sections.OpLine.{OpLine}
use Rattle.iso_text.specs.declared.sections.OpsText.{OpsText}
use Rattle.iso_text.proofs.BlockSteps.{closed}
use Rattle.iso_text.proofs.BodyLemmas.{both}
use Rattle.iso_text.proofs.DraftLines.{is_said, IsAt}
use Rattle.iso_text.proofs.DraftRuns.{runs}
use Rattle.iso_text.proofs.DraftSteps.{with_ops}
use Rattle.iso_text.proofs.Steps.{zero_length}

-- lines that end a file from here
pub record Completes (st : Stage) (f : File) : Type 0 where
  pub more : List Line
  pub said : list_all is_said more ≡ true
  pub file : File
  pub run : runs (draft st f) more ≡ Some (draft stage.Done file)

-- a `mat` line of the right count of numbers
abbrev blank_mat : ℕ → MatText
blank_mat size = record { line = 0; op = record { rows = []; shift = [] }; entries = replicate (size * size) [] }

abbrev blank_op : OpLine
blank_op = record { line = 0; op = record { rows = []; shift = [] } }

eq_self : (n : ℕ) → (n == n) ≡ true
eq_self n = grind (arith, nat_tests)

blank_fits : (size : ℕ) → has_entries size (blank_mat size) ≡ true
blank_fits size = ap (λ n. n == size * size) (length-replicate (size * size) []) ∙ eq_self (size * size)

block_ends : (i : IrrepText) (f : File) → (length i.mats == 0) ≡ false → runs (draft (stage.Block i) f) (End ∷ []) ≡ Some (draft stage.Done (closed i f))
block_ends i f some = ap (λ b. option_and_then (λ e. Some e) (option_and_then (on_section End) (if b then None else Some (closed i f)))) some

ops_end : (n : ℕ) (g : OpsText) (f : File) → (length g.ops == 0) ≡ false → runs (draft (stage.Lattice n g) f) (End ∷ []) ≡ Some (draft stage.Done (with_ops n g f))
ops_end n g f some = ap (λ b. option_and_then (λ e. Some e) (option_and_then (on_section End) (if b then None else Some (with_ops n g f)))) some

-- a block without `mat` lines takes one and ends
empty_block : (i : IrrepText) (f : File) → is_none i.vector ≡ true → i.mats ≡ []
    → runs (draft (stage.Block i) f) (Mat (blank_mat i.size) ∷ End ∷ []) ≡ Some (draft stage.Done (closed (record i { mats = i.mats ++ blank_mat i.size ∷ [] }) f))
empty_block i f no_vector none =
    let m = blank_mat i.size in
    let longer : IrrepText = record i { mats = i.mats ++ m ∷ [] } in
    let takes : takes_mat m i ≡ true = both (is_none i.vector && nat_lt (length i.mats) 96) (has_entries i.size m) (both (is_none i.vector) (nat_lt (length i.mats) 96) no_vector (ap (λ x. nat_lt (length x) 96) none)) (blank_fits i.size) in
    ap (λ b. option_and_then (λ e. runs e (End ∷ [])) (if b then Some (draft (stage.Block longer) f) else None)) takes
    ∙ block_ends longer f (ap (λ x. length (x ++ m ∷ []) == 0) none)

-- a lattice without `op` lines takes one and ends
empty_ops : (n : ℕ) (g : OpsText) (f : File) → g.ops ≡ [] → runs (draft (stage.Lattice n g) f) (Op blank_op ∷ End ∷ []) ≡ Some (draft stage.Done (with_ops n (record g { ops = g.ops ++ blank_op ∷ [] }) f))
empty_ops n g f none =
    let longer : OpsText = record g { ops = g.ops ++ blank_op ∷ [] } in
    ap (λ x. option_and_then (λ e. runs e (End ∷ [])) (if nat_lt (length x) 5 then Some (draft (stage.Lattice n longer) f) else None)) none
    ∙ ops_end n longer f (ap (λ x. length (x ++ blank_op ∷ []) == 0) none)

block_completes : (i : IrrepText) (f : File) (b : Bool) → (length i.mats == 0) ≡ b → (is_none i.vector ≡ true) ⊎ ((f.format ≡ 2) × ((length i.mats == 0) ≡ false)) → Completes (stage.Block i) f
block_completes i f false some vector = record { more = End ∷ []; said = refl; file = closed i f; run = block_ends i f some }
block_completes i f true none (inl no_vector) = record {
  more = Mat (blank_mat i.size) ∷ End ∷ [];
  said = refl;
  file = closed (record i { mats = i.mats ++ blank_mat i.size ∷ [] }) f;
  run = empty_block i f no_vector (zero_length i.mats none);
}
block_completes i f true none (inr vector) = let some = vector.1 in absurd cc

ops_complete : (n : ℕ) (g : OpsText) (f : File) (b : Bool) → (length g.ops == 0) ≡ b → Completes (stage.Lattice n g) f
ops_complete n g f false some = record { more = End ∷ []; said = refl; file = with_ops n g f; run = ops_end n g f some }
ops_complete n g f true none = record {
  more = Op blank_op ∷ End ∷ [];
  said = refl;
  file = with_ops n (record g { ops = g.ops ++ blank_op ∷ [] }) f;
  run = empty_ops n g f (zero_length g.ops none);
}

pub completes : (st : Stage) (f : File) → IsAt st f → Completes st f
completes stage.Begin f at = record { more = Head 1 ∷ Hall 1 (80 ∷ []) ∷ End ∷ []; said = refl; file = record (empty_file 1) { hall_line = 1; hall = 80 ∷ [] }; run = refl }
completes stage.Headed f at = record { more = Hall 1 (80 ∷ []) ∷ End ∷ []; said = refl; file = record f { hall_line = 1; hall = 80 ∷ [] }; run = refl }
completes (stage.Lattice n g) f at = ops_complete n g f (length g.ops == 0) refl
completes stage.Body f at = record { more = End ∷ []; said = refl; file = f; run = refl }
completes (stage.Open h) f at =
    let block : IrrepText = record { name = h.name; line = h.line; size = h.size; k = []; mats = []; vector = None } in
    record { more = K [] ∷ Mat (blank_mat h.size) ∷ End ∷ []; said = refl; file = closed (record block { mats = blank_mat h.size ∷ [] }) f; run = empty_block block f refl refl }
completes (stage.Block i) f at = block_completes i f (length i.mats == 0) refl at.vector
completes stage.Done f at = record { more = []; said = refl; file = f; run = refl }
