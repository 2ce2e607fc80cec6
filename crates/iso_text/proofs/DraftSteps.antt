-- Each line adds itself to the lines of a draft.
use Rattle.std.proofs.Common.{◌≡◌, ℕ, Bool, true, false, List, [], ◌∷◌, ◌++◌, length, map, Some, refl, sym, ◌∙◌, ap, subst, arith, inl, inr, ◌==◌, nat_le, nat_lt, length-append, append-nil}
use Rattle.std.specs.Prelude.{◌⊎◌, option_and_then}
use Rattle.std.proofs.lemmas.Bool.{ltb-true}
use Rattle.std.proofs.lemmas.List.{map-append}
use Rattle.iso_text.specs.Draft.{on_section, next_of}
use Rattle.iso_text.specs.DraftLines.{draft, settled, on_head, on_hall, on_lattice, on_op}
use Rattle.iso_text.specs.File.{IsSound}
use Rattle.iso_text.specs.FileLines.{body_lines, empty_file}
use Rattle.iso_text.specs.FileValue.{File}
use Rattle.iso_text.specs.declared.draft.Draft.{Draft}
use Rattle.iso_text.specs.declared.draft.Stage.{Stage}
use Rattle.iso_text.specs.declared.draft.Stage.TheVariants as stage
use Rattle.iso_text.specs.declared.line_kinds.Line.{Line}
use Rattle.iso_text.specs.declared.line_kinds.Line.TheVariants.{Skip, Bad, Head, Hall, Lattice, Op, K, Mat, RealVector}
use Rattle.iso_text.specs.declared.sections.OpLine.{OpLine}
use Rattle.iso_text.specs.declared.sections.OpsText.{OpsText}
use Rattle.iso_text.proofs.BlockSteps.{k_keeps, mat_keeps, vector_keeps, closed, closed_sound, closed_lines}
use Rattle.iso_text.proofs.BodyLemmas.{both}
use Rattle.iso_text.proofs.DraftLines.{is_said, lines_at, IsAt, Holds}
use Rattle.iso_text.proofs.SectionSteps.{section_keeps}
use Rattle.iso_text.proofs.Steps.{guard, guard_not, bind, one_of, le_leb, some_length}

head_keeps : (n : ℕ) (st : Stage) (f : File) (e : Draft) → is_said (Head n) ≡ true → on_head n st ≡ Some e → Holds e (lines_at st f ++ Head n ∷ [])
head_keeps n stage.Begin f e said step =
    let same : draft stage.Headed (empty_file n) ≡ e = cc in
    subst (λ x. Holds x (Head n ∷ [])) same (record { at = format (one_of n 1 2 said); lines = refl })
  where
    format : {n : ℕ} → (n ≡ 1) ⊎ (n ≡ 2) → (empty_file n ≡ empty_file 1) ⊎ (empty_file n ≡ empty_file 2)
    format (inl one) = inl (ap empty_file one)
    format (inr two) = inr (ap empty_file two)
head_keeps n _ f e said step = absurd cc

-- the empty file with a Hall symbol
abbrev with_hall : ℕ → List ℕ → File → File
with_hall n text f = record f { hall_line = n; hall = text }

hall_sound : (n : ℕ) (text : List ℕ) (f : File) → (f ≡ empty_file 1) ⊎ (f ≡ empty_file 2) → Holds (draft stage.Body (with_hall n text f)) (Head f.format ∷ Hall n text ∷ [])
hall_sound n text f (inl one) =
    subst (λ x. Holds (draft stage.Body (with_hall n text x)) (Head x.format ∷ Hall n text ∷ [])) (sym one)
    (record { at = record { format = inl (refl, refl); parent = refl; few = refl; blocks = refl; names = refl; matched = λ e. (refl, refl) }; lines = refl })
hall_sound n text f (inr two) =
    subst (λ x. Holds (draft stage.Body (with_hall n text x)) (Head x.format ∷ Hall n text ∷ [])) (sym two)
    (record { at = record { format = inr refl; parent = refl; few = refl; blocks = refl; names = refl; matched = λ e. (refl, refl) }; lines = refl })

hall_keeps : (n : ℕ) (text : List ℕ) (st : Stage) (f : File) (e : Draft) → on_hall n text st f ≡ Some e → IsAt st f → Holds e (lines_at st f ++ Hall n text ∷ [])
hall_keeps n text stage.Headed f e step at =
    let same : draft stage.Body (with_hall n text f) ≡ e = cc in
    subst (λ x. Holds x (Head f.format ∷ Hall n text ∷ [])) same (hall_sound n text f at)
hall_keeps n text _ f e step at = absurd cc

lattice_keeps : (n letter : ℕ) (st : Stage) (f : File) (e : Draft) → on_lattice n letter st f ≡ Some e → IsAt st f → Holds e (lines_at st f ++ Lattice n letter ∷ [])
lattice_keeps n letter stage.Headed f e step at =
    let none : OpsText = record { letter = letter; ops = [] } in
    let test = guard (f.format == 2) (draft (stage.Lattice n none) f) e step in
    subst (λ x. Holds x (Head f.format ∷ Lattice n letter ∷ [])) test.1 (record { at = (second f test.0 at, refl); lines = refl })
  where
    not_first : (b : Bool) → b ≡ true → false ≡ b → ⊥
    not_first b yes_ no_ = cc

    second : (f : File) → (f.format == 2) ≡ true → (f ≡ empty_file 1) ⊎ (f ≡ empty_file 2) → f ≡ empty_file 2
    second f is (inl one) = absurd (not_first (f.format == 2) is (sym (ap (λ x. x.format == 2) one)))
    second f is (inr two) = two
lattice_keeps n letter _ f e step at = absurd cc

op_keeps : (o : OpLine) (st : Stage) (f : File) (e : Draft) → on_op o st f ≡ Some e → IsAt st f → Holds e (lines_at st f ++ Op o ∷ [])
op_keeps o (stage.Lattice n g) f e step at =
    let longer : OpsText = record g { ops = g.ops ++ o ∷ [] } in
    let test = guard (nat_lt (length g.ops) 5) (draft (stage.Lattice n longer) f) e step in
    subst (λ x. Holds x ((Head f.format ∷ Lattice n g.letter ∷ map (λ y. Op y) g.ops) ++ Op o ∷ [])) test.1 (record {
      at = (at.0, le_leb (length (g.ops ++ o ∷ [])) 5 (omega (arith, ltb-true (length g.ops) 5 test.0, length-append g.ops (o ∷ []))));
      lines = ap (λ x. Head f.format ∷ Lattice n g.letter ∷ x) (map-append (λ y. Op y) g.ops (o ∷ []));
    })
op_keeps o _ f e step at = absurd cc

-- the file with its lattice and operations
abbrev pub with_ops : ℕ → OpsText → File → File
with_ops n g f = record f { hall_line = n; generators = Some g }

ops_sound : (n : ℕ) (g : OpsText) (f : File) → f ≡ empty_file 2 → nat_le (length g.ops) 5 ≡ true → (length g.ops == 0) ≡ false
    → IsSound (with_ops n g f) × (body_lines (with_ops n g f) ≡ lines_at (stage.Lattice n g) f)
ops_sound n g f empty few some =
    let one = le_leb 1 (length g.ops) (omega (arith, some_length g.ops some)) in
    let sound : IsSound (with_ops n g (empty_file 2)) = record { format = inr refl; parent = both (nat_le 1 (length g.ops)) (nat_le (length g.ops) 5) one few; few = refl; blocks = refl; names = refl; matched = λ e. (refl, refl) } in
    let lines : body_lines (with_ops n g (empty_file 2)) ≡ lines_at (stage.Lattice n g) (empty_file 2) = ap (λ x. Head 2 ∷ Lattice n g.letter ∷ x) (append-nil (map (λ y. Op y) g.ops)) in
    subst (λ x. IsSound (with_ops n g x) × (body_lines (with_ops n g x) ≡ lines_at (stage.Lattice n g) x)) (sym empty) (sound, lines)

pub settled_keeps : (st : Stage) (f g : File) → settled st f ≡ Some g → IsAt st f → IsSound g × (body_lines g ≡ lines_at st f)
settled_keeps stage.Body f g e at = let same : f ≡ g = cc in (subst (λ x. IsSound x) same at, sym (ap (λ x. body_lines x) same))
settled_keeps (stage.Lattice n ops) f g e at =
    let test = guard_not (length ops.ops == 0) (with_ops n ops f) g e in
    let kept = ops_sound n ops f at.0 at.1 test.0 in
    (subst (λ x. IsSound x) test.1 kept.0, sym (ap (λ x. body_lines x) test.1) ∙ kept.1)
settled_keeps (stage.Block i) f g e at =
    let test = guard_not (length i.mats == 0) (closed i f) g e in
    (subst (λ x. IsSound x) test.1 (closed_sound i f at test.0), sym (ap (λ x. body_lines x) test.1) ∙ closed_lines i f at)
settled_keeps _ f g e at = absurd cc

section_step : (line : Line) (st : Stage) (f : File) (e : Draft) → option_and_then (on_section line) (settled st f) ≡ Some e → IsAt st f → Holds e (lines_at st f ++ line ∷ [])
section_step line st f e step at =
    let two = bind (settled st f) (on_section line) e step in
    let kept = settled_keeps st f two.0 two.1 at in
    subst (λ x. Holds e (x ++ line ∷ [])) kept.1 (section_keeps line two.0 e two.2 kept.0)

-- one line more
pub next_keeps : (line : Line) (st : Stage) (f : File) (e : Draft) → is_said line ≡ true → next_of (draft st f) line ≡ Some e → IsAt st f → Holds e (lines_at st f ++ line ∷ [])
next_keeps Skip st f e said step at = absurd cc
next_keeps Bad st f e said step at = absurd cc
next_keeps (Head n) st f e said step at = head_keeps n st f e said step
next_keeps (Hall n text) st f e said step at = hall_keeps n text st f e step at
next_keeps (Lattice n letter) st f e said step at = lattice_keeps n letter st f e step at
next_keeps (Op o) st f e said step at = op_keeps o st f e step at
next_keeps (K k) st f e said step at = k_keeps k st f e step at
next_keeps (Mat m) st f e said step at = mat_keeps m st f e step at
next_keeps (RealVector v) st f e said step at = vector_keeps v st f e step at
next_keeps line st f e said step at = section_step line st f e step at
