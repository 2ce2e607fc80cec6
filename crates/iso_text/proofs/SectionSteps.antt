-- A line of a section, or the end, adds itself to the lines of a file.
use Rattle.std.proofs.Common.{◌≡◌, ℕ, ℤ, Bool, true, List, [], ◌∷◌, ◌++◌, length, Option, Some, None, refl, sym, ◌∙◌, ap, subst, inr, ◌&&◌, ◌||◌, ◌==◌, nat_lt, if◌then◌else◌}
use Rattle.std.specs.Prelude.{◌⊎◌, is_some, not}
use Rattle.std.specs.List.{flat_map, list_all}
use Rattle.std.specs.Option.{option_to_list}
use Rattle.std.proofs.lemmas.List.{map-append}
use Rattle.iso_text.specs.Draft.{has_room, section_takes, on_section, is_second, is_matched}
use Rattle.iso_text.specs.DraftLines.{draft}
use Rattle.iso_text.specs.File.{IsSound, is_first_format, is_parent, is_block, is_new, have_new_names}
use Rattle.iso_text.specs.FileLines.{Section, sections, section_lines, each, body_lines, parent_lines}
use Rattle.iso_text.specs.FileValue.{File}
use Rattle.iso_text.specs.declared.draft.Draft.{Draft}
use Rattle.iso_text.specs.declared.draft.Stage.TheVariants as stage
use Rattle.iso_text.specs.declared.line_kinds.IrrepLine.{IrrepLine}
use Rattle.iso_text.specs.declared.line_kinds.Line.{Line}
use Rattle.iso_text.specs.declared.line_kinds.Line.TheVariants.{Head, Irrep, Atom, Tolerance, Cell, Listed, Value, Axial, End}
use Rattle.iso_text.proofs.BodyLemmas.{apart}
use Rattle.iso_text.proofs.DraftLines.{Holds}
use Rattle.iso_text.proofs.SectionLists.{added, replaced, grown_lines, grown_few}
use Rattle.iso_text.proofs.Steps.{guard, when, equal}

-- what a line of section n asks for
pub record Takes (n : ℕ) (f : File) : Type 0 where
  pub room : has_room n (sections f) ≡ true
  pub second : (not (is_second n) || f.format == 2) ≡ true
  pub matched : (not (is_matched n) || is_some f.tolerance) ≡ true

pub takes_is : (n : ℕ) (f : File) → section_takes n f ≡ true → Takes n f
takes_is n f takes =
    let two = apart (has_room n (sections f) && (not (is_second n) || f.format == 2)) (not (is_matched n) || is_some f.tolerance) takes in
    let first = apart (has_room n (sections f)) (not (is_second n) || f.format == 2) two.0 in
    record { room = first.0; second = first.1; matched = two.1 }

-- section n of a file has one line more
pub record Grows (n : ℕ) (line : Line) (f g : File) : Type 0 where
  pub head : Head g.format ∷ parent_lines g.hall_line g.hall g.generators ≡ Head f.format ∷ parent_lines f.hall_line f.hall f.generators
  pub longer : sections g ≡ added n (line ∷ []) (sections f)
  pub sound : IsSound g

line_added : (n : ℕ) (line : Line) (f g : File) (e : Draft) → draft stage.Body g ≡ e → has_room n (sections f) ≡ true → Grows n line f g → Holds e (body_lines f ++ line ∷ [])
line_added n line f g e same room grows =
    let head = Head f.format ∷ parent_lines f.hall_line f.hall f.generators in
    subst (λ x. Holds x (body_lines f ++ line ∷ [])) same (record {
      at = grows.sound;
      lines = ap (λ x. x ++ flat_map section_lines (sections g)) grows.head ∙ grown_lines head n (line ∷ []) (sections f) (sections g) grows.longer room;
    })

no_tolerance : (o : Option ℤ) → is_some o ≡ true → o ≡ None → ⊥
no_tolerance None some none = cc
no_tolerance (Some x) some none = cc

pub none_yet : {V : Type 0} (line : V → Line) (o : Option V) (b : Bool) → (nat_lt (length (each line (option_to_list o))) 1 && b) ≡ true → o ≡ None
none_yet line None b room = refl
none_yet line (Some v) b room = absurd cc

-- a line added in section n leaves a file sound; the caller says what its format and its tolerance allow
grown : (n : ℕ) (line : Line) (f g : File) → Takes n f → IsSound f → Head g.format ∷ parent_lines g.hall_line g.hall g.generators ≡ Head f.format ∷ parent_lines f.hall_line f.hall f.generators
    → is_parent g.hall g.generators ≡ is_parent f.hall f.generators → g.irreps ≡ f.irreps → sections g ≡ added n (line ∷ []) (sections f)
    → ((g.format ≡ 1) × (is_first_format g ≡ true)) ⊎ (g.format ≡ 2) → (g.tolerance ≡ None → (g.cell ≡ None) × (g.listed ≡ [])) → Grows n line f g
grown n line f g takes sound head parent irreps longer format matched = record {
  head = head;
  longer = longer;
  sound = record {
    format = format;
    parent = parent ∙ sound.parent;
    few = grown_few n (line ∷ []) (sections f) (sections g) longer takes.room sound.few;
    blocks = ap (list_all is_block) irreps ∙ sound.blocks;
    names = ap (have_new_names []) irreps ∙ sound.names;
    matched = matched;
  };
}

-- a section that is a list has one line more
list_longer : {V : Type 0} (n : ℕ) (line : V → Line) (vs : List V) (v : V) (ss : List Section) → replaced n (each line (vs ++ v ∷ [])) ss ≡ replaced n (each line vs ++ (line v ∷ []) ∷ []) ss
list_longer n line vs v ss = ap (λ x. replaced n x ss) (map-append (λ y. line y ∷ []) vs (v ∷ []))

-- a section of at most one line has its line
option_longer : {V : Type 0} (n : ℕ) (line : V → Line) (o : Option V) (v : V) (ss : List Section) → o ≡ None → replaced n (each line (v ∷ [])) ss ≡ replaced n (each line (option_to_list o) ++ (line v ∷ []) ∷ []) ss
option_longer n line o v ss none = ap (λ x. replaced n (each line (option_to_list x) ++ (line v ∷ []) ∷ []) ss) (sym none)

-- a line of one of the sections of single lines
single : (n : ℕ) (line : Line) (f g : File) (e : Draft) → (if section_takes n f then Some (draft stage.Body g) else None) ≡ Some e → (Takes n f → Grows n line f g) → Holds e (body_lines f ++ line ∷ [])
single n line f g e step grows =
    let test = guard (section_takes n f) (draft stage.Body g) e step in
    let takes = takes_is n f test.0 in
    line_added n line f g e test.1 takes.room (grows takes)

irrep_opens : (h : IrrepLine) (f : File) (e : Draft) → on_section (Irrep h) f ≡ Some e → IsSound f → Holds e (body_lines f ++ Irrep h ∷ [])
irrep_opens h f e step sound =
    let test = when (section_takes 0 f) (if is_new h.name f.irreps then Some (draft (stage.Open h) f) else None) e step in
    let new = guard (is_new h.name f.irreps) (draft (stage.Open h) f) e test.1 in
    subst (λ x. Holds x (body_lines f ++ Irrep h ∷ [])) new.1 (record { at = record { sound = sound; room = (takes_is 0 f test.0).room; new = new.0 }; lines = refl })

end_keeps : (f : File) (e : Draft) → Some (draft stage.Done f) ≡ Some e → IsSound f → Holds e (body_lines f ++ End ∷ [])
end_keeps f e step sound =
    let same : draft stage.Done f ≡ e = cc in
    subst (λ x. Holds x (body_lines f ++ End ∷ [])) same (record { at = sound; lines = refl })

pub section_keeps : (line : Line) (f : File) (e : Draft) → on_section line f ≡ Some e → IsSound f → Holds e (body_lines f ++ line ∷ [])
section_keeps (Irrep h) f e step sound = irrep_opens h f e step sound
section_keeps (Atom a) f e step sound =
    let g : File = record f { atoms = f.atoms ++ a ∷ [] } in
    single 1 (Atom a) f g e step (λ takes. grown 1 (Atom a) f g takes sound refl refl refl (list_longer 1 (λ x. Atom x) f.atoms a (sections f)) sound.format sound.matched)
section_keeps (Tolerance t) f e step sound =
    let g : File = record f { tolerance = Some t } in
    single 2 (Tolerance t) f g e step (λ takes. grown 2 (Tolerance t) f g takes sound refl refl refl (option_longer 2 (λ x. Tolerance x) f.tolerance t (sections f) (none_yet (λ x. Tolerance x) f.tolerance _ takes.room)) sound.format (λ never. absurd (no_tolerance (Some t) refl never)))
section_keeps (Cell c) f e step sound =
    let g : File = record f { cell = Some c } in
    single 3 (Cell c) f g e step (λ takes. grown 3 (Cell c) f g takes sound refl refl refl (option_longer 3 (λ x. Cell x) f.cell c (sections f) (none_yet (λ x. Cell x) f.cell _ takes.room)) (inr (equal f.format 2 takes.second)) (λ never. absurd (no_tolerance f.tolerance takes.matched never)))
section_keeps (Listed a) f e step sound =
    let g : File = record f { listed = f.listed ++ a ∷ [] } in
    single 4 (Listed a) f g e step (λ takes. grown 4 (Listed a) f g takes sound refl refl refl (list_longer 4 (λ x. Listed x) f.listed a (sections f)) sound.format (λ never. absurd (no_tolerance f.tolerance takes.matched never)))
section_keeps (Value v) f e step sound =
    let g : File = record f { values = f.values ++ v ∷ [] } in
    single 5 (Value v) f g e step (λ takes. grown 5 (Value v) f g takes sound refl refl refl (list_longer 5 (λ x. Value x) f.values v (sections f)) (inr (equal f.format 2 takes.second)) sound.matched)
section_keeps (Axial v) f e step sound =
    let g : File = record f { axials = f.axials ++ v ∷ [] } in
    single 6 (Axial v) f g e step (λ takes. grown 6 (Axial v) f g takes sound refl refl refl (list_longer 6 (λ x. Axial x) f.axials v (sections f)) (inr (equal f.format 2 takes.second)) sound.matched)
section_keeps End f e step sound = end_keeps f e step sound
section_keeps _ f e step sound = absurd cc
