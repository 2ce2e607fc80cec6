use Rattle.std.proofs.Common.{◌≡◌, ◌∙◌, ap, sym, true, if◌then◌else◌, Bool, Option, Some, None, Result, Ok, Err, IfOk, ℕ}
use Rattle.std.specs.Prelude.{option_and_then}
use Rattle.iso_text.specs.Draft.{section_takes, section_of, with_line, on_section}
use Rattle.iso_text.specs.FileValue.{File}
use Rattle.iso_text.specs.declared.line_kinds.Line.{Line}
use Rattle.iso_text.specs.declared.line_kinds.Line.TheVariants.{End}
use Rattle.iso_text.specs.declared.draft.Draft.{Draft}
use Rattle.iso_text.proofs.section_steps.on_section.Goals as goal

by_section : (line : Line) (f : File) (n : ℕ) → Some n ≡ section_of line → section_takes n f ≡ true → with_line line f ≡ on_section line f
by_section End f n is takes = absurd cc
by_section line f n is takes =
    sym (ap (λ b. if b then with_line line f else None) takes) ∙ ap (option_and_then (λ m. if section_takes m f then with_line line f else None)) is

on_ok : {E : Type 0} (r : Result Bool E) (g : Bool → Option Draft) (x y : Option Draft) → x ≡ y → IfOk r (λ b. x ≡ g b) → IfOk r (λ b. y ≡ g b)
on_ok (Ok s) g x y e h = sym e ∙ h
on_ok (Err f) g x y e h = tt

pub returns-then-takes : goal.returns-then-takes
returns-then-takes c =
    on_ok c.with_line.result _ _ _ (by_section c.args.line.now c.args.draft.now.document c.in-Some.section c.in-Some.ensures.value (sym c.takes.ensures ∙ c.if-takes.true)) c.with_line.ensures
