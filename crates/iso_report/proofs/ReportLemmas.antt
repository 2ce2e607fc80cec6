-- The pieces of the report of `check`.
use Rattle.std.proofs.Common.{◌≡◌, refl, sym, ap, ◌∙◌, ℕ, zero, suc, ◌<◌, List, [], ◌∷◌, ◌++◌, length, map, get_or, flat_map, arith, Some, slice_get}
use Rattle.std.specs.List.{concat}
use Rattle.iso_text.specs.declared.sections.IrrepText.{IrrepText}
use Rattle.space_ops.specs.Group.{Parent}
use Rattle.space_ops.specs.Lattice.{centrings_of}
use Rattle.super_group.specs.Quotient.{order_of}
use Rattle.report_steps.specs.Held.{facts_in}
use Rattle.report_steps.specs.IrrepReport.{Facts, irrep_text, irreps_text}
use Rattle.report_steps.specs.IrrepSteps.{Each}
use Rattle.report_steps.specs.OpLines.{listed_line}
use Rattle.iso_report.specs.Check.{first_line, lattice_line, supercell_line, check_head, check_pieces, check_text, irrep_pieces}
use Rattle.iso_report.specs.declared.check.CheckReport.{CheckReport}
use Rattle.iso_report.proofs.CheckLemmas.{two-lines}

-- irrep i
pub piece-at : {B : Type 0} (p : Parent) (g : B → Facts) (R : IrrepText → B → Type 0) (xs : List IrrepText) (ys : List B) (i : ℕ) (x : IrrepText) (y : B)
    → i < length ys → Each R xs ys → slice_get (irrep_pieces p xs (map g ys)) i ≡ Some (irrep_text p (get_or xs i x) (g (get_or ys i y)))
piece-at p g R [] [] i x y l h = absurd (omega arith)
piece-at p g R [] (b ∷ ys) i x y l h = absurd h
piece-at p g R (a ∷ xs) [] i x y l h = absurd h
piece-at p g R (a ∷ xs) (b ∷ ys) zero x y l h = refl
piece-at p g R (a ∷ xs) (b ∷ ys) (suc i) x y l h = piece-at p g R xs ys i x y (omega arith) h.1

-- a text that is irrep i
pub piece-is : {B : Type 0} (p : Parent) (g : B → Facts) (R : IrrepText → B → Type 0) (xs : List IrrepText) (ys : List B) (i : ℕ) (x : IrrepText) (y : B) (text : List ℕ)
    → i < length ys → Each R xs ys → x ≡ get_or xs i x → y ≡ get_or ys i y → text ≡ irrep_text p x (g y) → slice_get (irrep_pieces p xs (map g ys)) i ≡ Some text
piece-is p g R xs ys i x y text l h a b e =
    let same : irrep_text p x (g y) ≡ irrep_text p (get_or xs i x) (g (get_or ys i y)) = λ j. irrep_text p (a j) (g (b j)) in
    let here : text ≡ irrep_text p (get_or xs i x) (g (get_or ys i y)) = e ∙ same in
    piece-at p g R xs ys i x y l h ∙ ap (λ t. Some t) (sym here)

-- how many irreps there are
pub pieces-count : {B : Type 0} (p : Parent) (g : B → Facts) (R : IrrepText → B → Type 0) (xs : List IrrepText) (ys : List B) → Each R xs ys → length (irrep_pieces p xs (map g ys)) ≡ length ys
pieces-count p g R [] [] h = refl
pieces-count p g R [] (b ∷ ys) h = absurd h
pieces-count p g R (a ∷ xs) [] h = absurd h
pieces-count p g R (a ∷ xs) (b ∷ ys) h = ap suc (pieces-count p g R xs ys h.1)

irreps-joined : (p : Parent) (xs : List IrrepText) (fs : List Facts) → concat (irrep_pieces p xs fs) ≡ irreps_text p xs fs
irreps-joined p [] [] = refl
irreps-joined p [] (f ∷ fs) = refl
irreps-joined p (x ∷ xs) [] = refl
irreps-joined p (x ∷ xs) (f ∷ fs) = ap (λ t. irrep_text p x f ++ t) (irreps-joined p xs fs)

-- the pieces, one behind the other
pub check-joined : (r : CheckReport) → concat (check_pieces r) ≡ check_text r.file.divided (map facts_in r.file.irreps.items)
check-joined r =
    let d = r.file.divided in
    let s = d.quotient in
    let facts = map facts_in r.file.irreps.items in
    ap (λ t. check_head d ++ t) (irreps-joined s.parent d.file.irreps facts)
    ∙ two-lines (first_line d.file.format) (lattice_line s.parent.lattice (length (centrings_of s.parent.lattice)) (length s.parent.ops)) (flat_map listed_line s.parent.ops ++ supercell_line s.d (order_of s)) (irreps_text s.parent d.file.irreps facts)
