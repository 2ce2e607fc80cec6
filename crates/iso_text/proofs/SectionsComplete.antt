-- What the words behind a keyword spell is what the readers find in them.
use Rattle.std.proofs.Common.{◌≡◌, ℕ, ℤ, ◌+◌, ◌-◌, ◌≤◌, List, [], ◌∷◌, ◌++◌, Option, Some, None, sym, ◌∙◌, ap, arith, append-nil, nat_le, if◌then◌else◌, inl, inr}
use Rattle.std.specs.Prelude.{option_and_then}
use Rattle.std.specs.Option.{option_map}
use Rattle.iso_text.specs.Fractions.{k_fraction_of, place_of}
use Rattle.iso_text.specs.LineKinds.{head_of, lattice_of, op_of, irrep_of, k_of, mat_of, vector_of, atom_of, tolerance_line_of, cell_of, value_of, axial_of, end_of}
use Rattle.iso_text.specs.LineWords.{is_none_left, one, three_of, site_of, name_of, few_numbers_of, size_of}
use Rattle.iso_text.specs.LineSpellings.{Says}
use Rattle.iso_text.specs.Spellings.{SpellsKFraction, SpellsPlace}
use Rattle.iso_text.specs.WordSpellings.{Three, SpellsSite}
use Rattle.iso_text.specs.declared.line_kinds.IrrepLine.{IrrepLine}
use Rattle.iso_text.specs.declared.line_kinds.Line.{Line}
use Rattle.iso_text.specs.declared.line_kinds.Line.TheVariants.{Head, Lattice, Op, Irrep, K, Mat, RealVector, Atom, Tolerance, Cell, Listed, Value, Axial, End}
use Rattle.iso_text.specs.declared.numbers.Frac.{Frac}
use Rattle.iso_text.specs.declared.sections.AtomText.{AtomText}
use Rattle.iso_text.specs.declared.sections.AxialText.{AxialText}
use Rattle.iso_text.specs.declared.sections.CellText.{CellText}
use Rattle.iso_text.specs.declared.sections.MatText.{MatText}
use Rattle.iso_text.specs.declared.sections.OpLine.{OpLine}
use Rattle.iso_text.specs.declared.sections.ValueText.{ValueText}
use Rattle.iso_text.specs.declared.sections.VectorText.{VectorText}
use Rattle.iso_text.proofs.BodyLemmas.{both}
use Rattle.iso_text.proofs.FractionSpellings.{k_fraction-complete}
use Rattle.iso_text.proofs.ListsGrammar.{three-complete, alone-complete, name-complete, site-complete, few-complete}
use Rattle.iso_text.proofs.RowSpellings.{operation-complete}
use Rattle.iso_text.proofs.SignSpellings.{place-complete, tolerance-complete}
use Rattle.iso_text.proofs.SpellingLemmas.{true_le}

pub head-complete : (n : ℕ) (words : List (List ℕ)) (format : ℕ) → Says n words (Head format) → head_of words ≡ Some (Head format)
head-complete n words format (inl w) = ap head_of w.0 ∙ ap (λ f. Some (Head f)) (sym w.1)
head-complete n words format (inr w) = ap head_of w.0 ∙ ap (λ f. Some (Head f)) (sym w.1)

pub lattice-complete : (n : ℕ) (words : List (List ℕ)) (line letter : ℕ) → Says n words (Lattice line letter) → lattice_of n words ≡ Some (Lattice line letter)
lattice-complete n words line letter s =
    ap (lattice_of n) s.1.joined
    ∙ ap (λ b. option_map (λ c. Lattice n c) (if b then Some letter else None)) s.1.known
    ∙ ap (λ m. Some (Lattice m letter)) (sym s.0)

pub op-complete : (n : ℕ) (words : List (List ℕ)) (o : OpLine) → Says n words (Op o) → op_of n words ≡ Some (Op o)
op-complete n words o s =
    ap (op_of n) s.2
    ∙ ap (λ x. option_map (λ op. Op (record { line = n; op = op })) x) (operation-complete s.1 o.op s.3)
    ∙ ap (λ m. Some (Op (record { line = m; op = o.op }))) (sym s.0)

less_48 : (s : ℕ) → (48 + s) - 48 ≡ s
less_48 s = omega arith

size-complete : (s : ℕ) → 1 ≤ s → s ≤ 6 → size_of ((48 + s) ∷ []) ≡ Some s
size-complete s some few =
    ap (λ b. if b then Some ((48 + s) - 48) else None) (both (nat_le 49 (48 + s)) (nat_le (48 + s) 54) (true_le 49 (48 + s) (omega arith)) (true_le (48 + s) 54 (omega arith)))
    ∙ ap (λ x. Some x) (less_48 s)

pub irrep-complete : (n : ℕ) (words : List (List ℕ)) (i : IrrepLine) → Says n words (Irrep i) → irrep_of n words ≡ Some (Irrep i)
irrep-complete n words i s =
    let digit = (48 + i.size) ∷ [] in
    ap (irrep_of n) s.1.joined
    ∙ ap (λ o. option_and_then (λ name. option_map (λ size. Irrep (record { line = n; name = name; size = size })) (size_of digit)) o) (name-complete i.name s.1.name)
    ∙ ap (λ o. option_map (λ size. Irrep (record { line = n; name = i.name; size = size })) o) (size-complete i.size s.1.some s.1.few)
    ∙ ap (λ m. Some (Irrep (record { line = m; name = i.name; size = i.size }))) (sym s.0)

pub k-complete : (n : ℕ) (words : List (List ℕ)) (k : List Frac) → Says n words (K k) → k_of words ≡ Some (K k)
k-complete n words k s =
    ap (λ o. option_and_then (λ r. if is_none_left r.1 then Some (K r.0) else None) o) (alone-complete k_fraction_of (λ w v. SpellsKFraction w v) (λ w v spelled. k_fraction-complete w v spelled) words k s)

pub mat-complete : (n : ℕ) (words : List (List ℕ)) (m : MatText) → Says n words (Mat m) → mat_of n words ≡ Some (Mat m)
mat-complete n words m s =
    ap (mat_of n) s.1.joined
    ∙ ap (λ o. option_and_then (λ op. option_map (λ ns. Mat (record { line = n; op = op; entries = ns })) (few_numbers_of 36 s.1.numbers)) o) (operation-complete s.1.operation m.op s.1.spelled)
    ∙ ap (λ o. option_map (λ ns. Mat (record { line = n; op = m.op; entries = ns })) o) (few-complete 36 s.1.numbers m.entries s.1.few s.1.entries)
    ∙ ap (λ x. Some (Mat (record { line = x; op = m.op; entries = m.entries }))) (sym s.0)

pub vector-complete : (n : ℕ) (words : List (List ℕ)) (v : VectorText) → Says n words (RealVector v) → vector_of n words ≡ Some (RealVector v)
vector-complete n [] v s = absurd (omega (arith, s.1))
vector-complete n (w ∷ words) v s =
    ap (λ o. option_map (λ ns. RealVector (record { line = n; numbers = ns })) o) (few-complete 24 (w ∷ words) v.numbers s.2 s.3)
    ∙ ap (λ x. Some (RealVector (record { line = x; numbers = v.numbers }))) (sym s.0)

site_then : (words rest : List (List ℕ)) (site : List (List ℕ)) (label : List ℕ) (place : List ℤ) → words ≡ site ++ rest → SpellsSite site label place → site_of words ≡ Some (label, place, rest)
site_then words rest site label place joined s = ap site_of joined ∙ site-complete site label place rest s

atom-complete : (n : ℕ) (words : List (List ℕ)) (a : AtomText) → a.line ≡ n → SpellsSite words a.label a.place → atom_of n words ≡ Some a
atom-complete n words a line s =
    ap (λ o. option_and_then (λ x. option_and_then (λ label. let b : AtomText = record { line = n; label = label; place = x.1 } in if is_none_left x.2 then Some b else None) (name_of x.0)) o) (site_then words [] words a.label a.place (sym (append-nil words)) s)
    ∙ ap (λ o. option_and_then (λ label. let b : AtomText = record { line = n; label = label; place = a.place } in Some b) o) (name-complete a.label s.name)
    ∙ ap (λ x. let b : AtomText = record { line = x; label = a.label; place = a.place } in Some b) (sym line)

pub atom_line-complete : (n : ℕ) (words : List (List ℕ)) (a : AtomText) → Says n words (Atom a) → option_map (λ b. Atom b) (atom_of n words) ≡ Some (Atom a)
atom_line-complete n words a s = ap (λ o. option_map (λ b. Atom b) o) (atom-complete n words a s.0 s.1)

pub listed-complete : (n : ℕ) (words : List (List ℕ)) (a : AtomText) → Says n words (Listed a) → option_map (λ b. Listed b) (atom_of n words) ≡ Some (Listed a)
listed-complete n words a s = ap (λ o. option_map (λ b. Listed b) o) (atom-complete n words a s.0 s.1)

pub tolerance_line-complete : (n : ℕ) (words : List (List ℕ)) (t : ℤ) → Says n words (Tolerance t) → tolerance_line_of words ≡ Some (Tolerance t)
tolerance_line-complete n words t s = ap tolerance_line_of s.1 ∙ ap (λ o. option_map (λ x. Tolerance x) o) (tolerance-complete s.0 t s.2)

three_rows : (first : List (List ℕ)) (vs : List Frac) (rest : List (List ℕ)) → Three SpellsKFraction first vs → three_of k_fraction_of (first ++ rest) ≡ Some (vs, rest)
three_rows first vs rest s = three-complete k_fraction_of (λ w v. SpellsKFraction w v) (λ w v spelled. k_fraction-complete w v spelled) first vs rest s

three_places : (words : List (List ℕ)) (vs : List ℤ) → Three SpellsPlace words vs → three_of place_of words ≡ Some (vs, [])
three_places words vs s = alone-complete place_of (λ w v. SpellsPlace w v) (λ w v spelled. place-complete w v spelled) words vs s

-- the cell of what stands behind its first row, its second and its third
cell_by : ℕ → List Frac → List Frac → List Frac → List (List ℕ) → Option Line
cell_by n a b c words = option_and_then (λ o. if is_none_left o.1 then Some (Cell (record { line = n; rows = a ∷ b ∷ c ∷ []; origin = o.0 })) else None) (three_of place_of words)

cell_by_rows : (n : ℕ) (words ra rb rc : List (List ℕ)) (a b c : List Frac) (o : List ℤ) → three_of k_fraction_of words ≡ Some (a, ra) → three_of k_fraction_of ra ≡ Some (b, rb) → three_of k_fraction_of rb ≡ Some (c, rc) → three_of place_of rc ≡ Some (o, [])
    → cell_of n words ≡ Some (Cell (record { line = n; rows = a ∷ b ∷ c ∷ []; origin = o }))
unfolding cell_by
cell_by_rows n words ra rb rc a b c o first second third origin =
    ap (λ p. option_and_then (λ x. option_and_then (λ y. option_and_then (λ z. cell_by n x.0 y.0 z.0 z.1) (three_of k_fraction_of y.1)) (three_of k_fraction_of x.1)) p) first
    ∙ ap (λ p. option_and_then (λ y. option_and_then (λ z. cell_by n a y.0 z.0 z.1) (three_of k_fraction_of y.1)) p) second
    ∙ ap (λ p. option_and_then (λ z. cell_by n a b z.0 z.1) p) third
    ∙ ap (λ p. option_and_then (λ v. if is_none_left v.1 then Some (Cell (record { line = n; rows = a ∷ b ∷ c ∷ []; origin = v.0 })) else None) p) origin

pub cell-complete : (n : ℕ) (words : List (List ℕ)) (c : CellText) → Says n words (Cell c) → cell_of n words ≡ Some (Cell c)
cell-complete n words c s =
    let p = s.1 in
    cell_by_rows n words (p.second ++ (p.third ++ p.behind)) (p.third ++ p.behind) p.behind p.row1 p.row2 p.row3 c.origin (ap (λ x. three_of k_fraction_of x) p.joined ∙ three_rows p.first p.row1 (p.second ++ (p.third ++ p.behind)) p.along1) (three_rows p.second p.row2 (p.third ++ p.behind) p.along2) (three_rows p.third p.row3 p.behind p.along3) (three_places p.behind c.origin p.origin)
    ∙ ap (λ x. Some (Cell (record { line = n; rows = x; origin = c.origin }))) (sym p.rows)
    ∙ ap (λ x. Some (Cell (record { line = x; rows = c.rows; origin = c.origin }))) (sym s.0)

pub value-complete : (n : ℕ) (words : List (List ℕ)) (v : ValueText) → Says n words (Value v) → value_of n words ≡ Some (Value v)
value-complete n words v s =
    ap (λ o. option_and_then (λ x. option_and_then (λ label. option_map (λ u. Value (record { line = n; label = label; place = x.1; value = u })) (option_and_then place_of (one x.2))) (name_of x.0)) o) (site_then words (s.1.amount ∷ []) s.1.site v.label v.place s.1.joined s.1.placed)
    ∙ ap (λ o. option_and_then (λ label. option_map (λ u. Value (record { line = n; label = label; place = v.place; value = u })) (place_of s.1.amount)) o) (name-complete v.label s.1.placed.name)
    ∙ ap (λ o. option_map (λ u. Value (record { line = n; label = v.label; place = v.place; value = u })) o) (place-complete s.1.amount v.value s.1.spelled)
    ∙ ap (λ x. Some (Value (record { line = x; label = v.label; place = v.place; value = v.value }))) (sym s.0)

pub axial-complete : (n : ℕ) (words : List (List ℕ)) (v : AxialText) → Says n words (Axial v) → axial_of n words ≡ Some (Axial v)
axial-complete n words v s =
    ap (λ o. option_and_then (λ x. option_and_then (λ label. option_and_then (λ u. if is_none_left u.1 then Some (Axial (record { line = n; label = label; place = x.1; value = u.0 })) else None) (three_of place_of x.2)) (name_of x.0)) o) (site_then words s.1.components s.1.site v.label v.place s.1.joined s.1.placed)
    ∙ ap (λ o. option_and_then (λ label. option_and_then (λ u. if is_none_left u.1 then Some (Axial (record { line = n; label = label; place = v.place; value = u.0 })) else None) (three_of place_of s.1.components)) o) (name-complete v.label s.1.placed.name)
    ∙ ap (λ o. option_and_then (λ u. if is_none_left u.1 then Some (Axial (record { line = n; label = v.label; place = v.place; value = u.0 })) else None) o) (three_places s.1.components v.value s.1.spelled)
    ∙ ap (λ x. Some (Axial (record { line = x; label = v.label; place = v.place; value = v.value }))) (sym s.0)

pub end-complete : (n : ℕ) (words : List (List ℕ)) → Says n words End → end_of words ≡ Some End
end-complete n words s = ap end_of s
