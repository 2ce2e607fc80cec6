-- What the readers find in the words behind a keyword is what these words spell.
use Rattle.std.proofs.Common.{◌≡◌, ℕ, ℤ, ◌+◌, ◌-◌, ◌≤◌, true, List, [], ◌∷◌, ◌++◌, codes, Some, None, refl, sym, ◌∙◌, ap, subst, arith, nat_le, ◌&&◌, inl, inr}
use Rattle.std.specs.Prelude.{option_and_then}
use Rattle.std.specs.Option.{option_map}
use Rattle.std.specs.Str.{bytes_eq}
use Rattle.iso_text.specs.Fractions.{k_fraction_of, place_of, tolerance_of}
use Rattle.iso_text.specs.LineKinds.{head_of, lattice_of, op_of, irrep_of, k_of, mat_of, vector_of, atom_of, tolerance_line_of, cell_of, value_of, axial_of, end_of}
use Rattle.iso_text.specs.LineWords.{is_none_left, one, two, three_of, site_of, name_of, few_numbers_of, letter_of, size_of}
use Rattle.iso_text.specs.LineSpellings.{keyword, Says}
use Rattle.iso_text.specs.Operations.{operation_of}
use Rattle.iso_text.specs.SectionSpellings.{is_letter, SpellsCell}
use Rattle.iso_text.specs.Spellings.{SpellsKFraction, SpellsPlace}
use Rattle.iso_text.specs.WordSpellings.{Three, SpellsSite}
use Rattle.iso_text.specs.declared.line_kinds.Line.{Line}
use Rattle.iso_text.specs.declared.line_kinds.Line.TheVariants.{Head, Lattice, Op, Irrep, K, Atom, Tolerance, Cell, Listed, Value, Axial, End}
use Rattle.iso_text.specs.declared.numbers.Frac.{Frac}
use Rattle.iso_text.specs.declared.sections.AtomText.{AtomText}
use Rattle.iso_text.proofs.BodyLemmas.{apart}
use Rattle.iso_text.proofs.FractionSpellings.{k_fraction-sound}
use Rattle.iso_text.proofs.ListsGrammar.{same_text, none_left, one_is, two_is, IsThree, three-sound, three_alone, name-sound, site-sound, site_alone, few-sound}
use Rattle.iso_text.proofs.RowSpellings.{operation-sound}
use Rattle.iso_text.proofs.SignSpellings.{place-sound, tolerance-sound}
use Rattle.iso_text.proofs.SpellingLemmas.{le_true, none_some, map_some, choose}
use Rattle.iso_text.proofs.Steps.{guard, bind}

-- a line with this keyword, said by the words behind it
pub record IsSaid (n : ℕ) (words : List (List ℕ)) (key : List ℕ) (line : Line) : Type 0 where
  pub first : keyword line ≡ key
  pub says : Says n words line

pub head-sound : (n : ℕ) (words : List (List ℕ)) (line : Line) → head_of words ≡ Some line → IsSaid n words (codes "isodist") line
head-sound n words line e =
    let w = bind (one words) _ line e in
    let word : words ≡ w.0 ∷ [] = one_is words w.0 w.1 in
    elim (choose (bytes_eq w.0 (codes "1")) (Head 1) line _ w.2) [
      | inl c ↦ subst (λ x. IsSaid n words (codes "isodist") x) (sym c.1) (record { first = refl; says = inl (word ∙ ap (λ x. x ∷ []) (same_text w.0 (codes "1") c.0), refl) })
      | inr c ↦ elim (choose (bytes_eq w.0 (codes "2")) (Head 2) line None c.1) [
        | inl d ↦ subst (λ x. IsSaid n words (codes "isodist") x) (sym d.1) (record { first = refl; says = inr (word ∙ ap (λ x. x ∷ []) (same_text w.0 (codes "2") d.0), refl) })
        | inr d ↦ none_some d.1
      ]
    ]

letter-sound : (w : List ℕ) (letter : ℕ) → letter_of w ≡ Some letter → (w ≡ letter ∷ []) × (is_letter letter ≡ true)
letter-sound [] letter e = none_some e
letter-sound (c ∷ []) letter e = let test = guard (is_letter c) c letter e in (ap (λ x. x ∷ []) test.1, subst (λ x. is_letter x ≡ true) test.1 test.0)
letter-sound (c ∷ d ∷ cs) letter e = none_some e

pub lattice-sound : (n : ℕ) (words : List (List ℕ)) (line : Line) → lattice_of n words ≡ Some line → IsSaid n words (codes "lattice") line
lattice-sound n words line e =
    let c = map_some (λ c. Lattice n c) (option_and_then letter_of (one words)) line e in
    let w = bind (one words) letter_of c.0 c.1 in
    let letter = letter-sound w.0 c.0 w.2 in
    subst (λ x. IsSaid n words (codes "lattice") x) c.2 (record { first = refl; says = (refl, record { joined = one_is words w.0 w.1 ∙ ap (λ x. x ∷ []) letter.0; known = letter.1 }) })

pub op-sound : (n : ℕ) (words : List (List ℕ)) (line : Line) → op_of n words ≡ Some line → IsSaid n words (codes "op") line
op-sound n words line e =
    let op = map_some (λ op. Op (record { line = n; op = op })) (option_and_then operation_of (one words)) line e in
    let w = bind (one words) operation_of op.0 op.1 in
    subst (λ x. IsSaid n words (codes "op") x) op.2 (record { first = refl; says = (refl, w.0, one_is words w.0 w.1, operation-sound w.0 op.0 w.2) })

digit_of : (c s : ℕ) → 49 ≤ c → c - 48 ≡ s → c ≡ 48 + s
digit_of c s low is = omega arith

size-sound : (text : List ℕ) (s : ℕ) → size_of text ≡ Some s → (text ≡ (48 + s) ∷ []) × (1 ≤ s) × (s ≤ 6)
size-sound [] s e = none_some e
size-sound (c ∷ []) s e =
    let test = guard (nat_le 49 c && nat_le c 54) (c - 48) s e in
    let parts = apart (nat_le 49 c) (nat_le c 54) test.0 in
    let low : 49 ≤ c = le_true 49 c parts.0 in
    let high : c ≤ 54 = le_true c 54 parts.1 in
    let digit : c ≡ 48 + s = digit_of c s low test.1 in
    (ap (λ x. x ∷ []) digit, omega arith, omega arith)
size-sound (c ∷ d ∷ cs) s e = none_some e

irrep_is : (n : ℕ) (words : List (List ℕ)) (line : Line) (a b name : List ℕ) (size : ℕ) → words ≡ a ∷ b ∷ [] → name_of a ≡ Some name → size_of b ≡ Some size → Irrep (record { line = n; name = name; size = size }) ≡ line → IsSaid n words (codes "irrep") line
irrep_is n words line a b name size both named sized is =
    let called = name-sound a name named in
    let some = size-sound b size sized in
    subst (λ x. IsSaid n words (codes "irrep") x) is (record { first = refl; says = (refl, record { joined = both ∙ ap (λ x. x ∷ b ∷ []) called.1 ∙ ap (λ x. name ∷ x ∷ []) some.0; name = called.0; some = some.1; few = some.2 }) })

pub irrep-sound : (n : ℕ) (words : List (List ℕ)) (line : Line) → irrep_of n words ≡ Some line → IsSaid n words (codes "irrep") line
irrep-sound n words line e =
    let w = bind (two words) _ line e in
    let name = bind (name_of w.0.0) _ line w.2 in
    let size = map_some _ (size_of w.0.1) line name.2 in
    irrep_is n words line w.0.0 w.0.1 name.0 size.0 (two_is words w.0 w.1) name.1 size.1 size.2

pub k-sound : (n : ℕ) (words : List (List ℕ)) (line : Line) → k_of words ≡ Some line → IsSaid n words (codes "k") line
k-sound n words line e =
    let r = bind (three_of k_fraction_of words) _ line e in
    let test = guard (is_none_left r.0.1) (K r.0.0) line r.2 in
    let three = three-sound k_fraction_of (λ w v. SpellsKFraction w v) (λ w v read. k_fraction-sound w v read) words r.0 r.1 in
    subst (λ x. IsSaid n words (codes "k") x) test.1 (record { first = refl; says = three_alone (λ w v. SpellsKFraction w v) words r.0.0 r.0.1 three test.0 })

pub mat-sound : (n : ℕ) (words : List (List ℕ)) (line : Line) → mat_of n words ≡ Some line → IsSaid n words (codes "mat") line
mat-sound n [] line e = none_some e
mat-sound n (w ∷ words) line e =
    let op = bind (operation_of w) _ line e in
    let ns = map_some _ (few_numbers_of 36 words) line op.2 in
    let few = few-sound 36 words ns.0 ns.1 in
    subst (λ x. IsSaid n (w ∷ words) (codes "mat") x) ns.2 (record { first = refl; says = (refl, record { operation = w; numbers = words; joined = refl; spelled = operation-sound w op.0 op.1; entries = few.1; few = few.0 }) })

pub vector-sound : (n : ℕ) (words : List (List ℕ)) (line : Line) → vector_of n words ≡ Some line → IsSaid n words (codes "realvector") line
vector-sound n [] line e = none_some e
vector-sound n (w ∷ words) line e =
    let ns = map_some _ (few_numbers_of 24 (w ∷ words)) line e in
    let few = few-sound 24 (w ∷ words) ns.0 ns.1 in
    subst (λ x. IsSaid n (w ∷ words) (codes "realvector") x) ns.2 (record { first = refl; says = (refl, omega arith, few.0, few.1) })

atom_is : (n : ℕ) (words : List (List ℕ)) (a b : AtomText) → SpellsSite words a.label a.place → a.line ≡ n → a ≡ b → (b.line ≡ n) × SpellsSite words b.label b.place
atom_is n words a b site line is = subst (λ x. (x.line ≡ n) × SpellsSite words x.label x.place) is (line, site)

atom-sound : (n : ℕ) (words : List (List ℕ)) (a : AtomText) → atom_of n words ≡ Some a → (a.line ≡ n) × SpellsSite words a.label a.place
atom-sound n words a e =
    let s = bind (site_of words) _ a e in
    let name = bind (name_of s.0.0) _ a s.2 in
    let test = guard (is_none_left s.0.2) (record { line = n; label = name.0; place = s.0.1 }) a name.2 in
    let site = site-sound words s.0 name.0 s.1 name.1 in
    atom_is n words (record { line = n; label = name.0; place = s.0.1 }) a (site_alone words name.0 s.0.1 s.0.2 site test.0) refl test.1

pub atom_line-sound : (n : ℕ) (words : List (List ℕ)) (line : Line) → option_map (λ a. Atom a) (atom_of n words) ≡ Some line → IsSaid n words (codes "atom") line
atom_line-sound n words line e =
    let a = map_some (λ a. Atom a) (atom_of n words) line e in
    subst (λ x. IsSaid n words (codes "atom") x) a.2 (record { first = refl; says = atom-sound n words a.0 a.1 })

pub listed-sound : (n : ℕ) (words : List (List ℕ)) (line : Line) → option_map (λ a. Listed a) (atom_of n words) ≡ Some line → IsSaid n words (codes "listed") line
listed-sound n words line e =
    let a = map_some (λ a. Listed a) (atom_of n words) line e in
    subst (λ x. IsSaid n words (codes "listed") x) a.2 (record { first = refl; says = atom-sound n words a.0 a.1 })

pub tolerance_line-sound : (n : ℕ) (words : List (List ℕ)) (line : Line) → tolerance_line_of words ≡ Some line → IsSaid n words (codes "tolerance") line
tolerance_line-sound n words line e =
    let t = map_some (λ t. Tolerance t) (option_and_then tolerance_of (one words)) line e in
    let w = bind (one words) tolerance_of t.0 t.1 in
    subst (λ x. IsSaid n words (codes "tolerance") x) t.2 (record { first = refl; says = (w.0, one_is words w.0 w.1, tolerance-sound w.0 t.0 w.2) })

pub end-sound : (n : ℕ) (words : List (List ℕ)) (line : Line) → end_of words ≡ Some line → IsSaid n words (codes "end") line
end-sound n words line e =
    let test = guard (is_none_left words) End line e in
    subst (λ x. IsSaid n words (codes "end") x) test.1 (record { first = refl; says = none_left words test.0 })

-- three rows and an origin
cell_words : (words ra rb rc : List (List ℕ)) (a b c : List Frac) (o : List ℤ) (n : ℕ) → IsThree SpellsKFraction words a ra → IsThree SpellsKFraction ra b rb → IsThree SpellsKFraction rb c rc → Three SpellsPlace rc o
    → SpellsCell words (record { line = n; rows = a ∷ b ∷ c ∷ []; origin = o })
cell_words words ra rb rc a b c o n first second third origin = record {
  first = first.first;
  second = second.first;
  third = third.first;
  behind = rc;
  row1 = a;
  row2 = b;
  row3 = c;
  joined = first.joined ∙ ap (λ x. first.first ++ x) (second.joined ∙ ap (λ x. second.first ++ x) third.joined);
  along1 = first.spelled;
  along2 = second.spelled;
  along3 = third.spelled;
  rows = refl;
  origin = origin;
}

three_rows : (words : List (List ℕ)) (r : List Frac × List (List ℕ)) → three_of k_fraction_of words ≡ Some r → IsThree SpellsKFraction words r.0 r.1
three_rows words r read = three-sound k_fraction_of (λ w v. SpellsKFraction w v) (λ w v e. k_fraction-sound w v e) words r read

three_places : (words : List (List ℕ)) (r : List ℤ × List (List ℕ)) → three_of place_of words ≡ Some r → IsThree SpellsPlace words r.0 r.1
three_places words r read = three-sound place_of (λ w v. SpellsPlace w v) (λ w v e. place-sound w v e) words r read

cell_is : (n : ℕ) (words : List (List ℕ)) (line : Line) (a b c : List Frac × List (List ℕ)) (o : List ℤ × List (List ℕ)) → three_of k_fraction_of words ≡ Some a → three_of k_fraction_of a.1 ≡ Some b → three_of k_fraction_of b.1 ≡ Some c → three_of place_of c.1 ≡ Some o
    → is_none_left o.1 ≡ true → Cell (record { line = n; rows = a.0 ∷ b.0 ∷ c.0 ∷ []; origin = o.0 }) ≡ line → IsSaid n words (codes "cell") line
cell_is n words line a b c o first second third origin none is =
    let places = three_alone (λ w v. SpellsPlace w v) c.1 o.0 o.1 (three_places c.1 o origin) none in
    let spelled = cell_words words a.1 b.1 c.1 a.0 b.0 c.0 o.0 n (three_rows words a first) (three_rows a.1 b second) (three_rows b.1 c third) places in
    subst (λ x. IsSaid n words (codes "cell") x) is (record { first = refl; says = (refl, spelled) })

pub cell-sound : (n : ℕ) (words : List (List ℕ)) (line : Line) → cell_of n words ≡ Some line → IsSaid n words (codes "cell") line
cell-sound n words line e =
    let a = bind (three_of k_fraction_of words) _ line e in
    let b = bind (three_of k_fraction_of a.0.1) _ line a.2 in
    let c = bind (three_of k_fraction_of b.0.1) _ line b.2 in
    let o = bind (three_of place_of c.0.1) _ line c.2 in
    let test = guard (is_none_left o.0.1) _ line o.2 in
    cell_is n words line a.0 b.0 c.0 o.0 a.1 b.1 c.1 o.1 test.0 test.1

-- a site and an amount
value_is : (n : ℕ) (words : List (List ℕ)) (line : Line) (s : List ℕ × List ℤ × List (List ℕ)) (name amount : List ℕ) (v : ℤ) → site_of words ≡ Some s → name_of s.0 ≡ Some name → one s.2 ≡ Some amount → place_of amount ≡ Some v
    → Value (record { line = n; label = name; place = s.1; value = v }) ≡ line → IsSaid n words (codes "value") line
value_is n words line s name amount v read named last spelled is =
    let site = site-sound words s name read named in
    let joined : words ≡ site.site ++ amount ∷ [] = site.joined ∙ ap (λ x. site.site ++ x) (one_is s.2 amount last) in
    subst (λ x. IsSaid n words (codes "value") x) is (record { first = refl; says = (refl, record { site = site.site; amount = amount; joined = joined; placed = site.spelled; spelled = place-sound amount v spelled }) })

pub value-sound : (n : ℕ) (words : List (List ℕ)) (line : Line) → value_of n words ≡ Some line → IsSaid n words (codes "value") line
value-sound n words line e =
    let s = bind (site_of words) _ line e in
    let name = bind (name_of s.0.0) _ line s.2 in
    let v = map_some _ (option_and_then place_of (one s.0.2)) line name.2 in
    let amount = bind (one s.0.2) place_of v.0 v.1 in
    value_is n words line s.0 name.0 amount.0 v.0 s.1 name.1 amount.1 amount.2 v.2

-- a site and three components
axial_is : (n : ℕ) (words : List (List ℕ)) (line : Line) (s : List ℕ × List ℤ × List (List ℕ)) (name : List ℕ) (v : List ℤ × List (List ℕ)) → site_of words ≡ Some s → name_of s.0 ≡ Some name → three_of place_of s.2 ≡ Some v → is_none_left v.1 ≡ true
    → Axial (record { line = n; label = name; place = s.1; value = v.0 }) ≡ line → IsSaid n words (codes "axial") line
axial_is n words line s name v read named last none is =
    let site = site-sound words s name read named in
    let components = three_alone (λ w x. SpellsPlace w x) s.2 v.0 v.1 (three_places s.2 v last) none in
    subst (λ x. IsSaid n words (codes "axial") x) is (record { first = refl; says = (refl, record { site = site.site; components = s.2; joined = site.joined; placed = site.spelled; spelled = components }) })

pub axial-sound : (n : ℕ) (words : List (List ℕ)) (line : Line) → axial_of n words ≡ Some line → IsSaid n words (codes "axial") line
axial-sound n words line e =
    let s = bind (site_of words) _ line e in
    let name = bind (name_of s.0.0) _ line s.2 in
    let v = bind (three_of place_of s.0.2) _ line name.2 in
    let test = guard (is_none_left v.0.1) _ line v.2 in
    axial_is n words line s.0 name.0 v.0 s.1 name.1 v.1 test.0 test.1
