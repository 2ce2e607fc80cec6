-- The text of a demo file, piece by piece, and its parent.
--
-- flat_map_more: the pieces of a list, one more at a time
-- pushed-three: three pieces behind a text
-- unit-near: a number whose square is 1 is within 1
-- matrix-text, head-text, file-text: what was added to an empty text
-- demo-parent: the group of the Hall symbol
-- demo-one: a number has one file
use Rattle.std.proofs.Common.{◌≡◌, refl, sym, ap, ◌∙◌, subst, ℕ, zero, suc, ◌+◌, ◌*◌, ◌<◌, length, take, get_or, ℤ, pos, negsuc, ◌*ℤ◌, unsigned_abs, List, [], ◌∷◌, ◌++◌, flat_map, codes, Result, OnOk, append_assoc, arith}
use Rattle.std.proofs.lemmas.Int.{ints, unsigned_abs-mul}
use Rattle.std.proofs.lemmas.Grind.{flat_map-append}
use Rattle.std.proofs.lemmas.List.{append-nil}
use Rattle.std.proofs.lemmas.Result.{IfOk-equal}
use Rattle.std.proofs.Math.Seq.{take-suc}
use Rattle.space_ops.specs.declared.lattice.Lattice.{Lattice}
use Rattle.space_ops.specs.declared.op.Op.{Op}
use Rattle.space_ops.specs.Group.{Parent, IsListOf, IsParentGroup}
use Rattle.space_ops.specs.Op.{IsWithin}
use Rattle.space_ops.specs.OpText.{text_of}
use Rattle.space_ops.specs.Words.{HasTooManyRotations, HasExtraTranslation}
use Rattle.hall_symbol.specs.Grammar.{IsHallSymbol}
use Rattle.demo_files.specs.Demo.{symbol_text, wave_text, factor_of, rows_text, matrix_line, demo_head, perovskite_lines, general_lines, demo_text, IsDemoParent, IsDemoFile}

pub flat_map_more : {X : Type 0} (f : X → List ℕ) (xs : List X) (i : ℕ) (d : X) → i < length xs → flat_map f (take (i + 1) xs) ≡ flat_map f (take i xs) ++ f (get_or xs i d)
flat_map_more f xs i d l =
    let next : i + 1 ≡ suc i = omega arith in
    ap (λ k. flat_map f (take k xs)) next ∙ ap (flat_map f) (take-suc xs i d l) ∙ flat_map-append f (take i xs) (get_or xs i d ∷ [])
    ∙ ap (λ t. flat_map f (take i xs) ++ t) (append-nil (f (get_or xs i d)))

-- three pieces behind a text
pub pushed-three : {E : Type 0} (r : Result (Unit {0}) E) (t t1 t2 t3 a b c : List ℕ) → t1 ≡ t ++ a → t2 ≡ t1 ++ b → OnOk r (t3 ≡ t2 ++ c) → OnOk r (t3 ≡ t ++ (a ++ b ++ c))
pushed-three r t t1 t2 t3 a b c e f g =
    IfOk-equal r t3 (t2 ++ c) (t ++ (a ++ b ++ c)) g (ap (λ s. s ++ c) (f ∙ ap (λ s. s ++ b) e ∙ append_assoc t a b) ∙ append_assoc t (a ++ b) c)

unit_root : (n : ℕ) → n * n ≡ 1 → n ≡ 1
unit_root zero e = absurd (omega (arith, e))
unit_root (suc zero) e = refl
unit_root (suc (suc n)) e = absurd (omega (arith, e))

-- a number whose square is 1
pub unit-near : (d : ℤ) → d *ℤ d ≡ pos 1 → IsWithin 1 d
unit-near (pos k) e = let f : k ≡ 1 = unit_root k (sym (unsigned_abs-mul (pos k) (pos k)) ∙ ap unsigned_abs e) in (omega (arith, ints, f), omega (arith, ints, f))
unit-near (negsuc k) e = let f : suc k ≡ 1 = unit_root (suc k) (sym (unsigned_abs-mul (negsuc k) (negsuc k)) ∙ ap unsigned_abs e) in (omega (arith, ints, f), omega (arith, ints, f))

pub matrix-text : (number : ℕ) (op : Op) (p r t0 t1 t2 t3 t4 : List ℕ) → t0 ≡ [] → t1 ≡ t0 ++ codes "mat " → t2 ≡ t1 ++ p → t3 ≡ t2 ++ r → t4 ≡ t3 ++ (10 ∷ [])
    → p ≡ text_of op → r ≡ rows_text (factor_of number op) op.rot → t4 ≡ matrix_line number op
unfolding matrix_line
matrix-text number op p r t0 t1 t2 t3 t4 e0 e1 e2 e3 e4 ep er =
    let one : t1 ≡ codes "mat " = e1 ∙ ap (λ t. t ++ codes "mat ") e0 in
    let two : t2 ≡ codes "mat " ++ text_of op = e2 ∙ (λ i. one i ++ ep i) in
    e4 ∙ ap (λ t. t ++ (10 ∷ [])) (e3 ∙ (λ i. two i ++ er i))

abbrev head_first : List ℕ
head_first = codes "isodist 1" ++ (10 ∷ codes "hall ")

abbrev head_second : List ℕ
head_second = 10 ∷ (codes "irrep V 3" ++ (10 ∷ codes "k "))

pub head-text : (number : ℕ) (s w t0 t1 t2 t3 t4 t5 : List ℕ) → t0 ≡ [] → t1 ≡ t0 ++ head_first → t2 ≡ t1 ++ s → t3 ≡ t2 ++ head_second → t4 ≡ t3 ++ w → t5 ≡ t4 ++ (10 ∷ [])
    → s ≡ symbol_text number → w ≡ wave_text number → t5 ≡ demo_head number
unfolding demo_head
head-text number s w t0 t1 t2 t3 t4 t5 e0 e1 e2 e3 e4 e5 es ew =
    let symbol = symbol_text number in
    let wave = wave_text number in
    let one : t1 ≡ head_first = e1 ∙ ap (λ t. t ++ head_first) e0 in
    let two : t2 ≡ head_first ++ symbol = e2 ∙ (λ i. one i ++ es i) in
    let three : t3 ≡ (head_first ++ symbol) ++ head_second = e3 ∙ ap (λ t. t ++ head_second) two in
    let four : t4 ≡ ((head_first ++ symbol) ++ head_second) ++ wave = e4 ∙ (λ i. three i ++ ew i) in
    e5 ∙ ap (λ t. t ++ (10 ∷ [])) four ∙ ap (λ t. head_first ++ t) (append_assoc (symbol ++ head_second) wave (10 ∷ []) ∙ append_assoc symbol head_second (wave ++ (10 ∷ [])))

pub file-text : (number : ℕ) (ops : List Op) (p g t0 t1 t2 t3 t4 : List ℕ) → t0 ≡ demo_head number → t1 ≡ t0 ++ flat_map (matrix_line number) ops → t2 ≡ t1 ++ p → t3 ≡ t2 ++ g
    → t4 ≡ t3 ++ (codes "end" ++ (10 ∷ [])) → p ≡ perovskite_lines → g ≡ general_lines number → t4 ≡ demo_text number ops
unfolding demo_text
file-text number ops p g t0 t1 t2 t3 t4 e0 e1 e2 e3 e4 ep eg =
    let one : t1 ≡ demo_head number ++ flat_map (matrix_line number) ops = e1 ∙ ap (λ t. t ++ flat_map (matrix_line number) ops) e0 in
    let two : t2 ≡ demo_head number ++ flat_map (matrix_line number) ops ++ perovskite_lines = e2 ∙ (λ i. one i ++ ep i) in
    e4 ∙ ap (λ t. t ++ (codes "end" ++ (10 ∷ []))) (e3 ∙ (λ i. two i ++ eg i))

pub demo-parent : (number : ℕ) (lattice : Lattice) (gens : List Op) (p : Parent) → IsHallSymbol (symbol_text number) lattice gens
    → (HasTooManyRotations gens lattice → ⊥) → (HasExtraTranslation gens lattice → ⊥) → IsParentGroup p → p.lattice ≡ lattice → p.generators ≡ gens → IsDemoParent number p
demo-parent number lattice gens p h few pure group l g = record {
  symbol = subst (λ (m : Lattice). IsHallSymbol (symbol_text number) m p.generators) (sym l) (subst (λ (more : List Op). IsHallSymbol (symbol_text number) lattice more) (sym g) h);
  listed = group;
  few = subst (λ (m : Lattice). HasTooManyRotations p.generators m → ⊥) (sym l) (subst (λ (more : List Op). HasTooManyRotations more lattice → ⊥) (sym g) few);
  pure = subst (λ (m : Lattice). HasExtraTranslation p.generators m → ⊥) (sym l) (subst (λ (more : List Op). HasExtraTranslation more lattice → ⊥) (sym g) pure);
}

-- a text has one symbol
abbrev HasOneSymbol : Type 0
HasOneSymbol = (text : List ℕ) (l m : Lattice) (gens more : List Op) → IsHallSymbol text l gens → IsHallSymbol text m more → (l ≡ m) × (gens ≡ more)

-- a group has one list
abbrev HasOneList : Type 0
HasOneList = (gens : List Op) (lattice : Lattice) (xs ys : List Op) → IsListOf gens lattice xs → IsListOf gens lattice ys → xs ≡ ys

pub demo-one : HasOneSymbol → HasOneList → (number : ℕ) (s t : List ℕ) → IsDemoFile number s → IsDemoFile number t → s ≡ t
demo-one symbols lists number s t h k =
    let p = h.group in
    let q = k.group in
    let e = symbols (symbol_text number) p.lattice q.lattice p.generators q.generators h.is_parent.symbol k.is_parent.symbol in
    let listed : IsListOf p.generators p.lattice q.ops =
    subst (λ (m : Lattice). IsListOf p.generators m q.ops) (sym e.0) (subst (λ (more : List Op). IsListOf more q.lattice q.ops) (sym e.1) k.is_parent.listed.list) in
    h.text_is ∙ ap (demo_text number) (lists p.generators p.lattice p.ops q.ops h.is_parent.listed.list listed) ∙ sym k.text_is
