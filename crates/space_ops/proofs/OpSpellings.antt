-- The printed text of an operation is one that a file's words read as this operation.
use Rattle.std.proofs.Common.{◌≡◌, sym, subst, ℕ, ℤ, pos, List, [], ◌∷◌, ◌++◌, append_assoc, length, codes, arith}
use Rattle.iso_text.specs.OperationSpellings.{SpellsOperation}
use Rattle.iso_text.specs.WordRanges.{IsWithin, AreThree}
use Rattle.space_ops.specs.declared.op.Op.{Op}
use Rattle.space_ops.specs.OpText.{coordinate_text, text_of, IsPrintable, op_text_of}
use Rattle.space_ops.proofs.CoordinateSpellings.{SpellsCoordinate, coordinate-spelled}

-- a list of three values
by_three : {V : Type 0} (Q : List V → Type 0) → ((a b c : V) → Q (a ∷ b ∷ c ∷ [])) → (vs : List V) → length vs ≡ 3 → Q vs
by_three Q law [] e = absurd (omega arith)
by_three Q law (a ∷ []) e = absurd (omega arith)
by_three Q law (a ∷ b ∷ []) e = absurd (omega arith)
by_three Q law (a ∷ b ∷ c ∷ []) e = law a b c
by_three Q law (a ∷ b ∷ c ∷ d ∷ vs) e = absurd (omega arith)

row-spelled : (row : List ℤ) (t : ℤ) → AreThree (IsWithin 3) row → IsWithin 120 t → SpellsCoordinate (coordinate_text row t) row t
row-spelled row t three near =
    by_three (λ xs. AreThree (IsWithin 3) xs → SpellsCoordinate (coordinate_text xs t) xs t)
    (λ x y z each. coordinate-spelled x y z t (each.each 0 (pos 0) (omega arith)) (each.each 1 (pos 0) (omega arith)) (each.each 2 (pos 0) (omega arith)) near)
    row three.count three

abbrev op_with : List (List ℤ) → List ℤ → Op
op_with rot shift = record { rot = rot; shift = shift }

coordinates-joined : (a b c : List ℤ) (t u v : ℤ) → text_of (op_with (a ∷ b ∷ c ∷ []) (t ∷ u ∷ v ∷ [])) ≡ coordinate_text a t ++ (codes "," ++ (coordinate_text b u ++ (codes "," ++ coordinate_text c v)))
unfolding text_of
coordinates-joined a b c t u v = simp append_assoc

three-spelled : (a b c : List ℤ) (t u v : ℤ) → SpellsCoordinate (coordinate_text a t) a t → SpellsCoordinate (coordinate_text b u) b u → SpellsCoordinate (coordinate_text c v) c v
    → SpellsOperation (text_of (op_with (a ∷ b ∷ c ∷ []) (t ∷ u ∷ v ∷ []))) (op_text_of (op_with (a ∷ b ∷ c ∷ []) (t ∷ u ∷ v ∷ [])))
three-spelled a b c t u v along_a along_b along_c = record {
  first = coordinate_text a t;
  second = coordinate_text b u;
  third = coordinate_text c v;
  a = along_a.entries;
  b = along_b.entries;
  c = along_c.entries;
  joined = coordinates-joined a b c t u v;
  along_a = along_a.spelled;
  along_b = along_b.spelled;
  along_c = along_c.spelled;
  value = λ i. record {
    rows = sym along_a.rotation i ∷ sym along_b.rotation i ∷ sym along_c.rotation i ∷ [];
    shift = sym along_a.shift i ∷ sym along_b.shift i ∷ sym along_c.shift i ∷ [];
  };
}

rows-spelled : (a b c : List ℤ) (shift : List ℤ) → AreThree (AreThree (IsWithin 3)) (a ∷ b ∷ c ∷ []) → AreThree (IsWithin 120) shift
    → SpellsOperation (text_of (op_with (a ∷ b ∷ c ∷ []) shift)) (op_text_of (op_with (a ∷ b ∷ c ∷ []) shift))
rows-spelled a b c shift rot near =
    by_three (λ ts. AreThree (IsWithin 120) ts → SpellsOperation (text_of (op_with (a ∷ b ∷ c ∷ []) ts)) (op_text_of (op_with (a ∷ b ∷ c ∷ []) ts)))
    (λ t u v each. three-spelled a b c t u v
    (row-spelled a t (rot.each 0 [] (omega arith)) (each.each 0 (pos 0) (omega arith)))
    (row-spelled b u (rot.each 1 [] (omega arith)) (each.each 1 (pos 0) (omega arith)))
    (row-spelled c v (rot.each 2 [] (omega arith)) (each.each 2 (pos 0) (omega arith))))
    shift near.count near

pub text_of-spelled : (op : Op) → IsPrintable op → SpellsOperation (text_of op) (op_text_of op)
text_of-spelled op is =
    by_three (λ rot. AreThree (AreThree (IsWithin 3)) rot → SpellsOperation (text_of (op_with rot op.shift)) (op_text_of (op_with rot op.shift)))
    (λ a b c rot. rows-spelled a b c op.shift rot is.shift) op.rot is.rot.count is.rot

-- a text that was printed
pub printed-spelled : (op : Op) (text : List ℕ) → text ≡ text_of op → IsPrintable op → SpellsOperation text (op_text_of op)
printed-spelled op text e is = subst (λ t. SpellsOperation t (op_text_of op)) (sym e) (text_of-spelled op is)
