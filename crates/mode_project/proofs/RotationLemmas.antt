use Rattle.std.proofs.Common.{◌≡◌, ℕ, suc, zero, ◌+◌, ◌*◌, ◌/◌, ◌<◌, ◌≤◌, inl, inr, refl, sym, ◌∙◌, ap, subst, arith, below_more, ℤ, List, [], ◌∷◌, ◌++◌, length, set}
use Rattle.std.proofs.lemmas.List.{length_push, get_or-set_same, get_or-set_other}
use Rattle.algebra.specs.SumLaws.{decide}
use Rattle.std.specs.Prelude.{slice_index_or}
use Rattle.space_ops.specs.declared.op.Op.{Op}
use Rattle.space_ops.specs.Op.{number_at, row_at, matrix_of, identity_op}
use Rattle.super_group.specs.Quotient.{SupercellGroup, IsQuotient, order_of, quotient_group}
use Rattle.wyckoff.specs.Orbit.{OrbitView, image_of}
use Rattle.mode_project.specs.AtomSpace.{matrix_entry, Quantity, IsQuantity, space_of}
use Rattle.mode_project.specs.AtomSpaceLaws.{atom-below}
use Rattle.mode_project.specs.QuantityLaws.{turn-listed}
use Rattle.mode_project.specs.declared.turns.Turns.{Turns}
use Rattle.mode_project.specs.Turns.{IsTurnTable, IsReached, IsWay, AreWays}
use Rattle.mode_project.specs.AtomSpace.{AtomSpace}

-- an entry of a rotation as it is held
entry-of : (rot : List (List ℤ)) (a b : ℕ) → a < 3 → b < 3 → number_at (row_at rot a) b ≡ matrix_entry (matrix_of rot) a b
entry-of rot zero zero la lb = refl
entry-of rot zero (suc zero) la lb = refl
entry-of rot zero (suc (suc zero)) la lb = refl
entry-of rot zero (suc (suc (suc b))) la lb = absurd (omega (arith, lb))
entry-of rot (suc zero) zero la lb = refl
entry-of rot (suc zero) (suc zero) la lb = refl
entry-of rot (suc zero) (suc (suc zero)) la lb = refl
entry-of rot (suc zero) (suc (suc (suc b))) la lb = absurd (omega (arith, lb))
entry-of rot (suc (suc zero)) zero la lb = refl
entry-of rot (suc (suc zero)) (suc zero) la lb = refl
entry-of rot (suc (suc zero)) (suc (suc zero)) la lb = refl
entry-of rot (suc (suc zero)) (suc (suc (suc b))) la lb = absurd (omega (arith, lb))
entry-of rot (suc (suc (suc a))) b la lb = absurd (omega (arith, la))

-- the matrices of the first k operations
pub record AreTurned (k : Quantity) (ops : List Op) (rots : List (List (List ℤ))) (n : ℕ) : Type 0 where
  pub count : length rots ≡ n
  pub each : (r : ℕ) → r < n → matrix_of (slice_index_or rots r []) ≡ k.matrix (matrix_of (slice_index_or ops r identity_op).rot)

module _ {X : Type 0} where
  item-before : (xs : List X) (y d : X) (b : ℕ) → b < length xs → slice_index_or (xs ++ y ∷ []) b d ≡ slice_index_or xs b d
  item-before [] y d b l = absurd (omega (arith, l))
  item-before (x ∷ xs) y d zero l = refl
  item-before (x ∷ xs) y d (suc b) l = item-before xs y d b (omega (arith, l))

  item-last : (xs : List X) (y d : X) (b : ℕ) → length xs ≡ b → slice_index_or (xs ++ y ∷ []) b d ≡ y
  item-last [] y d zero e = refl
  item-last [] y d (suc b) e = absurd (omega (arith, e))
  item-last (x ∷ xs) y d zero e = absurd (omega (arith, e))
  item-last (x ∷ xs) y d (suc b) e = item-last xs y d b (omega (arith, e))

pub turned-start : (k : Quantity) (ops : List Op) (rots : List (List (List ℤ))) → rots ≡ [] → AreTurned k ops rots 0
turned-start k ops rots e = subst (λ xs. AreTurned k ops xs 0) (sym e) (record { count = refl; each = λ r l. absurd (omega (arith, l)) })

pub turned-next : (k : Quantity) (ops : List Op) (rots new : List (List (List ℤ))) (n : ℕ) (rot : List (List ℤ)) → new ≡ rots ++ rot ∷ []
    → matrix_of rot ≡ k.matrix (matrix_of (slice_index_or ops n identity_op).rot) → AreTurned k ops rots n → AreTurned k ops new (n + 1)
turned-next k ops rots new n rot e own h =
    subst (λ xs. AreTurned k ops xs (n + 1)) (sym e) (record {
      count = length_push rots rot ∙ ap (λ m. m + 1) h.count;
      each = below_more (λ r. matrix_of (slice_index_or (rots ++ rot ∷ []) r []) ≡ k.matrix (matrix_of (slice_index_or ops r identity_op).rot)) n
          (λ r l. ap matrix_of (item-before rots rot [] r (omega (arith, l, h.count))) ∙ h.each r l) (ap matrix_of (item-last rots rot [] n h.count) ∙ own);
    })

some-translations : (R T : ℕ) → 0 < R * T → 0 < T
some-translations R zero l = let e : R * 0 ≡ 0 = omega arith in absurd (omega (arith, l, e))
some-translations R (suc T) l = omega arith

pub turned-table : (g : SupercellGroup) → IsQuotient g → 0 < order_of g → (o : OrbitView) (k : Quantity) → IsQuantity k → (t : Turns) → t.each ≡ k.each → t.translations ≡ length g.translations
    → AreTurned k g.parent.ops t.matrices.items (length g.parent.ops) → IsTurnTable (space_of g o k) t
turned-table g h pos o k law t ek et r = record {
  each = ek;
  few = law.few;
  some = subst (λ (n : ℕ). 0 < n) (sym et) (some-translations (length g.parent.ops) (length g.translations) pos);
  inside = λ q l. subst (λ (n : ℕ). q / n < length t.matrices.items) (sym et) (subst (λ (n : ℕ). q / length g.translations < n) (sym r.count) (atom-below (length g.parent.ops) (length g.translations) q l));
  entries = λ q a b l la lb.
      let few : k.each ≤ 3 = law.few in
      let below : q / length g.translations < length g.parent.ops = atom-below (length g.parent.ops) (length g.translations) q l in
      ap (λ n. number_at (row_at (slice_index_or t.matrices.items (q / n) []) a) b) et
      ∙ entry-of (slice_index_or t.matrices.items (q / length g.translations) []) a b (omega (arith, la, few)) (omega (arith, lb, few))
      ∙ ap (λ m. matrix_entry m a b) (r.each (q / length g.translations) below)
      ∙ ap (λ m. matrix_entry (k.matrix m) a b) (turn-listed g h q);
}

-- the atoms to which the first k elements take the first atom are reached
abbrev pub AreReached : ℕ → OrbitView → List ℕ → ℕ → Type 0
AreReached n o elements k = (p : ℕ) → p < k → IsReached n o elements (image_of o p 0)

module _ (n : ℕ) (o : OrbitView) (elements : List ℕ) where
  reached-here : (q i : ℕ) → q < n → image_of o q 0 ≡ i → i < length elements → IsReached n o (set elements i q) i
  reached-here q i l e li = subst (λ (x : ℕ). (x < n) × (image_of o x 0 ≡ i)) (sym (get_or-set_same elements i q 0 li)) (l, e)

  reached-other : (q i j : ℕ) → q < n → image_of o q 0 ≡ i → i < length elements → IsReached n o elements j → IsReached n o (set elements i q) j
  reached-other q i j l e li h = elim (decide j i) [
    | inl same ↦ subst (λ (k : ℕ). IsReached n o (set elements i q) k) (sym same) (reached-here q i l e li)
    | inr other ↦ subst (λ (x : ℕ). (x < n) × (image_of o x 0 ≡ j)) (sym (get_or-set_other elements i j q 0 other)) h
  ]

  pub reached-next : (q i : ℕ) → q < n → i ≡ image_of o q 0 → i < length elements → AreReached n o elements q → AreReached n o (set elements i q) (q + 1)
  reached-next q i l e li h =
      below_more (λ p. IsReached n o (set elements i q) (image_of o p 0)) q
      (λ p m. reached-other q i (image_of o p 0) l (sym e) li (h p m))
      (subst (λ (k : ℕ). IsReached n o (set elements i q) k) e (reached-here q i l (sym e) li))

pub ways-start : (s : AtomSpace) (ways : List (ℕ × ℕ)) → ways ≡ [] → AreWays s ways 0
ways-start s ways e = subst (λ xs. AreWays s xs 0) (sym e) (record { count = refl; each = λ i l. absurd (omega (arith, l)) })

pub ways-next : (s : AtomSpace) (ways new : List (ℕ × ℕ)) (k : ℕ) (way : ℕ × ℕ) → new ≡ ways ++ way ∷ [] → IsWay s k way → AreWays s ways k → AreWays s new (k + 1)
ways-next s ways new k way e own h =
    subst (λ xs. AreWays s xs (k + 1)) (sym e) (record {
      count = length_push ways way ∙ ap (λ n. n + 1) h.count;
      each = below_more (λ i. IsWay s i (slice_index_or (ways ++ way ∷ []) i (0, 0))) k
          (λ i l. subst (λ (w : ℕ × ℕ). IsWay s i w) (sym (item-before ways way (0, 0) i (omega (arith, l, h.count)))) (h.each i l))
          (subst (λ (w : ℕ × ℕ). IsWay s k w) (sym (item-last ways way (0, 0) k h.count)) own);
    })

pub reached-way : (g : SupercellGroup) (o : OrbitView) (k : Quantity) (elements : List ℕ) (i q p : ℕ) → q ≡ slice_index_or elements i 0 → p ≡ (quotient_group g).inverse q → IsReached (order_of g) o elements i → IsWay (space_of g o k) i (q, p)
reached-way g o k elements i q p e v h =
    let own : (q < order_of g) × (image_of o q 0 ≡ i) = subst (λ (x : ℕ). (x < order_of g) × (image_of o x 0 ≡ i)) (sym e) h in
    record { below = own.0; reaches = own.1; inverse = v }
