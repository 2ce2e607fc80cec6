-- Moves of the listed operations, and phases of the translations.
use Rattle.std.proofs.Common.{◌≡◌, sym, ap, subst, ℕ, zero, suc, ◌<◌, ◌≤◌, ◌+◌, ◌*◌, ◌/◌, ◌%◌, false, List, [], ◌∷◌, ◌++◌, length, arith}
use Rattle.std.proofs.lemmas.Bool.{both_ways}
use Rattle.std.proofs.lemmas.Nat.{div-mul-add, div_below, mod_below}
use Rattle.kstar.specs.Star.{WaveStar}
use Rattle.kstar.specs.MoveLaws.{move-some}
use Rattle.super_group.specs.Quotient.{SupercellGroup, order_of, element_of}
use Rattle.super_group.specs.QuotientLaws.{row_below}
use Rattle.super_group.specs.PlaceLaws.{zero-first}
use Rattle.induce.specs.declared.moves.Move.{Move}
use Rattle.induce.specs.Induced.{is_block, part_phase, IsStarOn}
use Rattle.induce.proofs.TableLemmas.{moved-block, translation-below}
use Rattle.induce.specs.Tables.{no_move, IsMoveOf, AreMoves, ArePhases}
use Rattle.induce.proofs.ListLemmas.{one_longer, at_end}
use Rattle.kstar.specs.Moves.{MovesArm}

pub some_rows : (a n x : ℕ) → x < a * n → 0 < n
some_rows a zero x l = let c : a * 0 ≡ 0 = omega arith in absurd (omega (arith, l, c))
some_rows a (suc n) x l = omega arith

some_number : (n : ℕ) → 0 < n → (t : ℕ) × (n ≡ t + 1)
some_number zero l = absurd (omega (arith, l))
some_number (suc n) l = (n, omega arith)

module _ (q : SupercellGroup) (s : WaveStar) (h : IsStarOn q s) where
  abbrev T : ℕ
  T = length q.translations

  pub some_translations : 0 < T
  some_translations = (zero-first q.parent.lattice q.d q.translations h.quotient.supercell.positive h.quotient.translations).0

  pub operation_below : (r : ℕ) → r < length q.parent.ops → r * T < order_of q
  operation_below r l = let c : r * T + 0 < order_of q = row_below (length q.parent.ops) T r 0 l some_translations in omega (arith, c)

  pub translations_few : T ≤ order_of q
  translations_few = let w = some_number T some_translations in let l : w.0 < order_of q = translation-below q s h w.0 (omega (arith, w.1)) in omega (arith, w.1, l)

  pub operation_of : (r : ℕ) → r * T / T ≡ r
  operation_of r = let e : r * T + 0 ≡ r * T = omega arith in subst (λ x. x / T ≡ r) e (div-mul-add r T 0 some_translations)

  -- an operation moves each arm
  pub no_block : (r i : ℕ) → r < length q.parent.ops → i < length s.by → ((j : ℕ) → j < length s.by → is_block q.parent s (element_of q (r * T)) j i ≡ false) → ⊥
  no_block r i lr li f =
      let w = move-some q.parent h.quotient.parent s.row s h.star r i lr li in
      both_ways (is_block q.parent s (element_of q (r * T)) w.0 i)
      (f w.0 w.1) (moved-block q s h (r * T) w.0 i (operation_below r lr) w.1 li (subst (λ k. MovesArm q.parent s k i w.0) (sym (operation_of r)) w.2))

  pub moves_none : (xs : List Move) → xs ≡ [] → AreMoves q s xs 0
  moves_none xs e = record { count = ap length e; each = λ d l. absurd (omega (arith, l)) }

  pub moves_more : (xs ys : List Move) (x : Move) (k : ℕ) → ys ≡ xs ++ x ∷ [] → AreMoves q s xs k → IsMoveOf q s (k / length s.by * T) (k % length s.by) x → AreMoves q s ys (k + 1)
  moves_more xs ys x k e h w = record {
    count = one_longer xs ys x k e h.count;
    each = at_end xs ys x k e h.count no_move (λ d (m : Move). IsMoveOf q s (d / length s.by * T) (d % length s.by) m) h.each w;
  }

  pub phases_none : (xs : List ℕ) → xs ≡ [] → ArePhases q s xs 0
  phases_none xs e = record { count = ap length e; each = λ d l. absurd (omega (arith, l)) }

  pub phases_more : (xs ys : List ℕ) (x k : ℕ) → ys ≡ xs ++ x ∷ [] → ArePhases q s xs k → x ≡ part_phase q.parent s (element_of q (k % T)) (k / T) (k / T) → ArePhases q s ys (k + 1)
  phases_more xs ys x k e h w = record {
    count = one_longer xs ys x k e h.count;
    each = at_end xs ys x k e h.count 0 (λ d a. a ≡ part_phase q.parent s (element_of q (d % T)) (d / T) (d / T)) h.each w;
  }

-- places in rows of n
pub row_of : (d a n : ℕ) → d < a * n → d / n < a
row_of d a n l = div_below d n a (some_rows a n d l) l

pub column_of : (d a n : ℕ) → d < a * n → d % n < n
column_of d a n l = mod_below d n (some_rows a n d l)
