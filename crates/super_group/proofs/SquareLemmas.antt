-- Squares, one after another.
use Rattle.std.proofs.Common.{◌≡◌, sym, ap, ◌∙◌, subst, below_more, ℕ, ◌<◌, ◌+◌, List, [], ◌∷◌, ◌++◌, length, get_or, arith}
use Rattle.std.proofs.lemmas.List.{length-append, get_or_append_left}
use Rattle.std.proofs.Math.Seq.{get_or-append_seam}
use Rattle.super_group.specs.Quotient.{SupercellGroup, quotient_group}
use Rattle.super_group.specs.Squares.{AreSquares}

pub squares_none : (s : SupercellGroup) (xs : List ℕ) → xs ≡ [] → AreSquares s xs 0
squares_none s xs e = record { count = ap length e; each = λ q l. absurd (omega (arith, l)) }

pub squares_more : (s : SupercellGroup) (xs ys : List ℕ) (x k : ℕ) → ys ≡ xs ++ x ∷ [] → AreSquares s xs k → x ≡ (quotient_group s).product k k → AreSquares s ys (k + 1)
squares_more s xs ys x k e h f = record {
  count = let c : length (xs ++ x ∷ []) ≡ length xs + 1 = length-append xs (x ∷ []) in ap length e ∙ c ∙ ap (λ n. n + 1) h.count;
  each = subst (λ (zs : List ℕ). (q : ℕ) → q < k + 1 → get_or zs q 0 ≡ (quotient_group s).product q q) (sym e)
      (below_more (λ q. get_or (xs ++ x ∷ []) q 0 ≡ (quotient_group s).product q q) k
      (λ q l. get_or_append_left xs (x ∷ []) 0 q (subst (λ n. q < n) (sym h.count) l) ∙ h.each q l)
      (ap (λ n. get_or (xs ++ x ∷ []) n 0) (sym h.count) ∙ get_or-append_seam xs x [] 0 ∙ f));
}
