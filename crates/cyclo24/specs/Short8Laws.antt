-- A rational number on eight numerators over a denominator, in 64 bits.
--
-- rational_narrow, lowest-rational: a rational number in lowest terms
use Rattle.std.proofs.Common.{◌≡◌, ℕ, ◌/◌, ap, ◌∙◌, sym, ℤ, pos, [], ◌∷◌, lit≤, true, false}
use Rattle.std.specs.Int.RustNames.{unsigned_abs}
use Rattle.cyclo24.specs.declared.whole.Whole.{Whole}
use Rattle.cyclo24.specs.declared.small.Small.{Small}
use Rattle.cyclo24.specs.Gcd.{gcd, common, quotient, lowest_terms}
use Rattle.cyclo24.specs.Listed.{is_positive}
use Rattle.cyclo24.specs.ListedLaws.{positive_abs}
use Rattle.cyclo24.specs.Checked.{is_wide}
use Rattle.cyclo24.specs.CheckedLaws.{below_wide}
use Rattle.cyclo24.specs.Written8.{IsNarrow8}
use Rattle.cyclo24.specs.Short4Laws.{gcd_of_zero, zero_over}
use Rattle.cyclo24.specs.Short8.{rational}

common-rational : (n : ℤ) (d : ℕ) → common (rational n) d ≡ gcd (unsigned_abs n) d
common-rational n d =
    let z = gcd_of_zero d in
    let g = gcd (unsigned_abs n) in let o = gcd 0 in
    ap (λ k. g (o (o (o (o (o (o k))))))) z ∙ ap (λ k. g (o (o (o (o (o k)))))) z ∙ ap (λ k. g (o (o (o (o k))))) z ∙ ap (λ k. g (o (o (o k)))) z ∙ ap (λ k. g (o (o k))) z ∙ ap (λ k. g (o k)) z ∙ ap g z

-- a fraction in lowest terms, by the quotients of its numbers
pub lowest-rational : (n d : ℤ) (g p q : Small) (s t : Whole) → is_positive d ≡ true → g ≡ record { n = pos (gcd (unsigned_abs n) (unsigned_abs d)) }
    → p ≡ record { n = quotient d (unsigned_abs g.n) } → s ≡ record { n = p.n } → q ≡ record { n = quotient n (unsigned_abs g.n) } → t ≡ record { n = q.n }
    → t.n ∷ pos 0 ∷ pos 0 ∷ pos 0 ∷ pos 0 ∷ pos 0 ∷ pos 0 ∷ pos 0 ∷ s.n ∷ [] ≡ lowest_terms (rational n) (unsigned_abs d)
lowest-rational n d g p q s t h e dp ds nq nt =
    let k = gcd (unsigned_abs n) (unsigned_abs d) in
    let ge : unsigned_abs g.n ≡ k = ap (λ (w : Small). unsigned_abs w.n) e in
    let sn : s.n ≡ quotient d k = ap (λ (w : Whole). w.n) ds ∙ ap (λ (w : Small). w.n) dp ∙ ap (quotient d) ge in
    let tn : t.n ≡ quotient n k = ap (λ (w : Whole). w.n) nt ∙ ap (λ (w : Small). w.n) nq ∙ ap (quotient n) ge in
    let up : quotient d k ≡ pos (unsigned_abs d / k) = ap (λ z. quotient z k) (positive_abs d h).1 in
    let o : pos 0 ≡ pos (0 / k) = ap pos (sym (zero_over k)) in
    (λ i. tn i ∷ o i ∷ o i ∷ o i ∷ o i ∷ o i ∷ o i ∷ o i ∷ (sn ∙ up) i ∷ [])
    ∙ ap (λ (g : ℕ). quotient n g ∷ pos (0 / g) ∷ pos (0 / g) ∷ pos (0 / g) ∷ pos (0 / g) ∷ pos (0 / g) ∷ pos (0 / g) ∷ pos (0 / g) ∷ pos (unsigned_abs d / g) ∷ []) (sym (common-rational n (unsigned_abs d)))

-- a rational number with narrow parts is narrow
pub rational_narrow : (s t : Whole) → is_wide s.n ≡ false → is_wide t.n ≡ false → let zero : Whole = record { n = pos 0 } in
    IsNarrow8 (record { d = s; c0 = t; c1 = zero; c2 = zero; c3 = zero; c4 = zero; c5 = zero; c6 = zero; c7 = zero })
rational_narrow s t h k = let zero : is_wide (pos 0) ≡ false = below_wide (pos 0) (lit≤ tt) in record { narrow0 = k; narrow1 = zero; narrow2 = zero; narrow3 = zero; narrow4 = zero; narrow5 = zero; narrow6 = zero; narrow7 = zero; narrow = h }
