-- What stands before a letter, by cases.
use Rattle.std.proofs.Common.{◌≡◌, refl, sym, ap, ◌∙◌, ℕ, ◌<◌, ◌^◌, ℤ, Bool, true, false, List, [], ◌++◌, le_trans, lit≤, if◌then◌else◌}
use Rattle.std.specs.Prelude.{not, drop, codes, nat_le}
use Rattle.std.specs.Int.RustNames.{unsigned_abs}
use Rattle.std.specs.List.{list_any}
use Rattle.cyclo24.specs.declared.k24.K24.{K24}
use Rattle.cyclo24.specs.Checked.{is_wide}
use Rattle.cyclo24.specs.CheckedLaws.{narrow_abs}
use Rattle.cyclo24.specs.ExactK24.{Exact24, k24_laws}
use Rattle.cyclo24.specs.ExactLaws.{low}
use Rattle.cyclo24.specs.K24.{exact24}
use Rattle.cyclo24.specs.Listed.{numerators}
use Rattle.cyclo24.specs.TextK24.{text24, units24}
use Rattle.iso_text.specs.Cuts.{is_sign}
use Rattle.list_report.specs.FormText.{terms24, is_same24, factor_text}
use Rattle.list_report.proofs.TermLemmas.{Fit, signs-number}

-- nothing, a minus sign, the number, or the number in brackets
abbrev chosen : Bool → Bool → Bool → List ℕ → List ℕ
chosen one minus single text = if one then [] else (if minus then codes "-" else (if single then text ++ codes "*" else codes "(" ++ text ++ codes ")*"))

factor-is : (x : Exact24) → factor_text x ≡ chosen (is_same24 x k24_laws.unit) (is_same24 x (k24_laws.neg k24_laws.unit)) (nat_le (terms24 x) 1) (text24 x)
unfolding factor_text
factor-is x = refl

pub factor-one : (x : Exact24) → is_same24 x k24_laws.unit ≡ true → [] ≡ factor_text x
factor-one x e = sym (factor-is x ∙ ap (λ a. chosen a (is_same24 x (k24_laws.neg k24_laws.unit)) (nat_le (terms24 x) 1) (text24 x)) e)

pub factor-minus : (x : Exact24) → is_same24 x k24_laws.unit ≡ false → is_same24 x (k24_laws.neg k24_laws.unit) ≡ true → codes "-" ≡ factor_text x
factor-minus x e f = sym (factor-is x ∙ (λ i. chosen (e i) (f i) (nat_le (terms24 x) 1) (text24 x)))

bracketed : (single : Bool) (text : List ℕ) → (if not single then codes "(" ++ text ++ codes ")*" else text ++ codes "*") ≡ chosen false false single text
bracketed true text = refl
bracketed false text = refl

pub factor-number : (x : Exact24) (text : List ℕ) → is_same24 x k24_laws.unit ≡ false → is_same24 x (k24_laws.neg k24_laws.unit) ≡ false → text ≡ text24 x
    → list_any is_sign (drop 1 (text24 x)) ≡ not (nat_le (terms24 x) 1)
    → (if list_any is_sign (drop 1 text) then codes "(" ++ text ++ codes ")*" else text ++ codes "*") ≡ factor_text x
factor-number x text e f g h =
    (λ i. if list_any is_sign (drop 1 (g i)) then codes "(" ++ g i ++ codes ")*" else g i ++ codes "*")
    ∙ ap (λ b. if b then codes "(" ++ text24 x ++ codes ")*" else text24 x ++ codes "*") h
    ∙ bracketed (nat_le (terms24 x) 1) (text24 x)
    ∙ sym (factor-is x ∙ (λ i. chosen (e i) (f i) (nat_le (terms24 x) 1) (text24 x)))

small : (z : ℤ) → is_wide z ≡ false → unsigned_abs z < 10 ^ 64
small z h = le_trans (narrow_abs z h) (lit≤ tt)

-- a sign stands behind the first byte exactly where there are several terms
pub signs-text : (x : K24) → list_any is_sign (drop 1 (text24 (exact24 x))) ≡ not (nat_le (terms24 (exact24 x)) 1)
signs-text x =
    let n = x.narrow in
    let v = exact24 x in
    let fit : Fit (numerators 4 v.0) units24 = (small _ n.narrow0, refl, (small _ n.narrow1, refl, (small _ n.narrow2, refl, (small _ n.narrow3, refl, tt)))) in
    signs-number (low 4 v.0) (numerators 4 v.0) units24 (small _ n.narrow) fit
