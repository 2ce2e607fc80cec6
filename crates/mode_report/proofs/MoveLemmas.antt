-- The moves of the atoms by the rows that the program holds.
use Rattle.std.proofs.Common.{◌≡◌, sym, ap, ◌∙◌, ℕ, ◌+◌, ◌*◌, ◌<◌, List, ◌++◌, length, get_or, flat_map, append_assoc}
use Rattle.std.specs.List.{range_with_len}
use Rattle.std.proofs.lemmas.List.{get_or-map}
use Rattle.cyclo24.specs.declared.k24.K24.{K24}
use Rattle.cyclo24.specs.ExactK24.{Exact24, k24_laws}
use Rattle.cyclo24.specs.K24.{exact24}
use Rattle.lin_alg.specs.Rows.{vector}
use Rattle.mode_report.specs.ModesReport.{move_line}
use Rattle.mode_report.specs.MoveParts.{step_lines}
use Rattle.mode_report.proofs.TextLemmas.{texts-more}

-- an entry of a row, as an exact value
pub entry-is : (row : List K24) (j : ℕ) (x : K24) → j < length row → x ≡ get_or row j x → exact24 x ≡ vector k24_laws exact24 row j
entry-is row j x l e = ap exact24 e ∙ sym (get_or-map exact24 row j x k24_laws.nought l)

-- the line of the next atom
pub move-next : (v : ℕ → Exact24) (i : ℕ) (x y z : Exact24) → x ≡ v (i * 3) → y ≡ v (i * 3 + 1) → z ≡ v (i * 3 + 2) → step_lines (i + 1) x y z ≡ move_line v i
move-next v i x y z a b c = (λ j. step_lines (i + 1) (a j) (b j) (c j))

-- one atom more
pub moves-more : (f : ℕ → List ℕ) (old now new line : List ℕ) (i : ℕ) → now ≡ old ++ flat_map f (range_with_len 0 i) → new ≡ now ++ line → line ≡ f i → new ≡ old ++ flat_map f (range_with_len 0 (i + 1))
moves-more f old now new line i a b e =
    b ∙ (λ j. a j ++ e j) ∙ append_assoc old (flat_map f (range_with_len 0 i)) (f i) ∙ ap (λ t. old ++ t) (sym (texts-more f i))
