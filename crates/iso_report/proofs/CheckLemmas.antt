-- The lines of a list, one more at a time.
use Rattle.std.proofs.Common.{◌≡◌, ℕ, suc, ◌+◌, ◌<◌, List, [], ◌∷◌, ◌++◌, length, take, flat_map, get_or, ap, ◌∙◌, append_assoc, arith}
use Rattle.std.proofs.lemmas.Grind.{flat_map-append}
use Rattle.std.proofs.lemmas.List.{append-nil}
use Rattle.std.proofs.Math.Seq.{take-suc}
use Rattle.iso_text.specs.Lines.{line}

pub flat_map_more : {X : Type 0} (f : X → List ℕ) (xs : List X) (i : ℕ) (d : X) → i < length xs → flat_map f (take (i + 1) xs) ≡ flat_map f (take i xs) ++ f (get_or xs i d)
flat_map_more f xs i d l =
    let next : i + 1 ≡ suc i = omega arith in
    ap (λ k. flat_map f (take k xs)) next ∙ ap (flat_map f) (take-suc xs i d l) ∙ flat_map-append f (take i xs) (get_or xs i d ∷ [])
    ∙ ap (λ t. flat_map f (take i xs) ++ t) (append-nil (f (get_or xs i d)))

-- two lines, what stands behind them, and what follows
pub two-lines : (a b x t : List ℕ) → line a (line b x) ++ t ≡ line a (line b (x ++ t))
two-lines a b x t = append_assoc a (10 ∷ (b ++ (10 ∷ x))) t ∙ ap (λ u. a ++ (10 ∷ u)) (append_assoc b (10 ∷ x) t)

pub lines-joined : (a b l s : List ℕ) → (line a (line b []) ++ l) ++ s ≡ line a (line b (l ++ s))
lines-joined a b l s = append_assoc (line a (line b [])) l s ∙ two-lines a b [] (l ++ s)
