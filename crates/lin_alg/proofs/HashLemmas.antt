use Rattle.std.proofs.Common.{◌≡◌, ℕ, ◌<◌, ◌+◌, sym, ◌∙◌, ap, List, [], ◌∷◌, ◌++◌, length, get_or, take, append_assoc, append-nil, fold}
use Rattle.std.proofs.lemmas.List.Sums.{fold-append}
use Rattle.std.proofs.lemmas.Grind.{flat_map-append}
use Rattle.std.specs.List.{flat_map}
use Rattle.lin_alg.proofs.PlaceLemmas.{take-item}

-- one more item was fed
pub fed-next : {B W X : Type 0} (write : B → W → B) (start state new : B) (first : List W) (F : X → List W) (all : List X) (i : ℕ) (x : X) → i < length all → x ≡ get_or all i x →
    state ≡ fold write start (first ++ flat_map F (take i all)) → new ≡ fold write state (F x) → new ≡ fold write start (first ++ flat_map F (take (i + 1) all))
fed-next write start state new first F all i x l e t n =
    n ∙ ap (λ s. fold write s (F x)) t ∙ sym (fold-append write start (first ++ flat_map F (take i all)) (F x))
    ∙ ap (fold write start) (append_assoc first (flat_map F (take i all)) (F x)
    ∙ ap (λ z. first ++ z) (sym (ap (flat_map F) (take-item all i x l e) ∙ flat_map-append F (take i all) (x ∷ []) ∙ ap (λ z. flat_map F (take i all) ++ z) (append-nil (F x)))))
