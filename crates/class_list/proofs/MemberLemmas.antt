-- How long rising lists of numbers are.
use Rattle.std.proofs.Common.{◌≡◌, ℕ, ◌<◌, ◌≤◌, List, length, get_or, sym, ◌∙◌, ap}
use Rattle.algebra.specs.PigeonholeLaws.{pigeonhole}
use Rattle.algebra.specs.RisingLists.{IsRisingListOf}
use Rattle.algebra.specs.RisingListLaws.{list-injective}

-- a rising list of numbers below n is no longer than n
pub rising-length : (n : ℕ) (P : ℕ → Type 0) (hs : List ℕ) → IsRisingListOf n P hs → length hs ≤ n
rising-length n P hs h = pigeonhole (length hs) n (λ k l. get_or hs k 0) h.below (λ j k l m e. list-injective n P hs h j k l m e)

-- a rising list whose members go into another, no two to one, is no longer
pub rising-into : (n : ℕ) (P R : ℕ → Type 0) (hs ks : List ℕ) (to : ℕ → ℕ) → IsRisingListOf n P hs → IsRisingListOf n R ks →
    ((q : ℕ) → q < n → P q → (to q < n) × R (to q)) → ((p q : ℕ) → p < n → q < n → to p ≡ to q → p ≡ q) → length hs ≤ length ks
rising-into n P R hs ks to h k into once =
    let at : (i : ℕ) → i < length hs → (p : ℕ) × (p < length ks) × (get_or ks p 0 ≡ to (get_or hs i 0)) =
    λ i l. let t = into (get_or hs i 0) (h.below i l) (h.has i l) in k.every (to (get_or hs i 0)) t.0 t.1 in
    pigeonhole (length hs) (length ks) (λ i l. (at i l).0) (λ i l. (at i l).1)
    (λ i j l m e. list-injective n P hs h i j l m (once (get_or hs i 0) (get_or hs j 0) (h.below i l) (h.below j m)
    (sym (at i l).2 ∙ ap (λ p. get_or ks p 0) e ∙ (at j m).2)))
