-- That the fields of a star are the star of a wave vector.
use Rattle.std.proofs.Common.{◌≡◌, sym, ap, ◌∙◌, subst, ℕ, ◌<◌, ◌≤◌, ℤ, List, length, get_or, Result, Ok, Err, IfOk, arith}
use Rattle.space_ops.specs.declared.lattice.Lattice.{Lattice}
use Rattle.space_ops.specs.Op.{vector_of}
use Rattle.space_ops.specs.Matrix.{Vector}
use Rattle.space_ops.specs.Group.{Parent}
use Rattle.kstar.specs.WaveVector.{AreEquivalent}
use Rattle.algebra.specs.RisingLists.{IsRisingListOf}
use Rattle.algebra.specs.PigeonholeLaws.{pigeonhole}
use Rattle.algebra.specs.RisingListLaws.{list-same, list-injective}
use Rattle.kstar.specs.Star.{image_at, IsLittle, IsFirstOfArm, WaveStar, row_in, AreImages, IsStarOf}
use Rattle.kstar.specs.Rows.{AreAllImages, AreRowsAt, IsStarOfRows}

-- what follows of each value, follows of an answer
pub ok_same : {T E : Type 0} {P Q : T → Type 0} (r : Result T E) → ((x : T) → P x → Q x) → IfOk r P → IfOk r Q
ok_same (Ok x) f h = f x h
ok_same (Err e) f h = h

-- a rising list of numbers below n has at most n of them
pub few_listed : (n : ℕ) (P : ℕ → Type 0) (xs : List ℕ) → IsRisingListOf n P xs → n ≤ 48 → length xs ≤ 48
few_listed n P xs h l =
    let k : length xs ≤ n = pigeonhole (length xs) n (λ i _. get_or xs i 0) h.below (λ i j a b e. list-injective n P xs h i j a b e) in
    omega (arith, k, l)

module _ (p : Parent) (k : Vector ℤ) (images : List (List ℤ)) (all : AreAllImages p k (length p.ops) images) where
  little-is : (lattice : Lattice) (xs : List ℕ) → lattice ≡ p.lattice → IsRisingListOf (length images) (λ r. AreEquivalent lattice (row_in images r) k) xs → IsRisingListOf (length p.ops) (IsLittle p k) xs
  little-is lattice xs e h =
      let same : (r : ℕ) → r < length p.ops → AreEquivalent lattice (row_in images r) k ≡ IsLittle p k r = λ r b i. AreEquivalent (e i) (all.image r b i) k in
      list-same (length p.ops) _ _ xs (λ r b. subst (λ (A : Type 0). A) (same r b)) (λ r b. subst (λ (A : Type 0). A) (sym (same r b)))
      (subst (λ n. IsRisingListOf n (λ r. AreEquivalent lattice (row_in images r) k) xs) all.count h)

  firsts-are : (lattice : Lattice) (xs : List ℕ) → lattice ≡ p.lattice
      → IsRisingListOf (length images) (λ r. (s : ℕ) → s < r → AreEquivalent lattice (row_in images s) (row_in images r) → ⊥) xs → IsRisingListOf (length p.ops) (IsFirstOfArm p k) xs
  firsts-are lattice xs e h =
      let same : (r : ℕ) → r < length p.ops → (s : ℕ) → s < r → AreEquivalent lattice (row_in images s) (row_in images r) ≡ AreEquivalent p.lattice (image_at p k s) (image_at p k r) =
      λ r b s c i. AreEquivalent (e i) (all.image s (omega arith) i) (all.image r b i) in
      list-same (length p.ops) _ _ xs
      (λ r b none s c w. none s c (subst (λ (A : Type 0). A) (sym (same r b s c)) w))
      (λ r b none s c w. none s c (subst (λ (A : Type 0). A) (same r b s c) w))
      (subst (λ n. IsRisingListOf n (λ r. (s : ℕ) → s < r → AreEquivalent lattice (row_in images s) (row_in images r) → ⊥) xs) all.count h)

  arms-are : (by : List ℕ) (arms : List (List ℤ)) → IsRisingListOf (length p.ops) (IsFirstOfArm p k) by → AreRowsAt images by (length by) arms → AreImages p k by arms
  arms-are by arms h rows = record {
    count = rows.count;
    image = λ i l. ap vector_of (rows.row i l) ∙ all.image (get_or by i 0) (h.below i l);
  }

  pub star-is : (lattice : Lattice) (s : WaveStar) → lattice ≡ p.lattice → IsStarOfRows images lattice k s → IsStarOf p k s
  star-is lattice s e h =
      let by = firsts-are lattice s.by e h.by in
      record { lattice = h.lattice ∙ e; row = h.row; little = little-is lattice s.little e h.little; by = by; arms = arms-are s.by s.arms by h.arms }
