use Rattle.std.proofs.Common.{◌≡◌, ℕ, suc, zero, List, [], ◌∷◌, length, get_or, ◌+◌, ◌<◌, ◌&&◌, true, false, refl, ◌∙◌, ap, arith, nat_eq, below_more, if◌then◌else◌}
use Rattle.lin_alg.specs.EquationLaws.{eq-self, eq-other}
use Rattle.lin_alg.specs.Matrix.{with_entry}
use Rattle.std.specs.declared.vec.Vec.{Vec}
use Rattle.cyclo24.specs.declared.z24.Z24.{Z24}
use Rattle.cyclo24.specs.Z24.{exact_z24}
use Rattle.cyclo24.specs.ExactZ24.{z24_laws}
use Rattle.lin_alg.specs.Rows.{vector}
use Rattle.real_form.specs.Vectors.{vector_at, AreLong}

-- column m holds the target in the rows below k, and the other columns are as before
pub record IsColumn {K : Type 0} (old new : ℕ → ℕ → K) (m : ℕ) (t : ℕ → K) (k : ℕ) : Type 0 where
  pub column : (i : ℕ) → i < k → new i m ≡ t i
  pub others : (i l : ℕ) → (l ≡ m → ⊥) → new i l ≡ old i l

module _ {K : Type 0} where
  pub column-start : (old : ℕ → ℕ → K) (m : ℕ) (t : ℕ → K) → IsColumn old old m t 0
  column-start old m t = record { column = λ i l. absurd (omega (arith, l)); others = λ i l n. refl }

  pub column-next : (old new more : ℕ → ℕ → K) (m : ℕ) (t : ℕ → K) (k : ℕ) (x : K) → x ≡ t k → ((i l : ℕ) → more i l ≡ with_entry k m x new i l) → IsColumn old new m t k → IsColumn old more m t (k + 1)
  column-next old new more m t k x e set h = record {
    column = below_more (λ i. more i m ≡ t i) k
        (λ i l. set i m ∙ ap (λ b. if b && nat_eq m m then x else new i m) (eq-other i k (λ d. absurd (omega (arith, l, d)))) ∙ h.column i l)
        (set k m ∙ ap (λ b. if b && nat_eq m m then x else new k m) (eq-self k) ∙ ap (λ b. if b then x else new k m) (eq-self m) ∙ e);
    others = λ i l n. set i l ∙ apart (nat_eq i k) (nat_eq l m) (new i l) (eq-other l m n) ∙ h.others i l n;
  }
    where
      apart : (a b : _) (y : K) → b ≡ false → (if a && b then x else y) ≡ y
      apart true b y e = ap (λ c. if c then x else y) e
      apart false b y e = refl

pub vector_at-is : {Z : Type 0} (vs : List (Vec Z24 Z)) (m : ℕ) (v : Vec Z24 Z) → m < length vs → v ≡ get_or vs m v → vector z24_laws exact_z24 v.items ≡ vector_at vs m
vector_at-is [] m v l e = absurd (omega arith)
vector_at-is (u ∷ us) zero v l e = ap (λ x. vector z24_laws exact_z24 x.items) e
vector_at-is (u ∷ us) (suc m) v l e = vector_at-is us m v (omega arith) e

pub long-at : {Z : Type 0} (n : ℕ) (vs : List (Vec Z24 Z)) (m : ℕ) (v : Vec Z24 Z) → m < length vs → v ≡ get_or vs m v → AreLong n vs → length v.items ≡ n
long-at n [] m v l e h = absurd (omega arith)
long-at n (u ∷ us) zero v l e h = ap (λ x. length x.items) e ∙ h.0
long-at n (u ∷ us) (suc m) v l e h = long-at n us m v (omega arith) e h.1
