-- Lists of forms of fixed subspaces, and how they grow.
--
-- IsFixSpace f act rs, IsSingleSpace f act rs: the equations of some Fix(H), of some Fix(q)
-- IsMeet f.laws w u e x: x vanishes exactly where u and e do; HasMeet: the list has such an x
-- IsGrown old new: the new list has the old forms first
-- IsPut old x new p: after the old forms x at most stands; x stands at p
-- IsCutAt f act old i k new p: what the forms at i and k have in common was put
-- IsSingleAt f act q old new p: the equations of Fix(q) were put
-- IsNoted before after x old new: x was noted where the forms grew
-- HoldsSingles f act forms places elements n: the forms are the equations of the Fix(q) of the elements below n
use Rattle.std.specs.Prelude.{◌≡◌, ◌↔◌, ℕ, Bool, ℤ, suc, ◌<◌, ◌≤◌, ◌⊎◌, List, [], ◌∷◌, ◌++◌, length, get_or}
use Rattle.algebra.specs.NumberedGroup.{AllBelow}
use Rattle.cyclo24.specs.FieldOn.{FieldOn}
use Rattle.cyclo24.specs.ExactField.{Exact}
use Rattle.lin_alg.specs.Action.{Action}
use Rattle.lin_alg.specs.Fixed.{IsFixForm}
use Rattle.lin_alg.specs.Reduced.{IsForm}
use Rattle.fix_lattice.specs.Lattice.{IsInSpace, form_at}

-- the equations of some Fix(H)
abbrev pub IsFixSpace : {valid : List ℤ → Bool} → FieldOn (Exact valid) → Action → List (ℕ × (ℕ → Exact valid)) → Type 0
IsFixSpace f act rs = (h : List ℕ) × (AllBelow act.group.order h × IsFixForm f act h rs)

-- the equations of some Fix(q)
abbrev pub IsSingleSpace : {valid : List ℤ → Bool} → FieldOn (Exact valid) → Action → List (ℕ × (ℕ → Exact valid)) → Type 0
IsSingleSpace f act rs = (q : ℕ) × ((q < act.group.order) × IsFixForm f act (q ∷ []) rs)

-- x vanishes exactly where u and e do
abbrev pub IsMeet : {K : Type 0} → FieldOn K → ℕ → List (ℕ × (ℕ → K)) → List (ℕ × (ℕ → K)) → List (ℕ × (ℕ → K)) → Type 0
IsMeet {K} f w u e x = (v : ℕ → K) → IsInSpace f w x v ↔ (IsInSpace f w e v × IsInSpace f w u v)

-- the list has a form that vanishes exactly where u and e do
abbrev pub HasMeet : {K : Type 0} → FieldOn K → ℕ → List (List (ℕ × (ℕ → K))) → List (ℕ × (ℕ → K)) → List (ℕ × (ℕ → K)) → Type 0
HasMeet f w forms u e = (j : ℕ) × ((j < length forms) × IsMeet f w u e (form_at forms j))

-- the new list has the old forms first
pub record IsGrown {K : Type 0} (old new : List (List (ℕ × (ℕ → K)))) : Type 0 where
  pub longer : length old ≤ length new
  pub first : (i : ℕ) → i < length old → form_at new i ≡ form_at old i

-- after the old forms x at most stands; x stands at p
pub record IsPut {K : Type 0} (old : List (List (ℕ × (ℕ → K)))) (x : List (ℕ × (ℕ → K))) (new : List (List (ℕ × (ℕ → K)))) (p : ℕ) : Type 0 where
  pub grown : IsGrown old new
  pub short : length new ≤ suc (length old)
  pub last : (i : ℕ) → length old ≤ i → i < length new → form_at new i ≡ x
  pub inside : p < length new
  pub there : form_at new p ≡ x

-- what the forms at i and k have in common, a form, was put, and stands at p
abbrev pub IsCutAt : {valid : List ℤ → Bool} → FieldOn (Exact valid) → Action → List (List (ℕ × (ℕ → Exact valid))) → ℕ → ℕ → List (List (ℕ × (ℕ → Exact valid))) → ℕ → Type 0
IsCutAt {valid} f act old i k new p =
    (x : List (ℕ × (ℕ → Exact valid))) × (IsForm f act.dim x × (IsMeet f act.dim (form_at old i) (form_at old k) x × IsPut old x new p))

-- the equations of Fix(q) were put, and stand at p
abbrev pub IsSingleAt : {valid : List ℤ → Bool} → FieldOn (Exact valid) → Action → ℕ → List (List (ℕ × (ℕ → Exact valid))) → List (List (ℕ × (ℕ → Exact valid))) → ℕ → Type 0
IsSingleAt {valid} f act q old new p = (x : List (ℕ × (ℕ → Exact valid))) × (IsFixForm f act (q ∷ []) x × IsPut old x new p)

-- the forms are as many as before, and nothing was noted; or one more, and x was noted last
abbrev pub IsNoted : {X : Type 0} → ℕ → ℕ → X → List X → List X → Type 0
IsNoted before after x old new = ((after ≡ before) × (new ≡ old)) ⊎ ((after ≡ suc before) × (new ≡ old ++ x ∷ []))

-- the forms are the equations of the Fix(q) of the elements below n: the place of each element's, and an element for each place
pub record HoldsSingles {valid : List ℤ → Bool} (f : FieldOn (Exact valid)) (act : Action) (forms : List (List (ℕ × (ℕ → Exact valid)))) (places elements : List ℕ) (n : ℕ) : Type 0 where
  pub elements_length : length elements ≡ length forms
  pub element : (k : ℕ) → k < length elements → (get_or elements k 0 < act.group.order) × IsFixForm f act (get_or elements k 0 ∷ []) (form_at forms k)
  pub places_length : length places ≡ n
  pub place : (q : ℕ) → q < n → (get_or places q 0 < length forms) × IsFixForm f act (q ∷ []) (form_at forms (get_or places q 0))
