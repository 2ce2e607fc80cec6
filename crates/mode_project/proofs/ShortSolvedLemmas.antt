use Rattle.std.proofs.Common.{◌≡◌, ℕ, ◌<◌, sym, subst, List}
use Rattle.cyclo24.specs.ExactField.{ExactField, Value}
use Rattle.cyclo24.specs.ExactK24.{Exact24, k24_laws}
use Rattle.cyclo24.specs.ExactShort.{IsShortField}
use Rattle.cyclo24.specs.FieldOn.{FieldOn}
use Rattle.cyclo24.specs.K24.{exact24}
use Rattle.cyclo24.specs.declared.k24.K24.{K24}
use Rattle.lin_alg.specs.Rows.{vector, exact_rows}
use Rattle.short_rows.specs.CarriedLaws.{to_long, to_short}
use Rattle.mode_project.specs.Amplitudes.{AreAmplitudes, IsModeBasis}
use Rattle.mode_project.specs.Modes.{all_modes, vector_at}

abbrev Rows : Type 0
Rows = List (ℕ × (ℕ → Exact24))

-- amplitudes by number of rows and of the unit vectors at the sites
module _ {K : Type 0} (f : FieldOn K) (sites : List ℕ) where
  abbrev AreOf : ℕ → List (ℕ × (ℕ → K)) → (ℕ → K) → (ℕ → K) → Type 0
  AreOf n rows t a = AreAmplitudes f n (vector_at f (all_modes f rows sites)) n t a

  abbrev AreOnly : ℕ → List (ℕ × (ℕ → K)) → (ℕ → K) → (ℕ → K) → Type 0
  AreOnly n rows t a = (b : ℕ → K) → AreOf n rows t b → (m : ℕ) → m < n → b m ≡ a m

-- amplitudes in a short type, of the rows and the target in short values
module _ {A : Type 0} (f : ExactField) (value : A → Value f) (exact : A → Exact24) (e : IsShortField f value exact) (sites : List ℕ) (short : List (ℕ × List A)) (rows : List (ℕ × List K24))
    (er : exact_rows k24_laws exact short ≡ exact_rows k24_laws exact24 rows) (n m : ℕ) (en : n ≡ m) where
  pub basis-short : IsModeBasis k24_laws m (exact_rows k24_laws exact24 rows) sites → IsModeBasis f.laws n (exact_rows f.laws value short) sites
  basis-short h =
      let both : ◌≡◌ {A = ℕ × Rows} (n, exact_rows k24_laws exact short) (m, exact_rows k24_laws exact24 rows) = λ i. (en i, er i) in
      to_short f value exact e (λ k v. IsModeBasis k.laws n (exact_rows k.laws v short) sites) (subst (λ (d : ℕ × Rows). IsModeBasis k24_laws d.0 d.1 sites) (sym both) h)

  module _ (t : List A) (target : List K24) (et : vector k24_laws exact t ≡ vector k24_laws exact24 target) (a : List A) (all : List K24) (ea : vector k24_laws exact24 all ≡ vector k24_laws exact a) where
    abbrev Parts : Type 0
    Parts = ℕ × Rows × (ℕ → Exact24) × (ℕ → Exact24)

    same : ◌≡◌ {A = Parts} (n, exact_rows k24_laws exact short, vector k24_laws exact t, vector k24_laws exact a) (m, exact_rows k24_laws exact24 rows, vector k24_laws exact24 target, vector k24_laws exact24 all)
    same = λ i. (en i, er i, et i, sym ea i)

    pub amplitudes-long : AreOf f.laws sites n (exact_rows f.laws value short) (vector f.laws value t) (vector f.laws value a)
        → AreOf k24_laws sites m (exact_rows k24_laws exact24 rows) (vector k24_laws exact24 target) (vector k24_laws exact24 all)
    amplitudes-long h =
        subst (λ (d : Parts). AreOf k24_laws sites d.0 d.1 d.2 d.3) same
        (to_long f value exact e (λ k v. AreOf k.laws sites n (exact_rows k.laws v short) (vector k.laws v t) (vector k.laws v a)) h)

    pub only-long : AreOnly f.laws sites n (exact_rows f.laws value short) (vector f.laws value t) (vector f.laws value a)
        → AreOnly k24_laws sites m (exact_rows k24_laws exact24 rows) (vector k24_laws exact24 target) (vector k24_laws exact24 all)
    only-long h =
        subst (λ (d : Parts). AreOnly k24_laws sites d.0 d.1 d.2 d.3) same
        (to_long f value exact e (λ k v. AreOnly k.laws sites n (exact_rows k.laws v short) (vector k.laws v t) (vector k.laws v a)) h)
