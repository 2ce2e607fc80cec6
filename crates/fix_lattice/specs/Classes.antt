-- Closing by classes: one form of each class is cut with each Fix(q), the others are its images.
--
-- IsImageForm f act a u x: x vanishes exactly on the image under a of what u vanishes on
-- IsCutWithEach f act forms j: the form at j is cut with each Fix(q)
-- IsReached f act forms i: the form at i is the image of such a form
-- IsClassClosed f act forms: a list with the whole space, kept by the generators, each form of it reached
-- IsClosing f act forms places elements cuts sources: the tables of the work: where each cut stands, and of which two
--     each form is the cut
-- AreImages f act forms images: the places of the images of the first forms under the generators
use Rattle.std.specs.Prelude.{◌≡◌, ◌↔◌, ℕ, suc, ℤ, ◌<◌, ◌≤◌, ◌+◌, Bool, true, false, List, [], ◌∷◌, length, get_or}
use Rattle.cyclo24.specs.FieldOn.{FieldOn}
use Rattle.cyclo24.specs.ExactField.{Exact}
use Rattle.lin_alg.specs.Action.{Action, IsFixed}
use Rattle.lin_alg.specs.Fixed.{IsFixForm}
use Rattle.lin_alg.specs.Images.{moves_of}
use Rattle.lin_alg.specs.Moves.{moved}
use Rattle.lin_alg.specs.Spans.{AreSame}
use Rattle.fix_lattice.specs.Lattice.{IsInSpace, form_at}
use Rattle.fix_lattice.specs.Held.{IsFixSpace, IsMeet}
use Rattle.fix_lattice.specs.Cuts.{cut_entry, AreShort}

-- x vanishes exactly on the image under a of what u vanishes on
abbrev pub IsImageForm : {valid : List ℤ → Bool} → FieldOn (Exact valid) → Action → ℕ → List (ℕ × (ℕ → Exact valid)) → List (ℕ × (ℕ → Exact valid)) → Type 0
IsImageForm f act a u x = AreSame (IsInSpace f act.dim x) (moved (moves_of f act) a (IsInSpace f act.dim u))

-- the list has the image of u under a
abbrev pub HasImage : {valid : List ℤ → Bool} → FieldOn (Exact valid) → Action → List (List (ℕ × (ℕ → Exact valid))) → ℕ → List (ℕ × (ℕ → Exact valid)) → Type 0
HasImage f act forms a u = (j : ℕ) × ((j < length forms) × IsImageForm f act a u (form_at forms j))

-- the form at j is cut with each Fix(q): the list has a form that vanishes on what q fixes of the vectors on which it vanishes
abbrev pub IsCutWithEach : {valid : List ℤ → Bool} → FieldOn (Exact valid) → Action → List (List (ℕ × (ℕ → Exact valid))) → ℕ → Type 0
IsCutWithEach {valid} f act forms j =
    (q : ℕ) → q < act.group.order → (d : ℕ) × ((d < length forms)
    × ((v : ℕ → Exact valid) → IsInSpace f act.dim (form_at forms d) v ↔ (IsFixed f act q v × IsInSpace f act.dim (form_at forms j) v)))

-- the form at i is the image of one that is cut with each Fix(q)
abbrev pub IsReached : {valid : List ℤ → Bool} → FieldOn (Exact valid) → Action → List (List (ℕ × (ℕ → Exact valid))) → ℕ → Type 0
IsReached f act forms i =
    (j a : ℕ) × ((j < length forms) × ((a < act.group.order) × (IsCutWithEach f act forms j × IsImageForm f act a (form_at forms j) (form_at forms i))))

-- a list that has the whole space, kept by the generators, each form of it the image of one that is cut with each Fix(q)
pub record IsClassClosed {valid : List ℤ → Bool} (f : FieldOn (Exact valid)) (act : Action) (forms : List (List (ℕ × (ℕ → Exact valid)))) : Type 0 where
  pub only : (i : ℕ) → i < length forms → IsFixSpace f act (form_at forms i)
  pub start : (i : ℕ) × ((i < length forms) × IsFixForm f act [] (form_at forms i))
  pub kept : (i p : ℕ) → i < length forms → p < act.generators → HasImage f act forms (act.generator p) (form_at forms i)
  pub reached : (i : ℕ) → i < length forms → IsReached f act forms i

-- the tables of the work. The first forms are the equations of each Fix(q); an entry of cuts is one more than the place of the cut of a form and one of these; the form i behind the first is the cut of sources i
pub record IsClosing {valid : List ℤ → Bool} (f : FieldOn (Exact valid)) (act : Action) (forms : List (List (ℕ × (ℕ → Exact valid)))) (places elements : List ℕ) (cuts : List (List ℕ)) (sources : List (ℕ × ℕ)) : Type 0 where
  pub only : (i : ℕ) → i < length forms → IsFixSpace f act (form_at forms i)
  pub within : length elements ≤ length forms
  pub element : (k : ℕ) → k < length elements → (get_or elements k 0 < act.group.order) × IsFixForm f act (get_or elements k 0 ∷ []) (form_at forms k)
  pub places_length : length places ≡ act.group.order
  pub place : (q : ℕ) → q < act.group.order → (get_or places q 0 < length elements) × IsFixForm f act (q ∷ []) (form_at forms (get_or places q 0))
  pub rows : length cuts ≤ length forms
  pub short : AreShort (length elements) cuts
  pub cut : (i k d : ℕ) → cut_entry cuts i k ≡ suc d → (d < length forms) × IsMeet f act.dim (form_at forms i) (form_at forms k) (form_at forms d)
  pub sources_length : length elements + length sources ≡ length forms
  pub source : (i : ℕ) → i < length sources → ((get_or sources i (0, 0)).0 < length elements + i) × (((get_or sources i (0, 0)).1 < length elements)
      × IsMeet f act.dim (form_at forms (get_or sources i (0, 0)).0) (form_at forms (get_or sources i (0, 0)).1) (form_at forms (length elements + i)))

-- the places of the images of form i under the first n generators
pub record IsImageRow {valid : List ℤ → Bool} (f : FieldOn (Exact valid)) (act : Action) (forms : List (List (ℕ × (ℕ → Exact valid)))) (i n : ℕ) (found : List ℕ) : Type 0 where
  pub size : length found ≡ n
  pub image : (p : ℕ) → p < n → (get_or found p 0 < length forms) × IsImageForm f act (act.generator p) (form_at forms i) (form_at forms (get_or found p 0))

-- row i of the table holds the places of the images of form i under the generators
abbrev pub AreImages : {valid : List ℤ → Bool} → FieldOn (Exact valid) → Action → List (List (ℕ × (ℕ → Exact valid))) → List (List ℕ) → Type 0
AreImages f act forms images = (i : ℕ) → i < length images → IsImageRow f act forms i act.generators (get_or images i [])

-- x is one of the list
abbrev pub IsOf : List ℕ → ℕ → Type 0
IsOf xs x = (p : ℕ) × ((p < length xs) × (get_or xs p 0 ≡ x))

-- each marked form is the image of one that is cut with each Fix(q)
abbrev pub AreCovered : {valid : List ℤ → Bool} → FieldOn (Exact valid) → Action → List (List (ℕ × (ℕ → Exact valid))) → List Bool → Type 0
AreCovered f act forms covered = (i : ℕ) → get_or covered i false ≡ true → (i < length forms) × IsReached f act forms i

-- so is each form of a list of places
abbrev pub AreReached : {valid : List ℤ → Bool} → FieldOn (Exact valid) → Action → List (List (ℕ × (ℕ → Exact valid))) → List ℕ → Type 0
AreReached f act forms queue = (t : ℕ) → t < length queue → (get_or queue t 0 < length forms) × IsReached f act forms (get_or queue t 0)
