-- The lines of the amplitudes that the program holds, and of the orbits.
use Rattle.std.proofs.Common.{◌≡◌, refl, sym, ap, ◌∙◌, ℕ, zero, suc, ◌+◌, ◌<◌, ◌≤◌, Bool, cond, List, [], ◌∷◌, ◌++◌, length, take, get_or, map, flat_map, count_by, codes, arith, append_assoc, Some, slice_get}
use Rattle.std.specs.List.{enumerate_from}
use Rattle.std.proofs.lemmas.List.{get_or-map}
use Rattle.std.proofs.lemmas.List.Sums.{sum_by-cons}
use Rattle.std.proofs.lemmas.Option.{same_Some, none-some}
use Rattle.cyclo24.specs.declared.k24.K24.{K24}
use Rattle.cyclo24.specs.ExactK24.{Exact24, k24_laws}
use Rattle.cyclo24.specs.K24.{exact24}
use Rattle.iso_text.specs.declared.sections.IrrepText.{IrrepText}
use Rattle.lin_alg.specs.Rows.{exact_rows, vector}
use Rattle.wyckoff.specs.Orbit.{OrbitView}
use Rattle.mode_project.specs.ModesView.{ModesView, irrep_modes_in}
use Rattle.mode_report.specs.AllModes.{name_at, told_modes}
use Rattle.mode_report.specs.ReportLaws.{numbered-take}
use Rattle.amp_report.specs.AmpsFound.{named_amplitudes}
use Rattle.amp_report.specs.OneAmplitudesLaws.{told-count}
use Rattle.amp_report.specs.AmpsReport.{OrbitAmplitudes, zeros_in}
use Rattle.amp_report.specs.Held.{told_of, told_in, names_of}

-- ---- names

pub name-inside : (irreps : List IrrepText) (j : ℕ) (d : IrrepText) → j < length irreps → (get_or irreps j d).name ≡ name_at irreps j
name-inside [] j d l = absurd (omega arith)
name-inside (x ∷ irreps) zero d l = refl
name-inside (x ∷ irreps) (suc j) d l = name-inside irreps j d (omega arith)

pub name-past : (irreps : List IrrepText) (j : ℕ) → length irreps ≤ j → [] ≡ name_at irreps j
name-past [] j l = refl
name-past (x ∷ irreps) zero l = absurd (omega arith)
name-past (x ∷ irreps) (suc j) l = name-past irreps j (omega arith)

abbrev names_in : List IrrepText → List (ℕ × List K24) → List ℕ → List (List ℕ)
names_in irreps rows sites = map (λ x. x.0) (told_modes irreps (exact_rows k24_laws exact24 rows) sites)

pub irrep-name : (irreps : List IrrepText) (rows : List (ℕ × List K24)) (sites : List ℕ) (m : ℕ) → m < length rows → name_at irreps (get_or rows m (0, [])).0 ≡ get_or (names_in irreps rows sites) m []
irrep-name irreps [] sites m l = absurd (omega arith)
irrep-name irreps (r ∷ rows) sites zero l = refl
irrep-name irreps (r ∷ rows) sites (suc m) l = irrep-name irreps rows sites m (omega arith)

pub site-name : (irreps : List IrrepText) (rows : List (ℕ × List K24)) (sites : List ℕ) (m : ℕ) → length rows ≤ m → m < length rows + length sites → codes "site" ≡ get_or (names_in irreps rows sites) m []
site-name irreps [] [] m l k = absurd (omega arith)
site-name irreps [] (s ∷ sites) zero l k = refl
site-name irreps [] (s ∷ sites) (suc m) l k = site-name irreps [] sites m (omega arith) (omega arith)
site-name irreps (r ∷ rows) sites zero l k = absurd (omega arith)
site-name irreps (r ∷ rows) sites (suc m) l k = site-name irreps rows sites m (omega arith) (omega arith)

-- ---- amplitudes with names

pub amplitudes-length : (v : ℕ → Exact24) (m : ℕ) (xs : List (List ℕ × (ℕ → Exact24))) → length (named_amplitudes v m xs) ≡ length xs
amplitudes-length v m [] = refl
amplitudes-length v m (x ∷ xs) = ap suc (amplitudes-length v (suc m) xs)

amplitude-at : (v : ℕ → Exact24) (m : ℕ) (xs : List (List ℕ × (ℕ → Exact24))) (i : ℕ) (d : List ℕ × Exact24) → i < length xs → (get_or (map (λ x. x.0) xs) i [], v (m + i)) ≡ get_or (named_amplitudes v m xs) i d
amplitude-at v m [] i d l = absurd (omega arith)
amplitude-at v m (x ∷ xs) zero d l = let e : m + 0 ≡ m = omega arith in ap (λ k. (x.0, v k)) e
amplitude-at v m (x ∷ xs) (suc i) d l =
    let e : m + suc i ≡ suc m + i = omega arith in ap (λ k. (get_or (map (λ x. x.0) xs) i [], v k)) e ∙ amplitude-at v (suc m) xs i d (omega arith)

rows-length : (rows : List (ℕ × List K24)) → length (exact_rows k24_laws exact24 rows) ≡ length rows
rows-length [] = refl
rows-length (r ∷ rows) = ap suc (rows-length rows)

pub told-modes-length : (irreps : List IrrepText) (m : ModesView) → length (told_modes irreps (irrep_modes_in m) m.sites) ≡ length m.rows + length m.sites
told-modes-length irreps m = told-count irreps (irrep_modes_in m) m.sites ∙ ap (λ n. n + length m.sites) (rows-length m.rows)

pub amplitudes-told-length : (irreps : List IrrepText) (o : OrbitView) (m : ModesView) (row : List K24) → length row ≡ length m.rows + length m.sites → length (told_of irreps o m row).amplitudes ≡ length row
amplitudes-told-length irreps o m row c = amplitudes-length (vector k24_laws exact24 row) 0 (told_modes irreps (irrep_modes_in m) m.sites) ∙ told-modes-length irreps m ∙ sym c

-- amplitude number i of an orbit, with the name of its mode
pub amplitude-told : (irreps : List IrrepText) (o : OrbitView) (m : ModesView) (row : List K24) (i : ℕ) (name : List ℕ) (a : K24) (d : List ℕ × Exact24) → length row ≡ length m.rows + length m.sites → i < length row
    → name ≡ get_or (names_of irreps m) i [] → a ≡ get_or row i a → (name, exact24 a) ≡ get_or (told_of irreps o m row).amplitudes i d
amplitude-told irreps o m row i name a d c l e f =
    let told = told_modes irreps (irrep_modes_in m) m.sites in
    let v = vector k24_laws exact24 row in
    let n = told-modes-length irreps m in
    let z : 0 + i ≡ i = omega arith in
    let value : exact24 a ≡ v (0 + i) = ap exact24 f ∙ sym (get_or-map exact24 row i a k24_laws.nought l) ∙ ap v (sym z) in
    (λ j. (e j, value j)) ∙ amplitude-at v 0 told i d (omega (arith, c, l, n))

-- ---- zeros

zeros-same : (p : Exact24 → Bool) (g : K24 → Exact24) (row : List K24) (v : ℕ → Exact24) (m : ℕ) (xs : List (List ℕ × (ℕ → Exact24))) (d : K24) → length xs ≡ length row
    → ((i : ℕ) → i < length row → g (get_or row i d) ≡ v (m + i)) → count_by (λ x. p (g x)) row ≡ count_by (λ (a : List ℕ × Exact24). p a.1) (named_amplitudes v m xs)
zeros-same p g [] v m [] d e h = refl
zeros-same p g [] v m (x ∷ xs) d e h = absurd (omega arith)
zeros-same p g (y ∷ row) v m [] d e h = absurd (omega arith)
zeros-same p g (y ∷ row) v m (x ∷ xs) d e h =
    let z : m + 0 ≡ m = omega arith in
    let one : g y ≡ v m = h 0 (omega arith) ∙ ap v z in
    let rest = zeros-same p g row v (suc m) xs d (omega arith) (λ i l. let s : m + suc i ≡ suc m + i = omega arith in h (suc i) (omega (arith, l)) ∙ ap v s) in
    let f : K24 → ℕ = λ u. cond (p (g u)) 1 0 in
    let t : List ℕ × Exact24 → ℕ = λ a. cond (p a.1) 1 0 in
    sum_by-cons f y row ∙ (λ j. cond (p (one j)) 1 0 + rest j) ∙ sym (sum_by-cons t (x.0, v m) (named_amplitudes v (suc m) xs))

pub zeros-told : (irreps : List IrrepText) (o : OrbitView) (m : ModesView) (row : List K24) → length row ≡ length m.rows + length m.sites
    → count_by (λ x. k24_laws.is_nought (exact24 x)) row ≡ zeros_in (told_of irreps o m row).amplitudes
zeros-told irreps o m [] c =
    let n = told-modes-length irreps m in
    none (told_modes irreps (irrep_modes_in m) m.sites) (omega (arith, c, n))
  where
    none : (xs : List (List ℕ × (ℕ → Exact24))) → length xs ≡ 0 → 0 ≡ zeros_in (named_amplitudes (vector k24_laws exact24 []) 0 xs)
    none [] e = refl
    none (x ∷ xs) e = absurd (omega arith)
zeros-told irreps o m (x ∷ row) c =
    let n = told-modes-length irreps m in
    zeros-same k24_laws.is_nought exact24 (x ∷ row) (vector k24_laws exact24 (x ∷ row)) 0 (told_modes irreps (irrep_modes_in m) m.sites) x (omega (arith, c, n))
    (λ i l. let z : 0 + i ≡ i = omega arith in sym (get_or-map exact24 (x ∷ row) i x k24_laws.nought l) ∙ ap (vector k24_laws exact24 (x ∷ row)) (sym z))

-- ---- lines

-- the next of a list of numbered texts
pub lines-more : {X : Type 0} (f : ℕ × X → List ℕ) (xs : List X) (old now new line : List ℕ) (i : ℕ) (d : X) → i < length xs → now ≡ old ++ flat_map f (enumerate_from 1 (take i xs))
    → new ≡ now ++ line → line ≡ f (i + 1, get_or xs i d) → new ≡ old ++ flat_map f (enumerate_from 1 (take (i + 1) xs))
lines-more f xs old now new line i d l a b e =
    let n : i + 1 ≡ 1 + i = omega arith in
    let part = flat_map f (enumerate_from 1 (take i xs)) in
    b ∙ (λ j. a j ++ e j) ∙ ap (λ k. (old ++ part) ++ f (k, get_or xs i d)) n ∙ append_assoc old part (f (1 + i, get_or xs i d)) ∙ ap (λ t. old ++ t) (sym (numbered-take f 1 xs i d l))

-- three parts of a text, one behind the other
pub three-joined : (old a b c one two three : List ℕ) → one ≡ old ++ a → two ≡ one ++ b → three ≡ two ++ c → three ≡ old ++ ((a ++ b) ++ c)
three-joined old a b c one two three e f g =
    g ∙ ap (λ t. t ++ c) (f ∙ ap (λ t. t ++ b) e ∙ append_assoc old a b) ∙ append_assoc old (a ++ b) c

-- ---- orbits

pub told-at : (irreps : List IrrepText) (orbits : List OrbitView) (all : List ModesView) (rows : List (List K24)) (i : ℕ) (o : OrbitView) (m : ModesView) (a : List K24) (d : OrbitAmplitudes) → slice_get orbits i ≡ Some o
    → m ≡ get_or all i m → i < length all → a ≡ get_or rows i a → i < length rows → told_of irreps o m a ≡ get_or (told_in irreps orbits all rows) i d
told-at irreps [] all rows i o m a d s e l f k = absurd (none-some o s)
told-at irreps (x ∷ orbits) [] rows i o m a d s e l f k = absurd (omega arith)
told-at irreps (x ∷ orbits) (y ∷ all) [] i o m a d s e l f k = absurd (omega arith)
told-at irreps (x ∷ orbits) (y ∷ all) (z ∷ rows) zero o m a d s e l f k = λ j. told_of irreps (sym (same_Some x o s) j) (e j) (f j)
told-at irreps (x ∷ orbits) (y ∷ all) (z ∷ rows) (suc i) o m a d s e l f k = told-at irreps orbits all rows i o m a d s e (omega arith) f (omega arith)
