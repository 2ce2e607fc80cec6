-- The directions of a page by their places.
use Rattle.std.proofs.Common.{◌≡◌, refl, sym, ap, ◌∙◌, ℕ, zero, suc, ◌+◌, ◌-◌, ◌<◌, ◌≤◌, Option, Some, None, List, [], ◌∷◌, length, map, take, drop, slice_get, arith, length-drop}
use Rattle.std.specs.List.{enumerate_from}
use Rattle.std.proofs.lemmas.List.{length-take-le}
use Rattle.std.proofs.lemmas.Option.{none-some}
use Rattle.class_list.specs.Pages.{page, places_of, directions_at}
use Rattle.report_buffer.specs.PieceLaws.{made-piece, made-count, numbered-piece}
use Rattle.list_report.proofs.ListReportLemmas.{page-of}

counted : {X : Type 0} (n : ℕ) (xs : List X) → length (enumerate_from n xs) ≡ length xs
counted n [] = refl
counted n (x ∷ xs) = ap suc (counted (n + 1) xs)

part-length : {X : Type 0} (a b : ℕ) (xs : List X) → b ≤ length xs → length (drop a (take b xs)) ≡ b - a
part-length a b xs l = length-drop a (take b xs) ∙ ap (λ n. n - a) (length-take-le b xs l)

first-at : {X : Type 0} (b k : ℕ) (xs : List X) (x : X) → slice_get xs k ≡ Some x → k < b → slice_get (take b xs) k ≡ Some x
first-at b k [] x e l = absurd (none-some x e)
first-at zero k (y ∷ xs) x e l = absurd (omega arith)
first-at (suc b) zero (y ∷ xs) x e l = e
first-at (suc b) (suc k) (y ∷ xs) x e l = first-at b k xs x e (omega arith)

part-at : {X : Type 0} (a b k : ℕ) (xs : List X) (x : X) → slice_get xs (a + k) ≡ Some x → a + k < b → slice_get (drop a (take b xs)) k ≡ Some x
part-at zero b k xs x e l = let z : 0 + k ≡ k = omega arith in first-at b k xs x (ap (slice_get xs) (sym z) ∙ e) (omega arith)
part-at (suc a) b k [] x e l = absurd (none-some x e)
part-at (suc a) zero k (y ∷ xs) x e l = absurd (omega arith)
part-at (suc a) (suc b) k (y ∷ xs) x e l = let s : suc a + k ≡ suc (a + k) = omega arith in part-at a b k xs x (ap (slice_get (y ∷ xs)) (sym s) ∙ e) (omega arith)

-- the places of a page
pub record AreWithin (len : ℕ) (p : ℕ × ℕ) : Type 0 where
  pub order : p.0 ≤ p.1
  pub last : p.1 ≤ len

pub within : (len after : ℕ) (count : Option ℕ) → AreWithin len (places_of len after count)
within len after None = record { order = omega arith; last = omega arith }
within len after (Some n) = record { order = omega arith; last = omega arith }

-- how many directions a page has
pub page-length : {D E : Type 0} (g : D → E) (after : ℕ) (count : Option ℕ) (ds : List D) (p : ℕ × ℕ) → page after count ds ≡ enumerate_from (p.0 + 1) (directions_at ds p) → p.1 ≤ length ds
    → length (page after count (map g ds)) ≡ p.1 - p.0
page-length g after count ds p e l =
    ap length (page-of g after count ds (p.0 + 1) (directions_at ds p) e) ∙ counted (p.0 + 1) (map g (directions_at ds p)) ∙ made-count g (directions_at ds p) ∙ part-length p.0 p.1 ds l

-- a direction of a page under its number
pub page-at : {D E A : Type 0} (f : ℕ × E → A) (g : D → E) (after : ℕ) (count : Option ℕ) (ds : List D) (p : ℕ × ℕ) (k : ℕ) (d : D) → page after count ds ≡ enumerate_from (p.0 + 1) (directions_at ds p)
    → slice_get ds (p.0 + k) ≡ Some d → p.0 + k < p.1 → slice_get (map f (page after count (map g ds))) k ≡ Some (f (p.0 + k + 1, g d))
page-at f g after count ds p k d e h l =
    let n : p.0 + 1 + k ≡ p.0 + k + 1 = omega arith in
    let part = directions_at ds p in
    ap (λ t. slice_get (map f t) k) (page-of g after count ds (p.0 + 1) part e) ∙ numbered-piece f (p.0 + 1) (map g part) k (g d) (made-piece g part k d (part-at p.0 p.1 k ds d h l))
    ∙ ap (λ j. Some (f (j, g d))) n
