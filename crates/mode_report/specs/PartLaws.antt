-- The pieces of a report of modes, one for each part of its table.
--
-- parts-count: there are as many parts as pieces
-- part-known, piece-told: piece number n is the text of part number n
-- pieces-joined: the pieces, one behind the other, are the lines of all orbits behind what stands in front
use Rattle.std.proofs.Common.{◌≡◌, refl, sym, ap, ◌∙◌, subst, ℕ, suc, ◌+◌, ◌<◌, List, [], ◌∷◌, ◌++◌, length, get_or, map, flat_map, arith, Some, slice_get}
use Rattle.std.specs.List.{concat, enumerate_from, range_with_len}
use Rattle.std.proofs.lemmas.List.Folds.{concat-append}
use Rattle.std.proofs.lemmas.Option.{same_Some, slice_get-get_or}
use Rattle.cyclo24.specs.ExactK24.{Exact24}
use Rattle.report_buffer.specs.PieceLaws.{made-joined}
use Rattle.report_steps.specs.EachLaws.{each-at, each-length}
use Rattle.report_steps.specs.IrrepSteps.{Each}
use Rattle.mode_report.specs.ModesPieces.{orbit_front, orbit_pieces_by, told_pieces_by}
use Rattle.mode_report.specs.ModesReport.{mode_text_by, orbit_text_by, orbits_text_by}
use Rattle.mode_report.specs.Parts.{mode_counts, orbit_parts, parts_of, IsPart}
use Rattle.mode_report.specs.Told.{OrbitModes}
use Rattle.mode_report.specs.declared.moves.AtomEntries.{AtomEntries}
use Rattle.mode_report.specs.declared.parts.Part.{Part}
use Rattle.mode_report.specs.declared.parts.Part.TheVariants.{Front, Orbit, Mode}

-- ---- what each part is

each-behind : {A B : Type 0} (R : A → B → Type 0) (xs ys : List A) (vs ws : List B) → Each R xs vs → Each R ys ws → Each R (xs ++ ys) (vs ++ ws)
each-behind R [] ys [] ws h k = k
each-behind R [] ys (v ∷ vs) ws h k = absurd h
each-behind R (x ∷ xs) ys [] ws h k = absurd h
each-behind R (x ∷ xs) ys (v ∷ vs) ws h k = (h.0, each-behind R xs ys vs ws h.1 k)

module _ (e : AtomEntries) (front : List ℕ) (told : List OrbitModes) where
  mode-parts : (i : ℕ) (o : OrbitModes) → slice_get told i ≡ Some o → (xs : List (List ℕ × (ℕ → Exact24))) (m : ℕ) → ((j : ℕ) → slice_get o.modes (m + j) ≡ slice_get xs j)
      → Each (IsPart e front told) (map (λ k. Mode i k) (range_with_len m (length xs))) (map (mode_text_by e (length o.places)) (enumerate_from (m + 1) xs))
  mode-parts i o s [] m h = tt
  mode-parts i o s (x ∷ xs) m h =
      let z : m ≡ m + 0 = omega arith in (
        (o, s, (x, ap (slice_get o.modes) z ∙ h 0, refl)),
        mode-parts i o s xs (m + 1) (λ j. let s : m + 1 + j ≡ m + suc j = omega arith in ap (slice_get o.modes) s ∙ h (suc j)),
      )

  orbit-part : (i : ℕ) (o : OrbitModes) → slice_get told i ≡ Some o → Each (IsPart e front told) (orbit_parts (i, length o.modes)) (orbit_pieces_by e (i + 1, o))
  orbit-part i o s = ((o, s, refl), mode-parts i o s o.modes 0 (λ j. let z : 0 + j ≡ j = omega arith in ap (slice_get o.modes) z))

  orbit-parts : (rest : List OrbitModes) (i : ℕ) → ((j : ℕ) → slice_get told (i + j) ≡ slice_get rest j)
      → Each (IsPart e front told) (flat_map orbit_parts (enumerate_from i (mode_counts rest))) (flat_map (orbit_pieces_by e) (enumerate_from (i + 1) rest))
  orbit-parts [] i h = tt
  orbit-parts (o ∷ rest) i h =
      let z : i ≡ i + 0 = omega arith in
      each-behind (IsPart e front told) (orbit_parts (i, length o.modes)) (flat_map orbit_parts (enumerate_from (i + 1) (mode_counts rest))) (orbit_pieces_by e (i + 1, o)) (flat_map (orbit_pieces_by e) (enumerate_from (i + 1 + 1) rest))
      (orbit-part i o (ap (slice_get told) z ∙ h 0)) (orbit-parts rest (i + 1) (λ j. let s : i + 1 + j ≡ i + suc j = omega arith in ap (slice_get told) s ∙ h (suc j)))

  -- the parts of a report and its pieces
  parts-told : Each (IsPart e front told) (parts_of (mode_counts told)) (told_pieces_by e front told)
  parts-told = (refl, orbit-parts told 0 (λ j. let z : 0 + j ≡ j = omega arith in ap (slice_get told) z))

  -- a part has one text
  part-one : (part : Part) (a b : List ℕ) → IsPart e front told part a → IsPart e front told part b → a ≡ b
  part-one Front a b h k = h ∙ sym k
  part-one (Orbit i) a b h k = let o = same_Some h.0 k.0 (sym h.1 ∙ k.1) in h.2 ∙ ap (λ x. orbit_front (i + 1, x)) o ∙ sym k.2
  part-one (Mode i m) a b h k =
      let o = same_Some h.0 k.0 (sym h.1 ∙ k.1) in
      let x = same_Some h.2.0 k.2.0 (sym h.2.1 ∙ ap (λ q. slice_get q.modes m) o ∙ k.2.1) in
      h.2.2 ∙ (λ j. mode_text_by e (length (o j).places) (m + 1, x j)) ∙ sym k.2.2

  pub parts-count : (parts : List Part) → parts ≡ parts_of (mode_counts told) → length parts ≡ length (told_pieces_by e front told)
  parts-count parts t = ap length t ∙ each-length (IsPart e front told) (parts_of (mode_counts told)) (told_pieces_by e front told) parts-told

  -- the text of a part of the table
  pub part-known : (parts : List Part) (number : ℕ) (part : Part) → parts ≡ parts_of (mode_counts told) → number < length (told_pieces_by e front told) → part ≡ get_or parts number part
      → IsPart e front told part (get_or (told_pieces_by e front told) number [])
  part-known parts number part t l s =
      let R = IsPart e front told in
      let pieces = told_pieces_by e front told in
      let n = parts-count parts t in
      let P : List Part → Type 0 = λ ps. Each R ps pieces in
      let Q : Part → Type 0 = λ p. R p (get_or pieces number []) in
      subst Q (sym s) (each-at R parts pieces number part [] (omega (arith, l, n)) (subst P (sym t) parts-told))

  -- the piece of a part of the table
  pub piece-told : (parts : List Part) (number : ℕ) (part : Part) (text : List ℕ) → parts ≡ parts_of (mode_counts told) → number < length (told_pieces_by e front told) → part ≡ get_or parts number part
      → IsPart e front told part text → slice_get (told_pieces_by e front told) number ≡ Some text
  piece-told parts number part text t l s h =
      slice_get-get_or (told_pieces_by e front told) number [] l ∙ ap (λ x. Some x) (part-one part (get_or (told_pieces_by e front told) number []) text (part-known parts number part t l s) h)

-- ---- the pieces, one behind the other

module _ (e : AtomEntries) where
  orbits-joined : (n : ℕ) (told : List OrbitModes) → concat (flat_map (orbit_pieces_by e) (enumerate_from n told)) ≡ flat_map (orbit_text_by e) (enumerate_from n told)
  orbits-joined n [] = refl
  orbits-joined n (o ∷ told) =
      concat-append (orbit_pieces_by e (n, o)) (flat_map (orbit_pieces_by e) (enumerate_from (n + 1) told))
      ∙ (λ j. (orbit_front (n, o) ++ made-joined (mode_text_by e (length o.places)) (enumerate_from 1 o.modes) j) ++ orbits-joined (n + 1) told j)

  pub pieces-joined : (front : List ℕ) (told : List OrbitModes) → concat (told_pieces_by e front told) ≡ front ++ orbits_text_by e told
  pieces-joined front told = ap (λ t. front ++ t) (orbits-joined 1 told)
