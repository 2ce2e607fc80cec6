-- The link that the program holds, as the definitions name it.
use Rattle.std.specs.Prelude.{All}
use Rattle.std.proofs.Common.{◌≡◌, zero, suc, ◌∷◌, refl, sym, ap, ◌∙◌, subst, inl, inr, ℕ, ◌<◌, ◌≤◌, ◌⊎◌, List, [], length, map, get_or, Some, slice_get, Result, IfOk, arith}
use Rattle.std.specs.List.{range_with_len}
use Rattle.std.proofs.lemmas.Bool.{cases_order}
use Rattle.std.proofs.Math.ListN.{get_or-eq_default}
use Rattle.std.proofs.lemmas.List.FromFn.{get_or-map-range_with_len, length-map-range_with_len}
use Rattle.std.proofs.lemmas.Option.{get_or_from_slice_get}
use Rattle.cyclo24.specs.ExactZ24.{ExactZ24, z24, z24_laws}
use Rattle.cyclo24.specs.FieldOn.{FieldOn}
use Rattle.cyclo24.specs.Z24.{exact_z24}
use Rattle.cyclo24.specs.declared.z24.Z24.{Z24}
use Rattle.induce.specs.Induced.{dimension_of, induced_of}
use Rattle.induce.specs.InducedView.{InducedView, IsInducedOf, star_in}
use Rattle.induce.specs.Tables.{dimension_in, matrices_in}
use Rattle.iso_text.specs.declared.sections.IrrepText.{IrrepText}
use Rattle.lin_alg.specs.Matrix.{MatrixView, entry}
use Rattle.super_group.specs.Quotient.{SupercellGroup, quotient_group}
use Rattle.couple.specs.Found.{pair_of, IsFound, IsLinkOf}
use Rattle.couple.specs.Links.{Pair}
use Rattle.couple.specs.Wide.{IsWideLink}
use Rattle.couple.specs.declared.links.Link.{Link}
use Rattle.couple.specs.declared.links.Link.TheVariants.{Nothing, Found}
use Rattle.report_steps.specs.EachLaws.{each-at}
use Rattle.report_steps.specs.Held.{IsInducedHeld}
use Rattle.report_steps.specs.IrrepSteps.{Each}
use Rattle.report_steps.specs.Steps.{OrWide}
use Rattle.report_steps.specs.declared.refusal.Refusal.TheVariants as refusal
use Rattle.report_steps.specs.declared.step.Step.{Step}
use Rattle.couple_report.specs.FoundLink.{AnswersLink, AreFewRows, row_in, rows_in, link_in}
use Rattle.couple_report.specs.HeldPairs.{chosen_pair_by}
use Rattle.couple_report.specs.LinkFound.{pair_by, entry_in, IsLinkMatrix, IsLinked, ArePairInduced, IsLinkOfPair, RefusesNoLink, AreWideLinks}
use Rattle.couple_report.specs.LinkReport.{LinkMatrix}
use Rattle.couple_report.specs.Pairs.{ChosenPair}
use Rattle.couple_report.proofs.LinkLemmas.{entry_at, link-moved, rank-moved, intertwines-moved}

-- ---- the rows of a matrix

module _ {K : Type 0} (f : FieldOn K) (e : ℕ → ℕ → K) (n w : ℕ) where
  -- the first n rows of w entries
  abbrev table : List (List K)
  table = map (λ i. map (e i) (range_with_len 0 w)) (range_with_len 0 n)

  row-at : (a : ℕ) → a < n → get_or table a [] ≡ map (e a) (range_with_len 0 w)
  row-at a la = get_or-map-range_with_len (λ i. map (e i) (range_with_len 0 w)) 0 n a a [] la (omega arith)

  pub row-length : (a : ℕ) → a < n → length (get_or table a []) ≡ w
  row-length a la = ap (λ xs. length xs) (row-at a la) ∙ length-map-range_with_len (e a) 0 w

  pub table-entry : ((a b : ℕ) → a < n → w ≤ b → e a b ≡ f.nought) → (a b : ℕ) → a < n → e a b ≡ entry_at f table a b
  table-entry past a b la = at (cases_order b w)
    where
      within : b < w → e a b ≡ entry_at f table a b
      within l = sym (get_or-map-range_with_len (e a) 0 w b b f.nought l (omega arith)) ∙ ap (λ xs. get_or xs b f.nought) (sym (row-at a la))

      behind : w ≤ b → e a b ≡ entry_at f table a b
      behind l =
          let long : length (map (e a) (range_with_len 0 w)) ≡ w = length-map-range_with_len (e a) 0 w in
          let k : length (map (e a) (range_with_len 0 w)) ≤ b = omega (arith, l, long) in
          past a b la l ∙ sym (get_or-eq_default (map (e a) (range_with_len 0 w)) f.nought k) ∙ ap (λ xs. get_or xs b f.nought) (sym (row-at a la))

      at : (b ≡ w) ⊎ ((b < w) ⊎ (w < b)) → e a b ≡ entry_at f table a b
      at (inl h) = behind (omega (arith, h))
      at (inr (inl l)) = within l
      at (inr (inr l)) = behind (omega (arith, l))

-- ---- the link of a pair of representations

module _ (p : Pair ExactZ24) (m : MatrixView Z24) (rank : ℕ) (h : IsFound p m rank) where
  abbrev x : LinkMatrix
  x = record { rows = rows_in m; cols = m.cols; rank = rank }

  agree : (a b : ℕ) → a < p.rows → entry z24_laws exact_z24 m a b ≡ entry_in (rows_in m) a b
  agree a b l =
      table-entry z24_laws (entry z24_laws exact_z24 m) m.rows m.cols
      (λ c d lc ld. h.link.within c (subst (λ (n : ℕ). c < n) h.rows lc) d (subst (λ (n : ℕ). n ≤ d) h.cols ld))
      a b (subst (λ (n : ℕ). a < n) (sym h.rows) l)

  is-link-matrix : IsLinkMatrix p x
  is-link-matrix = record {
    rows = length-map-range_with_len (λ i. row_in m i m.cols) 0 m.rows ∙ h.rows;
    cols = h.cols;
    long = λ a l. row-length z24_laws (entry z24_laws exact_z24 m) m.rows m.cols a (subst (λ (n : ℕ). a < n) (sym h.rows) l) ∙ h.cols;
    link = link-moved z24_laws p (entry z24_laws exact_z24 m) (entry_in (rows_in m)) agree h.link;
    intertwines = intertwines-moved z24_laws p (entry z24_laws exact_z24 m) (entry_in (rows_in m)) agree h.intertwines;
    rank = rank-moved z24_laws p.rows p.cols rank (entry z24_laws exact_z24 m) (entry_in (rows_in m)) agree h.spans;
    equivalent = h.equivalent;
  }

is-linked : (q : SupercellGroup) (v u : InducedView) (y : Link) → IsLinkOf q v u y → IsLinked (pair_of q v u) (link_in y)
is-linked q v u Nothing h = h
is-linked q v u (Found m rank) h = is-link-matrix (pair_of q v u) m rank h

-- ---- the link of two irreps

module _ (format : ℕ) (q : SupercellGroup) (i j : IrrepText) (v u : InducedView) (hv : IsInducedHeld q i v) (hu : IsInducedHeld q j u) where
  abbrev p : ChosenPair
  p = chosen_pair_by format q i j

  are-induced : ArePairInduced p (pair_of q v u)
  are-induced =
      let same : pair_of q v u ≡ pair_by p (star_in v) (matrices_in v.tables) (star_in u) (matrices_in u.tables) =
      (λ t. record {
        group = quotient_group q;
        rows = dimension_of (star_in v) (hv.size t);
        cols = dimension_of (star_in u) (hu.size t);
        left = induced_of q (star_in v) (hv.size t) (matrices_in v.tables);
        right = induced_of q (star_in u) (hu.size t) (matrices_in u.tables);
      }) in
      (star_in v, (matrices_in v.tables, (star_in u, (matrices_in u.tables, hv.inducible, hu.inducible, same))))

  pub link-found : (y : Link) → IsLinkOf q v u y → IsLinkOfPair p (link_in y)
  link-found y h = (pair_of q v u, are-induced, is-linked q v u y h)

  pub link-wide : (k : ℕ) → (k ≡ 7) × IsWideLink z24 (pair_of q v u) → OrWide RefusesNoLink AreWideLinks p (refusal.Wide k)
  link-wide k (e, w) = inr (k, (e, (pair_of q v u, are-induced, w)), refl)

-- what is held at a place
pub held-at : (q : SupercellGroup) (irreps : List IrrepText) (all : List InducedView) (k : ℕ) (i : IrrepText) (v : InducedView) → Each (IsInducedHeld q) irreps all → k < length irreps → slice_get irreps k ≡ Some i
    → v ≡ get_or all k v → IsInducedHeld q i v
held-at q irreps all k i v each l e at =
    let P : IrrepText → Type 0 = λ z. IsInducedHeld q z (get_or all k v) in
    let Q : InducedView → Type 0 = λ z. IsInducedHeld q i z in
    subst Q (sym at) (subst P (get_or_from_slice_get irreps k i i e) (each-at (IsInducedHeld q) irreps all k i v l each))

pub all-induced : (q : SupercellGroup) (irreps : List IrrepText) (all : List InducedView) → Each (IsInducedHeld q) irreps all → All (IsInducedOf q) all
all-induced q [] [] h k d l = absurd (omega arith)
all-induced q [] (v ∷ all) h k d l = absurd h
all-induced q (i ∷ irreps) [] h k d l = absurd h
all-induced q (i ∷ irreps) (v ∷ all) h zero d l = h.0.of
all-induced q (i ∷ irreps) (v ∷ all) h (suc k) d l = all-induced q irreps all h.1 k d (omega arith)

-- the answer under another quotient and of another list that are the same
pub answers-moved : {E : Type 0} (format : ℕ) (s q : SupercellGroup) (irreps : List IrrepText) (xs ys : List InducedView) (i j : IrrepText) (r : Result (Step Link) E) → s ≡ q → xs ≡ ys → Each (IsInducedHeld q) irreps ys
    → (Each (IsInducedHeld s) irreps xs → IfOk r (AnswersLink (chosen_pair_by format s i j))) → IfOk r (AnswersLink (chosen_pair_by format q i j))
answers-moved format s q irreps xs ys i j r e h each f =
    subst (λ (z : SupercellGroup). IfOk r (AnswersLink (chosen_pair_by format z i j))) e
    (f (subst (λ (z : SupercellGroup). Each (IsInducedHeld z) irreps xs) (sym e) (subst (λ (zs : List InducedView). Each (IsInducedHeld q) irreps zs) (sym h) each)))

pub induced-moved : (s q : SupercellGroup) (irreps : List IrrepText) (xs ys : List InducedView) → s ≡ q → xs ≡ ys → Each (IsInducedHeld q) irreps ys → All (IsInducedOf s) xs
induced-moved s q irreps xs ys e h each =
    all-induced s irreps xs (subst (λ (z : SupercellGroup). Each (IsInducedHeld z) irreps xs) (sym e) (subst (λ (zs : List InducedView). Each (IsInducedHeld q) irreps zs) (sym h) each))

-- its rows are few
pub few-rows : (q : SupercellGroup) (l r : InducedView) (x : Link) → dimension_in l.tables ≤ 288 → IsLinkOf q l r x → AreFewRows x
few-rows q l r Nothing n h = tt
few-rows q l r (Found m rank) n h = subst (λ k. k ≤ 288) (sym h.rows) n
