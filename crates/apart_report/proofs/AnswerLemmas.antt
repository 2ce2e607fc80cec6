-- What the answers to pairs of irreps say.
use Rattle.std.proofs.Common.{◌≡◌, refl, sym, ap, ◌∙◌, subst, inl, inr, ◌↔◌, ℕ, zero, suc, ◌+◌, ◌<◌, ◌≤◌, Bool, true, List, [], ◌∷◌, ◌++◌, length, take, get_or, map, arith}
use Rattle.std.specs.Prelude.{Contains}
use Rattle.std.proofs.lemmas.List.{take_more, take_all, get_or_default, get_or-map, length-map}
use Rattle.cyclo24.specs.declared.k24.K24.{K24}
use Rattle.cyclo24.specs.ExactK24.{Exact24, k24, k24_laws}
use Rattle.cyclo24.specs.K24.{exact24}
use Rattle.iso_text.specs.declared.sections.IrrepText.{IrrepText}
use Rattle.lin_alg.specs.Rows.{vector}
use Rattle.super_group.specs.Quotient.{SupercellGroup, quotient_group}
use Rattle.induce.specs.Induced.{weight_at}
use Rattle.induce.specs.InducedView.{InducedView, star_in, IsInducedOf}
use Rattle.induce.specs.Tables.{matrices_in}
use Rattle.induce.specs.Apart.{AreApart, weights_by}
use Rattle.char_orth.specs.Wide.{IsWideApart}
use Rattle.report_steps.specs.Contexts.{Divided}
use Rattle.report_steps.specs.EachLaws.{each-map, each-length}
use Rattle.report_steps.specs.Held.{IsInducedHeld}
use Rattle.report_steps.specs.IrrepSteps.{Each}
use Rattle.report_steps.specs.Steps.{OrWide}
use Rattle.report_steps.specs.declared.refusal.Refusal.{Refusal}
use Rattle.mode_report.specs.AllModes.{name_at}
use Rattle.mode_report.specs.Held.{RefusesNothing}
use Rattle.mode_report.specs.IrrepWeights.{IsWeightOf, AreWeightsOf}
use Rattle.apart_report.specs.ApartFound.{Weighted, weighted, pairs_of, IsToldOf, RefusesNone, AreWidePairs, ArePairsTold}
use Rattle.apart_report.specs.Held.{number_pairs, AreBelow, weights_at, IsWidePair, IsAnswer, IsWideSomePair, told_in}
use Rattle.apart_report.proofs.PairLemmas.{pairs-by-number, numbers-below}

-- ---- what is held of an irrep

each-induced : (q : SupercellGroup) (irreps : List IrrepText) (vs : List InducedView) (i : ℕ) (v : InducedView) → Each (IsInducedHeld q) irreps vs → i < length vs → IsInducedOf q (get_or vs i v)
each-induced q [] [] i v h l = absurd (omega (arith, l))
each-induced q [] (u ∷ vs) i v h l = absurd h
each-induced q (x ∷ irreps) [] i v h l = absurd h
each-induced q (x ∷ irreps) (u ∷ vs) zero v h l = h.0.of
each-induced q (x ∷ irreps) (u ∷ vs) (suc i) v h l = each-induced q irreps vs i v h.1 (omega (arith, l))

pub induced-at : (q p : SupercellGroup) (irreps : List IrrepText) (vs : List InducedView) (i : ℕ) (v : InducedView) → p ≡ q → Each (IsInducedHeld q) irreps vs → i < length vs → v ≡ get_or vs i v → IsInducedOf p v
induced-at q p irreps vs i v e h l f =
    let P : SupercellGroup → Type 0 = λ g. IsInducedOf g v in
    subst P (sym e) (subst (IsInducedOf q) (sym f) (each-induced q irreps vs i v h l))

vector-past : (xs : List K24) (e : ℕ) → length xs ≤ e → vector k24_laws exact24 xs e ≡ k24_laws.nought
vector-past [] e l = refl
vector-past (x ∷ xs) zero l = absurd (omega (arith, l))
vector-past (x ∷ xs) (suc e) l = vector-past xs e (omega (arith, l))

weight-is : (q : SupercellGroup) (i : IrrepText) (v : InducedView) → IsInducedHeld q i v → IsWeightOf q i (weights_by v)
weight-is q i v h =
    let count = h.of.count in (
      star_in v,
      matrices_in v.tables,
      record {
        inducible = h.inducible;
        inside = λ e l. h.of.weights e l ∙ ap (λ n. weight_at q (star_in v) n (matrices_in v.tables) e) h.size;
        past = λ e l. vector-past v.weights e (omega (arith, count, l));
      },
    )

pub weights-are : (q : SupercellGroup) (irreps : List IrrepText) (vs : List InducedView) → Each (IsInducedHeld q) irreps vs → AreWeightsOf q irreps (map weights_by vs)
weights-are q irreps vs h = each-map (IsInducedHeld q) (IsWeightOf q) weights_by irreps vs (weight-is q) h

-- ---- a pair

pub weights-found : (vs : List InducedView) (i : ℕ) (v : InducedView) → i < length vs → v ≡ get_or vs i v → weights_by v ≡ weights_at (map weights_by vs) i
weights-found vs i v l e = ap weights_by e ∙ sym (get_or-map weights_by vs i v (λ k. k24_laws.nought) l)

pub answer-is : (q p : SupercellGroup) (ws : List (ℕ → Exact24)) (i j : ℕ) (w u : ℕ → Exact24) (answer : Bool) → p ≡ q → w ≡ weights_at ws i → u ≡ weights_at ws j
    → ((answer ≡ true) ↔ AreApart k24_laws (quotient_group p) w u) → IsAnswer q ws (i, j) answer
answer-is q p ws i j w u answer e f g h =
    let P : SupercellGroup → Type 0 = λ s. (answer ≡ true) ↔ AreApart k24_laws (quotient_group s) w u in
    let Q : (ℕ → Exact24) → Type 0 = λ x. (answer ≡ true) ↔ AreApart k24_laws (quotient_group q) x u in
    let S : (ℕ → Exact24) → Type 0 = λ x. (answer ≡ true) ↔ AreApart k24_laws (quotient_group q) (weights_at ws i) x in
    subst S g (subst Q f (subst P e h))

pub wide-is : (q p : SupercellGroup) (ws : List (ℕ → Exact24)) (i j : ℕ) (w u : ℕ → Exact24) → p ≡ q → w ≡ weights_at ws i → u ≡ weights_at ws j → IsWideApart k24 (quotient_group p) w u → IsWidePair q ws (i, j) 10
wide-is q p ws i j w u e f g h =
    let P : SupercellGroup → Type 0 = λ s. IsWideApart k24 (quotient_group s) w u in
    let Q : (ℕ → Exact24) → Type 0 = λ x. IsWideApart k24 (quotient_group q) x u in
    let S : (ℕ → Exact24) → Type 0 = λ x. IsWideApart k24 (quotient_group q) (weights_at ws i) x in
    (subst S g (subst Q f (subst P e h)), refl)

-- ---- all pairs

each-push : {A B : Type 0} (R : A → B → Type 0) (xs : List A) (ys : List B) (x : A) (y : B) → Each R xs ys → R x y → Each R (xs ++ x ∷ []) (ys ++ y ∷ [])
each-push R [] [] x y h r = (r, tt)
each-push R [] (b ∷ ys) x y h r = absurd h
each-push R (a ∷ xs) [] x y h r = absurd h
each-push R (a ∷ xs) (b ∷ ys) x y h r = (h.0, each-push R xs ys x y h.1 r)

-- one more item of each
pub each-more : {A B : Type 0} (R : A → B → Type 0) (xs : List A) (ys zs : List B) (i : ℕ) (d : A) (y : B) → i < length xs → Each R (take i xs) ys → R (get_or xs i d) y → zs ≡ ys ++ y ∷ [] → Each R (take (i + 1) xs) zs
each-more {A} {B} R xs ys zs i d y l h r e =
    let P : List A → Type 0 = λ us. Each R us zs in
    let Q : List B → Type 0 = λ us. Each R (take i xs ++ get_or xs i d ∷ []) us in
    subst P (sym (take_more xs i d l)) (subst Q (sym e) (each-push R (take i xs) ys (get_or xs i d) y h r))

pub each-whole : {A B : Type 0} (R : A → B → Type 0) (xs : List A) (ys : List B) (i : ℕ) → length xs ≤ i → Each R (take i xs) ys → Each R xs ys
each-whole {A} {B} R xs ys i l h = let P : List A → Type 0 = λ zs. Each R zs ys in subst P (take_all i xs l) h

pub wide-some : (q : SupercellGroup) (ws : List (ℕ → Exact24)) (pairs : List (ℕ × ℕ)) (k : ℕ) (d : ℕ × ℕ) (r : Refusal) → k < length pairs → OrWide RefusesNothing (IsWidePair q ws) (get_or pairs k d) r
    → OrWide RefusesNothing (IsWideSomePair q ws) pairs r
wide-some q ws pairs k d r l (inl h) = absurd h
wide-some q ws pairs k d r l (inr (n, w, e)) = inr (n, (get_or pairs k d, (k, l, get_or_default pairs k (get_or pairs k d) d l), w), e)

-- ---- what is told

weighted-length : (irreps : List IrrepText) (ws : List (ℕ → Exact24)) → length irreps ≡ length ws → length (weighted irreps ws) ≡ length irreps
weighted-length [] ws e = refl
weighted-length (i ∷ irreps) [] e = absurd (omega (arith, e))
weighted-length (i ∷ irreps) (w ∷ ws) e = ap suc (weighted-length irreps ws (omega (arith, e)))

weighted-name : (irreps : List IrrepText) (ws : List (ℕ → Exact24)) (k : ℕ) (d : Weighted) → length irreps ≡ length ws → k < length irreps → name_at irreps k ≡ (get_or (weighted irreps ws) k d).0.name
weighted-name [] ws k d e l = absurd (omega (arith, l))
weighted-name (i ∷ irreps) [] k d e l = absurd (omega (arith, e))
weighted-name (i ∷ irreps) (w ∷ ws) zero d e l = refl
weighted-name (i ∷ irreps) (w ∷ ws) (suc k) d e l = weighted-name irreps ws k d (omega (arith, e)) (omega (arith, l))

weighted-weights : (irreps : List IrrepText) (ws : List (ℕ → Exact24)) (k : ℕ) (d : Weighted) → length irreps ≡ length ws → k < length irreps → weights_at ws k ≡ (get_or (weighted irreps ws) k d).1
weighted-weights [] ws k d e l = absurd (omega (arith, l))
weighted-weights (i ∷ irreps) [] k d e l = absurd (omega (arith, e))
weighted-weights (i ∷ irreps) (w ∷ ws) zero d e l = refl
weighted-weights (i ∷ irreps) (w ∷ ws) (suc k) d e l = weighted-weights irreps ws k d (omega (arith, e)) (omega (arith, l))

module _ (q : SupercellGroup) (irreps : List IrrepText) (ws : List (ℕ → Exact24)) (count : length irreps ≡ length ws) (d : Weighted) where
  -- the irrep of a number with its weights
  abbrev at : ℕ → Weighted
  at k = get_or (weighted irreps ws) k d

  abbrev both : ℕ × ℕ → Weighted × Weighted
  both p = (at p.0, at p.1)

  both-pairs : map both (number_pairs (length irreps)) ≡ pairs_of (weighted irreps ws)
  both-pairs =
      ap (λ n. map both (number_pairs n)) (sym (weighted-length irreps ws count)) ∙ pairs-by-number at (weighted irreps ws) (λ k x l. get_or_default (weighted irreps ws) k d x l)

  told-one : (p : ℕ × ℕ) (answer : Bool) → p.0 < length irreps → p.1 < length irreps → IsAnswer q ws p answer → IsToldOf q (both p) (record { name = name_at irreps p.0; other = name_at irreps p.1; apart = answer })
  told-one p answer l m h =
      let P : (ℕ → Exact24) → Type 0 = λ x. (answer ≡ true) ↔ AreApart k24_laws (quotient_group q) x (weights_at ws p.1) in
      let Q : (ℕ → Exact24) → Type 0 = λ x. (answer ≡ true) ↔ AreApart k24_laws (quotient_group q) (at p.0).1 x in
      record {
        name_is = weighted-name irreps ws p.0 d count l;
        other_is = weighted-name irreps ws p.1 d count m;
        apart = subst Q (weighted-weights irreps ws p.1 d count m) (subst P (weighted-weights irreps ws p.0 d count l) h);
      }

  told-pairs : (pairs : List (ℕ × ℕ)) (answers : List Bool) → AreBelow (length irreps) pairs → Each (IsAnswer q ws) pairs answers → Each (IsToldOf q) (map both pairs) (told_in irreps pairs answers)
  told-pairs [] [] b h = tt
  told-pairs [] (answer ∷ answers) b h = absurd h
  told-pairs (p ∷ pairs) [] b h = absurd h
  told-pairs (p ∷ pairs) (answer ∷ answers) b h =
      let l = b 0 p (omega arith) in
      (told-one p answer l.0 l.1 h.0, told-pairs pairs answers (λ k x m. b (suc k) x (omega (arith, m))) h.1)

  all-told : (answers : List Bool) → Each (IsAnswer q ws) (number_pairs (length irreps)) answers → Each (IsToldOf q) (pairs_of (weighted irreps ws)) (told_in irreps (number_pairs (length irreps)) answers)
  all-told answers h =
      let P : List (Weighted × Weighted) → Type 0 = λ ps. Each (IsToldOf q) ps (told_in irreps (number_pairs (length irreps)) answers) in
      subst P both-pairs (told-pairs (number_pairs (length irreps)) answers (numbers-below (length irreps)) h)

  wide-both : (k : ℕ) → IsWideSomePair q ws (number_pairs (length irreps)) k → (k ≡ 10) × ((pair : Weighted × Weighted) × Contains (pairs_of (weighted irreps ws)) pair × IsWideApart k24 (quotient_group q) pair.0.1 pair.1.1)
  wide-both k (p, (n, l, e), (w, t)) =
      let ps = number_pairs (length irreps) in
      let b = numbers-below (length irreps) n p l in
      let B : ℕ × ℕ → Type 0 = λ x. (x.0 < length irreps) × (x.1 < length irreps) in
      let in_range = subst B e b in
      let P : (ℕ → Exact24) → Type 0 = λ x. IsWideApart k24 (quotient_group q) x (weights_at ws p.1) in
      let Q : (ℕ → Exact24) → Type 0 = λ x. IsWideApart k24 (quotient_group q) (at p.0).1 x in
      let S : List (Weighted × Weighted) → Type 0 = λ xs. Contains xs (both p) in
      let m : n < length (map both ps) = subst (λ j. n < j) (sym (length-map ps both)) l in
      (t, (both p, subst S both-pairs (n, m, get_or-map both ps n p (both p) l ∙ ap both e), subst Q (weighted-weights irreps ws p.1 d count in_range.1) (subst P (weighted-weights irreps ws p.0 d count in_range.0) w)))

-- ---- the step

pub pairs-told : (d : Divided) (ws : List (ℕ → Exact24)) (answers : List Bool) → AreWeightsOf d.quotient d.file.irreps ws → Each (IsAnswer d.quotient ws) (number_pairs (length d.file.irreps)) answers
    → ArePairsTold d (told_in d.file.irreps (number_pairs (length d.file.irreps)) answers)
pairs-told d ws answers w h = (ws, w, told d.file.irreps w h)
  where
    told : (irreps : List IrrepText) → AreWeightsOf d.quotient irreps ws → Each (IsAnswer d.quotient ws) (number_pairs (length irreps)) answers
        → Each (IsToldOf d.quotient) (pairs_of (weighted irreps ws)) (told_in irreps (number_pairs (length irreps)) answers)
    told [] v k = tt
    told (i ∷ irreps) v k = all-told d.quotient (i ∷ irreps) ws (each-length (IsWeightOf d.quotient) (i ∷ irreps) ws v) (i, λ e. k24_laws.nought) answers k

pub pairs-wide : (d : Divided) (ws : List (ℕ → Exact24)) (r : Refusal) → AreWeightsOf d.quotient d.file.irreps ws → OrWide RefusesNothing (IsWideSomePair d.quotient ws) (number_pairs (length d.file.irreps)) r
    → OrWide RefusesNone AreWidePairs d r
pairs-wide d ws r w (inl h) = absurd h
pairs-wide d ws r w (inr (k, h, e)) = let x = wide d.file.irreps w h in inr (k, (x.0, (ws, w, x.1)), e)
  where
    wide : (irreps : List IrrepText) → AreWeightsOf d.quotient irreps ws → IsWideSomePair d.quotient ws (number_pairs (length irreps)) k
        → (k ≡ 10) × ((pair : Weighted × Weighted) × Contains (pairs_of (weighted irreps ws)) pair × IsWideApart k24 (quotient_group d.quotient) pair.0.1 pair.1.1)
    wide [] v (p, (n, l, s), y) = absurd (omega (arith, l))
    wide (i ∷ irreps) v y = wide-both d.quotient (i ∷ irreps) ws (each-length (IsWeightOf d.quotient) (i ∷ irreps) ws v) (i, λ e. k24_laws.nought) k y

pub answers-count : (q : SupercellGroup) (ws : List (ℕ → Exact24)) (pairs : List (ℕ × ℕ)) (answers : List Bool) → Each (IsAnswer q ws) pairs answers → length answers ≡ length pairs
answers-count q ws pairs answers h = sym (each-length (IsAnswer q ws) pairs answers h)
