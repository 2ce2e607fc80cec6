use Rattle.std.proofs.Common.{◌≡◌, ℕ, suc, zero, ◌+◌, ◌-◌, ◌<◌, ◌≤◌, refl, sym, ◌∙◌, ap, subst, arith, List, [], ◌∷◌, ◌++◌, map, append_assoc, append-nil}
use Rattle.std.specs.Prelude.{slice_index_or}
use Rattle.std.specs.List.{flat_map, range_with_len}
use Rattle.std.proofs.lemmas.List.FromFn.{map-range_with_len_more, get_or-range_with_len}
use Rattle.std.proofs.lemmas.Grind.{flat_map-append}
use Rattle.std.specs.Iterator.{Yields, Drains}
use Rattle.std.specs.Iterator.Runs.{WholeRun}
use Rattle.std.specs.declared.ops.Range.{Range}
use Rattle.std.proofs.iter.Yields.{nat_range_steps, gives_Drains}
use Rattle.std.proofs.iter.runs.Made.{took}
use Rattle.std.proofs.lemmas.Iterator.{YieldsList-from_range}
use Rattle.itertools.specs.Odometer.{numbers, ways}
use Rattle.itertools.specs.Pool.{ascending_low, ascending_high, ClonesAt, reads_tuple}
use Rattle.real_form.specs.declared.candidate.Candidate.{Candidate}
use Rattle.real_form.specs.declared.candidate.Candidate.TheVariants.{Place, Pair}
use Rattle.real_form.specs.Candidates.{pairs_of, powers_of, candidates_of, ArePowers}

-- more of a list that goes on from a first part
pub appended-next : {X : Type 0} (first more next old new tail : List X) → old ≡ first ++ more → new ≡ old ++ tail → next ≡ more ++ tail → new ≡ first ++ next
appended-next first more next old new tail e d m = d ∙ ap (λ z. z ++ tail) e ∙ append_assoc first more tail ∙ ap (λ z. first ++ z) (sym m)

pub range-more : {X : Type 0} (f : ℕ → X) (i : ℕ) → map f (range_with_len 0 (i + 1)) ≡ map f (range_with_len 0 i) ++ f i ∷ []
range-more f i = map-range_with_len_more f 0 i i (omega arith)

numbers-range : (a n : ℕ) → numbers a n ≡ range_with_len a n
numbers-range a zero = refl
numbers-range a (suc n) = ap (λ z. a ∷ z) (numbers-range (a + 1) n)

-- the two numbers of a list
abbrev pub pair_in : List ℕ → ℕ × ℕ
pair_in ds = (slice_index_or ds 0 0, slice_index_or ds 1 0)

-- a list of two numbers, the first below the second and this below n
abbrev pub IsPairBelow : ℕ → List ℕ → Type 0
IsPairBelow n ds = (i j : ℕ) × (ds ≡ i ∷ j ∷ []) × (i < n) × (j < n)

abbrev pub ArePairsBelow : ℕ → List (List ℕ) → Type 0
ArePairsBelow n [] = Unit {0}
ArePairsBelow n (ds ∷ dss) = IsPairBelow n ds × ArePairsBelow n dss

pairs-append : (n : ℕ) (xs ys : List (List ℕ)) → ArePairsBelow n xs → ArePairsBelow n ys → ArePairsBelow n (xs ++ ys)
pairs-append n [] ys a b = b
pairs-append n (x ∷ xs) ys a b = (a.0, pairs-append n xs ys a.1 b)

module _ (n : ℕ) where
  row : ℕ → List ℕ → List (List ℕ)
  row d es = map (λ ds. d ∷ ds) (flat_map (λ e. map (λ ds. e ∷ ds) ([] ∷ [])) es)

  row-pairs : (d : ℕ) (es : List ℕ) → map pair_in (row d es) ≡ map (λ j. (d, j)) es
  unfolding row
  row-pairs d [] = refl
  row-pairs d (e ∷ es) = ap (λ z. (d, e) ∷ z) (row-pairs d es)

  row-below : (d a k : ℕ) → d < n → a + k ≤ n → ArePairsBelow n (row d (range_with_len a k))
  unfolding row
  row-below d a zero l m = tt
  row-below d a (suc k) l m = ((d, a, refl, l, omega (arith, m)), row-below d (a + 1) k l (omega (arith, m)))

  all_rows : List ℕ → List (List ℕ)
  all_rows is = flat_map (λ d. row d (range_with_len (d + 1) (n - (d + 1)))) is

  map-append : (xs ys : List (List ℕ)) → map pair_in (xs ++ ys) ≡ map pair_in xs ++ map pair_in ys
  map-append [] ys = refl
  map-append (x ∷ xs) ys = ap (λ z. pair_in x ∷ z) (map-append xs ys)

  all-pairs : (is : List ℕ) → map pair_in (all_rows is) ≡ flat_map (λ i. map (λ j. (i, j)) (range_with_len (i + 1) (n - (i + 1)))) is
  unfolding all_rows
  all-pairs [] = refl
  all-pairs (i ∷ is) =
      map-append (row i (range_with_len (i + 1) (n - (i + 1)))) (all_rows is)
      ∙ (λ t. row-pairs i (range_with_len (i + 1) (n - (i + 1))) t ++ all-pairs is t)

  all-below : (a k : ℕ) → a + k ≤ n → ArePairsBelow n (all_rows (range_with_len a k))
  unfolding all_rows
  all-below a zero l = tt
  all-below a (suc k) l =
      pairs-append n (row a (range_with_len (a + 1) (n - (a + 1)))) (all_rows (range_with_len (a + 1) k))
      (row-below a (a + 1) (n - (a + 1)) (omega (arith, l)) (omega (arith, l))) (all-below (a + 1) k (omega (arith, l)))

  ways-rows : (is : List ℕ) → flat_map (λ d. map (λ ds. d ∷ ds) (ways ascending_low (ascending_high n 2) 1 (d ∷ []))) is ≡ all_rows is
  unfolding all_rows row
  ways-rows [] = refl
  ways-rows (d ∷ is) =
      let e : (n + 1 + 1 - 2) - (d + 1) ≡ n - (d + 1) = omega arith in
      (λ t. map (λ ds. d ∷ ds) (flat_map (λ e. map (λ ds. e ∷ ds) ([] ∷ [])) ((ap (numbers (d + 1)) e ∙ numbers-range (d + 1) (n - (d + 1))) t)) ++ ways-rows is t)

  -- the choices of two of n places
  choices : ways ascending_low (ascending_high n 2) 2 [] ≡ all_rows (range_with_len 0 (n - 1))
  choices =
      let e : (n + 1 + 0 - 2) - 0 ≡ n - 1 = omega arith in
      ways-rows (numbers 0 ((n + 1 + 0 - 2) - 0)) ∙ ap all_rows (ap (numbers 0) e ∙ numbers-range 0 (n - 1))

  pub choices-below : ArePairsBelow n (ways ascending_low (ascending_high n 2) 2 [])
  choices-below = subst (ArePairsBelow n) (sym choices) (all-below 0 (n - 1) (omega arith))

range-last : (a k : ℕ) → range_with_len a (suc k) ≡ range_with_len a k ++ (a + k) ∷ []
range-last a zero = let e : a ≡ a + 0 = omega arith in ap (λ x. x ∷ []) e
range-last a (suc k) = let e : (a + 1) + k ≡ a + suc k = omega arith in ap (λ z. a ∷ z) (range-last (a + 1) k ∙ ap (λ x. range_with_len (a + 1) k ++ x ∷ []) e)

-- the last place begins no pair
pairs-short : (n : ℕ) → flat_map (λ i. map (λ j. (i, j)) (range_with_len (i + 1) (n - (i + 1)))) (range_with_len 0 (n - 1)) ≡ pairs_of n
pairs-short zero = refl
pairs-short (suc n) =
    let G : ℕ → List (ℕ × ℕ) = λ i. map (λ j. (i, j)) (range_with_len (i + 1) (suc n - (i + 1))) in
    let e : suc n - 1 ≡ n = omega arith in
    let at : 0 + n ≡ n = omega arith in
    let none : suc n - (n + 1) ≡ 0 = omega arith in
    let last : G n ≡ [] = ap (λ k. map (λ j. (n, j)) (range_with_len (n + 1) k)) none in
    ap (λ k. flat_map G (range_with_len 0 k)) e
    ∙ sym (ap (flat_map G) (range-last 0 n) ∙ flat_map-append G (range_with_len 0 n) ((0 + n) ∷ [])
    ∙ ap (λ z. flat_map G (range_with_len 0 n) ++ z) (ap (λ k. flat_map G (k ∷ [])) at ∙ append-nil (G n) ∙ last) ∙ append-nil (flat_map G (range_with_len 0 n)))

pub choices-pairs : (n : ℕ) → map pair_in (ways ascending_low (ascending_high n 2) 2 []) ≡ pairs_of n
choices-pairs n = ap (map pair_in) (choices n) ∙ all-pairs n (range_with_len 0 (n - 1)) ∙ pairs-short n

-- what an iterator has left, after what is in the list
pub record ArePairsLeft (n : ℕ) (start all : List Candidate) (pool : List ℕ) (left : List (List ℕ)) : Type 0 where
  pub same_pool : pool ≡ range_with_len 0 n
  pub below : ArePairsBelow n left
  pub rest : all ++ flat_map powers_of (map pair_in left) ≡ start ++ flat_map powers_of (pairs_of n)

pub pairs-start : (n : ℕ) (start : List Candidate) (pool : List ℕ) (left : List (List ℕ)) (len : ℕ) → len ≡ n → pool ≡ range_with_len 0 n → left ≡ ways ascending_low (ascending_high len 2) 2 [] → ArePairsLeft n start start pool left
pairs-start n start pool left len el ep e =
    let at : left ≡ ways ascending_low (ascending_high n 2) 2 [] = e ∙ ap (λ k. ways ascending_low (ascending_high k 2) 2 []) el in record {
      same_pool = ep;
      below = subst (ArePairsBelow n) (sym at) (choices-below n);
      rest = ap (λ z. start ++ flat_map powers_of z) (ap (map pair_in) at ∙ choices-pairs n);
    }

place-is : (n d v : ℕ) → d < n → slice_index_or (range_with_len 0 n) d v ≡ d
place-is n d v l = get_or-range_with_len 0 n d v l ∙ omega arith

-- the pair that is read is that of the places
read-at : (n i j : ℕ) (vs rest : List ℕ) (u : ℕ × ℕ) → i < n → j < n → ClonesAt (λ x c. c ≡ x) (range_with_len 0 n) (i ∷ j ∷ []) vs → vs ≡ (u.0 ∷ u.1 ∷ []) ++ rest → (i, j) ≡ u
read-at n i j [] rest u li lj h e = absurd h
read-at n i j (v ∷ []) rest u li lj h e = absurd h.1
read-at n i j (v ∷ w ∷ []) rest u li lj h e =
    let first : u.0 ≡ v = cc in
    let second : u.1 ≡ w = cc in
    λ t. (sym (first ∙ h.0 ∙ place-is n i v li) t, sym (second ∙ h.1.0 ∙ place-is n j w lj) t)
read-at n i j (v ∷ w ∷ x ∷ vs) rest u li lj h e = absurd h.1.1

pub read-is : (n : ℕ) (pool ds : List ℕ) (u : ℕ × ℕ) → pool ≡ range_with_len 0 n → IsPairBelow n ds → reads_tuple (λ x c. c ≡ x) (λ t. t.0 ∷ t.1 ∷ []) pool ds u → pair_in ds ≡ u
read-is n pool ds u ep b r =
    let clones : ClonesAt (λ x c. c ≡ x) (range_with_len 0 n) (b.0 ∷ b.1 ∷ []) r.0 =
    subst (λ (p : List ℕ). ClonesAt (λ x c. c ≡ x) p (b.0 ∷ b.1 ∷ []) r.0) ep (subst (λ (es : List ℕ). ClonesAt (λ x c. c ≡ x) pool es r.0) b.2 r.1) in
    ap pair_in b.2 ∙ read-at n b.0 b.1 r.0 r.2 u b.3 b.4 clones r.3

pub pairs-next : (n : ℕ) (start all new : List Candidate) (pool pool' ds : List ℕ) (left left' : List (List ℕ)) (u : ℕ × ℕ) → pool ≡ pool' → left ≡ ds ∷ left' → reads_tuple (λ x c. c ≡ x) (λ t. t.0 ∷ t.1 ∷ []) pool ds u →
    new ≡ all ++ powers_of u → ArePairsLeft n start all pool left → ArePairsLeft n start new pool' left'
pairs-next n start all new pool pool' ds left left' u same e r more h =
    let both : ArePairsBelow n (ds ∷ left') = subst (ArePairsBelow n) e h.below in
    let at : pair_in ds ≡ u = read-is n pool ds u h.same_pool both.0 r in record {
      same_pool = sym same ∙ h.same_pool;
      below = both.1;
      rest =
          ap (λ z. z ++ flat_map powers_of (map pair_in left')) more
          ∙ append_assoc all (powers_of u) (flat_map powers_of (map pair_in left'))
          ∙ ap (λ z. all ++ (powers_of z ++ flat_map powers_of (map pair_in left'))) (sym at)
          ∙ ap (λ z. all ++ flat_map powers_of (map pair_in z)) (sym e)
          ∙ h.rest;
    }

pub pairs-end : (n : ℕ) (start all : List Candidate) (pool : List ℕ) (left : List (List ℕ)) → left ≡ [] → ArePairsLeft n start all pool left → all ≡ start ++ flat_map powers_of (pairs_of n)
pairs-end n start all pool left e h = sym (append-nil all) ∙ ap (λ z. all ++ flat_map powers_of (map pair_in z)) (sym e) ∙ h.rest

-- the powers of z are below 24
powers-append : (xs ys : List Candidate) → ArePowers xs → ArePowers ys → ArePowers (xs ++ ys)
powers-append [] ys a b = b
powers-append (x ∷ xs) ys a b = (a.0, powers-append xs ys a.1 b)

places-powers : (is : List ℕ) → ArePowers (map Place is)
places-powers [] = tt
places-powers (i ∷ is) = (tt, places-powers is)

pair-powers : (i j a k : ℕ) → a + k ≤ 24 → ArePowers (map (λ a. Pair i j a) (range_with_len a k))
pair-powers i j a zero l = tt
pair-powers i j a (suc k) l = (omega (arith, l), pair-powers i j (a + 1) k (omega (arith, l)))

pairs-powers : (ps : List (ℕ × ℕ)) → ArePowers (flat_map powers_of ps)
pairs-powers [] = tt
pairs-powers (p ∷ ps) = powers-append (powers_of p) (flat_map powers_of ps) (pair-powers p.0 p.1 0 24 (omega arith)) (pairs-powers ps)

pub all-powers : (n : ℕ) → ArePowers (candidates_of n)
unfolding candidates_of
all-powers n = powers-append (map Place (range_with_len 0 n)) (flat_map powers_of (pairs_of n)) (places-powers (range_with_len 0 n)) (pairs-powers (pairs_of n))

pub all-candidates : (n : ℕ) (first second : List Candidate) → first ≡ [] ++ map Place (range_with_len 0 n) → second ≡ first ++ flat_map powers_of (pairs_of n) → second ≡ candidates_of n
unfolding candidates_of
all-candidates n first second e d = d ∙ ap (λ z. z ++ flat_map powers_of (pairs_of n)) e

-- what a whole run over the numbers below n gives
pub range-run : (n : ℕ) (r : Range ℕ) (pool : List ℕ) → r ≡ record { start = 0; end = n } → WholeRun nat_range_steps r (λ p. pool ≡ p.items) → pool ≡ range_with_len 0 n
range-run n r pool e w =
    let p = w.0 in
    let t = took p in
    let last = t.2 w.2 in
    let drained : Drains nat_range_steps r p.items = (last.0, (t.0, subst (λ u. Yields nat_range_steps u p.items t.0) w.1 t.1, last.1)) in
    let none : n - 0 ≡ n = omega arith in
    let all : map (λ (x : ℕ). x) p.items ≡ range_with_len 0 n = gives_Drains nat_range_steps (λ x. x) p.items (range_with_len 0 n) r (YieldsList-from_range 0 n n e none).runs drained in
    w.3 ∙ sym (map-same p.items) ∙ all
  where
    map-same : (xs : List ℕ) → map (λ (x : ℕ). x) xs ≡ xs
    map-same [] = refl
    map-same (x ∷ xs) = ap (λ z. x ∷ z) (map-same xs)
