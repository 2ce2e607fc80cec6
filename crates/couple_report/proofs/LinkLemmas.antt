-- A link by its first nonzero average is one.
use Rattle.std.proofs.Common.{◌≡◌, refl, sym, ap, ◌∙◌, subst, inl, inr, ℕ, zero, suc, ◌<◌, ◌≤◌, ◌⊎◌, List, [], ◌∷◌, length, get_or, arith}
use Rattle.std.proofs.lemmas.Bool.{cases_order}
use Rattle.std.proofs.lemmas.List.{same_lists, get_or_default}
use Rattle.algebra.specs.NumberedGroup.{Group}
use Rattle.cyclo24.specs.FieldOn.{FieldOn}
use Rattle.cyclo24.specs.TotalLaws.{total-same}
use Rattle.lin_alg.specs.Reduced.{IsForm}
use Rattle.lin_alg.specs.Solving.{plain_rows}
use Rattle.lin_alg.specs.SpanLaws.{reduced-unique}
use Rattle.lin_alg.specs.Spans.{row_vectors, IsInSpan, AreSame}
use Rattle.couple.specs.Links.{Pair, Intertwines, IsZero, single, average, IsLink, HasRank}

module _ {K : Type 0} (f : FieldOn K) where
  -- two matrices agree in their first n rows
  abbrev pub AgreeTo : ℕ → (ℕ → ℕ → K) → (ℕ → ℕ → K) → Type 0
  AgreeTo n X Y = (a b : ℕ) → a < n → X a b ≡ Y a b

  rows-same : (n : ℕ) (X Y : ℕ → ℕ → K) → AgreeTo n X Y → plain_rows X n ≡ plain_rows Y n
  rows-same zero X Y e = refl
  rows-same (suc n) X Y e = λ t. (λ b. e n b (omega arith) t) ∷ rows-same n X Y (λ a b l. e a b (omega (arith, l))) t

  pub rank-moved : (n w r : ℕ) (X Y : ℕ → ℕ → K) → AgreeTo n X Y → HasRank f n w X r → HasRank f n w Y r
  rank-moved n w r X Y e h =
      let P : List (ℕ → K) → Type 0 = λ vs. (rs : List (ℕ × (ℕ → K))) × IsForm f w rs × AreSame (IsInSpan f (row_vectors rs)) (IsInSpan f vs) × (length rs ≡ r) in
      subst P (rows-same n X Y e) h

  pub rank-one : (n w r s : ℕ) (X : ℕ → ℕ → K) → HasRank f n w X r → HasRank f n w X s → r ≡ s
  rank-one n w r s X (rs, a, b, e) (ss, c, d, h) =
      sym e ∙ ap (λ ts. length ts) (reduced-unique f rs ss a.reduced c.reduced (λ x k. (d x).1 ((b x).0 k)) (λ x k. (b x).1 ((d x).0 k))) ∙ h

  pub intertwines-moved : (p : Pair K) (X Y : ℕ → ℕ → K) → AgreeTo p.rows X Y → Intertwines f p X → Intertwines f p Y
  intertwines-moved p X Y e h q a b lq la lb =
      total-same f p.rows _ _ (λ k l. ap (f.times (p.left q a k)) (sym (e k b l))) ∙ h q a b lq la lb
      ∙ total-same f p.cols _ _ (λ k l. ap (λ x. f.times x (p.right q k b)) (e a k la))

  pub link-moved : (p : Pair K) (X Y : ℕ → ℕ → K) → AgreeTo p.rows X Y → IsLink f p X → IsLink f p Y
  link-moved p X Y e h = record {
    i = h.i;
    is_row = h.is_row;
    j = h.j;
    is_column = h.is_column;
    before = h.before;
    average = λ a b la lb. sym (e a b la) ∙ h.average a b la lb;
    within = λ a la j lj. sym (e a j la) ∙ h.within a la j lj;
    nonzero = λ z. h.nonzero (λ a b la lb. e a b la ∙ z a b la lb);
  }

  -- ---- rows of numbers

  abbrev pub entry_at : List (List K) → ℕ → ℕ → K
  entry_at rows a b = get_or (get_or rows a []) b f.nought

  row-one : (w : ℕ) (xs ys : List K) → length xs ≡ w → length ys ≡ w → ((b : ℕ) → b < w → get_or xs b f.nought ≡ get_or ys b f.nought) → xs ≡ ys
  row-one w xs ys p q e =
      same_lists xs ys (p ∙ sym q)
      (λ k d l.
      let lw : k < w = omega (arith, l, p) in
      let ly : k < length ys = omega (arith, l, p, q) in
      get_or_default xs k d f.nought l ∙ e k lw ∙ get_or_default ys k f.nought d ly)

  pub lists-one : (n w : ℕ) (xs ys : List (List K)) → length xs ≡ n → length ys ≡ n → ((a : ℕ) → a < n → length (get_or xs a []) ≡ w) → ((a : ℕ) → a < n → length (get_or ys a []) ≡ w)
      → ((a b : ℕ) → a < n → b < w → entry_at xs a b ≡ entry_at ys a b) → xs ≡ ys
  lists-one n w xs ys p q u v e =
      same_lists xs ys (p ∙ sym q)
      (λ k d l.
      let ln : k < n = omega (arith, l, p) in
      let ly : k < length ys = omega (arith, l, p, q) in
      get_or_default xs k d [] l ∙ row-one w (get_or xs k []) (get_or ys k []) (u k ln) (v k ln) (λ b lb. e k b ln lb) ∙ get_or_default ys k [] d ly)

  -- ---- two pairs of representations that agree

  abbrev pub pair_with : Group → ℕ → ℕ → (ℕ → ℕ → ℕ → K) → (ℕ → ℕ → ℕ → K) → Pair K
  pair_with g n m L R = record { group = g; rows = n; cols = m; left = L; right = R }

  module _ (g : Group) (n m : ℕ) (L M R S : ℕ → ℕ → ℕ → K) (left : (q a b : ℕ) → a < n → b < n → L q a b ≡ M q a b) (right : (q a b : ℕ) → a < m → b < m → R q a b ≡ S q a b) where
    abbrev p : Pair K
    p = pair_with g n m L R

    abbrev r : Pair K
    r = pair_with g n m M S

    averages-same : (i j a b : ℕ) → a < n → b < m → average f p i j a b ≡ average f r i j a b
    averages-same i j a b la lb =
        total-same f g.order _ _ (λ q l.
        total-same f m _ _ (λ k lk. λ t.
        f.times (total-same f n (λ c. f.times (L q a c) (single f i j c k)) (λ c. f.times (M q a c) (single f i j c k)) (λ c lc. ap (λ x. f.times x (single f i j c k)) (left q a c la lc)) t) (right (g.inverse q) k b lk lb t)))

    zero-to : (i j : ℕ) → IsZero f p (average f p i j) → IsZero f r (average f r i j)
    zero-to i j z a b la lb = sym (averages-same i j a b la lb) ∙ z a b la lb

    pub intertwines-to : (X : ℕ → ℕ → K) → Intertwines f p X → Intertwines f r X
    intertwines-to X h q a b lq la lb =
        total-same f n _ _ (λ k l. ap (λ x. f.times x (X k b)) (sym (left q a k la l))) ∙ h q a b lq la lb ∙ total-same f m _ _ (λ k l. ap (f.times (X a k)) (right q k b l lb))

  module _ (g : Group) (n m : ℕ) (L M R S : ℕ → ℕ → ℕ → K) (left : (q a b : ℕ) → a < n → b < n → L q a b ≡ M q a b) (right : (q a b : ℕ) → a < m → b < m → R q a b ≡ S q a b) where
    -- the average of the one is before that of the other, and so it is zero
    never-before : (X Y : ℕ → ℕ → K) (x : IsLink f (pair_with g n m L R) X) (y : IsLink f (pair_with g n m M S) Y) → (x.i < y.i) ⊎ ((x.i ≡ y.i) × (x.j < y.j)) → ⊥
    never-before X Y x y l =
        x.nonzero (λ a b la lb. x.average a b la lb ∙ averages-same g n m L M R S left right x.i x.j a b la lb ∙ y.before x.i x.j x.is_row x.is_column l a b la lb)

  module _ (g : Group) (n m : ℕ) (L M R S : ℕ → ℕ → ℕ → K) (left : (q a b : ℕ) → a < n → b < n → L q a b ≡ M q a b) (right : (q a b : ℕ) → a < m → b < m → R q a b ≡ S q a b) where
    -- both links are of one average
    pub links-one : (X Y : ℕ → ℕ → K) → IsLink f (pair_with g n m L R) X → IsLink f (pair_with g n m M S) Y → AgreeTo n X Y
    links-one X Y x y a b la = cases (cases_order x.i y.i) (cases_order x.j y.j)
      where
        first : (x.i < y.i) ⊎ ((x.i ≡ y.i) × (x.j < y.j)) → ⊥
        first = never-before g n m L M R S left right X Y x y

        second : (y.i < x.i) ⊎ ((y.i ≡ x.i) × (y.j < x.j)) → ⊥
        second = never-before g n m M L S R (λ q c d lc ld. sym (left q c d lc ld)) (λ q c d lc ld. sym (right q c d lc ld)) Y X y x

        equal : x.i ≡ y.i → x.j ≡ y.j → (b < m) ⊎ (m ≤ b) → X a b ≡ Y a b
        equal e h (inl lb) =
            x.average a b la lb ∙ averages-same g n m L M R S left right x.i x.j a b la lb
            ∙ (λ t. average f (pair_with g n m M S) (e t) (h t) a b) ∙ sym (y.average a b la lb)
        equal e h (inr lb) = x.within a la b lb ∙ sym (y.within a la b lb)

        side : (b ≡ m) ⊎ ((b < m) ⊎ (m < b)) → (b < m) ⊎ (m ≤ b)
        side (inl e) = inr (omega (arith, e))
        side (inr (inl l)) = inl l
        side (inr (inr l)) = inr (omega (arith, l))

        cases : (x.i ≡ y.i) ⊎ ((x.i < y.i) ⊎ (y.i < x.i)) → (x.j ≡ y.j) ⊎ ((x.j < y.j) ⊎ (y.j < x.j)) → X a b ≡ Y a b
        cases (inr (inl l)) k = absurd (first (inl l))
        cases (inr (inr l)) k = absurd (second (inl l))
        cases (inl e) (inr (inl l)) = absurd (first (inr (e, l)))
        cases (inl e) (inr (inr l)) = absurd (second (inr (sym e, l)))
        cases (inl e) (inl h) = equal e h (side (cases_order b m))
