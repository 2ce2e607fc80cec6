-- Steps of the closing loop.
use Rattle.std.proofs.Common.{◌≡◌, refl, sym, ap, ◌∙◌, subst, ℕ, suc, ◌+◌, ◌<◌, ◌≤◌, ◌⊎◌, inl, inr, Bool, true, false, ℤ, pos, List, [], ◌∷◌, ◌++◌, length, get_or, arith, length-append, below_more}
use Rattle.std.proofs.lemmas.Int.{ints}
use Rattle.std.proofs.lemmas.List.{get_or_append_left, get_or_push}
use Rattle.space_ops.proofs.KeepLemmas.{zero_least}
use Rattle.space_ops.specs.declared.op.Op.{Op}
use Rattle.space_ops.specs.declared.lattice.Lattice.{Lattice}
use Rattle.algebra.specs.Whole.{whole}
use Rattle.space_ops.specs.Seitz.{Seitz, seitz_product, seitz_identity}
use Rattle.space_ops.specs.Op.{seitz_of, identity_op, IsWithin, IsSmallMatrix}
use Rattle.space_ops.specs.Words.{op_at, vector_difference, IsLatticeVector, IsWord, HasTooManyRotations, HasExtraTranslation}
use Rattle.space_ops.specs.WordLaws.{AreUnimodular, word-identity, word-step, word-product, word-same, extra-from_difference}
use Rattle.space_ops.specs.LeastShift.{IsShaped, IsLeastShift, IsLeastOp}
use Rattle.space_ops.specs.LeastShiftLaws.{least-unique, least-itself}
use Rattle.space_ops.specs.Closing.{AreHeld, IsMet, IsClosing, IsNew, IsFound, IsHolding, IsPastLimits}
use Rattle.space_ops.specs.LatticeLaws.{differ-sym}

pub op_old : (H : List Op) (x : Op) (i : ℕ) → i < length H → get_or (H ++ x ∷ []) i identity_op ≡ get_or H i identity_op
op_old H x i l = get_or_append_left H (x ∷ []) identity_op i l

pub op_new : (H : List Op) (x : Op) (i : ℕ) → i ≡ length H → get_or (H ++ x ∷ []) i identity_op ≡ x
op_new H x i e = get_or_push H x identity_op i (sym e)

pub length_more : (H : List Op) (x : Op) → length (H ++ x ∷ []) ≡ suc (length H)
length_more H x = let e : length (H ++ x ∷ []) ≡ length H + 1 = length-append H (x ∷ []) in omega arith

old_or_new : (i n : ℕ) → i < suc n → (i < n) ⊎ (i ≡ n)
old_or_new i n l = grind arith

-- what holds of each member and of one more
pub each-more : (P : Op → Type 0) (H : List Op) (x : Op) → ((i : ℕ) → i < length H → P (get_or H i identity_op)) → P x
    → (i : ℕ) → i < suc (length H) → P (get_or (H ++ x ∷ []) i identity_op)
each-more P H x h p i l = elim (old_or_new i (length H) l) [
  | inl k ↦ subst P (sym (op_old H x i k)) (h i k)
  | inr e ↦ subst P (sym (op_new H x i e)) p
]

apart-more : (H : List Op) (x : Op) → ((i j : ℕ) → i < length H → j < length H → (op_at H i).rot ≡ (op_at H j).rot → i ≡ j) → IsNew H x
    → (i j : ℕ) → i < suc (length H) → j < suc (length H) → (op_at (H ++ x ∷ []) i).rot ≡ (op_at (H ++ x ∷ []) j).rot → i ≡ j
apart-more H x a new i j l m e = elim (old_or_new i (length H) l) [
  | inl k ↦ elim (old_or_new j (length H) m) [
    | inl n ↦ a i j k n (sym (rot (op_old H x i k)) ∙ e ∙ rot (op_old H x j n))
    | inr n ↦ absurd (new i k (sym (rot (op_old H x i k)) ∙ e ∙ rot (op_new H x j n)))
  ]
  | inr k ↦ elim (old_or_new j (length H) m) [
    | inl n ↦ absurd (new j n (sym (rot (op_old H x j n)) ∙ sym e ∙ rot (op_new H x i k)))
    | inr n ↦ k ∙ sym n
  ]
] where
  rot : {a b : Op} → a ≡ b → (seitz_of a).rot ≡ (seitz_of b).rot
  rot e = ap (λ (o : Op). (seitz_of o).rot) e

module _ (S : List Op) (L : Lattice) where
  -- one more member
  are-more : (H : List Op) (x : Op) → AreHeld S L H → IsWord S L (seitz_of x) → IsLeastShift L (seitz_of x).shift (seitz_of x).shift → IsShaped x
      → IsSmallMatrix (seitz_of x).rot → length H < 48 → IsNew H x → AreHeld S L (H ++ x ∷ [])
  are-more H x a w lx sx small room new = let n = length_more H x in record {
    some = omega arith;
    few = omega arith;
    identity = ap seitz_of (op_old H x 0 a.some) ∙ a.identity;
    are_words = λ i l. each-more (λ o. IsWord S L (seitz_of o)) H x a.are_words w i (omega arith);
    small = λ i l. each-more (λ o. IsSmallMatrix (seitz_of o).rot) H x a.small small i (omega arith);
    least = λ i l. each-more (λ o. IsLeastShift L (seitz_of o).shift (seitz_of o).shift) H x a.least lx i (omega arith);
    shaped = λ i l. each-more IsShaped H x a.shaped sx i (omega arith);
    apart = λ i j l m e. apart-more H x a.apart new i j (omega arith) (omega arith) e;
  }

  met-more : (H : List Op) (x : Op) (c c' : Bool) (g : Seitz ℤ) → (c' ≡ false → c ≡ false) → IsMet L H c g → IsMet L (H ++ x ∷ []) c' g
  met-more H x c c' g f m = let n = length_more H x in let e = ap seitz_of (op_old H x m.place m.below) in record {
    place = m.place;
    below = omega arith;
    rotation = m.rotation ∙ sym (ap (λ (o : Seitz ℤ). o.rot) e);
    same = λ z. subst (λ (o : Seitz ℤ). IsLatticeVector L (vector_difference g.shift o.shift)) (sym e) (m.same (f z));
  }

  met-same : (H : List Op) (c c' : Bool) (g : Seitz ℤ) → (c' ≡ false → c ≡ false) → IsMet L H c g → IsMet L H c' g
  met-same H c c' g f m = record { place = m.place; below = m.below; rotation = m.rotation; same = λ z. m.same (f z) }

  -- the product with its least translation is a word
  least-word : (g : Seitz ℤ) (x : Op) → IsWord S L g → IsLeastOp L g x → IsWord S L (seitz_of x)
  least-word g x w l = word-same S L (seitz_of x) g w (record { rotation = l.rotation; translation = l.translation.same })

  -- a product is met by the one that is held in its place
  met-found : (H : List Op) (x : Op) (d : Bool) (g : Seitz ℤ) → IsLeastOp L g x → IsFound H H x d → IsMet L H d g
  met-found H x d g l f = record {
    place = f.place;
    below = f.below;
    rotation = sym l.rotation ∙ sym f.rotation;
    same = λ z. subst (λ t. IsLatticeVector L (vector_difference g.shift t)) (sym (f.agrees z)) (differ-sym L (seitz_of x).shift g.shift l.translation.same);
  }

  met-added : (H : List Op) (x : Op) (d : Bool) (g : Seitz ℤ) → IsLeastOp L g x → IsMet L (H ++ x ∷ []) d g
  met-added H x d g l = let n = length_more H x in let e = ap seitz_of (op_new H x (length H) refl) in record {
    place = length H;
    below = omega arith;
    rotation = sym l.rotation ∙ sym (ap (λ (o : Seitz ℤ). o.rot) e);
    same = λ z. subst (λ (o : Seitz ℤ). IsLatticeVector L (vector_difference g.shift o.shift)) (sym e) (differ-sym L (seitz_of x).shift g.shift l.translation.same);
  }

  -- a conflict is an extra translation
  found-extra : AreUnimodular S → (H : List Op) (x : Op) (d : Bool) (g : Seitz ℤ) → AreHeld S L H → IsWord S L g → IsLeastOp L g x → IsFound H H x d → d ≡ true → HasExtraTranslation S L
  found-extra u H x d g a w l f z =
      extra-from_difference S L u (op_at H f.place) (seitz_of x) (a.are_words f.place f.below) (least-word g x w l) f.rotation
      (λ k. f.differs z (least-unique L (op_at H f.place).shift (seitz_of x).shift (op_at H f.place).shift (seitz_of x).shift (a.least f.place f.below) (least-itself L g.shift (seitz_of x).shift l.translation) k))

  -- what a step of the inner loop gives
  abbrev pub Next : List Op → List Op → Bool → ℕ → ℕ → Type 0
  Next H H' c n k = IsClosing S L H' c n (k + 1) × (length H ≤ length H')

  next-found : AreUnimodular S → (H : List Op) (c d c' : Bool) (n k : ℕ) (x : Op) → (c' ≡ false → (c ≡ false) × (d ≡ false)) → (c' ≡ true → (c ≡ true) ⊎ (d ≡ true))
      → IsClosing S L H c n k → n < length H → k < length S → IsLeastOp L (seitz_product whole (op_at H n) (op_at S k)) x → IsFound H H x d → Next H H c' n k
  next-found u H c d c' n k x f t h ln lk l m =
      let g = seitz_product whole (op_at H n) (op_at S k) in
      let w : IsWord S L g = word-product S L (op_at H n) (op_at S k) (h.are.are_words n ln) (word-step S L (op_at S k) (inl (k, lk, refl))) in (
        record {
          are = h.are;
          done = λ i s li ls. met-same H c c' _ (λ z. (f z).0) (h.done i s li ls);
          part = below_more _ _ (λ s ls. met-same H c c' _ (λ z. (f z).0) (h.part s ls)) (met-same H d c' g (λ z. (f z).1) (met-found H x d g l m));
          extra = λ z. elim (t z) [ inl p ↦ h.extra p | inr p ↦ found-extra u H x d g h.are w l m p ];
        },
        omega arith,
      )

  next-added : (H : List Op) (c d c' : Bool) (n k : ℕ) (x : Op) → (c' ≡ false → (c ≡ false) × (d ≡ false)) → (c' ≡ true → (c ≡ true) ⊎ (d ≡ true))
      → IsClosing S L H c n k → n < length H → k < length S → IsLeastOp L (seitz_product whole (op_at H n) (op_at S k)) x → IsShaped x
      → IsSmallMatrix (seitz_of x).rot → length H < 48 → IsNew H x → d ≡ false → Next H (H ++ x ∷ []) c' n k
  next-added H c d c' n k x f t h ln lk l shaped small room new df =
      let g = seitz_product whole (op_at H n) (op_at S k) in
      let w : IsWord S L g = word-product S L (op_at H n) (op_at S k) (h.are.are_words n ln) (word-step S L (op_at S k) (inl (k, lk, refl))) in
      let m = length_more H x in (
        record {
          are = are-more H x h.are (least-word g x w l) (least-itself L g.shift (seitz_of x).shift l.translation) shaped small room new;
          done = λ i s li ls. from_old i s (omega arith) (met-more H x c c' _ (λ z. (f z).0) (h.done i s li ls));
          part = below_more _ _ (λ s ls. from_old n s ln (met-more H x c c' _ (λ z. (f z).0) (h.part s ls))) (from_old n k ln (met-added H x c' g l));
          extra = λ z. elim (t z) [ inl p ↦ h.extra p | inr p ↦ absurd (differ d df p) ];
        },
        omega arith,
      )
    where
      from_old : (i s : ℕ) → i < length H → IsMet L (H ++ x ∷ []) c' (seitz_product whole (op_at H i) (op_at S s)) → IsMet L (H ++ x ∷ []) c' (seitz_product whole (op_at (H ++ x ∷ []) i) (op_at S s))
      from_old i s l h = subst (λ (o : Op). IsMet L (H ++ x ∷ []) c' (seitz_product whole (seitz_of o) (op_at S s))) (sym (op_old H x i l)) h

      differ : (b : Bool) → b ≡ false → b ≡ true → ⊥
      differ b e f = let h : false ≡ true = sym e ∙ f in cc

  pub next : AreUnimodular S → (H H' : List Op) (c d c' : Bool) (n k : ℕ) (x : Op) → (c' ≡ false → (c ≡ false) × (d ≡ false)) → (c' ≡ true → (c ≡ true) ⊎ (d ≡ true))
      → IsClosing S L H c n k → n < length H → k < length S → IsLeastOp L (seitz_product whole (op_at H n) (op_at S k)) x → IsShaped x → IsHolding H H' x d → Next H H' c' n k
  next u H H' c d c' n k x f t h ln lk l shaped (inl m) =
      subst (λ (y : List Op). Next H y c' n k) (sym m.unchanged)
      (next-found u H c d c' n k x f t h ln lk l (record { unchanged = refl; place = m.place; below = m.below; rotation = m.rotation; agrees = m.agrees; differs = m.differs }))
  next u H H' c d c' n k x f t h ln lk l shaped (inr m) =
      subst (λ (y : List Op). Next H y c' n k) (sym m.added) (next-added H c d c' n k x f t h ln lk l shaped m.small m.room m.new m.none)

  -- a product past the limits: too many rotations
  pub many : (H : List Op) (c : Bool) (n k : ℕ) (x : Op) → IsClosing S L H c n k → n < length H → k < length S
      → IsLeastOp L (seitz_product whole (op_at H n) (op_at S k)) x → IsPastLimits H x → HasTooManyRotations S L
  many H c n k x h ln lk l p =
      let g = seitz_product whole (op_at H n) (op_at S k) in
      let w : IsWord S L (seitz_of x) = least-word g x (word-product S L (op_at H n) (op_at S k) (h.are.are_words n ln) (word-step S L (op_at S k) (inl (k, lk, refl)))) l in
      elim p [
        | inl q ↦ inr (record { large = (seitz_of x).rot; is_word = record { element = seitz_of x; is_word = w; rotation = refl }; not_small = q })
        | inr q ↦ inl (record {
          number = λ i. (op_at (H ++ x ∷ []) i).rot;
          are_words = λ i li. record { element = op_at (H ++ x ∷ []) i; is_word = each-more (λ o. IsWord S L (seitz_of o)) H x h.are.are_words w i (omega (arith, h.are.few, q.0)); rotation = refl };
          apart = λ i j li lj e. apart-more H x h.are.apart q.1 i j (omega (arith, h.are.few, q.0)) (omega (arith, h.are.few, q.0)) e;
        })
      ]

  -- the products of the next one are met
  pub row-done : (H : List Op) (c : Bool) (n : ℕ) → IsClosing S L H c n (length S) → IsClosing S L H c (n + 1) 0
  row-done H c n h = record {
    are = h.are;
    done = λ i s l m. below_more (λ i. IsMet L H c (seitz_product whole (op_at H i) (op_at S s))) n (λ i l. h.done i s l m) (h.part s m) i l;
    part = λ s l. absurd (omega arith);
    extra = h.extra;
  }

  -- the list of the identity alone
  pub start : (x : Op) → seitz_of x ≡ seitz_identity whole → IsShaped x → IsSmallMatrix (seitz_of x).rot → IsLeastShift L (seitz_of x).shift (seitz_of x).shift → IsClosing S L (x ∷ []) false 0 0
  start x e s m l = record {
    are = record {
      some = omega arith;
      few = omega arith;
      identity = e;
      are_words = λ i k. one (λ o. IsWord S L (seitz_of o)) (subst (IsWord S L) (sym e) (word-identity S L)) i k;
      small = λ i k. one (λ o. IsSmallMatrix (seitz_of o).rot) m i k;
      least = λ i k. one (λ o. IsLeastShift L (seitz_of o).shift (seitz_of o).shift) l i k;
      shaped = λ i k. one IsShaped s i k;
      apart = λ i j li lj d. omega arith;
    };
    done = λ i s l m. absurd (omega arith);
    part = λ s l. absurd (omega arith);
    extra = λ z. cc;
  } where
    one : (P : Op → Type 0) → P x → (i : ℕ) → i < 1 → P (get_or (x ∷ []) i identity_op)
    one P p i l = let z : i ≡ 0 = omega arith in subst (λ i. P (get_or (x ∷ []) i identity_op)) (sym z) p

zero_within : IsWithin 3 (pos 0)
zero_within = (omega (arith, ints), omega (arith, ints))

one_within : IsWithin 3 (pos 1)
one_within = (omega (arith, ints), omega (arith, ints))

pub identity-start : (S : List Op) (L : Lattice) → IsClosing S L (identity_op ∷ []) false 0 0
identity-start S L =
    start S L identity_op refl refl ((one_within, zero_within, zero_within), (zero_within, one_within, zero_within), (zero_within, zero_within, one_within)) (zero_least L)
