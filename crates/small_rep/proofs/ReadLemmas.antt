-- The lines that were read so far.
use Rattle.std.proofs.Common.{◌≡◌, refl, sym, ap, ◌∙◌, subst, ℕ, ◌<◌, ◌+◌, ◌*◌, true, false, inl, inr, List, [], ◌∷◌, ◌++◌, length, get_or, below_more, arith}
use Rattle.std.proofs.lemmas.Bool.{both_ways, cases_eq}
use Rattle.std.proofs.lemmas.List.{length-append, get_or_append_left, get_or_default}
use Rattle.std.proofs.Math.Seq.{get_or-append_seam}
use Rattle.iso_text.specs.declared.sections.MatText.{MatText}
use Rattle.cyclo24.specs.declared.z24.Z24.{Z24}
use Rattle.cyclo24.specs.ExactZ24.{z24_laws}
use Rattle.cyclo24.specs.Terms.{terms_value}
use Rattle.cyclo24.specs.Z24.{exact_z24}
use Rattle.lin_alg.specs.Matrix.{MatrixView, entry}
use Rattle.space_ops.specs.declared.op.Op.{Op}
use Rattle.space_ops.specs.Op.{seitz_of, identity_op}
use Rattle.space_ops.specs.Group.{Parent}
use Rattle.kstar.specs.Star.{WaveStar}
use Rattle.space_ops.specs.Member.{rotation_of}
use Rattle.small_rep.specs.SmallRep.{IsLittleOp, carried, is_listed}
use Rattle.small_rep.specs.LittleMatrixLaws.{contains-listed, listed-contains}
use Rattle.small_rep.specs.declared.errors.RepError.{RepError}
use Rattle.small_rep.specs.declared.errors.RepError.TheVariants.{NotLittle, RotationTwice, RotationMissing, NotUnit, NotMultiplying, NotIrreducible, Wide, NoMemory}
use Rattle.small_rep.specs.Reading.{op_of_text, no_line, operation_at, rotation_at, carried_at, AreGoodLines, IsWideAt, IsReadCause}
use Rattle.small_rep.specs.Rep.{no_matrix}
use Rattle.small_rep.specs.LinesRead.{AreRead, IsLineCause}

length_more : {A : Type 0} (xs : List A) (x : A) (n : ℕ) → length xs ≡ n → length (xs ++ x ∷ []) ≡ n + 1
length_more xs x n e = let f : length (xs ++ x ∷ []) ≡ length xs + 1 = length-append xs (x ∷ []) in omega (arith, e, f)

-- what holds of each element, and of one more
pushed_at : {A : Type 0} (xs : List A) (x d : A) (n : ℕ) (P : ℕ → A → Type 0) → length xs ≡ n → ((i : ℕ) → i < n → P i (get_or xs i d)) → P n x → (i : ℕ) → i < n + 1 → P i (get_or (xs ++ x ∷ []) i d)
pushed_at xs x d n P e h a =
    below_more (λ i. P i (get_or (xs ++ x ∷ []) i d)) n
    (λ i l. subst (P i) (sym (get_or_append_left xs (x ∷ []) d i (subst (λ m. i < m) (sym e) l))) (h i l))
    (subst (λ m. P m (get_or (xs ++ x ∷ []) m d)) e (subst2 (P (length xs)) (sym (get_or-append_seam xs x [] d)) (subst (λ m. P m x) (sym e) a)))
  where
    subst2 : {B : Type 0} (Q : B → Type 0) {u v : B} → u ≡ v → Q u → Q v
    subst2 Q e q = subst Q e q

-- the listed operations of the numbers of a list, and of one number more
pub ops_more : (ops : List Op) (numbers : List ℕ) (n : ℕ) (xs xs' : List Op) (x : Op) → xs' ≡ xs ++ x ∷ [] → length xs ≡ n
    → ((i : ℕ) → i < n → get_or xs i identity_op ≡ get_or ops (get_or numbers i 0) identity_op) → x ≡ get_or ops (get_or numbers n 0) identity_op
    → (length xs' ≡ n + 1) × ((i : ℕ) → i < n + 1 → get_or xs' i identity_op ≡ get_or ops (get_or numbers i 0) identity_op)
ops_more ops numbers n xs xs' x g c h e = (
  ap length g ∙ length_more xs x n c,
  λ i l. ap (λ (ys : List Op). get_or ys i identity_op) g ∙ pushed_at xs x identity_op n (λ i (y : Op). y ≡ get_or ops (get_or numbers i 0) identity_op) c h e i l,
)

module _ (p : Parent) (s : WaveStar) (n : ℕ) (mats : List MatText) where
  pub read-none : AreRead p s n mats 0 [] []
  read-none = record {
    good = record { little = λ i l. absurd (omega (arith, l)); apart = λ i j l m. absurd (omega (arith, m)) };
    rotation_count = refl;
    matrix_count = refl;
    rotation = λ i l. absurd (omega (arith, l));
    rows = λ i l. absurd (omega (arith, l));
    cols = λ i l. absurd (omega (arith, l));
    entries = λ i x y l. absurd (omega (arith, l));
  }

  module _ (l : ℕ) (rotations : List ℕ) (matrices : List (MatrixView Z24)) (h : AreRead p s n mats l rotations matrices) where
    -- a rotation that was read stands on an earlier line
    pub earlier : (r : ℕ) → is_listed rotations r ≡ true → (i : ℕ) × (i < l) × (rotation_at p mats i ≡ r)
    earlier r t =
        let c = listed-contains rotations r t in
        let b : c.0 < l = subst (λ m. c.0 < m) h.rotation_count c.1 in
        (c.0, b, sym (h.rotation c.0 b) ∙ get_or_default rotations c.0 0 r c.1 ∙ c.2)

    pub later : (i r : ℕ) → i < l → rotation_at p mats i ≡ r → is_listed rotations r ≡ true
    later i r b e =
        let c = subst (λ m. i < m) (sym h.rotation_count) b in
        contains-listed rotations r (i, c, get_or_default rotations i r 0 c ∙ h.rotation i b ∙ e)

    good-more : IsLittleOp p s (operation_at mats l) → is_listed rotations (rotation_at p mats l) ≡ false → AreGoodLines p s mats (l + 1)
    good-more a t = record {
      little = below_more (λ i. IsLittleOp p s (operation_at mats i)) l h.good.little a;
      apart = λ i j b c e. elim (cases_eq j l) [
        | inl q ↦ both_ways (is_listed rotations (rotation_at p mats l)) t (later i (rotation_at p mats l) (omega (arith, b, q)) (e ∙ ap (rotation_at p mats) q))
        | inr q ↦ h.good.apart i j b (omega (arith, c, q)) e
      ];
    }

    pub read-more : (m : MatText) → m ≡ get_or mats l no_line → IsLittleOp p s (seitz_of (op_of_text m.op)) → (r : ℕ) → r ≡ rotation_of p (seitz_of (op_of_text m.op)) → is_listed rotations r ≡ false
        → (a : MatrixView Z24) → a.rows ≡ n → a.cols ≡ n
        → ((x y : ℕ) → x < n → y < n → entry z24_laws exact_z24 a x y ≡ carried p s (seitz_of (op_of_text m.op)) (terms_value (get_or m.entries (x * n + y) [])))
        → (rotations' : List ℕ) (matrices' : List (MatrixView Z24)) → rotations' ≡ rotations ++ r ∷ [] → matrices' ≡ matrices ++ a ∷ []
        → AreRead p s n mats (l + 1) rotations' matrices'
    read-more m e little r f t a er ec ee rotations' matrices' g k =
        let number : r ≡ rotation_at p mats l = f ∙ ap (λ (z : MatText). rotation_of p (seitz_of (op_of_text z.op))) e in
        subst (λ xs. AreRead p s n mats (l + 1) xs matrices') (sym g) (subst (λ ys. AreRead p s n mats (l + 1) (rotations ++ r ∷ []) ys) (sym k) (record {
          good = good-more (subst (λ (z : MatText). IsLittleOp p s (seitz_of (op_of_text z.op))) e little) (subst (λ x. is_listed rotations x ≡ false) number t);
          rotation_count = length_more rotations r l h.rotation_count;
          matrix_count = length_more matrices a l h.matrix_count;
          rotation = pushed_at rotations r 0 l (λ i x. x ≡ rotation_at p mats i) h.rotation_count h.rotation number;
          rows = pushed_at matrices a no_matrix l (λ i (b : MatrixView Z24). b.rows ≡ n) h.matrix_count h.rows er;
          cols = pushed_at matrices a no_matrix l (λ i (b : MatrixView Z24). b.cols ≡ n) h.matrix_count h.cols ec;
          entries = λ i x y b lx ly.
              pushed_at matrices a no_matrix l (λ i (z : MatrixView Z24). entry z24_laws exact_z24 z x y ≡ carried_at p s n mats i x y) h.matrix_count (λ i c. h.entries i x y c lx ly)
              (ee x y lx ly ∙ ap (λ (z : MatText). carried p s (seitz_of (op_of_text z.op)) (terms_value (get_or z.entries (x * n + y) []))) e) i b;
        }))

    -- why a line is refused tells why the block is
    pub block_cause : (m : MatText) → m ≡ get_or mats l no_line → l < length mats → (e : RepError) → IsLineCause p s m rotations e → IsReadCause p s mats e
    block_cause m e b (NotLittle k) c = record {
      place = l;
      listed = b;
      before = h.good;
      number = c.0 ∙ ap (λ (z : MatText). z.line) e;
      apart = λ q. c.1 (subst (λ (z : MatText). IsLittleOp p s (seitz_of (op_of_text z.op))) (sym e) q);
    }
    block_cause m e b (RotationTwice k) c =
        let w = earlier (rotation_of p (seitz_of (op_of_text m.op))) c.2 in
        record {
          place = l;
          listed = b;
          before = h.good;
          number = c.0 ∙ ap (λ (z : MatText). z.line) e;
          little = subst (λ (z : MatText). IsLittleOp p s (seitz_of (op_of_text z.op))) e c.1;
          earlier = w.0;
          is_earlier = w.1;
          same = w.2 ∙ ap (λ (z : MatText). rotation_of p (seitz_of (op_of_text z.op))) e;
        }
    block_cause m e b (RotationMissing op) c = absurd c
    block_cause m e b NotUnit c = absurd c
    block_cause m e b (NotMultiplying x y) c = absurd c
    block_cause m e b (NotIrreducible sum k) c = absurd c
    block_cause m e b (Wide f) c = (
      c.0,
      record {
        place = l;
        listed = b;
        before = good-more (subst (λ (z : MatText). IsLittleOp p s (seitz_of (op_of_text z.op))) e c.1) (subst (λ (z : MatText). is_listed rotations (rotation_of p (seitz_of (op_of_text z.op))) ≡ false) e c.2);
        wide = subst (λ (z : MatText). IsWideAt p s (seitz_of (op_of_text z.op)) z.entries) e c.3;
      },
    )
    block_cause m e b NoMemory c = tt
