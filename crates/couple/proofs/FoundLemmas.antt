-- What a link of induced representations is made of.
--
-- induced-pair: induced matrices of one quotient are two representations of a group
-- raised, lowered: what holds of representations holds of them by the lists of their entries, and back
-- found-is, rank-link, rank-cause: the link with its rank
use Rattle.std.proofs.Common.{◌≡◌, ℕ, ◌<◌, ◌≤◌, ◌+◌, ◌*◌, ◌/◌, ◌%◌, inr, sym, ap, subst, arith, Option, Some, IfSome, Result, IfOk, IfErr}
use Rattle.std.proofs.Math.Nat.{div-add-mod}
use Rattle.std.proofs.lemmas.Nat.{mod_below}
use Rattle.std.specs.Prelude.{Ok, Err}
use Rattle.algebra.specs.NumberedGroup.{IsGroup}
use Rattle.cyclo24.specs.declared.z24.Z24.{Z24}
use Rattle.cyclo24.specs.ExactField.{ExactField, Value}
use Rattle.cyclo24.specs.ExactZ24.{ExactZ24, z24, z24_laws}
use Rattle.cyclo24.specs.FieldOn.{FieldOn}
use Rattle.cyclo24.specs.Z24.{exact_z24}
use Rattle.lin_alg.specs.Matrices.{unit_entry, AreEqualBelow, IsRepresentation}
use Rattle.lin_alg.specs.Matrix.{MatrixView, entry}
use Rattle.lin_alg.specs.Solving.{IsWideIndependent}
use Rattle.super_group.specs.Quotient.{SupercellGroup, quotient_group}
use Rattle.induce.specs.InducedView.{InducedView}
use Rattle.induce.specs.Tables.{dimension_in, matrix_in}
use Rattle.couple.specs.declared.errors.LinkError.{LinkError}
use Rattle.couple.specs.declared.errors.LinkError.TheVariants.{Wide, NoMemory}
use Rattle.couple.specs.declared.links.Link.{Link}
use Rattle.couple.specs.declared.links.Link.TheVariants.{Nothing, Found}
use Rattle.couple.specs.Found.{pair_of, IsFound, IsWithRank, IsRankCause, IsLinkOf, IsLinkCause}
use Rattle.couple.specs.Links.{Pair, IsPair, IsLink, HasRank, AreEquivalent}
use Rattle.couple.specs.Listed.{listed, lifted, lifted-listed}
use Rattle.couple.specs.RankLaws.{full-equivalent}
use Rattle.couple.proofs.FirstLemmas.{link-intertwines}

pub some-of : {A : Type 0} (o : Option A) (x : A) (P : A → Type 0) → o ≡ Some x → IfSome o P → P x
some-of o x P e h = subst (λ (t : Option _). IfSome t P) e h

-- no number from n on is in the first block of n
pub past-first : (a n : ℕ) → 0 < n → n ≤ a → a / n ≡ 0 → ⊥
past-first a n some l e =
    let d : n * (a / n) + a % n ≡ a = div-add-mod a n in
    let t : n * (a / n) ≡ n * 0 = ap (λ k. n * k) e in
    let z : n * 0 ≡ 0 = grind arith in
    let b = mod_below a n some in
    absurd (omega (arith, d, t, z, b, l))

-- two representations by their dimensions as calls give them
pub pair-is : {K : Type 0} (f : FieldOn K) (p : Pair K) (n m : ℕ) → IsGroup p.group → n ≡ p.rows → IsRepresentation f p.group n p.left → AreEqualBelow n (p.left 0) (unit_entry f) →
    m ≡ p.cols → IsRepresentation f p.group m p.right → AreEqualBelow m (p.right 0) (unit_entry f) → IsPair f p
pair-is f p n m h en a b em c d = record {
  group = h;
  left = subst (λ (k : ℕ). IsRepresentation f p.group k p.left) en a;
  left_identity = subst (λ (k : ℕ). AreEqualBelow k (p.left 0) (unit_entry f)) en b;
  right = subst (λ (k : ℕ). IsRepresentation f p.group k p.right) em c;
  right_identity = subst (λ (k : ℕ). AreEqualBelow k (p.right 0) (unit_entry f)) em d;
}

pub induced-pair : (q : SupercellGroup) (l r : InducedView) (n m : ℕ) → IsGroup (quotient_group q) → n ≡ dimension_in l.tables → IsRepresentation z24_laws (quotient_group q) n (matrix_in q l.tables) →
    AreEqualBelow n (matrix_in q l.tables 0) (unit_entry z24_laws) → m ≡ dimension_in r.tables → IsRepresentation z24_laws (quotient_group q) m (matrix_in q r.tables) → AreEqualBelow m (matrix_in q r.tables 0) (unit_entry z24_laws) →
    IsPair z24_laws (pair_of q l r)
induced-pair q l r n m = pair-is z24_laws (pair_of q l r) n m

-- what holds of representations holds of them by the lists of their entries, and back
pub raised : (f : ExactField) (P : Pair (Value f) → Type 0) (p : Pair (Value f)) → P p → P (lifted f.laws (listed p))
raised f P p h = subst P (sym (lifted-listed f p)) h

pub lowered : (f : ExactField) (P : Pair (Value f) → Type 0) (p : Pair (Value f)) → P (lifted f.laws (listed p)) → P p
lowered f P p h = subst P (lifted-listed f p) h

-- where the rank is both dimensions, the link has an inverse
linked-equivalent : {K : Type 0} (f : FieldOn K) (p : Pair K) → IsPair f p → (X : ℕ → ℕ → K) (n m r : ℕ) → n ≡ p.rows → m ≡ p.cols → IsLink f p X → HasRank f n m X r → r ≡ p.rows → r ≡ p.cols → AreEquivalent f p
linked-equivalent f p h X n m r en em l k er ec =
    full-equivalent f p X r (link-intertwines f p h X l) (subst (λ (x : ℕ). HasRank f x p.cols X r) en (subst (λ (y : ℕ). HasRank f n y X r) em k)) er ec

module _ (p : Pair ExactZ24) (h : IsPair z24_laws p) (m : MatrixView Z24) (er : m.rows ≡ p.rows) (ec : m.cols ≡ p.cols) (l : IsLink z24_laws p (entry z24_laws exact_z24 m)) where
  pub found-is : (rank : ℕ) → HasRank z24_laws m.rows m.cols (entry z24_laws exact_z24 m) rank → IsFound p m rank
  found-is rank k = record {
    rows = er;
    cols = ec;
    link = l;
    intertwines = link-intertwines z24_laws p h (entry z24_laws exact_z24 m) l;
    spans = subst (λ (x : ℕ). HasRank z24_laws x p.cols (entry z24_laws exact_z24 m) rank) er (subst (λ (y : ℕ). HasRank z24_laws m.rows y (entry z24_laws exact_z24 m) rank) ec k);
    equivalent = λ a b. linked-equivalent z24_laws p h (entry z24_laws exact_z24 m) m.rows m.cols rank er ec l k a b;
  }

module _ (q : SupercellGroup) (a b : InducedView) (h : IsPair z24_laws (pair_of q a b)) (m : MatrixView Z24) (er : m.rows ≡ dimension_in a.tables) (ec : m.cols ≡ dimension_in b.tables)
    (l : IsLink z24_laws (pair_of q a b) (entry z24_laws exact_z24 m)) where
  with-link : (x : Link) → IsWithRank m x → IsLinkOf q a b x
  with-link Nothing k = absurd k
  with-link (Found x rank) k = subst (λ (y : MatrixView Z24). IsFound (pair_of q a b) y rank) (sym k.0) (found-is (pair_of q a b) h m er ec l rank k.1)

  pub rank-link : (r : Result Link LinkError) → IfOk r (IsWithRank m) → IfOk r (IsLinkOf q a b)
  rank-link (Ok x) k = with-link x k
  rank-link (Err e) k = tt

  with-cause : (e : LinkError) → IsRankCause m e → IsLinkCause q a b e
  with-cause (Wide f) k = (k.0, inr (entry z24_laws exact_z24 m, l, subst (λ (n : ℕ). IsWideIndependent z24 n (entry z24_laws exact_z24 m)) er k.1))
  with-cause NoMemory k = tt

  pub rank-cause : (r : Result Link LinkError) → IfErr r (IsRankCause m) → IfErr r (IsLinkCause q a b)
  rank-cause (Ok x) k = tt
  rank-cause (Err e) k = with-cause e k
