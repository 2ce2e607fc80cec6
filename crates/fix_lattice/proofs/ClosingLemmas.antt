-- What the tables of closing obey.
--
-- closing-start, closing-cut: the tables at the start, and after one cut
-- closing-conjugate, closing-image: places of images
-- reached-own, reached-image, reached-grown: forms that are images of forms that are cut with each Fix(q)
-- closing-classes: the tables at the end
-- cuts-bound: how many cuts there are
use Rattle.std.proofs.Common.{◌≡◌, ℕ, suc, ◌<◌, ◌≤◌, ◌+◌, ◌*◌, ◌⊎◌, inl, inr, Bool, sym, ◌∙◌, ap, subst, List, [], ◌∷◌, ◌↔◌, arith, length, get_or}
use Rattle.std.proofs.Math.Nat.{mul-le-mul_right}
use Rattle.cyclo24.specs.ExactField.{ExactField, Value}
use Rattle.lin_alg.specs.Action.{Action, IsAction, IsFixed}
use Rattle.lin_alg.specs.ActionLaws.{image-identity}
use Rattle.lin_alg.specs.Fixed.{IsFixForm}
use Rattle.lin_alg.specs.Images.{moves_of}
use Rattle.lin_alg.specs.ImageLaws.{are-moves}
use Rattle.lin_alg.specs.Moves.{conjugate}
use Rattle.lin_alg.specs.MoveLaws.{conjugate-below}
use Rattle.fix_lattice.specs.Lattice.{IsInSpace, form_at}
use Rattle.fix_lattice.specs.LatticeLaws.{fix-vanishes, fix-form-same}
use Rattle.fix_lattice.specs.Held.{IsFixSpace, IsSingleSpace, IsMeet, HasMeet, IsGrown, IsCutAt, IsNoted, HoldsSingles}
use Rattle.fix_lattice.proofs.HeldLemmas.{put-all, grown-at, grown-meet, cut-fixed, single-fix, singles-only}
use Rattle.fix_lattice.specs.Cuts.{cut_entry, cut_count, AreShort, IsCutNoted}
use Rattle.fix_lattice.proofs.CutRowLemmas.{cuts-few, entry-inside}
use Rattle.fix_lattice.specs.Classes.{IsImageForm, IsCutWithEach, IsReached, IsClassClosed, IsClosing, AreImages, AreCovered}
use Rattle.fix_lattice.proofs.ClassLemmas.{image-single, image-meet, image-own, image-after}
use Rattle.fix_lattice.proofs.ImageRowLemmas.{grown-image}
use Rattle.fix_lattice.proofs.ListLemmas.{length-last, each-last}

-- no row more than forms, each at most as long as there are Fix(q)
pub cuts-bound : (cuts : List (List ℕ)) (m n fixes : ℕ) → m ≤ n → length cuts ≤ m → AreShort fixes cuts → cut_count cuts ≤ n * fixes
cuts-bound cuts m n fixes l k s =
    let a = cuts-few cuts fixes s in
    let within : length cuts ≤ n = omega arith in
    let b : length cuts * fixes ≤ n * fixes = mul-le-mul_right fixes within in
    omega arith

same : (i y : ℕ) → (i ≡ y) ⊎ (i ≡ y → ⊥)
same i y = grind arith

module _ (f : ExactField) (act : Action) where
  -- the tables before the first cut
  pub closing-start : (forms : List (List (ℕ × (ℕ → Value f)))) (places elements : List ℕ) → HoldsSingles f.laws act forms places elements act.group.order → IsClosing f.laws act forms places elements [] []
  closing-start forms places elements h =
      let e = h.elements_length in
      record {
        only = λ i l. single-fix f act (form_at forms i) (singles-only f act forms places elements act.group.order h i l);
        within = omega arith;
        element = h.element;
        places_length = h.places_length;
        place = λ q l. let o = h.place q l in let ol = o.0 in (omega arith, o.1);
        rows = omega arith;
        short = λ i. omega arith;
        cut = λ i k d e. let z : 0 ≡ suc d = e in absurd (omega arith);
        sources_length = omega arith;
        source = λ i l. absurd (omega arith);
      }

  -- what two forms have in common stands at its place
  pub cut-meet : (old new : List (List (ℕ × (ℕ → Value f)))) (i k p : ℕ) → i < length old → k < length old → IsCutAt f.laws act old i k new p → IsMeet f.laws act.dim (form_at new i) (form_at new k) (form_at new p)
  cut-meet old new i k p il kl c =
      subst (λ (u : List (ℕ × (ℕ → Value f))). IsMeet f.laws act.dim u (form_at new k) (form_at new p)) (sym (c.1.1.1.grown.first i il))
      (subst (λ (e : List (ℕ × (ℕ → Value f))). IsMeet f.laws act.dim (form_at old i) e (form_at new p)) (sym (c.1.1.1.grown.first k kl))
      (subst (IsMeet f.laws act.dim (form_at old i) (form_at old k)) (sym c.1.1.1.there) c.1.1.0))

  module _ (old new : List (List (ℕ × (ℕ → Value f)))) (places elements : List ℕ) (cuts written : List (List ℕ)) (sources named : List (ℕ × ℕ)) (i k p : ℕ)
      (t : IsClosing f.laws act old places elements cuts sources) (il : i < length old) (kl : k < length elements)
      (note : IsCutNoted cuts i k (suc p) written) (rows : length written ≤ length new) (short : AreShort (length elements) written) (c : IsCutAt f.laws act old i k new p) (n : IsNoted (length old) (length new) (i, k) sources named) where
    one : IsSingleSpace f.laws act (form_at old k)
    one = let o = t.element k kl in (get_or elements k 0, o)

    -- the cut of the new pair
    new-meet : IsMeet f.laws act.dim (form_at new i) (form_at new k) (form_at new p)
    new-meet = let within = t.within in cut-meet old new i k p il (omega arith) c

    old-cut : (a b d : ℕ) → cut_entry cuts a b ≡ suc d → (d < length new) × IsMeet f.laws act.dim (form_at new a) (form_at new b) (form_at new d)
    old-cut a b d e =
        let o = t.cut a b d e in
        let ol = o.0 in
        let inside = entry-inside cuts a b d e in
        let al = inside.0 in
        let bl = inside.1 in
        let few = t.rows in
        let width = t.short a in
        let within = t.within in
        let longer = c.1.1.1.grown.longer in
        let a_old : a < length old = omega arith in
        let b_old : b < length old = omega arith in
        (omega arith, grown-meet f act old new c.1.1.1.grown a b d a_old b_old ol o.1)

    new-cut : (a b d : ℕ) → cut_entry written a b ≡ suc d → (d < length new) × IsMeet f.laws act.dim (form_at new a) (form_at new b) (form_at new d)
    new-cut a b d e =
        elim (same a i) [
          | inr n ↦ old-cut a b d (sym (note.other a b (λ h. n h.0)) ∙ e)
          | inl x ↦ elim (same b k) [
            | inr n ↦ old-cut a b d (sym (note.other a b (λ h. n h.1)) ∙ e)
            | inl y ↦
                let z : suc p ≡ suc d = sym note.own ∙ (λ s. cut_entry written (sym x s) (sym y s)) ∙ e in
                let q : p ≡ d = omega arith in
                subst (λ (w : ℕ). (w < length new) × IsMeet f.laws act.dim (form_at new a) (form_at new b) (form_at new w)) q
                (subst (λ (u : ℕ). (p < length new) × IsMeet f.laws act.dim (form_at new u) (form_at new b) (form_at new p)) (sym x)
                (subst (λ (u : ℕ). (p < length new) × IsMeet f.laws act.dim (form_at new i) (form_at new u) (form_at new p)) (sym y) (c.1.1.1.inside, new-meet)))
          ]
        ]

    IsSource : ℕ → ℕ × ℕ → Type 0
    IsSource j s = (s.0 < length elements + j) × ((s.1 < length elements) × IsMeet f.laws act.dim (form_at new s.0) (form_at new s.1) (form_at new (length elements + j)))

    old-source : (j : ℕ) → j < length sources → IsSource j (get_or sources j (0, 0))
    unfolding IsSource
    old-source j l =
        let within = t.within in
        let o = t.source j l in
        let a = o.0 in
        let b = o.1.0 in
        let n = t.sources_length in
        let al : (get_or sources j (0, 0)).0 < length old = omega arith in
        let bl : (get_or sources j (0, 0)).1 < length old = omega arith in
        let jl : length elements + j < length old = omega arith in
        (a, (b, grown-meet f act old new c.1.1.1.grown (get_or sources j (0, 0)).0 (get_or sources j (0, 0)).1 (length elements + j) al bl jl o.1.1))

    -- the tables after one more cut
    pub closing-cut : IsClosing f.laws act new places elements written named
    unfolding IsSource
    closing-cut =
        let put = c.1.1.1 in
        let within = t.within in
        let longer = put.grown.longer in
        let sl = t.sources_length in
        record {
          only = put-all f act (IsFixSpace f.laws act) old new c.0 p put t.only (cut-fixed f act (form_at old i) (form_at old k) c.0 (t.only i il) one c.1.0 c.1.1.0);
          within = omega arith;
          element = λ j l. let m : j < length old = omega arith in let o = t.element j l in (o.0, grown-at f act (IsFixForm f.laws act (get_or elements j 0 ∷ [])) old new put.grown j m o.1);
          places_length = t.places_length;
          place = λ q l. let o = t.place q l in let ol = o.0 in let m : get_or places q 0 < length old = omega arith in (ol, grown-at f act (IsFixForm f.laws act (q ∷ [])) old new put.grown (get_or places q 0) m o.1);
          rows = rows;
          short = short;
          cut = new-cut;
          sources_length = elim n [
            | inl s ↦ ap (λ z. length elements + length z) s.1 ∙ sl ∙ sym s.0
            | inr s ↦
                let a = s.0 in
                let b = length-last sources (i, k) in
                let d : length named ≡ suc (length sources) = ap length s.1 ∙ b in
                omega arith
          ];
          source = elim n [
            | inl s ↦ subst (λ (z : List (ℕ × ℕ)). (j : ℕ) → j < length z → IsSource j (get_or z j (0, 0))) (sym s.1) old-source
            | inr s ↦
                let a = s.0 in
                let last : length old < length new = omega arith in
                let same : length old ≤ length old = omega arith in
                let e : length old ≡ length elements + length sources = sym sl in
                let is_new : form_at new (length elements + length sources) ≡ form_at new p = ap (form_at new) sl ∙ put.last (length old) same last ∙ sym put.there in
                let own : IsSource (length sources) (i, k) = (omega arith, (kl, subst (IsMeet f.laws act.dim (form_at new i) (form_at new k)) (sym is_new) new-meet)) in
                subst (λ (z : List (ℕ × ℕ)). (j : ℕ) → j < length z → IsSource j (get_or z j (0, 0))) (sym s.1) (each-last IsSource sources (i, k) (0, 0) old-source own)
          ];
        }

module _ (f : ExactField) (act : Action) (law : IsAction f.laws act) where
  -- the place of the image of a Fix(q)
  pub closing-conjugate : (forms : List (List (ℕ × (ℕ → Value f)))) (places elements : List ℕ) (cuts : List (List ℕ)) (sources : List (ℕ × ℕ)) →
      IsClosing f.laws act forms places elements cuts sources → (a k : ℕ) → a < act.group.order → k < length elements →
      (get_or places (conjugate (moves_of f.laws act) a (get_or elements k 0)) 0 < length elements)
      × IsImageForm f.laws act a (form_at forms k) (form_at forms (get_or places (conjugate (moves_of f.laws act) a (get_or elements k 0)) 0))
  closing-conjugate forms places elements cuts sources t a k al kl =
      let e = t.element k kl in
      let q : ℕ = get_or elements k 0 in
      let b : ℕ = conjugate (moves_of f.laws act) a q in
      let o = t.place b (conjugate-below (moves_of f.laws act) (are-moves f act law) a q al e.0) in
      (o.0, image-single f act law a q (form_at forms k) (form_at forms (get_or places b 0)) al e.0 e.1 o.1)

  -- a form that is cut with each Fix(q) is its own image
  pub reached-own : (forms : List (List (ℕ × (ℕ → Value f)))) (i : ℕ) → i < length forms → IsCutWithEach f.laws act forms i → IsReached f.laws act forms i
  reached-own forms i l c = (i, 0, (l, (law.group.identity_below, (c, image-own f act law (form_at forms i)))))

  -- the image of one that is reached is reached
  pub reached-image : (forms : List (List (ℕ × (ℕ → Value f)))) (i b y : ℕ) → b < act.group.order → IsReached f.laws act forms i → IsImageForm f.laws act b (form_at forms i) (form_at forms y) → IsReached f.laws act forms y
  reached-image forms i b y bl r h =
      (r.0, act.group.product b r.1, (r.2.0, (law.group.product_below b r.1 bl r.2.1.0, (r.2.1.1.0, image-after f act law b r.1 (form_at forms r.0) (form_at forms i) (form_at forms y) bl r.2.1.0 r.2.1.1.1 h))))

  -- the tables at the end
  pub closing-classes : (forms : List (List (ℕ × (ℕ → Value f)))) (places elements : List ℕ) (cuts : List (List ℕ)) (sources : List (ℕ × ℕ)) (images : List (List ℕ)) →
      IsClosing f.laws act forms places elements cuts sources → AreImages f.laws act forms images → length images ≡ length forms →
      ((i : ℕ) → i < length forms → IsReached f.laws act forms i) → IsClassClosed f.laws act forms
  closing-classes forms places elements cuts sources images t a n r =
      let first = t.place 0 law.group.identity_below in
      let l = first.0 in
      let within = t.within in
      record {
        only = t.only;
        start = (get_or places 0 0, (omega arith, fix-form-same f act (0 ∷ []) [] (form_at forms (get_or places 0 0)) (λ v. (λ _. tt, λ _. (λ i l. image-identity f act law v i l, tt))) first.1));
        kept = λ i p il pl. let m : i < length images = omega arith in (get_or (get_or images i []) p 0, (a i m).image p pl);
        reached = r;
      }

module _ (f : ExactField) (act : Action) where
  -- a form that is cut with the Fix(q) of each place is cut with each
  pub closing-each : (forms : List (List (ℕ × (ℕ → Value f)))) (places elements : List ℕ) (cuts : List (List ℕ)) (sources : List (ℕ × ℕ)) (j : ℕ) →
      IsClosing f.laws act forms places elements cuts sources → ((k : ℕ) → k < length elements → HasMeet f.laws act.dim forms (form_at forms j) (form_at forms k)) → IsCutWithEach f.laws act forms j
  closing-each forms places elements cuts sources j t c q l =
      let o = t.place q l in
      let k : ℕ = get_or places q 0 in
      let m = c k o.0 in (
        m.0,
        (
          m.1.0,
          λ v.
              let at = fix-vanishes f act (q ∷ []) (form_at forms k) o.1 v in (
                λ h. let both = (m.1.1 v).0 h in ((at.0 both.0).0, both.1),
                λ h. (m.1.1 v).1 (at.1 (h.0, tt), h.1),
              ),
        ),
      )

  -- the image of a form is the cut of the images of the two whose cut it is
  pub closing-image : IsAction f.laws act → (old new : List (List (ℕ × (ℕ → Value f)))) (places elements : List ℕ) (cuts : List (List ℕ)) (sources : List (ℕ × ℕ)) →
      IsClosing f.laws act old places elements cuts sources → IsGrown old new → (a j at fix y : ℕ) (s : ℕ × ℕ) → j < length sources → s ≡ get_or sources j (0, 0) → at < length old → fix < length elements →
      IsImageForm f.laws act a (form_at old s.0) (form_at old at) → IsImageForm f.laws act a (form_at old s.1) (form_at old fix) →
      IsMeet f.laws act.dim (form_at new at) (form_at new fix) (form_at new y) → IsImageForm f.laws act a (form_at new (length elements + j)) (form_at new y)
  closing-image law old new places elements cuts sources t grown a j at fix y s jl e atl fixl iu ie m =
      let o = subst (λ (z : ℕ × ℕ). (z.0 < length elements + j) × ((z.1 < length elements) × IsMeet f.laws act.dim (form_at old z.0) (form_at old z.1) (form_at old (length elements + j)))) (sym e) (t.source j jl) in
      let within = t.within in
      let n = t.sources_length in
      let b = o.0 in
      let d = o.1.0 in
      let l0 : s.0 < length old = omega arith in
      let l1 : s.1 < length old = omega arith in
      let li : length elements + j < length old = omega arith in
      let lf : fix < length old = omega arith in
      image-meet f act law a (form_at new s.0) (form_at new s.1) (form_at new (length elements + j)) (form_at new at) (form_at new fix) (form_at new y)
      (grown-meet f act old new grown s.0 s.1 (length elements + j) l0 l1 li o.1.1) m
      (grown-image f act old new grown a s.0 at l0 atl iu) (grown-image f act old new grown a s.1 fix l1 lf ie)

  -- cuts stay
  pub grown-cuts : (old new : List (List (ℕ × (ℕ → Value f)))) → IsGrown old new → (fixes j n : ℕ) → fixes ≤ length old → j < length old →
      ((k : ℕ) → k < n → k < fixes → HasMeet f.laws act.dim old (form_at old j) (form_at old k)) → (k : ℕ) → k < n → k < fixes → HasMeet f.laws act.dim new (form_at new j) (form_at new k)
  grown-cuts old new t fixes j n within jl c k b kl =
      let o = c k b kl in
      let ol = o.1.0 in
      let longer = t.longer in
      let ko : k < length old = omega arith in
      (o.0, (omega arith, grown-meet f act old new t j k o.0 jl ko ol o.1.1))

  pub grown-each : (old new : List (List (ℕ × (ℕ → Value f)))) → IsGrown old new → (j : ℕ) → j < length old → IsCutWithEach f.laws act old j → IsCutWithEach f.laws act new j
  grown-each old new t j jl c q l =
      let o = c q l in
      let ol = o.1.0 in
      let longer = t.longer in (
        o.0,
        (
          omega arith,
          λ v.
              subst (λ (x : List (ℕ × (ℕ → Value f))). IsInSpace f.laws act.dim x v ↔ (IsFixed f.laws act q v × IsInSpace f.laws act.dim (form_at new j) v)) (sym (t.first o.0 ol))
              (subst (λ (u : List (ℕ × (ℕ → Value f))). IsInSpace f.laws act.dim (form_at old o.0) v ↔ (IsFixed f.laws act q v × IsInSpace f.laws act.dim u v)) (sym (t.first j jl)) (o.1.1 v)),
        ),
      )

  -- what is reached stays reached
  pub reached-grown : (old new : List (List (ℕ × (ℕ → Value f)))) → IsGrown old new → (i : ℕ) → i < length old → IsReached f.laws act old i → IsReached f.laws act new i
  reached-grown old new t i il r =
      let jl = r.2.0 in
      let longer = t.longer in
      (r.0, r.1, (omega arith, (r.2.1.0, (grown-each old new t r.0 jl r.2.1.1.0, grown-image f act old new t r.1 r.0 i jl il r.2.1.1.1))))

  -- marked forms stay so
  pub covered-grown : (old new : List (List (ℕ × (ℕ → Value f)))) (covered : List Bool) → IsGrown old new → AreCovered f.laws act old covered → AreCovered f.laws act new covered
  covered-grown old new covered t c i h =
      let o = c i h in
      let l = o.0 in
      let longer = t.longer in
      (omega arith, reached-grown old new t i l o.1)
