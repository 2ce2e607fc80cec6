-- The orders of little group and star multiply to the number of rotations.
--
-- little-times_arms: each operation is, in one way, that of an arm after a member of the little group
use Rattle.std.proofs.Common.{◌≡◌, sym, ap, ◌∙◌, subst, ℕ, ℤ, ◌<◌, ◌≤◌, ◌+◌, ◌*◌, ◌/◌, ◌%◌, List, length, get_or, arith}
use Rattle.std.proofs.Math.Nat.{div-add-mod, mod-lt, div-lt_iff_lt-mul, add-mul-div_right, mul-le-mul_right}
use Rattle.algebra.specs.NumberedGroup.{Group, IsGroup}
use Rattle.algebra.specs.NumberedGroupLaws.{product-back, cancel}
use Rattle.space_ops.specs.Matrix.{Vector}
use Rattle.space_ops.specs.Group.{Parent, IsParentGroup}
use Rattle.space_ops.specs.GroupLaws.{rotation_group, rotation_group-lawful}
use Rattle.algebra.specs.PigeonholeLaws.{pigeonhole}
use Rattle.kstar.specs.WaveVector.{AreEquivalent}
use Rattle.kstar.specs.WaveVectorLaws.{equivalent-sym, equivalent-trans}
use Rattle.algebra.specs.RisingLists.{IsRisingListOf}
use Rattle.kstar.specs.Star.{image_at, IsLittle, IsFirstOfArm}
use Rattle.kstar.specs.ImageLaws.{image-equivalent, image_at-product, back-image}
use Rattle.kstar.specs.LittleLaws.{little-identity}
use Rattle.algebra.specs.RisingListLaws.{list-injective}
use Rattle.kstar.specs.ArmLaws.{arm-some, arm-one}

module _ (p : Parent) (h : IsParentGroup p) (k : Vector ℤ) (by : List ℕ) (arms : IsRisingListOf (length p.ops) (IsFirstOfArm p k) by) where
  module _ (little : List ℕ) (members : IsRisingListOf (length p.ops) (IsLittle p k) little) where
    abbrev g : Group
    g = rotation_group p.ops

    w : IsGroup (rotation_group p.ops)
    w = rotation_group-lawful p h

    -- the operation of arm i after member m of the little group
    abbrev member : ℕ → ℕ → ℕ
    member i m = g.product (get_or by i 0) (get_or little m 0)

    member-below : (i m : ℕ) → i < length by → m < length little → member i m < length p.ops
    member-below i m l b = w.product_below (get_or by i 0) (get_or little m 0) (arms.below i l) (members.below m b)

    member-image : (i m : ℕ) → i < length by → m < length little → AreEquivalent p.lattice (image_at p k (member i m)) (image_at p k (get_or by i 0))
    member-image i m l b =
        subst (λ (x : Vector ℤ). AreEquivalent p.lattice x (image_at p k (get_or by i 0))) (sym (image_at-product p h k (get_or by i 0) (get_or little m 0) (arms.below i l) (members.below m b)))
        (image-equivalent p h (image_at p k (get_or little m 0)) k (get_or by i 0) (arms.below i l) (members.has m b))

    member-arm : (i m j o : ℕ) → i < length by → m < length little → j < length by → o < length little → member i m ≡ member j o → i ≡ j
    member-arm i m j o l b l' b' e =
        arm-one p h k by arms i j l l'
        (equivalent-trans p.lattice (image_at p k (get_or by i 0)) (image_at p k (member i m)) (image_at p k (get_or by j 0))
        (equivalent-sym p.lattice (image_at p k (member i m)) (image_at p k (get_or by i 0)) (member-image i m l b))
        (subst (λ r. AreEquivalent p.lattice (image_at p k r) (image_at p k (get_or by j 0))) (sym e) (member-image j o l' b')))

    member-little : (i m j o : ℕ) → i < length by → m < length little → j < length by → o < length little → member i m ≡ member j o → m ≡ o
    member-little i m j o l b l' b' e =
        let f = member-arm i m j o l b l' b' e in
        list-injective (length p.ops) (IsLittle p k) little members m o b b'
        (cancel g w (get_or by i 0) (get_or little m 0) (get_or little o 0) (arms.below i l) (members.below m b) (members.below o b') (e ∙ ap (λ t. member t o) (sym f)))

    some_little : 0 < length little
    some_little = let v = members.every 0 h.list.some (little-identity p h k) in let b : v.0 < length little = v.1 in omega arith

    quotient_below : (x a l : ℕ) → 0 < l → x < a * l → x / l < a
    quotient_below x a l z b = (div-lt_iff_lt-mul {k = l} {x = x} {y = a} z).1 b

    few : length by * length little ≤ length p.ops
    few =
        let a = length by in
        let l = length little in
        pigeonhole (a * l) (length p.ops) (λ x b. member (x / l) (x % l))
        (λ x b. member-below (x / l) (x % l) (quotient_below x a l some_little b) (mod-lt x {m = l} some_little))
        (λ x y b c e.
        let q = member-arm (x / l) (x % l) (y / l) (y % l) (quotient_below x a l some_little b) (mod-lt x {m = l} some_little) (quotient_below y a l some_little c) (mod-lt y {m = l} some_little) e in
        let r = member-little (x / l) (x % l) (y / l) (y % l) (quotient_below x a l some_little b) (mod-lt x {m = l} some_little) (quotient_below y a l some_little c) (mod-lt y {m = l} some_little) e in
        sym (div-add-mod x l) ∙ (λ t. l * q t + r t) ∙ div-add-mod y l)

    -- each operation is an arm's after a member of the little group
    record Split (r : ℕ) : Type 0 where
      arm : ℕ
      arm_listed : arm < length by
      part : ℕ
      part_listed : part < length little
      is : member arm part ≡ r

    split : (r : ℕ) → r < length p.ops → Split r
    split r l =
        let a = arm-some p h k by arms r l in
        let b = get_or by a.0 0 in
        let c = arms.below a.0 a.1 in
        let i = g.inverse b in
        let ci = w.inverse_below b c in
        let x = g.product i r in
        let e : AreEquivalent p.lattice (image_at p (image_at p k r) i) (image_at p (image_at p k b) i) =
        image-equivalent p h (image_at p k r) (image_at p k b) i ci (equivalent-sym p.lattice (image_at p k b) (image_at p k r) a.2) in
        let f : IsLittle p k x =
        subst (λ (y : Vector ℤ). AreEquivalent p.lattice y k) (sym (image_at-product p h k i r ci l))
        (subst (λ (y : Vector ℤ). AreEquivalent p.lattice (image_at p (image_at p k r) i) y) (back-image p h k b c) e) in
        let v = members.every x (w.product_below i r ci l) f in
        record { arm = a.0; arm_listed = a.1; part = v.0; part_listed = v.1; is = ap (g.product b) v.2 ∙ product-back g w b r c l }

    place_below : (i m a l : ℕ) → i < a → m < l → m + i * l < a * l
    place_below i m a l b c = let d : (i + 1) * l ≤ a * l = mul-le-mul_right l (omega arith) in omega (arith, d, c)

    place_arm : (i m j o l : ℕ) → m < l → o < l → m + i * l ≡ o + j * l → i ≡ j
    place_arm i m j o l b c e =
        let z : 0 < l = omega arith in
        let p : m / l < 1 = (div-lt_iff_lt-mul {k = l} {x = m} {y = 1} z).1 (omega arith) in
        let q : o / l < 1 = (div-lt_iff_lt-mul {k = l} {x = o} {y = 1} z).1 (omega arith) in
        let f : (m + i * l) / l ≡ m / l + i = add-mul-div_right m i {z = l} z in
        let g : (o + j * l) / l ≡ o / l + j = add-mul-div_right o j {z = l} z in
        let d : (m + i * l) / l ≡ (o + j * l) / l = ap (λ x. x / l) e in
        let u : m / l + i ≡ o / l + j = sym f ∙ d ∙ g in
        omega (arith, p, q, u)

    place_part : (i m j o l : ℕ) → i ≡ j → m + i * l ≡ o + j * l → m ≡ o
    place_part i m j o l e f = let d : i * l ≡ j * l = ap (λ x. x * l) e in omega (arith, d, f)

    many : length p.ops ≤ length by * length little
    many =
        let a = length by in
        let l = length little in
        pigeonhole (length p.ops) (a * l) (λ r b. (split r b).part + (split r b).arm * l)
        (λ r b. place_below (split r b).arm (split r b).part a l (split r b).arm_listed (split r b).part_listed)
        (λ r s b c e.
        let x = split r b in
        let y = split s c in
        let f : x.arm ≡ y.arm = place_arm x.arm x.part y.arm y.part l x.part_listed y.part_listed e in
        let d : x.part ≡ y.part = place_part x.arm x.part y.arm y.part l f e in
        sym x.is ∙ (λ t. member (f t) (d t)) ∙ y.is)

    -- the orders of little group and star multiply to the number of rotations
    pub little-times_arms : length by * length little ≡ length p.ops
    little-times_arms = same_bounds few many where
      same_bounds : {a b : ℕ} → a ≤ b → b ≤ a → a ≡ b
      same_bounds l m = omega arith
