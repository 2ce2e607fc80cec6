-- The first axes that links give.
--
-- y-joined, z-joined: y and z are joined with their first axes
-- firsts-same: linked axes have one first axis
use Rattle.std.proofs.Common.{◌≡◌, refl, sym, ℕ, zero, suc, ◌<◌, Bool, true, false, List, [], ◌∷◌, arith}
use Rattle.space_ops.specs.declared.op.Op.{Op}
use Rattle.super_group.specs.Supercell.{IsLinked, AreJoined}
use Rattle.super_group.specs.FirstAxes.{axis_at, least_joined_y, least_joined_z, AreFirstAxes}
use Rattle.super_group.specs.JoinedLaws.{linked-sym, joined-refl, joined-trans, joined-linked, joined-same}

module _ (ops : List Op) where
  -- what a test of a link found
  pub record IsTest (b : Bool) (i j : ℕ) : Type 0 where
    pub yes : b ≡ true → IsLinked ops i j
    pub no : b ≡ false → IsLinked ops i j → ⊥

  back : (i j : ℕ) → IsLinked ops i j → AreJoined ops j i
  back i j h = joined-linked ops j i (linked-sym ops i j h)

  y-joined : (xy yz xz : Bool) → IsTest xy 0 1 → IsTest yz 1 2 → IsTest xz 0 2 → AreJoined ops 1 (least_joined_y xy yz xz)
  y-joined true yz xz a b c = back 0 1 (a.yes refl)
  y-joined false true true a b c = joined-trans ops 1 2 0 (joined-linked ops 1 2 (b.yes refl)) (back 0 2 (c.yes refl))
  y-joined false true false a b c = joined-refl ops 1
  y-joined false false xz a b c = joined-refl ops 1

  z-joined : (xy yz xz : Bool) → IsTest xy 0 1 → IsTest yz 1 2 → IsTest xz 0 2 → AreJoined ops 2 (least_joined_z xy yz xz)
  z-joined xy yz true a b c = back 0 2 (c.yes refl)
  z-joined true true false a b c = joined-trans ops 2 1 0 (back 1 2 (b.yes refl)) (back 0 1 (a.yes refl))
  z-joined true false false a b c = joined-refl ops 2
  z-joined false true false a b c = back 1 2 (b.yes refl)
  z-joined false false false a b c = joined-refl ops 2

  xy-same : (xy yz xz : Bool) → IsTest xy 0 1 → IsLinked ops 0 1 → 0 ≡ least_joined_y xy yz xz
  xy-same true yz xz a h = refl
  xy-same false yz xz a h = absurd (a.no refl h)

  xz-same : (xy yz xz : Bool) → IsTest xz 0 2 → IsLinked ops 0 2 → 0 ≡ least_joined_z xy yz xz
  xz-same xy yz true c h = refl
  xz-same xy yz false c h = absurd (c.no refl h)

  yz-same : (xy yz xz : Bool) → IsTest yz 1 2 → IsLinked ops 1 2 → least_joined_y xy yz xz ≡ least_joined_z xy yz xz
  yz-same xy false xz b h = absurd (b.no refl h)
  yz-same true true true b h = refl
  yz-same true true false b h = refl
  yz-same false true true b h = refl
  yz-same false true false b h = refl

  module _ (xy yz xz : Bool) (a : IsTest xy 0 1) (b : IsTest yz 1 2) (c : IsTest xz 0 2) where
    abbrev firsts : List ℕ
    firsts = 0 ∷ least_joined_y xy yz xz ∷ least_joined_z xy yz xz ∷ []

    links-keep : (i j : ℕ) → i < 3 → j < 3 → IsLinked ops i j → axis_at firsts i ≡ axis_at firsts j
    links-keep zero zero l m h = refl
    links-keep zero (suc zero) l m h = xy-same xy yz xz a h
    links-keep zero (suc (suc zero)) l m h = xz-same xy yz xz c h
    links-keep (suc zero) zero l m h = sym (xy-same xy yz xz a (linked-sym ops 1 0 h))
    links-keep (suc zero) (suc zero) l m h = refl
    links-keep (suc zero) (suc (suc zero)) l m h = yz-same xy yz xz b h
    links-keep (suc (suc zero)) zero l m h = sym (xz-same xy yz xz c (linked-sym ops 2 0 h))
    links-keep (suc (suc zero)) (suc zero) l m h = sym (yz-same xy yz xz b (linked-sym ops 2 1 h))
    links-keep (suc (suc zero)) (suc (suc zero)) l m h = refl
    links-keep (suc (suc (suc i))) j l m h = absurd (omega arith)
    links-keep i (suc (suc (suc j))) l m h = absurd (omega arith)

    firsts-joined : (i : ℕ) → i < 3 → AreJoined ops i (axis_at firsts i)
    firsts-joined zero l = joined-refl ops 0
    firsts-joined (suc zero) l = y-joined xy yz xz a b c
    firsts-joined (suc (suc zero)) l = z-joined xy yz xz a b c
    firsts-joined (suc (suc (suc i))) l = absurd (omega arith)

    pub firsts-lawful : AreFirstAxes ops firsts
    firsts-lawful = record {
      joined = firsts-joined;
      same = λ i j l m. joined-same ops (axis_at firsts) (λ i j h. links-keep i j h.first h.second h) i j;
    }
