-- Fixed vectors and stabilisers are a Galois connection, for any relation between elements and vectors.
--
-- fix-antitone: more elements fix less
-- fix-stab-fix, stab-fix-stab: Fix(Stab(Fix H)) is Fix H, and Stab(Fix(Stab v)) is Stab v
use Rattle.std.proofs.Common.{refl, sym, subst, List, [], ◌∷◌, inl, inr, ◌↔◌}
use Rattle.lin_alg.specs.Fixed.{FixesAll, IsFixedByAll, IsIn}

module _ {E V : Type 0} (R : E → V → Type 0) where
  pub fixed-member : (h : List E) (v : V) (q : E) → IsFixedByAll R h v → IsIn q h → R q v
  fixed-member [] v q a m = absurd m
  fixed-member (p ∷ h) v q a m = elim m [ inl e ↦ subst (λ (z : E). R z v) (sym e) a.0 | inr k ↦ fixed-member h v q a.1 k ]

  pub member-fixed : (h : List E) (v : V) → ((q : E) → IsIn q h → R q v) → IsFixedByAll R h v
  member-fixed [] v a = tt
  member-fixed (p ∷ h) v a = (a p (inl refl), member-fixed h v (λ q m. a q (inr m)))

  -- more elements fix less
  pub fix-antitone : (h k : List E) → ((q : E) → IsIn q h → IsIn q k) → (v : V) → IsFixedByAll R k v → IsFixedByAll R h v
  fix-antitone h k t v a = member-fixed h v (λ q m. fixed-member k v q a (t q m))

  -- Fix(Stab(Fix H)) = Fix H
  pub fix-stab-fix : (h s : List E) → ((q : E) → IsIn q s → FixesAll R (IsFixedByAll R h) q) → ((q : E) → IsIn q h → IsIn q s) →
      (v : V) → IsFixedByAll R s v ↔ IsFixedByAll R h v
  fix-stab-fix h s within has v = (fix-antitone h s has v, λ a. member-fixed s v (λ q m. within q m v a))

  -- Stab(Fix(Stab v)) = Stab v
  pub stab-fix-stab : (v : V) (s : List E) (Below : E → Type 0) → ((q : E) → IsIn q s → R q v) → ((q : E) → Below q → R q v → IsIn q s) →
      (q : E) → Below q → FixesAll R (IsFixedByAll R s) q ↔ R q v
  stab-fix-stab v s Below within has q b = (λ a. a v (member-fixed s v within), λ a w k. fixed-member s w q k (has q b a))
