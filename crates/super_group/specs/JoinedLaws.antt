-- Laws of joined axes.
--
-- linked-sym: links go both ways
-- joined-refl, joined-sym, joined-trans: joined axes are an equivalence
-- joined-linked: linked axes are joined
-- joined-same: what links keep, joined axes share
use Rattle.std.proofs.Common.{◌≡◌, refl, sym, ◌∙◌, ℕ, List, [], ◌∷◌, ◌++◌, subst}
use Rattle.space_ops.specs.declared.op.Op.{Op}
use Rattle.super_group.specs.Supercell.{IsLinked, IsChain, AreJoined}

pub linked-sym : (ops : List Op) (i j : ℕ) → IsLinked ops i j → IsLinked ops j i
linked-sym ops i j h = record { place = h.place; listed = h.listed; first = h.second; second = h.first; nonzero = λ w. h.nonzero (w.1, w.0) }

pub joined-refl : (ops : List Op) (i : ℕ) → AreJoined ops i i
joined-refl ops i = record { chain = []; is = refl }

pub joined-linked : (ops : List Op) (i j : ℕ) → IsLinked ops i j → AreJoined ops i j
joined-linked ops i j h = record { chain = j ∷ []; is = (h, refl) }

chain-append : (ops : List Op) (i j k : ℕ) (c d : List ℕ) → IsChain ops i c j → IsChain ops j d k → IsChain ops i (c ++ d) k
chain-append ops i j k [] d h g = subst (λ (x : ℕ). IsChain ops x d k) (sym h) g
chain-append ops i j k (x ∷ c) d h g = (h.0, chain-append ops x j k c d h.1 g)

pub joined-trans : (ops : List Op) (i j k : ℕ) → AreJoined ops i j → AreJoined ops j k → AreJoined ops i k
joined-trans ops i j k h g = record { chain = h.chain ++ g.chain; is = chain-append ops i j k h.chain g.chain h.is g.is }

chain-back : (ops : List Op) (i j : ℕ) (c : List ℕ) → IsChain ops i c j → AreJoined ops j i
chain-back ops i j [] h = record { chain = []; is = sym h }
chain-back ops i j (x ∷ c) h = joined-trans ops j x i (chain-back ops x j c h.1) (joined-linked ops x i (linked-sym ops i x h.0))

pub joined-sym : (ops : List Op) (i j : ℕ) → AreJoined ops i j → AreJoined ops j i
joined-sym ops i j h = chain-back ops i j h.chain h.is

chain-same : (ops : List Op) (f : ℕ → ℕ) → ((i j : ℕ) → IsLinked ops i j → f i ≡ f j) → (i j : ℕ) (c : List ℕ) → IsChain ops i c j → f i ≡ f j
chain-same ops f keep i j [] h = λ t. f (h t)
chain-same ops f keep i j (x ∷ c) h = keep i x h.0 ∙ chain-same ops f keep x j c h.1

-- what links keep, joined axes share
pub joined-same : (ops : List Op) (f : ℕ → ℕ) → ((i j : ℕ) → IsLinked ops i j → f i ≡ f j) → (i j : ℕ) → AreJoined ops i j → f i ≡ f j
joined-same ops f keep i j h = chain-same ops f keep i j h.chain h.is
