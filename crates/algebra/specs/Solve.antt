-- Expressions over numbered variables, and their normal forms.
--
-- Exp, exps: expressions, and the operations on them
-- value o v e: what an expression is in the ring o, where variable i is v i
-- at d xs: the values of the variables, those of a list and then d
-- same e f: whether two expressions have one normal form
-- HasNormalForms o: expressions with one normal form have one value
use Rattle.std.specs.Prelude.{◌≡◌, ℕ, ◌+◌, ◌*◌, suc, zero, Bool, true, false, eqb, leb, ltb, List, [], ◌∷◌}
use Rattle.algebra.specs.Ring.{Ops}

-- expressions
pub data Exp : Type 0 where
  V : ℕ → Exp
  K : ℕ → Exp
  Neg : Exp → Exp
  Add : Exp → Exp → Exp
  Mul : Exp → Exp → Exp

abbrev pub exps : Ops Exp
exps = record { num = K; neg = Neg; add = Add; mul = Mul }

-- sums of products of variables, with natural coefficients
pub data Poly : Type 0 where
  End : Poly
  Term : ℕ → List ℕ → Poly → Poly

abbrev pub and_then : Bool → Bool → Bool
and_then true b = b
and_then false b = false

abbrev pub same_mono : List ℕ → List ℕ → Bool
same_mono [] [] = true
same_mono [] (j ∷ n) = false
same_mono (i ∷ m) [] = false
same_mono (i ∷ m) (j ∷ n) = and_then (eqb i j) (same_mono m n)

abbrev pub before : List ℕ → List ℕ → Bool
before [] [] = false
before [] (j ∷ n) = true
before (i ∷ m) [] = false
before (i ∷ m) (j ∷ n) = elim (eqb i j) [ true ↦ before m n | false ↦ ltb i j ]

abbrev pub ins : ℕ → List ℕ → List ℕ
ins i [] = i ∷ []
ins i (j ∷ m) = elim (leb i j) [ true ↦ i ∷ j ∷ m | false ↦ j ∷ ins i m ]

abbrev pub mul_mono : List ℕ → List ℕ → List ℕ
mul_mono [] n = n
mul_mono (i ∷ m) n = ins i (mul_mono m n)

abbrev pub add_term : ℕ → List ℕ → Poly → Poly
add_term c m End = Term c m End
add_term c m (Term d n p) =
    elim (same_mono m n) [ true ↦ Term (c + d) n p | false ↦ elim (before m n) [ true ↦ Term c m (Term d n p) | false ↦ Term d n (add_term c m p) ] ]

abbrev pub add_poly : Poly → Poly → Poly
add_poly End q = q
add_poly (Term c m p) q = add_term c m (add_poly p q)

abbrev pub mul_term : ℕ → List ℕ → Poly → Poly
mul_term c m End = End
mul_term c m (Term d n p) = add_term (c * d) (mul_mono m n) (mul_term c m p)

abbrev pub mul_poly : Poly → Poly → Poly
mul_poly End q = End
mul_poly (Term c m p) q = add_poly (mul_term c m q) (mul_poly p q)

abbrev pub same_poly : Poly → Poly → Bool
same_poly End End = true
same_poly End (Term d n q) = false
same_poly (Term c m p) End = false
same_poly (Term c m p) (Term d n q) = and_then (eqb c d) (and_then (same_mono m n) (same_poly p q))

-- a difference of two
pub record Form : Type 0 where
  pub plus : Poly
  pub minus : Poly

abbrev pub form : Exp → Form
form (V i) = record { plus = Term 1 (i ∷ []) End; minus = End }
form (K zero) = record { plus = End; minus = End }
form (K (suc n)) = record { plus = Term (suc n) [] End; minus = End }
form (Neg e) = let f = form e in record { plus = f.minus; minus = f.plus }
form (Add e e') = let f = form e in let g = form e' in record { plus = add_poly f.plus g.plus; minus = add_poly f.minus g.minus }
form (Mul e e') = let f = form e in let g = form e' in
    record { plus = add_poly (mul_poly f.plus g.plus) (mul_poly f.minus g.minus); minus = add_poly (mul_poly f.plus g.minus) (mul_poly f.minus g.plus) }

abbrev pub same : Exp → Exp → Bool
same e e' = let f = form e in let g = form e' in same_poly (add_poly f.plus g.minus) (add_poly g.plus f.minus)

-- the value of variable i
abbrev pub at : {A : Type 0} → A → List A → ℕ → A
at d [] i = d
at d (x ∷ xs) zero = x
at d (x ∷ xs) (suc i) = at d xs i

module _ {A : Type 0} (o : Ops A) where
  -- what an expression is, at values of its variables
  abbrev pub value : (ℕ → A) → Exp → A
  value v (V i) = v i
  value v (K n) = o.num n
  value v (Neg e) = o.neg (value v e)
  value v (Add e f) = o.add (value v e) (value v f)
  value v (Mul e f) = o.mul (value v e) (value v f)

  abbrev pub mono : (ℕ → A) → List ℕ → A
  mono v [] = o.num 1
  mono v (i ∷ m) = o.mul (v i) (mono v m)

  abbrev pub poly : (ℕ → A) → Poly → A
  poly v End = o.num 0
  poly v (Term c m p) = o.add (o.mul (o.num c) (mono v m)) (poly v p)

-- expressions with one normal form have one value
abbrev pub HasNormalForms : {A : Type 0} → Ops A → Type 0
HasNormalForms {A} o = (v : ℕ → A) (e f : Exp) → same e f ≡ true → value o v e ≡ value o v f
