-- The law of a step: one answer of each step makes one finding.
--
-- IsSingle refuses passes: a step has one answer; IsSingleAt refuses passes a, single-at: at a
-- After-single: one finding behind a step with one answer, where no family of numbers is wide
-- IsNoWide f: the finding is no number that passes its bound
-- After-single-at: one finding behind a step with one answer at a, besides such numbers
-- After-map: what is found behind a step, by what else is found behind it
-- IsSingleFor refuses passes a b: a step has one answer at a and b, but for what passes
-- After-single-for: one finding behind such a step at a and at b, besides such numbers
use Rattle.std.proofs.Common.{◌≡◌, ◌≢◌, sym, ap, ◌∙◌, subst, ℕ, inl, inr}
use Rattle.report_steps.specs.declared.refusal.Refusal.{Refusal}
use Rattle.report_steps.specs.declared.refusal.Refusal.TheVariants.{Wide}
use Rattle.report_steps.specs.Finding.{Finding, refused}
use Rattle.report_steps.specs.Steps.{After}

-- at most one refusal, at most one value that passes, and not both
pub record IsSingle {A B : Type 0} (refuses : A → Refusal → Type 0) (passes : A → B → Type 0) : Type 0 where
  pub refusal : (a : A) (r s : Refusal) → refuses a r → refuses a s → r ≡ s
  pub value : (a : A) (b c : B) → passes a b → passes a c → b ≡ c
  pub apart : (a : A) (r : Refusal) (b : B) → refuses a r → passes a b → ⊥

-- what next finds is one
abbrev pub FindsOne : {B : Type 0} → (B → Finding → Type 0) → Type 0
FindsOne {B} next = (b : B) (f g : Finding) → next b f → next b g → f ≡ g

pub After-single : {A B : Type 0} (refuses : A → Refusal → Type 0) (wide : A → ℕ → Type 0) (passes : A → B → Type 0) (next : B → Finding → Type 0)
    → IsSingle refuses passes → ((a : A) (k : ℕ) → wide a k → ⊥) → FindsOne next → FindsOne (After refuses wide passes next)
After-single refuses wide passes next s w n a f g (inl (r, x, e)) (inl (q, y, h)) = e ∙ ap refused (s.refusal a r q x y) ∙ sym h
After-single refuses wide passes next s w n a f g (inl (r, x, e)) (inr (inl (k, y, h))) = absurd (w a k y)
After-single refuses wide passes next s w n a f g (inl (r, x, e)) (inr (inr (c, q, m))) = absurd (s.apart a r c x q)
After-single refuses wide passes next s w n a f g (inr (inl (k, x, e))) h = absurd (w a k x)
After-single refuses wide passes next s w n a f g (inr (inr (b, p, k))) (inl (q, y, h)) = absurd (s.apart a q b y p)
After-single refuses wide passes next s w n a f g (inr (inr (b, p, k))) (inr (inl (i, y, h))) = absurd (w a i y)
After-single {A} {B} refuses wide passes next s w n a f g (inr (inr (b, p, k))) (inr (inr (c, q, m))) =
    let P : B → Type 0 = λ x. next x f in
    n c f g (subst P (s.value a b c p q) k) m

-- the finding is no number that passes its bound
abbrev pub IsNoWide : Finding → Type 0
IsNoWide f = (k : ℕ) → f ≢ refused (Wide k)

-- at most one refusal of a, at most one value that passes, and not both
pub record IsSingleAt {A B : Type 0} (refuses : A → Refusal → Type 0) (passes : A → B → Type 0) (a : A) : Type 0 where
  pub refusal : (r s : Refusal) → refuses a r → refuses a s → r ≡ s
  pub value : (b c : B) → passes a b → passes a c → b ≡ c
  pub apart : (r : Refusal) (b : B) → refuses a r → passes a b → ⊥

pub single-at : {A B : Type 0} (refuses : A → Refusal → Type 0) (passes : A → B → Type 0) → IsSingle refuses passes → (a : A) → IsSingleAt refuses passes a
single-at refuses passes s a = record { refusal = s.refusal a; value = s.value a; apart = s.apart a }

-- what next finds at b is one, besides numbers that pass their bound
abbrev pub FindsOneAt : {B : Type 0} → (B → Finding → Type 0) → B → Type 0
FindsOneAt {B} next b = (f g : Finding) → next b f → next b g → IsNoWide f → IsNoWide g → f ≡ g

pub After-single-at : {A B : Type 0} (refuses : A → Refusal → Type 0) (wide : A → ℕ → Type 0) (passes : A → B → Type 0) (next : B → Finding → Type 0) (a : A)
    → IsSingleAt refuses passes a → ((b : B) → passes a b → FindsOneAt next b) → FindsOneAt (After refuses wide passes next) a
After-single-at refuses wide passes next a s n f g (inl (r, x, e)) (inl (q, y, h)) u v = e ∙ ap refused (s.refusal r q x y) ∙ sym h
After-single-at refuses wide passes next a s n f g (inl (r, x, e)) (inr (inl (k, y, h))) u v = absurd (v k h)
After-single-at refuses wide passes next a s n f g (inl (r, x, e)) (inr (inr (c, q, m))) u v = absurd (s.apart r c x q)
After-single-at refuses wide passes next a s n f g (inr (inl (k, x, e))) h u v = absurd (u k e)
After-single-at refuses wide passes next a s n f g (inr (inr (b, p, k))) (inl (q, y, h)) u v = absurd (s.apart q b y p)
After-single-at refuses wide passes next a s n f g (inr (inr (b, p, k))) (inr (inl (i, y, h))) u v = absurd (v i h)
After-single-at {A} {B} refuses wide passes next a s n f g (inr (inr (b, p, k))) (inr (inr (c, q, m))) u v =
    let P : B → Type 0 = λ x. next x f in
    n c q f g (subst P (s.value b c p q) k) m u v

-- what is found behind a step, by what else is found behind it
pub After-map : {A B : Type 0} (refuses : A → Refusal → Type 0) (wide : A → ℕ → Type 0) (passes : A → B → Type 0) (p q : B → Finding → Type 0) → ((b : B) (f : Finding) → p b f → q b f)
    → (a : A) (f : Finding) → After refuses wide passes p a f → After refuses wide passes q a f
After-map refuses wide passes p q k a f (inl h) = inl h
After-map refuses wide passes p q k a f (inr (inl h)) = inr (inl h)
After-map refuses wide passes p q k a f (inr (inr (b, h, w))) = inr (inr (b, h, k b f w))

-- what next finds at b and at c is one, besides numbers that pass their bound
abbrev pub FindsOneFor : {B : Type 0} → (B → Finding → Type 0) → B → B → Type 0
FindsOneFor {B} next b c = (f g : Finding) → next b f → next c g → IsNoWide f → IsNoWide g → f ≡ g

-- one refusal of a and b, and a value of neither passes where the other is refused
pub record IsSingleFor {A B : Type 0} (refuses : A → Refusal → Type 0) (passes : A → B → Type 0) (a b : A) : Type 0 where
  pub refusal : (r s : Refusal) → refuses a r → refuses b s → r ≡ s
  pub first : (r : Refusal) (c : B) → refuses a r → passes b c → ⊥
  pub second : (r : Refusal) (c : B) → passes a c → refuses b r → ⊥

pub After-single-for : {A B : Type 0} (refuses : A → Refusal → Type 0) (wide : A → ℕ → Type 0) (passes : A → B → Type 0) (next : B → Finding → Type 0) (a b : A)
    → IsSingleFor refuses passes a b → ((c d : B) → passes a c → passes b d → FindsOneFor next c d) → FindsOneFor (After refuses wide passes next) a b
After-single-for refuses wide passes next a b s n f g (inl (r, x, e)) (inl (q, y, h)) u v = e ∙ ap refused (s.refusal r q x y) ∙ sym h
After-single-for refuses wide passes next a b s n f g (inl (r, x, e)) (inr (inl (k, y, h))) u v = absurd (v k h)
After-single-for refuses wide passes next a b s n f g (inl (r, x, e)) (inr (inr (c, q, m))) u v = absurd (s.first r c x q)
After-single-for refuses wide passes next a b s n f g (inr (inl (k, x, e))) h u v = absurd (u k e)
After-single-for refuses wide passes next a b s n f g (inr (inr (c, p, k))) (inl (q, y, h)) u v = absurd (s.second q c p y)
After-single-for refuses wide passes next a b s n f g (inr (inr (c, p, k))) (inr (inl (i, y, h))) u v = absurd (v i h)
After-single-for refuses wide passes next a b s n f g (inr (inr (c, p, k))) (inr (inr (d, q, m))) u v = n c d p q f g k m u v
