use Rattle.std.proofs.Common.{◌≡◌, List, [], ◌∷◌, Result, Option, IfOk, IfSome, Some, None, inl, inr}
use Rattle.std.specs.Prelude.{Ok, Err, IfNone}
use Rattle.real_form.specs.Orbits.{FirstOf, NoneOf}

-- an answer has one error
pub error-is : {A E : Type 0} (x y : E) (r : Result A E) → r ≡ Err x → r ≡ Err y → x ≡ y
error-is x y r p q = cc

-- what follows from the answer of a call
pub some-map : {A E : Type 0} (r : Result (Option A) E) (P Q : A → Type 0) → ((x : A) → P x → Q x) → IfOk r (λ a. IfSome a P) → IfOk r (λ a. IfSome a Q)
some-map (Ok (Some x)) P Q t h = t x h
some-map (Ok None) P Q t h = tt
some-map (Err e) P Q t h = tt

pub none-map : {A E : Type 0} (r : Result (Option A) E) (P Q : Type 0) → (P → Q) → IfOk r (λ a. IfNone a P) → IfOk r (λ a. IfNone a Q)
none-map (Ok (Some x)) P Q t h = tt
none-map (Ok None) P Q t h = t h
none-map (Err e) P Q t h = tt

module _ {V : Type 0} (P N : V → Type 0) where
  pub first-one : (v : V) → P v → FirstOf P N (v ∷ [])
  first-one v h = inl h

  pub none-one : (v : V) → N v → NoneOf N (v ∷ [])
  none-one v h = (h, tt)

  -- a member that has P
  pub first-some : (vs : List V) → FirstOf P N vs → (v : V) × P v
  first-some [] h = absurd h
  first-some (v ∷ vs) h = elim h [ inl p ↦ (v, p) | inr m ↦ first-some vs m.1 ]
