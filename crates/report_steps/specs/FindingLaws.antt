-- What is found behind a step, by the program's answers.
--
-- found-refused: a step that refuses
-- found-wide: a step that refuses, or where a number passes its bound
-- found-next: a step that a value passes, by the answer behind it
use Rattle.std.proofs.Common.{refl, ap, ℕ, List, inl, inr, Result, IfOk}
use Rattle.std.proofs.lemmas.Result.{IfOk-weaker}
use Rattle.report_steps.specs.declared.refusal.Refusal.{Refusal}
use Rattle.report_steps.specs.declared.step.Step.{Step}
use Rattle.report_steps.specs.declared.step.Step.TheVariants as step
use Rattle.report_steps.specs.Finding.{Finding, refused}
use Rattle.report_steps.specs.FoundBy.{FindsBy}
use Rattle.report_steps.specs.Steps.{After, OrWide}

module _ {A B T : Type 0} (text : T → List ℕ) (held : T → Type 0) (refuses : A → Refusal → Type 0) (wide : A → ℕ → Type 0) (passes : A → B → Type 0) (next : B → Finding → Type 0) (a : A) where
  -- a refusal of the step
  pub found-refused : (r : Refusal) → refuses a r → FindsBy text held (After refuses wide passes next a) (step.Refused r)
  found-refused r x = (inl (r, x, refl), tt)

  -- or a number that passes its bound
  pub found-wide : (r : Refusal) → OrWide refuses wide a r → FindsBy text held (After refuses wide passes next a) (step.Refused r)
  found-wide r (inl x) = (inl (r, x, refl), tt)
  found-wide r (inr (k, w, e)) = (inr (inl (k, w, ap refused e)), tt)

  -- what is found behind a value that passes
  pub found-next : {E : Type 0} (b : B) → passes a b → (r : Result (Step T) E) → IfOk r (FindsBy text held (next b)) → IfOk r (FindsBy text held (After refuses wide passes next a))
  found-next b p r h = IfOk-weaker r (FindsBy text held (next b)) (FindsBy text held (After refuses wide passes next a)) (λ s w. (inr (inr (b, p, w.0)), w.1)) h
