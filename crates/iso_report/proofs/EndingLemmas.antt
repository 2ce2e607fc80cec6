-- How work on a file ends, by how the work behind a step ends.
use Rattle.std.proofs.Common.{◌≡◌, ◌⊎◌, ℕ, List, [], Option, Some, None, Result, Ok, Err, inl, inr, refl, sym, ap, subst}
use Rattle.std.proofs.lemmas.List.{append-nil}
use Rattle.iso_text.specs.Streams.{GrownBy, GrownByPrefix}
use Rattle.iso_watch.specs.Watchers.{Watcher}
use Rattle.report_steps.specs.declared.refusal.Refusal.{Refusal}
use Rattle.report_steps.specs.Finding.{Finding, report, refused}
use Rattle.report_steps.specs.Steps.{After, OrWide}
use Rattle.iso_report.specs.declared.run_error.RunError.{RunError}
use Rattle.iso_report.specs.declared.run_error.RunError.TheVariants as run_error
use Rattle.iso_report.specs.Endings.{Change, Left, Ends, IsPut, left}

-- it has grown by nothing
pub grown_by_nothing : (held : Option (List ℕ)) → GrownBy [] held held
grown_by_nothing None = tt
grown_by_nothing (Some bytes) = ap Some (sym (append-nil bytes))

-- it has grown by nothing of any bytes
pub grown_by_prefix : (bytes : List ℕ) (held : Option (List ℕ)) → GrownByPrefix bytes held held
grown_by_prefix bytes None = tt
grown_by_prefix bytes (Some old) = (0, ap Some (sym (append-nil old)))

-- what one finds, the other finds too
pub ends-map : {A : Type 0} (P Q : Finding → Type 0) → ((f : Finding) → P f → Q f) → (l : Left) (r : Result A RunError) → Ends P l r → Ends Q l r
ends-map P Q m l (Ok x) h = (h.0, m (report h.0) h.1, h.2)
ends-map P Q m l (Err (run_error.Refused c)) h = (m (refused c) h.0, h.1, h.2)
ends-map P Q m l (Err run_error.WriteFault) h = (h.0, m (report h.0) h.1, h.2, h.3)
ends-map P Q m l (Err run_error.NoMemory) (inl g) = inl g
ends-map P Q m l (Err run_error.NoMemory) (inr h) = inr (h.0, m (report h.0) h.1, h.2)

-- what one finds and tells no watcher, the other finds with the watchers as they were
pub ends-alone : {A : Type 0} (P Q : Finding → Type 0) → ((f : Finding) → P f → Q f) → (out : Change) (ws : List Watcher) (r : Result A RunError) → Ends P (left out [] []) r → Ends Q (left out ws ws) r
ends-alone P Q m out ws (Ok x) h = (h.0, m (report h.0) h.1, h.2)
ends-alone P Q m out ws (Err (run_error.Refused c)) h = (m (refused c) h.0, h.1, refl)
ends-alone P Q m out ws (Err run_error.WriteFault) h = (h.0, m (report h.0) h.1, h.2, h.3)
ends-alone P Q m out ws (Err run_error.NoMemory) (inl g) = inl (g.0, refl)
ends-alone P Q m out ws (Err run_error.NoMemory) (inr h) = inr (h.0, m (report h.0) h.1, h.2)

-- the report of what was found is written
pub ends-put : {A : Type 0} (P : Finding → Type 0) (text : List ℕ) (l : Left) (r : Result A RunError) → P (report text) → IsPut text l.out r → Ends P l r
ends-put P text l (Ok x) h g = (text, h, g)
ends-put P text l (Err (run_error.Refused c)) h g = absurd g
ends-put P text l (Err run_error.WriteFault) h g = (text, h, g.0, g.1)
ends-put P text l (Err run_error.NoMemory) h g = inr (text, h, g)

-- the same, by the pieces of the report
pub ends-written : {A : Type 0} (P : Finding → Type 0) (text pieces : List ℕ) (l : Left) (r : Result A RunError) → P (report text) → pieces ≡ text → IsPut pieces l.out r → Ends P l r
ends-written P text pieces l r h e g = ends-put P text l r h (subst (λ (t : List ℕ). IsPut t l.out r) e g)

module _ {A B : Type 0} (refuses : A → Refusal → Type 0) (wide : A → ℕ → Type 0) (passes : A → B → Type 0) (next : B → Finding → Type 0) (a : A) where
  -- a step that refuses
  pub step-refused : (r : Refusal) → refuses a r → After refuses wide passes next a (refused r)
  step-refused r h = inl (r, h, refl)

  -- a step that refuses, or where a number passes its bound
  pub step-wide : (r : Refusal) → OrWide refuses wide a r → After refuses wide passes next a (refused r)
  step-wide r (inl h) = inl (r, h, refl)
  step-wide r (inr (k, w, e)) = inr (inl (k, w, ap refused e))

  -- what is found behind a value that passes
  pub step-ends : {X : Type 0} (b : B) → passes a b → (l : Left) (r : Result X RunError) → Ends (next b) l r → Ends (After refuses wide passes next a) l r
  step-ends b p l r h = ends-map (next b) (After refuses wide passes next a) (λ f w. inr (inr (b, p, w))) l r h
