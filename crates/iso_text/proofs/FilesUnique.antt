-- A list of lines is at most one file, and has at most one cause of bad text.
use Rattle.std.proofs.Common.{◌≡◌, ℕ, ◌+◌, ◌<◌, ◌≤◌, List, [], ◌++◌, length, take, refl, sym, ◌∙◌, ap, subst, arith, append_assoc, append-nil, inl, inr}
use Rattle.std.specs.Prelude.{option_and_then, ◌⊎◌, Result, Ok, Err, IfOk, IfErr, MatchResult}
use Rattle.std.proofs.lemmas.Bool.{cases_lt}
use Rattle.std.proofs.lemmas.List.{take_all, take-take}
use Rattle.iso_text.specs.Draft.{finished}
use Rattle.iso_text.specs.File.{IsFile, IsStart, IsBadAfter, HasCause}
use Rattle.iso_text.specs.FileLines.{file_lines}
use Rattle.iso_text.specs.FileValue.{File}
use Rattle.iso_text.specs.declared.read_error.ReadError.{ReadError}
use Rattle.iso_text.specs.declared.read_error.ReadError.TheVariants.{BadText, NoMemory}
use Rattle.iso_text.proofs.LineFacts.{say_front}
use Rattle.iso_text.proofs.Starts.{file_is_run}
use Rattle.iso_text.proofs.Steps.{some_is}

-- a file's lines give its values alone
pub file_unique : (lines : List (List ℕ)) (f g : File) → IsFile lines f → IsFile lines g → f ≡ g
file_unique lines f g one other = some_is (ap (option_and_then finished) (sym (file_is_run lines f one) ∙ file_is_run lines g other))

-- each front of a start is a start
pub front_is_start : (lines : List (List ℕ)) (m : ℕ) → IsStart lines → IsStart (take m lines)
front_is_start lines m start =
    let front = say_front 1 lines m start.said start.says in
    record { said = front.front; says = front.says; more = front.rest ++ start.more; file = start.file; whole = sym (append_assoc front.front front.rest start.more) ∙ ap (λ x. x ++ start.more) front.joined ∙ start.whole; sound = start.sound }

file_is_start : (lines : List (List ℕ)) (f : File) → IsFile lines f → IsStart lines
file_is_start lines f file = record { said = file_lines f; says = file.said; more = []; file = f; whole = append-nil (file_lines f); sound = file.sound }

neither : {A B : Type 0} → (A → ⊥) → (B → ⊥) → A ⊎ B → ⊥
neither a b (inl x) = a x
neither a b (inr y) = b y

-- a file is nowhere bad text
pub file_not_bad : (lines : List (List ℕ)) (f : File) (n : ℕ) → IsFile lines f → IsBadAfter n lines → ⊥
file_not_bad lines f n file bad = neither (λ stops. stops (front_is_start lines (n + 1) (file_is_start lines f file))) (λ short. short.1 f file) bad.1

-- an answer that is a file or has its cause is exact
pub read_only : (lines : List (List ℕ)) (r : Result File ReadError) → IfOk r (λ d. IsFile lines d) → IfErr r (λ e. HasCause lines e) → (f : File) → IsFile lines f → MatchResult r (λ d. d ≡ f) (λ e. e ≡ NoMemory)
read_only lines (Ok d) is cause f file = file_unique lines d f is file
read_only lines (Err NoMemory) is cause f file = refl
read_only lines (Err (BadText number)) is cause f file = absurd (file_not_bad lines f cause.0 file cause.2)

front_of_front : (lines : List (List ℕ)) (m n : ℕ) → n < m → take (n + 1) (take m lines) ≡ take (n + 1) lines
front_of_front lines m n below = take-take (n + 1) m lines (omega (arith, below))

shorter_front : (lines : List (List ℕ)) (m n : ℕ) → n < m → IsStart (take m lines) → IsStart (take (n + 1) lines)
shorter_front lines m n below start = subst (λ x. IsStart x) (front_of_front lines m n below) (front_is_start (take m lines) (n + 1) start)

-- no line after a bad one goes on as a file
bad_before : (lines : List (List ℕ)) (m n : ℕ) → n < m → IsBadAfter n lines → IsBadAfter m lines → ⊥
bad_before lines m n below first later = neither (λ stops. stops (shorter_front lines m n below later.0)) (λ short. late short.0 later.1) first.1
  where
    late : length lines ≡ n → ((IsStart (take (m + 1) lines) → ⊥) ⊎ ((length lines ≡ m) × ((f : File) → IsFile lines f → ⊥))) → ⊥
    late size = neither (λ stops. stops (subst (λ x. IsStart x) (take_all n lines (omega (arith, size)) ∙ sym (take_all (m + 1) lines (omega (arith, size, below)))) first.0)) (λ short. absurd (omega (arith, size, short.0, below)))

bad_once : (lines : List (List ℕ)) (m n : ℕ) → IsBadAfter n lines → IsBadAfter m lines → (m < n) ⊎ (n ≤ m) → (n < m) ⊎ (m ≤ n) → n ≡ m
bad_once lines m n first later (inl below) high = absurd (bad_before lines n m below later first)
bad_once lines m n first later (inr low) (inl below) = absurd (bad_before lines m n below first later)
bad_once lines m n first later (inr low) (inr high) = omega (arith, low, high)

pub cause_unique : (lines : List (List ℕ)) (a b : ℕ) → HasCause lines (BadText a) → HasCause lines (BadText b) → a ≡ b
cause_unique lines a b first later = omega (arith, first.1, later.1, bad_once lines later.0 first.0 first.2 later.2 (cases_lt later.0 first.0) (cases_lt first.0 later.0))
