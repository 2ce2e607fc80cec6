-- A step over all irreps of a file, in file order.
--
-- IsFirstRefused passes refuses items r: an item is refused with r, and all items before it pass
-- IsWideAmong wide items k: a number of family k is wide at an item
-- Each R xs ys: two lists of one length, whose items at one place are related
use Rattle.std.specs.Prelude.{◌≡◌, ℕ, List, [], ◌∷◌, ◌++◌, All, Contains}
use Rattle.report_steps.specs.declared.refusal.Refusal.{Refusal}

-- the first item that is refused
pub record IsFirstRefused {A : Type 0} (passes : A → Type 0) (refuses : A → Refusal → Type 0) (items : List A) (r : Refusal) : Type 0 where
  pub front : List A
  pub item : A
  pub back : List A
  pub joined : items ≡ front ++ (item ∷ back)
  pub before : All passes front
  pub refused : refuses item r

-- a number is wide at some item
abbrev pub IsWideAmong : {A : Type 0} → (A → ℕ → Type 0) → List A → ℕ → Type 0
IsWideAmong {A} wide items k = (item : A) × Contains items item × wide item k

-- two lists of one length, whose items at one place are related
abbrev pub Each : {A B : Type 0} → (A → B → Type 0) → List A → List B → Type 0
Each R [] [] = Unit {0}
Each R (x ∷ xs) (y ∷ ys) = R x y × Each R xs ys
Each R _ _ = ⊥
