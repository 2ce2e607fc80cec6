-- The wanted irrep is one.
use Rattle.std.proofs.Common.{◌≡◌, ◌≢◌, inl, inr, refl, sym, ap, ◌∙◌, subst, true, false, ℕ, ◌≤◌, zero, suc, ◌+◌, ◌<◌, List, [], ◌∷◌, length, take, get_or, Option, Some, None, slice_get, arith}
use Rattle.std.specs.Prelude.{All, bytes_eq}
use Rattle.std.proofs.lemmas.Bool.{true≢false}
use Rattle.std.proofs.lemmas.List.{take_all}
use Rattle.std.proofs.lemmas.Option.{slice_get-get_or}
use Rattle.std.proofs.lemmas.Slice.Eq.{bytes_eq-Decides}
use Rattle.list_report.specs.HeldListings.{IsPlaceOf}
use Rattle.iso_text.specs.declared.sections.IrrepText.{IrrepText}
use Rattle.report_steps.specs.Contexts.{Divided}
use Rattle.list_report.specs.Choice.{IsFirstNamed, HasNone, IsWanted, RefusesChoice, IsChosen, chosen_of}
use Rattle.report_steps.specs.StepLaws.{IsSingleAt}

named-one : (name : List ℕ) (irreps : List IrrepText) (i j : IrrepText) → IsFirstNamed name irreps i → IsFirstNamed name irreps j → i ≡ j
named-one name [] i j a b = absurd a
named-one name (x ∷ xs) i j (inl a) (inl b) = a.1 ∙ sym b.1
named-one name (x ∷ xs) i j (inl a) (inr b) = absurd (b.0 a.0)
named-one name (x ∷ xs) i j (inr a) (inl b) = absurd (a.0 b.0)
named-one name (x ∷ xs) i j (inr a) (inr b) = named-one name xs i j a.1 b.1

named-none : (name : List ℕ) (irreps : List IrrepText) (i : IrrepText) → All (λ (x : IrrepText). x.name ≢ name) irreps → IsFirstNamed name irreps i → ⊥
named-none name [] i a b = b
named-none name (x ∷ xs) i a (inl b) = a 0 x (omega arith) b.0
named-none name (x ∷ xs) i a (inr b) = named-none name xs i (λ k d l. a (suc k) d (omega arith)) b.1

some-one : {X : Type 0} (x y : X) → Some x ≡ Some y → x ≡ y
some-one x y e = cc

none-first : (irreps : List IrrepText) (i : IrrepText) → irreps ≡ [] → slice_get irreps 0 ≡ Some i → ⊥
none-first [] i e h = cc
none-first (x ∷ xs) i e h = cc

wanted-one : (wanted : Option (List ℕ)) (irreps : List IrrepText) (i j : IrrepText) → IsWanted wanted irreps i → IsWanted wanted irreps j → i ≡ j
wanted-one None irreps i j a b = some-one i j (sym a ∙ b)
wanted-one (Some name) irreps i j a b = named-one name irreps i j a b

wanted-none : (wanted : Option (List ℕ)) (irreps : List IrrepText) (i : IrrepText) → HasNone wanted irreps → IsWanted wanted irreps i → ⊥
wanted-none None irreps i a b = none-first irreps i a b
wanted-none (Some name) irreps i a b = named-none name irreps i a b

pub choice-single : (wanted : Option (List ℕ)) (d : Divided) → IsSingleAt (RefusesChoice wanted) (IsChosen wanted) d
choice-single wanted d = record {
  refusal = λ r s x y. x.1 ∙ sym y.1;
  value = λ b c x y. x.1 ∙ ap (chosen_of d) (wanted-one wanted d.file.irreps b.irrep c.irrep x.0 y.0) ∙ sym y.1;
  apart = λ r b x y. wanted-none wanted d.file.irreps b.irrep x.0 y.0;
}

-- ---- by places

take-none : (name : List ℕ) (x : IrrepText) (xs : List IrrepText) → All (λ (y : IrrepText). y.name ≢ name) (x ∷ xs) → All (λ (y : IrrepText). y.name ≢ name) xs
take-none name x xs a k d l = a (suc k) d (omega arith)

-- the first behind others
pub first-named : (name : List ℕ) (irreps : List IrrepText) (k : ℕ) (x : IrrepText) → k < length irreps → x ≡ get_or irreps k x → All (λ (y : IrrepText). y.name ≢ name) (take k irreps) → x.name ≡ name
    → IsFirstNamed name irreps x
first-named name [] k x l e a n = absurd (omega arith)
first-named name (y ∷ ys) zero x l e a n = inl (ap (λ (i : IrrepText). i.name) (sym e) ∙ n, e)
first-named name (y ∷ ys) (suc k) x l e a n = inr (a 0 y (omega arith), first-named name ys k x (omega arith) e (take-none name y (take k ys) a) n)

none-suc : (name : List ℕ) (irreps : List IrrepText) (k : ℕ) (x : IrrepText) → k < length irreps → x ≡ get_or irreps k x → All (λ (y : IrrepText). y.name ≢ name) (take k irreps) → x.name ≢ name
    → All (λ (y : IrrepText). y.name ≢ name) (take (suc k) irreps)
none-suc name [] k x l e a n j d m = absurd (omega arith)
none-suc name (y ∷ ys) zero x l e a n zero d m = λ h. n (ap (λ (i : IrrepText). i.name) e ∙ h)
none-suc name (y ∷ ys) zero x l e a n (suc j) d m = absurd (omega arith)
none-suc name (y ∷ ys) (suc k) x l e a n zero d m = a 0 d (omega arith)
none-suc name (y ∷ ys) (suc k) x l e a n (suc j) d m = none-suc name ys k x (omega arith) e (take-none name y (take k ys) a) n j d (omega arith)

pub more-none : (name : List ℕ) (irreps : List IrrepText) (k : ℕ) (x : IrrepText) → k < length irreps → x ≡ get_or irreps k x → All (λ (y : IrrepText). y.name ≢ name) (take k irreps) → x.name ≢ name
    → All (λ (y : IrrepText). y.name ≢ name) (take (k + 1) irreps)
more-none name irreps k x l e a n =
    let next : suc k ≡ k + 1 = omega arith in
    let P : ℕ → Type 0 = λ j. All (λ (y : IrrepText). y.name ≢ name) (take j irreps) in
    subst P next (none-suc name irreps k x l e a n)

pub names-same : (xs ys : List ℕ) → true ≡ bytes_eq xs ys → xs ≡ ys
names-same xs ys e = (bytes_eq-Decides xs ys).0 (sym e)

pub names-apart : (xs ys : List ℕ) → false ≡ bytes_eq xs ys → xs ≢ ys
names-apart xs ys e h = true≢false (sym ((bytes_eq-Decides xs ys).1 h) ∙ sym e)

-- a place found, and none
pub place-named : (name : List ℕ) (irreps : List IrrepText) (k : ℕ) (x : IrrepText) → k < length irreps → x ≡ get_or irreps k x → All (λ (y : IrrepText). y.name ≢ name) (take k irreps) → x.name ≡ name
    → IsPlaceOf (Some name) irreps k
place-named name irreps k x l e a n = (x, slice_get-get_or irreps k x l ∙ ap Some (sym e), first-named name irreps k x l e a n)

pub none-named : (name : List ℕ) (irreps : List IrrepText) (k : ℕ) → length irreps ≤ k → All (λ (y : IrrepText). y.name ≢ name) (take k irreps) → All (λ (y : IrrepText). y.name ≢ name) irreps
none-named name irreps k l a = subst (All (λ (y : IrrepText). y.name ≢ name)) (take_all k irreps l) a

first-place : (irreps : List IrrepText) → 0 < length irreps → IsPlaceOf None irreps 0
first-place [] l = absurd (omega arith)
first-place (x ∷ xs) l = (x, refl, refl)

pub place-first : (wanted : Option (List ℕ)) (irreps : List IrrepText) → wanted ≡ None → 0 < length irreps → IsPlaceOf wanted irreps 0
place-first wanted irreps e l = subst (λ (o : Option (List ℕ)). IsPlaceOf o irreps 0) (sym e) (first-place irreps l)
