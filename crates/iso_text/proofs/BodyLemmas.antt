-- Lists that grow by one.
use Rattle.std.proofs.Common.{◌≡◌, Bool, true, false, List, [], ◌∷◌, ◌++◌, refl, sym, ◌∙◌, ap, append_assoc, append-nil, ◌&&◌}
use Rattle.std.specs.List.{list_all}
use Rattle.std.proofs.lemmas.List.Folds.{list_all-append}
use Rattle.iso_text.specs.File.{is_new, have_new_names}
use Rattle.iso_text.specs.declared.sections.IrrepText.{IrrepText}

pub both : (a b : Bool) → a ≡ true → b ≡ true → (a && b) ≡ true
both true b x y = y
both false b x y = x

pub apart : (a b : Bool) → (a && b) ≡ true → (a ≡ true) × (b ≡ true)
apart true b x = (refl, x)
apart false b x = absurd (cc)

-- names
pub new_names-snoc : (before irreps : List IrrepText) (i : IrrepText) → have_new_names before irreps ≡ true → is_new i.name (before ++ irreps) ≡ true → have_new_names before (irreps ++ i ∷ []) ≡ true
new_names-snoc before [] i old new = both (is_new i.name before) true (ap (is_new i.name) (sym (append-nil before)) ∙ new) refl
new_names-snoc before (j ∷ irreps) i old new =
    let parts = apart (is_new j.name before) (have_new_names (before ++ j ∷ []) irreps) old in
    both (is_new j.name before) (have_new_names (before ++ j ∷ []) (irreps ++ i ∷ [])) parts.0 (new_names-snoc (before ++ j ∷ []) irreps i parts.1 (ap (is_new i.name) (append_assoc before (j ∷ []) irreps) ∙ new))

pub all-snoc : {X : Type 0} (p : X → Bool) (xs : List X) (x : X) → list_all p xs ≡ true → p x ≡ true → list_all p (xs ++ x ∷ []) ≡ true
all-snoc p xs x old new = list_all-append p xs (x ∷ []) ∙ both (list_all p xs) (list_all p (x ∷ [])) old (both (p x) true new refl)

and_true : (b c : Bool) → c ≡ true → (b && c) ≡ b
and_true true c e = e
and_true false c e = refl

pub same-snoc : {X : Type 0} (p : X → Bool) (xs : List X) (x : X) → p x ≡ true → list_all p (xs ++ x ∷ []) ≡ list_all p xs
same-snoc p xs x new = list_all-append p xs (x ∷ []) ∙ and_true (list_all p xs) (p x && true) (both (p x) true new refl)
