-- The grammar of coordinates with their signs, and of tolerances, against their functions.
use Rattle.std.proofs.Common.{◌≡◌, ℕ, ℤ, pos, negsuc, ◌<◌, ◌==◌, Bool, true, false, List, [], ◌∷◌, ◌++◌, length, Some, None, refl, sym, ◌∙◌, ap, subst, arith, if◌then◌else◌, inl, inr}
use Rattle.std.specs.Prelude.{option_and_then}
use Rattle.std.specs.Option.{option_map}
use Rattle.std.specs.List.{list_all}
use Rattle.std.specs.Char.{is_ascii_digit}
use Rattle.std.proofs.lemmas.Bool.{ltb-true, lt-ltb}
use Rattle.std.proofs.lemmas.Bool.Decides.{nat_tests}
use Rattle.iso_text.specs.Cuts.{is_sign}
use Rattle.iso_text.specs.Fractions.{signed, units_of, place_of, is_tolerance, tolerance_of}
use Rattle.iso_text.specs.Spellings.{SpellsUnits, IsSignOf, SpellsPlace, SpellsTolerance}
use Rattle.iso_text.proofs.BodyLemmas.{apart}
use Rattle.iso_text.proofs.Steps.{guard, bind}
use Rattle.iso_text.proofs.SpellingLemmas.{is_this, none_some, map_some}
use Rattle.iso_text.proofs.PlaceSpellings.{digit_no_sign, units-sound, units-complete}

pub plus : (c : ℕ) → is_sign c ≡ true → (c == 45) ≡ false → c ≡ 43
plus c sign other = grind (arith, nat_tests)

pub sign_is : (c : ℕ) (t : Bool) → is_sign c ≡ true → (c == 45) ≡ t → IsSignOf (c == 45) (c ∷ [])
sign_is c true sign is = inl (is, ap (λ x. x ∷ []) (is_this c 45 is))
sign_is c false sign is = inr (inl (is, ap (λ x. x ∷ []) (plus c sign is)))

place-sound_cons : (c : ℕ) (cs : List ℕ) (z : ℤ) (t : Bool) → is_sign c ≡ t → (if t then option_map (signed (c == 45)) (units_of cs) else option_map (signed false) (units_of (c ∷ cs))) ≡ Some z → SpellsPlace (c ∷ cs) z
place-sound_cons c cs z true sign read =
    let one = map_some (signed (c == 45)) (units_of cs) z read in
    record { negative = (c == 45); front = c ∷ []; body = cs; units = one.0; joined = refl; signed_by = sign_is c (c == 45) sign refl; spelled = units-sound cs one.0 one.1; value = sym one.2 }
place-sound_cons c cs z false sign read =
    let one = map_some (signed false) (units_of (c ∷ cs)) z read in
    record { negative = false; front = []; body = c ∷ cs; units = one.0; joined = refl; signed_by = inr (inr (refl, refl)); spelled = units-sound (c ∷ cs) one.0 one.1; value = sym one.2 }

pub place-sound : (text : List ℕ) (z : ℤ) → place_of text ≡ Some z → SpellsPlace text z
place-sound [] z read = none_some read
place-sound (c ∷ cs) z read = place-sound_cons c cs z (is_sign c) refl read

-- a text of digits and a rest begins with no sign
begins_unsigned : (digits rest : List ℕ) (c : ℕ) (cs : List ℕ) → c ∷ cs ≡ digits ++ rest → 0 < length digits → list_all is_ascii_digit digits ≡ true → is_sign c ≡ false
begins_unsigned [] rest c cs joined some all = absurd (omega arith)
begins_unsigned (d ∷ digits) rest c cs joined some all =
    let heads : c ≡ d = cc in
    ap is_sign heads ∙ digit_no_sign d ((apart (is_ascii_digit d) (list_all is_ascii_digit digits) all).0)

point_unsigned : (edges digits : List ℕ) (c : ℕ) (cs : List ℕ) → c ∷ cs ≡ edges ++ (46 ∷ digits) → list_all is_ascii_digit edges ≡ true → is_sign c ≡ false
point_unsigned [] digits c cs joined all = let heads : c ≡ 46 = cc in ap is_sign heads
point_unsigned (e ∷ edges) digits c cs joined all = begins_unsigned (e ∷ edges) (46 ∷ digits) c cs joined (omega arith) all

units_unsigned : (c : ℕ) (cs : List ℕ) (u : ℕ) → SpellsUnits (c ∷ cs) u → is_sign c ≡ false
units_unsigned c cs u (inl s) = digit_no_sign c ((apart (is_ascii_digit c) (list_all is_ascii_digit cs) (s.1.spelled.digits)).0)
units_unsigned c cs u (inr (inl s)) = point_unsigned s.edges s.digits c cs s.joined s.before.digits
units_unsigned c cs u (inr (inr s)) = begins_unsigned s.digits (47 ∷ s.divisor) c cs s.joined s.whole.some s.whole.spelled.digits

unsigned-complete : (body : List ℕ) (u : ℕ) → SpellsUnits body u → place_of body ≡ Some (signed false u)
unsigned-complete [] u s = none_some (units-complete [] u s)
unsigned-complete (c ∷ cs) u s =
    ap (λ t. if t then option_map (signed (c == 45)) (units_of cs) else option_map (signed false) (units_of (c ∷ cs))) (units_unsigned c cs u s)
    ∙ ap (λ o. option_map (signed false) o) (units-complete (c ∷ cs) u s)

place-complete_by : (negative : Bool) (front body : List ℕ) (u : ℕ) → IsSignOf negative front → SpellsUnits body u → place_of (front ++ body) ≡ Some (signed negative u)
place-complete_by negative front body u (inl w) s =
    ap (λ f. place_of (f ++ body)) w.1 ∙ ap (λ o. option_map (signed true) o) (units-complete body u s) ∙ ap (λ n. Some (signed n u)) (sym w.0)
place-complete_by negative front body u (inr (inl w)) s =
    ap (λ f. place_of (f ++ body)) w.1 ∙ ap (λ o. option_map (signed false) o) (units-complete body u s) ∙ ap (λ n. Some (signed n u)) (sym w.0)
place-complete_by negative front body u (inr (inr w)) s =
    ap (λ f. place_of (f ++ body)) w.1 ∙ unsigned-complete body u s ∙ ap (λ n. Some (signed n u)) (sym w.0)

pub place-complete : (text : List ℕ) (z : ℤ) → SpellsPlace text z → place_of text ≡ Some z
place-complete text z s = ap place_of s.joined ∙ place-complete_by s.negative s.front s.body s.units s.signed_by s.spelled ∙ ap (λ x. Some x) (sym s.value)

low : (z : ℤ) → is_tolerance z ≡ true → (n : ℕ) × (z ≡ pos n) × (n < 3000000)
low (pos n) test = (n, refl, ltb-true n 3000000 test)
low (negsuc n) test = absurd (cc)

pub tolerance-sound : (text : List ℕ) (z : ℤ) → tolerance_of text ≡ Some z → SpellsTolerance text z
tolerance-sound text z read =
    let one = bind (place_of text) (λ t. if is_tolerance t then Some t else None) z read in
    let test = guard (is_tolerance one.0) one.0 z one.2 in
    let bound = low one.0 test.0 in
    (subst (λ t. SpellsPlace text t) test.1 (place-sound text one.0 one.1), bound.0, sym test.1 ∙ bound.1, bound.2)

pub tolerance-complete : (text : List ℕ) (z : ℤ) → SpellsTolerance text z → tolerance_of text ≡ Some z
tolerance-complete text z s =
    let test : is_tolerance z ≡ true = ap is_tolerance s.2 ∙ lt-ltb s.1 3000000 s.3 in
    ap (λ o. option_and_then (λ t. if is_tolerance t then Some t else None) o) (place-complete text z s.0)
    ∙ ap (λ b. if b then Some z else None) test
