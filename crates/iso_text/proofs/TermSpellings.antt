-- The grammar of terms against their function.
use Rattle.std.proofs.Common.{◌≡◌, ℕ, ◌<◌, ◌==◌, Bool, true, false, List, [], ◌∷◌, ◌++◌, length, Option, Some, None, refl, sym, ◌∙◌, ap, subst, arith, nat_lt, nat_le, if◌then◌else◌, inl, inr, append-nil}
use Rattle.std.specs.Prelude.{option_and_then, ◌⊎◌}
use Rattle.std.specs.Option.{option_map}
use Rattle.std.specs.List.{list_all}
use Rattle.std.specs.Char.{is_ascii_digit}
use Rattle.std.proofs.lemmas.Bool.{ltb-true, lt-ltb}
use Rattle.std.proofs.lemmas.Bool.Decides.{nat_tests}
use Rattle.iso_text.specs.Cuts.{front, back, is_byte, is_sign}
use Rattle.iso_text.specs.Digits.{whole_of, ratio_of}
use Rattle.iso_text.specs.Numbers.{power_of_z, root_of, unit_of, coefficient_of, term, alone, product_of, term_of}
use Rattle.iso_text.specs.SumSpellings.{SpellsPower, SpellsUnit, SpellsCoefficient, SpellsTerm}
use Rattle.iso_text.specs.declared.numbers.Term.{Term}
use Rattle.iso_text.specs.declared.numbers.Unit.{Unit}
use Rattle.iso_text.specs.declared.numbers.Unit.TheVariants.{One, Z, I, R2, R3, R6}
use Rattle.iso_text.proofs.Steps.{guard, bind}
use Rattle.iso_text.proofs.BodyLemmas.{apart}
use Rattle.iso_text.proofs.SpellingLemmas.{Stops, Free, front-append, front-back, digits_free, whole-sound, whole-complete, ratio-sound, ratio-complete, is_this, none_some, map_some, le_true, true_le, choose}
use Rattle.iso_text.proofs.PlaceSpellings.{free_all, Free-append, digit_no_sign}
use Rattle.iso_text.proofs.FreeLemmas.{ratio_free}

-- units
root-sound : (text : List ℕ) (u : Unit) → root_of text ≡ Some u → ((text ≡ 50 ∷ []) × (u ≡ R2)) ⊎ ((text ≡ 51 ∷ []) × (u ≡ R3)) ⊎ ((text ≡ 54 ∷ []) × (u ≡ R6))
root-sound [] u e = none_some e
root-sound (c ∷ d ∷ cs) u e = none_some e
root-sound (c ∷ []) u e = elim (choose (c == 50) R2 u _ e) [
  | inl w ↦ inl (ap (λ x. x ∷ []) (is_this c 50 w.0), w.1)
  | inr w ↦ elim (choose (c == 51) R3 u _ w.1) [
    | inl w ↦ inr (inl (ap (λ x. x ∷ []) (is_this c 51 w.0), w.1))
    | inr w ↦ elim (choose (c == 54) R6 u None w.1) [
      | inl w ↦ inr (inr (ap (λ x. x ∷ []) (is_this c 54 w.0), w.1))
      | inr w ↦ none_some w.1
    ]
  ]
]

power-sound : (cs : List ℕ) (u : Unit) → option_and_then power_of_z (whole_of 2 cs) ≡ Some u → SpellsPower (122 ∷ cs) u
power-sound cs u e =
    let one = bind (whole_of 2 cs) power_of_z u e in
    let test = guard (nat_lt one.0 24) (Z one.0) u one.2 in
    record { digits = cs; power = one.0; joined = refl; whole = whole-sound 2 cs one.0 one.1; small = ltb-true one.0 24 test.0; value = sym test.1 }

pub split_if : {X : Type 0} (b : Bool) (o p : Option X) (u : X) → (if b then o else p) ≡ Some u → ((b ≡ true) × (o ≡ Some u)) ⊎ ((b ≡ false) × (p ≡ Some u))
split_if true o p u e = inl (refl, e)
split_if false o p u e = inr (refl, e)

root_unit : (cs : List ℕ) (u : Unit) → ((cs ≡ 50 ∷ []) × (u ≡ R2)) ⊎ ((cs ≡ 51 ∷ []) × (u ≡ R3)) ⊎ ((cs ≡ 54 ∷ []) × (u ≡ R6)) → SpellsUnit (114 ∷ cs) u
root_unit cs u (inl w) = inr (inr (inl (ap (λ x. 114 ∷ x) w.0, w.1)))
root_unit cs u (inr (inl w)) = inr (inr (inr (inl (ap (λ x. 114 ∷ x) w.0, w.1))))
root_unit cs u (inr (inr w)) = inr (inr (inr (inr (ap (λ x. 114 ∷ x) w.0, w.1))))

i_alone : (cs : List ℕ) (u : Unit) → unit_of (105 ∷ cs) ≡ Some u → (cs ≡ []) × (u ≡ I)
i_alone [] u e = (refl, cc)
i_alone (c ∷ cs) u e = none_some e

unit-sound_cons : (c : ℕ) (cs : List ℕ) (u : Unit) (t v w : Bool) → (c == 122) ≡ t → (c == 114) ≡ v → (c == 105) ≡ w → unit_of (c ∷ cs) ≡ Some u → SpellsUnit (c ∷ cs) u
unit-sound_cons c cs u true v w z r i e =
    let is : c ≡ 122 = is_this c 122 z in
    subst (λ x. SpellsUnit (x ∷ cs) u) (sym is) (inl (power-sound cs u (ap (λ x. unit_of (x ∷ cs)) (sym is) ∙ e)))
unit-sound_cons c cs u false true w z r i e =
    let is : c ≡ 114 = is_this c 114 r in
    subst (λ x. SpellsUnit (x ∷ cs) u) (sym is) (root_unit cs u (root-sound cs u (ap (λ x. unit_of (x ∷ cs)) (sym is) ∙ e)))
unit-sound_cons c cs u false false true z r i e =
    let is : c ≡ 105 = is_this c 105 i in
    let alone = i_alone cs u (ap (λ x. unit_of (x ∷ cs)) (sym is) ∙ e) in
    inr (inl (ap (λ x. x ∷ cs) is ∙ ap (λ x. 105 ∷ x) alone.0, alone.1))
unit-sound_cons c cs u false false false z r i e = none_some (sym (rw (z, r, i) refl) ∙ e)

pub unit-sound : (text : List ℕ) (u : Unit) → unit_of text ≡ Some u → SpellsUnit text u
unit-sound [] u e = none_some e
unit-sound (c ∷ cs) u e = unit-sound_cons c cs u (c == 122) (c == 114) (c == 105) refl refl refl e

pub unit-complete : (text : List ℕ) (u : Unit) → SpellsUnit text u → unit_of text ≡ Some u
unit-complete text u (inl s) =
    ap unit_of s.joined ∙ ap (λ o. option_and_then power_of_z o) (whole-complete 2 s.digits s.power s.whole) ∙ ap (λ t. if t then Some (Z s.power) else None) (lt-ltb s.power 24 s.small) ∙ ap (λ x. Some x) (sym s.value)
unit-complete text u (inr (inl w)) = ap unit_of w.0 ∙ ap (λ x. Some x) (sym w.1)
unit-complete text u (inr (inr (inl w))) = ap unit_of w.0 ∙ ap (λ x. Some x) (sym w.1)
unit-complete text u (inr (inr (inr (inl w)))) = ap unit_of w.0 ∙ ap (λ x. Some x) (sym w.1)
unit-complete text u (inr (inr (inr (inr w)))) = ap unit_of w.0 ∙ ap (λ x. Some x) (sym w.1)

-- coefficients
pub coefficient-sound : (text : List ℕ) (r : ℕ × ℕ) → coefficient_of text ≡ Some r → SpellsCoefficient text r.0 r.1
coefficient-sound text r e =
    let one = bind (ratio_of 5 text) (λ q. if nat_le q.0 10000 then Some (q.0, q.1) else None) r e in
    let q = one.0 in
    let test = guard (nat_le q.0 10000) (q.0, q.1) r one.2 in
    let spelled : SpellsCoefficient text q.0 q.1 = record { ratio = ratio-sound 5 text q one.1; small = le_true q.0 10000 test.0 } in
    subst (λ p. SpellsCoefficient text p.0 p.1) test.1 spelled

pub coefficient-complete : (text : List ℕ) (n d : ℕ) → SpellsCoefficient text n d → coefficient_of text ≡ Some (n, d)
coefficient-complete text n d s =
    ap (λ o. option_and_then (λ q. if nat_le q.0 10000 then Some (q.0, q.1) else None) o) (ratio-complete 5 text n d s.ratio)
    ∙ ap (λ t. if t then Some (n, d) else None) (true_le n 10000 s.small)

-- terms
term-sound_by : (negative : Bool) (text before rest : List ℕ) (t : Term) → text ≡ before ++ rest → Stops (is_byte 42) rest → product_of negative before rest ≡ Some t → SpellsTerm negative text t
term-sound_by negative text before [] t joined stops e =
    let same : text ≡ before = joined ∙ append-nil before in
    subst (λ x. SpellsTerm negative x t) (sym same) (by_unit (unit_of before) refl e)
  where
    by_unit : (o : Option Unit) → unit_of before ≡ o → alone negative o before ≡ Some t → SpellsTerm negative before t
    by_unit (Some u) is e = inr (inl (record { unit = u; spelled = unit-sound before u is; value = cc }))
    by_unit None is e =
        let one = map_some (λ r. term negative r One) (coefficient_of before) t e in
        inl (record { num = one.0.0; den = one.0.1; coefficient = coefficient-sound before one.0 one.1; value = sym one.2 })
term-sound_by negative text before (c ∷ behind) t joined stops e =
    let one = bind (coefficient_of before) (λ r. option_map (λ u. term negative r u) (unit_of behind)) t e in
    let two = map_some (λ u. term negative one.0 u) (unit_of behind) t one.2 in
    inr (inr (record { front = before; behind = behind; num = one.0.0; den = one.0.1; unit = two.0; joined = joined ∙ ap (λ x. before ++ (x ∷ behind)) (is_this c 42 stops); coefficient = coefficient-sound before one.0 one.1; spelled = unit-sound behind two.0 two.1; value = sym two.2 }))

pub term-sound : (negative : Bool) (text : List ℕ) (t : Term) → term_of negative text ≡ Some t → SpellsTerm negative text t
term-sound negative text t e = let parts = front-back (is_byte 42) text in term-sound_by negative text (front (is_byte 42) text) (back (is_byte 42) text) t (sym parts.0) parts.1 e

no_star : (c : ℕ) → is_ascii_digit c ≡ true → is_byte 42 c ≡ false
no_star c digit = grind (arith, nat_tests)

unit_free_of : (p : ℕ → Bool) (other : (c : ℕ) → is_ascii_digit c ≡ true → p c ≡ false) (text : List ℕ) (u : Unit) → p 122 ≡ false → p 105 ≡ false → p 114 ≡ false → SpellsUnit text u → Free p text
unit_free_of p other text u z i r (inl s) = subst (λ x. Free p x) (sym s.joined) (z, digits_free p other s.digits s.whole.spelled.digits)
unit_free_of p other text u z i r (inr (inl w)) = subst (λ x. Free p x) (sym w.0) (i, tt)
unit_free_of p other text u z i r (inr (inr (inl w))) = subst (λ x. Free p x) (sym w.0) (r, (other 50 refl, tt))
unit_free_of p other text u z i r (inr (inr (inr (inl w)))) = subst (λ x. Free p x) (sym w.0) (r, (other 51 refl, tt))
unit_free_of p other text u z i r (inr (inr (inr (inr w)))) = subst (λ x. Free p x) (sym w.0) (r, (other 54 refl, tt))

coefficient_free : (text : List ℕ) (n d : ℕ) → SpellsCoefficient text n d → Free (is_byte 42) text
coefficient_free text n d s = ratio_free (is_byte 42) no_star 5 text n d refl s.ratio

unit_free : (text : List ℕ) (u : Unit) → SpellsUnit text u → Free (is_byte 42) text
unit_free text u s = unit_free_of (is_byte 42) no_star text u refl refl refl s

coefficient_unsigned : (text : List ℕ) (n d : ℕ) → SpellsCoefficient text n d → Free is_sign text
coefficient_unsigned text n d s = ratio_free is_sign digit_no_sign 5 text n d refl s.ratio

unit_unsigned : (text : List ℕ) (u : Unit) → SpellsUnit text u → Free is_sign text
unit_unsigned text u s = unit_free_of is_sign digit_no_sign text u refl refl refl s

-- a term holds no sign behind its own
pub term_unsigned : (negative : Bool) (text : List ℕ) (t : Term) → SpellsTerm negative text t → Free is_sign text
term_unsigned negative text t (inl s) = coefficient_unsigned text s.num s.den s.coefficient
term_unsigned negative text t (inr (inl s)) = unit_unsigned text s.unit s.spelled
term_unsigned negative text t (inr (inr s)) =
    subst (λ x. Free is_sign x) (sym s.joined) (Free-append is_sign s.front (42 ∷ s.behind) (coefficient_unsigned s.front s.num s.den s.coefficient) (refl, unit_unsigned s.behind s.unit s.spelled))

digit_no_unit : (c : ℕ) (cs : List ℕ) → (c == 122) ≡ false → (c == 114) ≡ false → (c == 105) ≡ false → unit_of (c ∷ cs) ≡ None
digit_no_unit c cs z r i = rw (z, r, i) refl

digit_other : (c : ℕ) → is_ascii_digit c ≡ true → ((c == 122) ≡ false) × ((c == 114) ≡ false) × ((c == 105) ≡ false)
digit_other c digit = (grind (arith, nat_tests), grind (arith, nat_tests), grind (arith, nat_tests))

coefficient_no_unit : (text front over : List ℕ) → text ≡ front ++ over → 0 < length front → list_all is_ascii_digit front ≡ true → unit_of text ≡ None
coefficient_no_unit text [] over joined some all = absurd (omega arith)
coefficient_no_unit text (c ∷ front) over joined some all =
    let other = digit_other c ((apart (is_ascii_digit c) (list_all is_ascii_digit front) all).0) in
    ap unit_of joined ∙ digit_no_unit c (front ++ over) other.0 other.1 other.2

by_product : (negative : Bool) (text before rest : List ℕ) (t : Term) → front (is_byte 42) text ≡ before → back (is_byte 42) text ≡ rest → product_of negative before rest ≡ Some t → term_of negative text ≡ Some t
by_product negative text before rest t is_before is_rest e =
    ap (λ x. product_of negative x (back (is_byte 42) text)) is_before ∙ ap (λ x. product_of negative before x) is_rest ∙ e

pub term-complete : (negative : Bool) (text : List ℕ) (t : Term) → SpellsTerm negative text t → term_of negative text ≡ Some t
term-complete negative text t (inl s) =
    let r = s.coefficient.ratio in
    let parts = free_all (is_byte 42) text (coefficient_free text s.num s.den s.coefficient) in
    by_product negative text text [] t parts.0 parts.1
    (ap (λ o. alone negative o text) (coefficient_no_unit text r.front r.over r.joined r.whole.some r.whole.spelled.digits)
    ∙ ap (λ o. option_map (λ q. term negative q One) o) (coefficient-complete text s.num s.den s.coefficient) ∙ ap (λ x. Some x) (sym s.value))
term-complete negative text t (inr (inl s)) =
    let parts = free_all (is_byte 42) text (unit_free text s.unit s.spelled) in
    by_product negative text text [] t parts.0 parts.1
    (ap (λ o. alone negative o text) (unit-complete text s.unit s.spelled) ∙ ap (λ x. Some x) (sym s.value))
term-complete negative text t (inr (inr s)) =
    let parts = front-append (is_byte 42) s.front (42 ∷ s.behind) (coefficient_free s.front s.num s.den s.coefficient) refl in
    ap (λ x. term_of negative x) s.joined ∙ by_product negative (s.front ++ (42 ∷ s.behind)) s.front (42 ∷ s.behind) t parts.0 parts.1
    (ap (λ o. option_and_then (λ q. option_map (λ u. term negative q u) (unit_of s.behind)) o) (coefficient-complete s.front s.num s.den s.coefficient)
    ∙ ap (λ o. option_map (λ u. term negative (s.num, s.den) u) o) (unit-complete s.behind s.unit s.spelled) ∙ ap (λ x. Some x) (sym s.value))
