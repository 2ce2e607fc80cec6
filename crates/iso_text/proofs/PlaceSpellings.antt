-- The grammar of coordinates against their function.
use Rattle.std.proofs.Common.{◌≡◌, ℕ, ◌+◌, ◌*◌, ◌/◌, ◌<◌, Bool, true, false, List, [], ◌∷◌, ◌++◌, length, Some, None, refl, sym, ◌∙◌, ap, subst, arith, nat_le, if◌then◌else◌, inl, inr, append-nil}
use Rattle.std.specs.Prelude.{option_and_then}
use Rattle.std.specs.Option.{option_map}
use Rattle.std.specs.Char.{is_ascii_digit}
use Rattle.std.proofs.lemmas.Bool.Decides.{nat_tests}
use Rattle.iso_text.specs.Cuts.{front, back, is_byte, is_sign}
use Rattle.iso_text.specs.Digits.{digits_of, whole_of, over_of, ratio_of}
use Rattle.iso_text.specs.Fractions.{edge_units, ratio_units, point_units, decimal_units, units_by, units_of}
use Rattle.iso_text.specs.Spellings.{SpellsDigits, SpellsWhole, SpellsDivisor, SpellsRatio, SpellsDecimal, SpellsFraction, SpellsUnits}
use Rattle.iso_text.proofs.Steps.{guard, bind}
use Rattle.iso_text.proofs.SpellingLemmas.{Stops, Free, front-append, front-back, digits_free, digits-sound, digits-complete, whole-sound, whole-complete, over-sound, ratio-complete, is_this, map_some, le_true, true_le}

pub free_all : (p : ℕ → Bool) (w : List ℕ) → Free p w → (front p w ≡ w) × (back p w ≡ [])
free_all p [] free = (refl, refl)
free_all p (c ∷ w) free = let more = free_all p w free.1 in
    (ap (λ t. if t then [] else c ∷ front p w) free.0 ∙ ap (λ t. c ∷ t) more.0, ap (λ t. if t then c ∷ w else back p w) free.0 ∙ more.1)

pub Free-append : (p : ℕ → Bool) (a b : List ℕ) → Free p a → Free p b → Free p (a ++ b)
Free-append p [] b x y = y
Free-append p (c ∷ a) b x y = (x.0, Free-append p a b x.1 y)

no_slash : (c : ℕ) → is_ascii_digit c ≡ true → is_byte 47 c ≡ false
no_slash c digit = grind (arith, nat_tests)

no_point : (c : ℕ) → is_ascii_digit c ≡ true → is_byte 46 c ≡ false
no_point c digit = grind (arith, nat_tests)

pub digit_no_sign : (c : ℕ) → is_ascii_digit c ≡ true → is_sign c ≡ false
digit_no_sign c digit = grind (arith, nat_tests)

-- a decimal
decimal-sound : (body edges rest : List ℕ) (units : ℕ) → body ≡ edges ++ rest → Stops (is_byte 46) rest → decimal_units edges rest ≡ Some units → SpellsUnits body units
decimal-sound body edges [] units joined stops read =
    let one = map_some (λ n. edge_units * n) (whole_of 2 edges) units read in
    inl (one.0, subst (λ t. SpellsWhole 2 t one.0) (sym (joined ∙ append-nil edges)) (whole-sound 2 edges one.0 one.1), sym one.2)
decimal-sound body [] (c ∷ digits) units joined stops read =
    let one = map_some (λ n. point_units 0 n (length digits)) (whole_of 6 digits) units read in
    let spelled = whole-sound 6 digits one.0 one.1 in
    inr (inl (record { edges = []; digits = digits; whole = 0; part = one.0; joined = joined ∙ ap (λ x. x ∷ digits) (is_this c 46 stops); before = record { few = omega arith; digits = refl; value = refl }; behind = spelled.spelled; some = omega (arith, spelled.some); value = sym one.2 }))
decimal-sound body (e ∷ edges) (c ∷ digits) units joined stops read =
    let one = bind (whole_of 2 (e ∷ edges)) (λ n. option_map (λ m. point_units n m (length digits)) (digits_of 6 digits)) units read in
    let two = map_some (λ m. point_units one.0 m (length digits)) (digits_of 6 digits) units one.2 in
    inr (inl (record { edges = e ∷ edges; digits = digits; whole = one.0; part = two.0; joined = joined ∙ ap (λ x. (e ∷ edges) ++ (x ∷ digits)) (is_this c 46 stops); before = (whole-sound 2 (e ∷ edges) one.0 one.1).spelled; behind = digits-sound 6 digits two.0 two.1; some = omega arith; value = sym two.2 }))

-- a fraction
fraction-sound : (body : List ℕ) (c : ℕ) (over : List ℕ) (units : ℕ) → back (is_byte 47) body ≡ c ∷ over → option_and_then ratio_units (ratio_of 4 body) ≡ Some units → SpellsUnits body units
fraction-sound body c over units rest read =
    let parts = front-back (is_byte 47) body in
    let stops : Stops (is_byte 47) (c ∷ over) = subst (λ t. Stops (is_byte 47) t) rest parts.1 in
    let one = bind (ratio_of 4 body) ratio_units units read in
    let r = one.0 in
    let two = bind (whole_of 4 (front (is_byte 47) body)) (λ n. option_map (λ d. (n, d)) (over_of (back (is_byte 47) body))) r one.1 in
    let three = map_some (λ d. (two.0, d)) (over_of (back (is_byte 47) body)) r two.2 in
    let read_over : over_of (c ∷ over) ≡ Some three.0 = ap (λ t. over_of t) (sym rest) ∙ three.1 in
    let spelled = over-sound (c ∷ over) three.0 stops read_over in
    let test = guard (nat_le r.0 (99 * r.1)) (r.0 * (edge_units / r.1)) units one.2 in
    inr (inr (record {
      digits = front (is_byte 47) body;
      divisor = over;
      num = r.0;
      den = r.1;
      joined = sym parts.0 ∙ ap (λ t. front (is_byte 47) body ++ t) (rest ∙ ap (λ x. x ∷ over) spelled.0);
      whole = subst (λ n. SpellsWhole 4 (front (is_byte 47) body) n) (ap (λ p. p.0) three.2) (whole-sound 4 (front (is_byte 47) body) two.0 two.1);
      over = subst (λ d. SpellsDivisor over d) (ap (λ p. p.1) three.2) spelled.1;
      small = le_true r.0 (99 * r.1) test.0;
      value = sym test.1;
    }))

units-sound_by : (body over : List ℕ) (units : ℕ) → back (is_byte 47) body ≡ over → units_by over body ≡ Some units → SpellsUnits body units
units-sound_by body [] units rest read = let parts = front-back (is_byte 46) body in decimal-sound body (front (is_byte 46) body) (back (is_byte 46) body) units (sym parts.0) parts.1 read
units-sound_by body (c ∷ over) units rest read = fraction-sound body c over units rest read

pub units-sound : (body : List ℕ) (units : ℕ) → units_of body ≡ Some units → SpellsUnits body units
units-sound body units read = units-sound_by body (back (is_byte 47) body) units refl read

-- without a slash
by_decimal : (body edges rest : List ℕ) (units : ℕ) → back (is_byte 47) body ≡ [] → front (is_byte 46) body ≡ edges → back (is_byte 46) body ≡ rest → decimal_units edges rest ≡ Some units → units_of body ≡ Some units
by_decimal body edges rest units no_over before behind read =
    ap (λ o. units_by o body) no_over ∙ ap (λ e. decimal_units e (back (is_byte 46) body)) before ∙ ap (λ r. decimal_units edges r) behind ∙ read

edges-complete : (body : List ℕ) (n units : ℕ) → SpellsWhole 2 body n → units ≡ edge_units * n → units_of body ≡ Some units
edges-complete body n units spelled value =
    let point = free_all (is_byte 46) body (digits_free (is_byte 46) no_point body spelled.spelled.digits) in
    let slash = free_all (is_byte 47) body (digits_free (is_byte 47) no_slash body spelled.spelled.digits) in
    by_decimal body body [] units slash.1 point.0 point.1 (ap (λ o. option_map (λ m. edge_units * m) o) (whole-complete 2 body n spelled) ∙ ap (λ x. Some x) (sym value))

point-complete : (edges digits : List ℕ) (whole part units : ℕ) → SpellsDigits 2 edges whole → SpellsDigits 6 digits part → 0 < length edges + length digits → units ≡ point_units whole part (length digits) → decimal_units edges (46 ∷ digits) ≡ Some units
point-complete [] digits whole part units before behind some value =
    let spelled : SpellsWhole 6 digits part = record { some = omega (arith, some); spelled = behind } in
    ap (λ o. option_map (λ n. point_units 0 n (length digits)) o) (whole-complete 6 digits part spelled)
    ∙ ap (λ w. Some (point_units w part (length digits))) (sym before.value) ∙ ap (λ x. Some x) (sym value)
point-complete (e ∷ edges) digits whole part units before behind some value =
    ap (λ o. option_and_then (λ n. option_map (λ m. point_units n m (length digits)) (digits_of 6 digits)) o) (digits-complete 2 (e ∷ edges) whole before)
    ∙ ap (λ o. option_map (λ m. point_units whole m (length digits)) o) (digits-complete 6 digits part behind) ∙ ap (λ x. Some x) (sym value)

decimal-complete : (body : List ℕ) (units : ℕ) → SpellsDecimal body units → units_of body ≡ Some units
decimal-complete body units s =
    let point = front-append (is_byte 46) s.edges (46 ∷ s.digits) (digits_free (is_byte 46) no_point s.edges s.before.digits) refl in
    let slash = free_all (is_byte 47) (s.edges ++ (46 ∷ s.digits)) (Free-append (is_byte 47) s.edges (46 ∷ s.digits) (digits_free (is_byte 47) no_slash s.edges s.before.digits) (refl, digits_free (is_byte 47) no_slash s.digits s.behind.digits)) in
    ap (λ t. units_of t) s.joined ∙ by_decimal (s.edges ++ (46 ∷ s.digits)) s.edges (46 ∷ s.digits) units slash.1 point.0 point.1 (point-complete s.edges s.digits s.whole s.part units s.before s.behind s.some s.value)

fraction-complete : (body : List ℕ) (units : ℕ) → SpellsFraction body units → units_of body ≡ Some units
fraction-complete body units s =
    let whole = s.digits ++ (47 ∷ s.divisor) in
    let parts = front-append (is_byte 47) s.digits (47 ∷ s.divisor) (digits_free (is_byte 47) no_slash s.digits s.whole.spelled.digits) refl in
    let ratio : SpellsRatio 4 whole s.num s.den = record { front = s.digits; over = 47 ∷ s.divisor; joined = refl; whole = s.whole; divisor = (refl, s.over) } in
    ap (λ t. units_of t) s.joined ∙ ap (λ o. units_by o whole) parts.1 ∙ ap (λ o. option_and_then ratio_units o) (ratio-complete 4 whole s.num s.den ratio)
    ∙ ap (λ t. if t then Some (s.num * (edge_units / s.den)) else None) (true_le s.num (99 * s.den) s.small) ∙ ap (λ x. Some x) (sym s.value)

pub units-complete : (body : List ℕ) (units : ℕ) → SpellsUnits body units → units_of body ≡ Some units
units-complete body units (inl s) = edges-complete body s.0 units s.1 s.2
units-complete body units (inr (inl s)) = decimal-complete body units s
units-complete body units (inr (inr s)) = fraction-complete body units s
