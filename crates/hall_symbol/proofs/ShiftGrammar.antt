-- The origin shift that is read of words is the one that they write.
--
-- shift_at-sound, shift_at-IsOriginShift: in both directions
use Rattle.std.proofs.Common.{◌≡◌, ℕ, ℤ, ◌+◌, ◌-◌, ◌*◌, ◌≤◌, Bool, true, false, List, [], ◌∷◌, ◌++◌, ◌==◌, ◌&&◌, nat_le, Some, refl, sym, ap, ◌∙◌, arith, inl, inr, subst}
use Rattle.std.proofs.lemmas.Bool.{eqb-true}
use Rattle.std.proofs.lemmas.Bool.Decides.{nat_tests}
use Rattle.std.specs.List.{list_all}
use Rattle.hall_symbol.specs.Grammar.{IsCount, IsNumber, IsWritten, IsOriginShift}
use Rattle.hall_symbol.specs.Spelling.{sign_text}
use Rattle.hall_symbol.specs.Words.{opening, closing}
use Rattle.hall_symbol.specs.PartReading.{sign_at}
use Rattle.hall_symbol.specs.ShiftReading.{digit_in, at_most_twelve, count_in, number_in, number_at, is_byte, is_closed, written_at, shift_at}
use Rattle.hall_symbol.specs.SymbolReading.{ends_parts}
use Rattle.hall_symbol.proofs.Cases.{bind-some, chosen, some-value}
use Rattle.hall_symbol.proofs.WordsGrammar.{is_plain, is_word}
use Rattle.hall_symbol.proofs.PartFronts.{sign_at-split}
use Rattle.hall_symbol.proofs.PartsGrammar.{plain-word}

-- ---- numbers

digit_in-sound : (c d : ℕ) → digit_in c ≡ Some d → (d ≤ 9) × (c ≡ 48 + d)
digit_in-sound c d h = elim (chosen (nat_le 48 c && nat_le c 57) _ _ _ h) [
  | inl (digit, v) ↦
      let low : 48 ≤ c = grind (arith, nat_tests) in
      let high : c ≤ 57 = grind (arith, nat_tests) in
      let e : c - 48 ≡ d = some-value _ _ v in
      (omega arith, omega arith)
  | inr (_, v) ↦ cc v
]

digit_in-byte : (d : ℕ) → d ≤ 9 → digit_in (48 + d) ≡ Some d
digit_in-byte d small =
    let low : nat_le 48 (48 + d) ≡ true = grind (arith, nat_tests) in
    let high : nat_le (48 + d) 57 ≡ true = grind (arith, nat_tests) in
    let e : (48 + d) - 48 ≡ d = omega arith in
    rw (low, high, e) refl

at_most_twelve-sound : (n m : ℕ) → at_most_twelve n ≡ Some m → (n ≤ 12) × (n ≡ m)
at_most_twelve-sound n m h = elim (chosen (nat_le n 12) _ _ _ h) [
  | inl (small, v) ↦ (grind (arith, nat_tests), some-value _ _ v)
  | inr (_, v) ↦ cc v
]

at_most_twelve-small : (n : ℕ) → n ≤ 12 → at_most_twelve n ≡ Some n
at_most_twelve-small n small = let h : nat_le n 12 ≡ true = grind (arith, nat_tests) in rw h refl

count_in-sound : (ds : List ℕ) (n : ℕ) → count_in ds ≡ Some n → IsCount ds n × (n ≤ 12)
unfolding count_in
count_in-sound [] n h = cc h
count_in-sound (c ∷ []) n h = let d = digit_in-sound c n h in (d, omega arith)
count_in-sound (c ∷ d ∷ []) n h =
    let tens = bind-some (digit_in c) _ n h in
    let ones = bind-some (digit_in d) _ n tens.2 in
    let t = digit_in-sound c tens.0 tens.1 in
    let o = digit_in-sound d ones.0 ones.1 in
    let m = at_most_twelve-sound (10 * tens.0 + ones.0) n ones.2 in
    ((tens.0, ones.0, t.0, o.0, t.1, o.1, sym m.1), omega arith)
count_in-sound (c ∷ d ∷ e ∷ cs) n h = cc h

count_in-IsCount : (ds : List ℕ) (n : ℕ) → IsCount ds n → n ≤ 12 → count_in ds ≡ Some n
unfolding count_in
count_in-IsCount [] n h small = absurd h
count_in-IsCount (c ∷ []) n h small = ap digit_in h.1 ∙ digit_in-byte n h.0
count_in-IsCount (c ∷ d ∷ []) n (tens, ones, t, o, e, f, sum) small =
    let first : digit_in c ≡ Some tens = ap digit_in e ∙ digit_in-byte tens t in
    let second : digit_in d ≡ Some ones = ap digit_in f ∙ digit_in-byte ones o in
    rw (first, second) (ap at_most_twelve (sym sum) ∙ at_most_twelve-small n small)
count_in-IsCount (c ∷ d ∷ e ∷ cs) n h small = absurd h

number_in-sound : (w : List ℕ) (z : ℤ) → number_in w ≡ Some z → IsNumber w z
unfolding number_in
number_in-sound w z h =
    let sign = sign_at w in
    let read = bind-some (count_in sign.1) _ z h in
    let count = count_in-sound sign.1 read.0 read.1 in
    record { negative = sign.0; digits = sign.1; count = read.0; text = sign_at-split w; digits_are = count.0; small = count.1; value = sym (some-value _ _ read.2) }

sign_at-digit : (b : Bool) (n : ℕ) (ds : List ℕ) → n ≤ 9 → sign_at (sign_text b ++ ((48 + n) ∷ ds)) ≡ (b, (48 + n) ∷ ds)
sign_at-digit true n ds small = refl
sign_at-digit false n ds small = let e : (48 + n == 45) ≡ false = grind (arith, nat_tests) in rw e refl

sign_at-digits : (b : Bool) (ds : List ℕ) (n : ℕ) → IsCount ds n → sign_at (sign_text b ++ ds) ≡ (b, ds)
sign_at-digits b [] n h = absurd h
sign_at-digits b (c ∷ []) n h = rw h.1 (sign_at-digit b n [] h.0)
sign_at-digits b (c ∷ d ∷ []) n (tens, ones, t, o, e, f, sum) = rw e (sign_at-digit b tens (d ∷ []) t)
sign_at-digits b (c ∷ d ∷ e ∷ cs) n h = absurd h

number_in-IsNumber : (w : List ℕ) (z : ℤ) → IsNumber w z → number_in w ≡ Some z
unfolding number_in
number_in-IsNumber w z h =
    let sign : sign_at w ≡ (h.negative, h.digits) = ap sign_at h.text ∙ sign_at-digits h.negative h.digits h.count h.digits_are in
    rw (sign, count_in-IsCount h.digits h.count h.digits_are h.small) (ap Some (sym h.value))

plain-numeral : (n : ℕ) → n ≤ 9 → is_plain (48 + n) ≡ true
plain-numeral n small = grind (arith, nat_tests)

plain-count : (ds : List ℕ) (n : ℕ) → IsCount ds n → list_all is_plain ds ≡ true
plain-count [] n h = absurd h
plain-count (c ∷ []) n h = rw h.1 (ap (λ t. t && true) (plain-numeral n h.0))
plain-count (c ∷ d ∷ []) n (tens, ones, t, o, e, f, sum) = rw (e, f) (ap (λ s. s && (is_plain (48 + ones) && true)) (plain-numeral tens t) ∙ ap (λ s. s && true) (plain-numeral ones o))
plain-count (c ∷ d ∷ e ∷ cs) n h = absurd h

word-count : (b : Bool) (ds : List ℕ) (n : ℕ) → IsCount ds n → is_word (sign_text b ++ ds) ≡ true
word-count b [] n h = absurd h
word-count true (c ∷ cs) n h = plain-count (c ∷ cs) n h
word-count false (c ∷ cs) n h = plain-word c cs (plain-count (c ∷ cs) n h)

is_word-IsNumber : (w : List ℕ) (z : ℤ) → IsNumber w z → is_word w ≡ true
is_word-IsNumber w z h = ap is_word h.text ∙ word-count h.negative h.digits h.count h.digits_are

-- ---- the words of a shift

pub is_byte-sound : (b : ℕ) (w : List ℕ) → is_byte b w ≡ true → w ≡ b ∷ []
is_byte-sound b [] h = cc h
is_byte-sound b (c ∷ []) h = ap (λ x. x ∷ []) (eqb-true c b h)
is_byte-sound b (c ∷ d ∷ cs) h = cc h

number_at-sound : (ws : List (List ℕ)) (z : ℤ) (rest : List (List ℕ)) → number_at ws ≡ Some (z, rest) → (w : List ℕ) × (ws ≡ w ∷ rest) × IsNumber w z
unfolding number_at
number_at-sound [] z rest h = cc h
number_at-sound (w ∷ ws) z rest h =
    let read = bind-some (number_in w) _ (z, rest) h in
    let e : read.0 ≡ z = ap (λ p. p.0) (some-value _ _ read.2) in
    (w, ap (λ p. w ∷ p.1) (some-value _ _ read.2), number_in-sound w z (read.1 ∙ ap Some e))

number_at-IsNumber : (w : List ℕ) (ws : List (List ℕ)) (z : ℤ) → IsNumber w z → number_at (w ∷ ws) ≡ Some (z, ws)
unfolding number_at
number_at-IsNumber w ws z h = rw (number_in-IsNumber w z h) refl

is_closed-sound : (ws : List (List ℕ)) → is_closed ws ≡ true → ws ≡ closing ∷ []
is_closed-sound [] h = cc h
is_closed-sound (w ∷ []) h = ap (λ v. v ∷ []) (is_byte-sound 41 w h)
is_closed-sound (w ∷ v ∷ ws) h = cc h

-- three numbers between brackets
IsWritten-words : (ws a b c : List (List ℕ)) (p q r : List ℕ) (x y z : ℤ) (v : List ℤ) → ws ≡ p ∷ a → a ≡ q ∷ b → b ≡ r ∷ c → c ≡ closing ∷ []
    → IsNumber p x → IsNumber q y → IsNumber r z → x ∷ y ∷ z ∷ [] ≡ v → IsWritten (opening ∷ ws) v
IsWritten-words ws a b c p q r x y z v e f g h first second third value = record {
  p = p;
  q = q;
  r = r;
  x = x;
  y = y;
  z = z;
  words_are = ap (λ us. opening ∷ us) (e ∙ ap (λ us. p ∷ us) (f ∙ ap (λ us. q ∷ us) (g ∙ ap (λ us. r ∷ us) h)));
  first = first;
  second = second;
  third = third;
  value = sym value;
}

written_at-sound : (ws : List (List ℕ)) (v : List ℤ) → written_at ws ≡ Some v → IsWritten (opening ∷ ws) v
unfolding written_at
written_at-sound ws v h =
    let p = bind-some (number_at ws) _ v h in
    let q = bind-some (number_at p.0.1) _ v p.2 in
    let r = bind-some (number_at q.0.1) _ v q.2 in
    let x = number_at-sound ws p.0.0 p.0.1 p.1 in
    let y = number_at-sound p.0.1 q.0.0 q.0.1 q.1 in
    let z = number_at-sound q.0.1 r.0.0 r.0.1 r.1 in
    elim (chosen (is_closed r.0.1) _ _ _ r.2) [
      | inl (closed, value) ↦ IsWritten-words ws p.0.1 q.0.1 r.0.1 x.0 y.0 z.0 p.0.0 q.0.0 r.0.0 v x.1 y.1 z.1 (is_closed-sound r.0.1 closed) x.2 y.2 z.2 (some-value _ _ value)
      | inr (_, value) ↦ cc value
    ]

written_at-IsWritten : (ws : List (List ℕ)) (v : List ℤ) → IsWritten ws v → shift_at ws ≡ Some v
unfolding shift_at written_at
written_at-IsWritten ws v h =
    ap shift_at h.words_are
    ∙ rw (number_at-IsNumber h.p (h.q ∷ h.r ∷ closing ∷ []) h.x h.first, number_at-IsNumber h.q (h.r ∷ closing ∷ []) h.y h.second, number_at-IsNumber h.r (closing ∷ []) h.z h.third) (ap Some (sym h.value))

-- ---- both directions

pub shift_at-sound : (ws : List (List ℕ)) (v : List ℤ) → shift_at ws ≡ Some v → IsOriginShift ws v
unfolding shift_at
shift_at-sound [] v h = inl (refl, sym (some-value _ _ h))
shift_at-sound (w ∷ ws) v h = elim (chosen (is_byte 40 w) _ _ _ h) [
  | inl (bracket, read) ↦ inr (let P : List ℕ → Type 0 = λ u. IsWritten (u ∷ ws) v in subst P (sym (is_byte-sound 40 w bracket)) (written_at-sound ws v read))
  | inr (_, none) ↦ cc none
]

pub shift_at-IsOriginShift : (ws : List (List ℕ)) (v : List ℤ) → IsOriginShift ws v → shift_at ws ≡ Some v
unfolding shift_at
shift_at-IsOriginShift ws v (inl (e, f)) = ap shift_at e ∙ ap Some (sym f)
shift_at-IsOriginShift ws v (inr h) = written_at-IsWritten ws v h

pub ends_parts-IsOriginShift : (ws : List (List ℕ)) (v : List ℤ) → IsOriginShift ws v → ends_parts ws ≡ true
ends_parts-IsOriginShift ws v (inl (e, f)) = ap ends_parts e
ends_parts-IsOriginShift ws v (inr h) = ap ends_parts h.words_are

pub words-IsOriginShift : (ws : List (List ℕ)) (v : List ℤ) → IsOriginShift ws v → list_all is_word ws ≡ true
words-IsOriginShift ws v (inl (e, f)) = ap (list_all is_word) e
words-IsOriginShift ws v (inr h) =
    ap (list_all is_word) h.words_are ∙ rw (is_word-IsNumber h.p h.x h.first, is_word-IsNumber h.q h.y h.second, is_word-IsNumber h.r h.z h.third) refl
