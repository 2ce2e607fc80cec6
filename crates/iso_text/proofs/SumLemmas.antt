-- A sum's grammar against its cut at the signs, for items of any kind.
use Rattle.std.proofs.Common.{◌≡◌, ℕ, ◌==◌, Bool, true, false, List, [], ◌∷◌, ◌++◌, length, Option, Some, None, refl, sym, ◌∙◌, ap, subst, arith, if◌then◌else◌, inl, inr}
use Rattle.std.specs.Prelude.{option_and_then}
use Rattle.std.specs.Option.{option_map}
use Rattle.iso_text.specs.Cuts.{back, front, cut_at, is_sign}
use Rattle.iso_text.specs.Spellings.{IsSignOf}
use Rattle.iso_text.specs.SumSpellings.{sign, SpellsMore, SpellsSum}
use Rattle.iso_text.proofs.Steps.{bind}
use Rattle.iso_text.proofs.CutLemmas.{cut_at-cons}
use Rattle.iso_text.proofs.PlaceSpellings.{Free-append}
use Rattle.iso_text.proofs.SignSpellings.{plus, sign_is}
use Rattle.iso_text.proofs.SpellingLemmas.{Stops, Free, front-append, front-back, is_this, none_some, map_some}

-- an item with an optional sign
abbrev pub read_signed : {V : Type 0} → (Bool → List ℕ → Option V) → List ℕ → Option V
read_signed read [] = None
read_signed read (c ∷ cs) = if is_sign c then read (c == 45) cs else read false (c ∷ cs)

-- each part is an item
abbrev pub read_all : {V : Type 0} → (Bool → List ℕ → Option V) → List (List ℕ) → Option (List V)
read_all read [] = Some []
read_all read (part ∷ parts) = option_and_then (λ v. option_map (λ vs. v ∷ vs) (read_all read parts)) (read_signed read part)

signed_is : (c : ℕ) (t : Bool) → is_sign c ≡ true → (c == 45) ≡ t → c ∷ [] ≡ sign t
signed_is c true is minus = ap (λ x. x ∷ []) (is_this c 45 minus)
signed_is c false is minus = ap (λ x. x ∷ []) (plus c is minus)

none_cons : {A X : Type 0} {x : X} {xs : List X} → [] ≡ x ∷ xs → A
none_cons e = absurd (cc)

pub all_cons : {V : Type 0} (read : Bool → List ℕ → Option V) (part : List ℕ) (parts : List (List ℕ)) (vs : List V) → read_all read (part ∷ parts) ≡ Some vs
    → (v : V) × (rest : List V) × (read_signed read part ≡ Some v) × (read_all read parts ≡ Some rest) × (v ∷ rest ≡ vs)
all_cons read part parts vs e =
    let one = bind (read_signed read part) (λ v. option_map (λ ws. v ∷ ws) (read_all read parts)) vs e in
    let two = map_some (λ ws. one.0 ∷ ws) (read_all read parts) vs one.2 in
    (one.0, two.0, one.1, two.1, two.2)

-- as many items as parts
pub all_length : {V : Type 0} (read : Bool → List ℕ → Option V) (parts : List (List ℕ)) (vs : List V) → read_all read parts ≡ Some vs → length vs ≡ length parts
all_length read [] vs e = let same : [] ≡ vs = cc in ap length (sym same)
all_length read (part ∷ parts) vs e =
    let one = all_cons read part parts vs e in
    let more = all_length read parts one.1 one.3 in
    ap length (sym one.4) ∙ omega arith

signed_step : {V : Type 0} (read : Bool → List ℕ → Option V) (c : ℕ) (cs : List ℕ) → is_sign c ≡ true → read_signed read (c ∷ cs) ≡ read (c == 45) cs
signed_step read c cs is = ap (λ t. if t then read (c == 45) cs else read false (c ∷ cs)) is

module _ {V : Type 0} (read : Bool → List ℕ → Option V) (P : Bool → List ℕ → V → Type 0) (sound : (n : Bool) (t : List ℕ) (v : V) → read n t ≡ Some v → P n t v) where
  pub more-sound : (text : List ℕ) (vs : List V) → Stops is_sign text → read_all read (cut_at is_sign text) ≡ Some vs → SpellsMore P text vs
  more-sound [] [] stops e = refl
  more-sound [] (v ∷ vs) stops e = none_cons (let same : [] ≡ v ∷ vs = cc in same)
  more-sound (c ∷ cs) [] stops e =
      let one = all_cons read (c ∷ front is_sign cs) (cut_at is_sign (back is_sign cs)) [] (ap (λ x. read_all read x) (sym (cut_at-cons is_sign c cs)) ∙ e) in
      none_cons (sym one.4)
  more-sound (c ∷ cs) (v ∷ vs) stops e =
      let one = all_cons read (c ∷ front is_sign cs) (cut_at is_sign (back is_sign cs)) (v ∷ vs) (ap (λ x. read_all read x) (sym (cut_at-cons is_sign c cs)) ∙ e) in
      let parts = front-back is_sign cs in
      let head : one.0 ≡ v = cc in
      let tail : one.1 ≡ vs = cc in
      let item : read (c == 45) (front is_sign cs) ≡ Some v = sym (signed_step read c (front is_sign cs) stops) ∙ one.2 ∙ ap (λ x. Some x) head in (
        (c == 45),
        front is_sign cs,
        back is_sign cs,
        ap (λ x. x ++ cs) (signed_is c (c == 45) stops refl) ∙ ap (λ x. sign (c == 45) ++ x) (sym parts.0),
        sound (c == 45) (front is_sign cs) v item,
        more-sound (back is_sign cs) vs parts.1 (one.3 ∙ ap (λ x. Some x) tail),
      )

  sum-sound_by : (c : ℕ) (cs : List ℕ) (first : V) (rest : List V) (t : Bool) → is_sign c ≡ t → (if t then read (c == 45) (front is_sign cs) else read false (c ∷ front is_sign cs)) ≡ Some first
      → SpellsMore P (back is_sign cs) rest → SpellsSum P (c ∷ cs) (first ∷ rest)
  sum-sound_by c cs first rest true is e more = record {
    negative = (c == 45);
    front = c ∷ [];
    item = front is_sign cs;
    others = back is_sign cs;
    first = first;
    rest = rest;
    joined = ap (λ x. c ∷ x) (sym (front-back is_sign cs).0);
    signed_by = sign_is c (c == 45) is refl;
    spelled = sound (c == 45) (front is_sign cs) first e;
    more = more;
    values = refl;
  }
  sum-sound_by c cs first rest false is e more = record {
    negative = false;
    front = [];
    item = c ∷ front is_sign cs;
    others = back is_sign cs;
    first = first;
    rest = rest;
    joined = ap (λ x. c ∷ x) (sym (front-back is_sign cs).0);
    signed_by = inr (inr (refl, refl));
    spelled = sound false (c ∷ front is_sign cs) first e;
    more = more;
    values = refl;
  }

  pub sum-sound : (c : ℕ) (cs : List ℕ) (vs : List V) → read_all read (cut_at is_sign (c ∷ cs)) ≡ Some vs → SpellsSum P (c ∷ cs) vs
  sum-sound c cs vs e =
      let one = all_cons read (c ∷ front is_sign cs) (cut_at is_sign (back is_sign cs)) vs (ap (λ x. read_all read x) (sym (cut_at-cons is_sign c cs)) ∙ e) in
      let more = more-sound (back is_sign cs) one.1 (front-back is_sign cs).1 one.3 in
      subst (λ x. SpellsSum P (c ∷ cs) x) one.4 (sum-sound_by c cs one.0 one.1 (is_sign c) refl one.2 more)

sign_is_sign : (n : Bool) (rest : List ℕ) → Stops is_sign (sign n ++ rest)
sign_is_sign true rest = refl
sign_is_sign false rest = refl

-- behind an item stands a sign or nothing
more_stops : {V : Type 0} (P : Bool → List ℕ → V → Type 0) (text : List ℕ) (vs : List V) → SpellsMore P text vs → Stops is_sign text
more_stops P text [] s = subst (λ x. Stops is_sign x) (sym s) tt
more_stops P text (v ∷ vs) s = subst (λ x. Stops is_sign x) (sym s.3) (sign_is_sign s.0 (s.1 ++ s.2))

-- the cut of an item that begins with any byte
cut_item : (c : ℕ) (item others : List ℕ) → Free is_sign item → Stops is_sign others → cut_at is_sign (c ∷ (item ++ others)) ≡ (c ∷ item) ∷ cut_at is_sign others
cut_item c item others free stops =
    let parts = front-append is_sign item others free stops in
    cut_at-cons is_sign c (item ++ others) ∙ ap (λ x. (c ∷ x) ∷ cut_at is_sign (back is_sign (item ++ others))) parts.0 ∙ ap (λ x. (c ∷ item) ∷ cut_at is_sign x) parts.1

all_step : {V : Type 0} (read : Bool → List ℕ → Option V) (part : List ℕ) (parts : List (List ℕ)) (v : V) (vs : List V) → read_signed read part ≡ Some v → read_all read parts ≡ Some vs → read_all read (part ∷ parts) ≡ Some (v ∷ vs)
all_step read part parts v vs one more =
    ap (λ o. option_and_then (λ w. option_map (λ ws. w ∷ ws) (read_all read parts)) o) one ∙ ap (λ o. option_map (λ ws. v ∷ ws) o) more

signed_text : {V : Type 0} (read : Bool → List ℕ → Option V) (n : Bool) (item others : List ℕ) (v : V) (vs : List V) → Free is_sign item → Stops is_sign others → read n item ≡ Some v → read_all read (cut_at is_sign others) ≡ Some vs
    → read_all read (cut_at is_sign (sign n ++ (item ++ others))) ≡ Some (v ∷ vs)
signed_text read true item others v vs free stops one more = ap (λ x. read_all read x) (cut_item 45 item others free stops) ∙ all_step read (45 ∷ item) (cut_at is_sign others) v vs one more
signed_text read false item others v vs free stops one more = ap (λ x. read_all read x) (cut_item 43 item others free stops) ∙ all_step read (43 ∷ item) (cut_at is_sign others) v vs one more

plain_text : {V : Type 0} (read : Bool → List ℕ → Option V) (item others : List ℕ) (v : V) (vs : List V) → read false [] ≡ None → Free is_sign item → Stops is_sign others → read false item ≡ Some v → read_all read (cut_at is_sign others) ≡ Some vs
    → read_all read (cut_at is_sign (item ++ others)) ≡ Some (v ∷ vs)
plain_text read [] others v vs empty free stops one more = none_some (sym empty ∙ one)
plain_text read (c ∷ item) others v vs empty free stops one more =
    ap (λ x. read_all read x) (cut_item c item others free.1 stops) ∙ all_step read (c ∷ item) (cut_at is_sign others) v vs (ap (λ t. if t then read (c == 45) item else read false (c ∷ item)) free.0 ∙ one) more

module _ {V : Type 0} (read : Bool → List ℕ → Option V) (P : Bool → List ℕ → V → Type 0) (complete : (n : Bool) (t : List ℕ) (v : V) → P n t v → read n t ≡ Some v) (free : (n : Bool) (t : List ℕ) (v : V) → P n t v → Free is_sign t) where
  more-complete : (text : List ℕ) (vs : List V) → SpellsMore P text vs → read_all read (cut_at is_sign text) ≡ Some vs
  more-complete text [] s = ap (λ x. read_all read (cut_at is_sign x)) s
  more-complete text (v ∷ vs) s =
      ap (λ x. read_all read (cut_at is_sign x)) s.3
      ∙ signed_text read s.0 s.1 s.2 v vs (free s.0 s.1 v s.4) (more_stops P s.2 vs s.5) (complete s.0 s.1 v s.4) (more-complete s.2 vs s.5)

  sum-complete_by : (n : Bool) (front item others : List ℕ) (v : V) (vs : List V) → read false [] ≡ None → IsSignOf n front → P n item v → SpellsMore P others vs → read_all read (cut_at is_sign (front ++ (item ++ others))) ≡ Some (v ∷ vs)
  sum-complete_by n front item others v vs empty (inl w) s more =
      ap (λ x. read_all read (cut_at is_sign (x ++ (item ++ others)))) w.1
      ∙ signed_text read true item others v vs (free n item v s) (more_stops P others vs more) (ap (λ m. read m item) (sym w.0) ∙ complete n item v s) (more-complete others vs more)
  sum-complete_by n front item others v vs empty (inr (inl w)) s more =
      ap (λ x. read_all read (cut_at is_sign (x ++ (item ++ others)))) w.1
      ∙ signed_text read false item others v vs (free n item v s) (more_stops P others vs more) (ap (λ m. read m item) (sym w.0) ∙ complete n item v s) (more-complete others vs more)
  sum-complete_by n front item others v vs empty (inr (inr w)) s more =
      ap (λ x. read_all read (cut_at is_sign (x ++ (item ++ others)))) w.1
      ∙ plain_text read item others v vs empty (free n item v s) (more_stops P others vs more) (ap (λ m. read m item) (sym w.0) ∙ complete n item v s) (more-complete others vs more)

  pub sum-complete : (text : List ℕ) (vs : List V) → read false [] ≡ None → SpellsSum P text vs → read_all read (cut_at is_sign text) ≡ Some vs
  sum-complete text vs empty s =
      ap (λ x. read_all read (cut_at is_sign x)) s.joined ∙ sum-complete_by s.negative s.front s.item s.others s.first s.rest empty s.signed_by s.spelled s.more ∙ ap (λ x. Some x) (sym s.values)

-- a sum holds no byte that its items don't hold, but the signs
module _ {V : Type 0} (P : Bool → List ℕ → V → Type 0) (p : ℕ → Bool) (free : (n : Bool) (t : List ℕ) (v : V) → P n t v → Free p t) (minus : p 45 ≡ false) (plus : p 43 ≡ false) where
  sign_free : (n : Bool) → Free p (sign n)
  sign_free true = (minus, tt)
  sign_free false = (plus, tt)

  front_free : (n : Bool) (front : List ℕ) → IsSignOf n front → Free p front
  front_free n front (inl w) = subst (λ x. Free p x) (sym w.1) (minus, tt)
  front_free n front (inr (inl w)) = subst (λ x. Free p x) (sym w.1) (plus, tt)
  front_free n front (inr (inr w)) = subst (λ x. Free p x) (sym w.1) tt

  more_free : (text : List ℕ) (vs : List V) → SpellsMore P text vs → Free p text
  more_free text [] s = subst (λ x. Free p x) (sym s) tt
  more_free text (v ∷ vs) s =
      subst (λ x. Free p x) (sym s.3) (Free-append p (sign s.0) (s.1 ++ s.2) (sign_free s.0) (Free-append p s.1 s.2 (free s.0 s.1 v s.4) (more_free s.2 vs s.5)))

  pub sum_free : (text : List ℕ) (vs : List V) → SpellsSum P text vs → Free p text
  sum_free text vs s =
      subst (λ x. Free p x) (sym s.joined) (Free-append p s.front (s.item ++ s.others) (front_free s.negative s.front s.signed_by) (Free-append p s.item s.others (free s.negative s.item s.first s.spelled) (more_free s.others s.rest s.more)))
