-- Texts of so many words, by how they are put together, against the readers' functions.
use Rattle.std.proofs.Common.{◌≡◌, ℕ, ℤ, ◌≤◌, true, List, [], ◌∷◌, ◌++◌, length, Option, Some, None, refl, sym, ◌∙◌, ap, subst, arith, append-nil, nat_le, if◌then◌else◌}
use Rattle.std.specs.Prelude.{option_and_then}
use Rattle.std.specs.Option.{option_map}
use Rattle.std.specs.Str.{bytes_eq}
use Rattle.std.proofs.lemmas.Slice.Eq.{bytes_eq-Decides}
use Rattle.iso_text.specs.Fractions.{place_of}
use Rattle.iso_text.specs.LineWords.{is_none_left, one, two, three_of, site_of, name_of, numbers_of, few_numbers_of}
use Rattle.iso_text.specs.Name.{is_name}
use Rattle.iso_text.specs.Numbers.{number_of}
use Rattle.iso_text.specs.Spellings.{SpellsPlace}
use Rattle.iso_text.specs.SumSpellings.{SpellsNumber}
use Rattle.iso_text.specs.WordSpellings.{Each, Three, SpellsSite}
use Rattle.iso_text.specs.declared.numbers.Term.{Term}
use Rattle.iso_text.proofs.NumberSpellings.{if_true, number-sound, number-complete}
use Rattle.iso_text.proofs.SignSpellings.{place-sound, place-complete}
use Rattle.iso_text.proofs.SpellingLemmas.{le_true, true_le, none_some, map_some}
use Rattle.iso_text.proofs.Steps.{guard, bind}

pub same_text : (a b : List ℕ) → bytes_eq a b ≡ true → a ≡ b
same_text a b e = (bytes_eq-Decides a b).0 e

pub none_left : (words : List (List ℕ)) → is_none_left words ≡ true → words ≡ []
none_left [] e = refl
none_left (w ∷ words) e = absurd (cc)

-- one word or two
pub one_is : (words : List (List ℕ)) (w : List ℕ) → one words ≡ Some w → words ≡ w ∷ []
one_is [] w e = none_some e
one_is (a ∷ []) w e = cc
one_is (a ∷ b ∷ words) w e = none_some e

pub two_is : (words : List (List ℕ)) (p : List ℕ × List ℕ) → two words ≡ Some p → words ≡ p.0 ∷ p.1 ∷ []
two_is [] p e = none_some e
two_is (a ∷ words) p e =
    let b = map_some (λ b. (a, b)) (one words) p e in
    ap (λ x. a ∷ x) (one_is words b.0 b.1) ∙ ap (λ q. q.0 ∷ q.1 ∷ []) b.2

-- three words, and those behind them
pub record IsThree {V : Type 0} (P : List ℕ → V → Type 0) (words : List (List ℕ)) (vs : List V) (rest : List (List ℕ)) : Type 0 where
  pub first : List (List ℕ)
  pub joined : words ≡ first ++ rest
  pub spelled : Three P first vs

three_cons : {V : Type 0} (P : List ℕ → V → Type 0) (a b c : List ℕ) (words : List (List ℕ)) (x y z : V) (r : List V × List (List ℕ)) → P a x → P b y → P c z → (x ∷ y ∷ z ∷ [], words) ≡ r → IsThree P (a ∷ b ∷ c ∷ words) r.0 r.1
three_cons P a b c words x y z r first second third is =
    let here : IsThree P (a ∷ b ∷ c ∷ words) (x ∷ y ∷ z ∷ []) words = record { first = a ∷ b ∷ c ∷ []; joined = refl; spelled = record { count = refl; each = (first, (second, (third, tt))) } } in
    subst (λ q. IsThree P (a ∷ b ∷ c ∷ words) q.0 q.1) is here

pub three-sound : {V : Type 0} (f : List ℕ → Option V) (P : List ℕ → V → Type 0) (sound : (w : List ℕ) (v : V) → f w ≡ Some v → P w v) (words : List (List ℕ)) (r : List V × List (List ℕ)) → three_of f words ≡ Some r → IsThree P words r.0 r.1
three-sound f P sound [] r e = none_some e
three-sound f P sound (a ∷ []) r e = none_some e
three-sound f P sound (a ∷ b ∷ []) r e = none_some e
three-sound f P sound (a ∷ b ∷ c ∷ words) r e =
    let x = bind (f a) (λ x. option_and_then (λ y. option_map (λ z. (x ∷ y ∷ z ∷ [], words)) (f c)) (f b)) r e in
    let y = bind (f b) (λ y. option_map (λ z. (x.0 ∷ y ∷ z ∷ [], words)) (f c)) r x.2 in
    let z = map_some (λ z. (x.0 ∷ y.0 ∷ z ∷ [], words)) (f c) r y.2 in
    three_cons P a b c words x.0 y.0 z.0 r (sound a x.0 x.1) (sound b y.0 y.1) (sound c z.0 z.1) z.2

pub three-complete : {V : Type 0} (f : List ℕ → Option V) (P : List ℕ → V → Type 0) (complete : (w : List ℕ) (v : V) → P w v → f w ≡ Some v) (first : List (List ℕ)) (vs : List V) (rest : List (List ℕ)) → Three P first vs → three_of f (first ++ rest) ≡ Some (vs, rest)
three-complete f P complete [] vs rest s = absurd (omega (arith, s.count))
three-complete f P complete (a ∷ []) vs rest s = absurd (omega (arith, s.count))
three-complete f P complete (a ∷ b ∷ []) vs rest s = absurd (omega (arith, s.count))
three-complete f P complete (a ∷ b ∷ c ∷ []) [] rest s = absurd s.each
three-complete f P complete (a ∷ b ∷ c ∷ []) (x ∷ []) rest s = absurd s.each.1
three-complete f P complete (a ∷ b ∷ c ∷ []) (x ∷ y ∷ []) rest s = absurd s.each.1.1
three-complete f P complete (a ∷ b ∷ c ∷ []) (x ∷ y ∷ z ∷ []) rest s =
    ap (λ o. option_and_then (λ p. option_and_then (λ q. option_map (λ r. (p ∷ q ∷ r ∷ [], rest)) (f c)) (f b)) o) (complete a x s.each.0)
    ∙ ap (λ o. option_and_then (λ q. option_map (λ r. (x ∷ q ∷ r ∷ [], rest)) (f c)) o) (complete b y s.each.1.0)
    ∙ ap (λ o. option_map (λ r. (x ∷ y ∷ r ∷ [], rest)) o) (complete c z s.each.1.1.0)
three-complete f P complete (a ∷ b ∷ c ∷ []) (x ∷ y ∷ z ∷ v ∷ vs) rest s = absurd s.each.1.1.1
three-complete f P complete (a ∷ b ∷ c ∷ d ∷ words) vs rest s = absurd (omega (arith, s.count))

-- no word is left
pub all_first : (words first rest : List (List ℕ)) → words ≡ first ++ rest → is_none_left rest ≡ true → words ≡ first
all_first words first rest joined none = joined ∙ ap (λ x. first ++ x) (none_left rest none) ∙ append-nil first

pub three_alone : {V : Type 0} (P : List ℕ → V → Type 0) (words : List (List ℕ)) (vs : List V) (rest : List (List ℕ)) → IsThree P words vs rest → is_none_left rest ≡ true → Three P words vs
three_alone P words vs rest is none = subst (λ x. Three P x vs) (sym (all_first words is.first rest is.joined none)) is.spelled

pub alone-complete : {V : Type 0} (f : List ℕ → Option V) (P : List ℕ → V → Type 0) (complete : (w : List ℕ) (v : V) → P w v → f w ≡ Some v) (words : List (List ℕ)) (vs : List V) → Three P words vs → three_of f words ≡ Some (vs, [])
alone-complete f P complete words vs s = ap (λ x. three_of f x) (sym (append-nil words)) ∙ three-complete f P complete words vs [] s

-- names
pub name-sound : (text name : List ℕ) → name_of text ≡ Some name → (is_name name ≡ true) × (text ≡ name)
name-sound text name e = let test = guard (is_name text) text name e in (subst (λ x. is_name x ≡ true) test.1 test.0, test.1)

pub name-complete : (name : List ℕ) → is_name name ≡ true → name_of name ≡ Some name
name-complete name is = ap (λ t. if t then Some name else None) is

-- a label, three coordinates, and the words behind them
pub record IsSite (words : List (List ℕ)) (label : List ℕ) (place : List ℤ) (rest : List (List ℕ)) : Type 0 where
  pub site : List (List ℕ)
  pub joined : words ≡ site ++ rest
  pub spelled : SpellsSite site label place

site_cons : (first label : List ℕ) (words : List (List ℕ)) (place : List ℤ) (rest : List (List ℕ)) → name_of first ≡ Some label → IsThree SpellsPlace words place rest → IsSite (first ∷ words) label place rest
site_cons first label words place rest named three =
    let name = name-sound first label named in
    record { site = label ∷ three.first; joined = ap (λ x. x ∷ words) name.1 ∙ ap (λ x. label ∷ x) three.joined; spelled = record { coordinates = three.first; joined = refl; name = name.0; places = three.spelled } }

pub site-sound : (words : List (List ℕ)) (s : List ℕ × List ℤ × List (List ℕ)) (label : List ℕ) → site_of words ≡ Some s → name_of s.0 ≡ Some label → IsSite words label s.1 s.2
site-sound [] s label e named = none_some e
site-sound (first ∷ words) s label e named =
    let r = map_some (λ r. (first, r.0, r.1)) (three_of place_of words) s e in
    let three = three-sound place_of (λ w v. SpellsPlace w v) (λ w v read. place-sound w v read) words r.0 r.1 in
    let name : name_of first ≡ Some label = ap (λ q. name_of q.0) r.2 ∙ named in
    subst (λ q. IsSite (first ∷ words) label q.1 q.2) r.2 (site_cons first label words r.0.0 r.0.1 name three)

pub site-complete : (site : List (List ℕ)) (label : List ℕ) (place : List ℤ) (rest : List (List ℕ)) → SpellsSite site label place → site_of (site ++ rest) ≡ Some (label, place, rest)
site-complete site label place rest s =
    ap (λ x. site_of (x ++ rest)) s.joined
    ∙ ap (λ o. option_map (λ r. (label, r.0, r.1)) o) (three-complete place_of (λ w v. SpellsPlace w v) (λ w v spelled. place-complete w v spelled) s.coordinates place rest s.places)

pub site_alone : (words : List (List ℕ)) (label : List ℕ) (place : List ℤ) (rest : List (List ℕ)) → IsSite words label place rest → is_none_left rest ≡ true → SpellsSite words label place
site_alone words label place rest is none = subst (λ x. SpellsSite x label place) (sym (all_first words is.site rest is.joined none)) is.spelled

-- numbers
pub numbers-sound : (words : List (List ℕ)) (ns : List (List Term)) → numbers_of words ≡ Some ns → Each SpellsNumber words ns
numbers-sound [] [] e = tt
numbers-sound [] (n ∷ ns) e = absurd (cc)
numbers-sound (w ∷ words) ns e =
    let n = bind (number_of w) (λ n. option_map (λ more. n ∷ more) (numbers_of words)) ns e in
    let more = map_some (λ x. n.0 ∷ x) (numbers_of words) ns n.2 in
    subst (λ x. Each SpellsNumber (w ∷ words) x) more.2 (number-sound w n.0 n.1, numbers-sound words more.0 more.1)

pub numbers-complete : (words : List (List ℕ)) (ns : List (List Term)) → Each SpellsNumber words ns → numbers_of words ≡ Some ns
numbers-complete [] [] s = refl
numbers-complete [] (n ∷ ns) s = absurd s
numbers-complete (w ∷ words) [] s = absurd s
numbers-complete (w ∷ words) (n ∷ ns) s =
    ap (λ o. option_and_then (λ x. option_map (λ more. x ∷ more) (numbers_of words)) o) (number-complete w n s.0)
    ∙ ap (λ o. option_map (λ more. n ∷ more) o) (numbers-complete words ns s.1)

pub few-sound : (most : ℕ) (words : List (List ℕ)) (ns : List (List Term)) → few_numbers_of most words ≡ Some ns → (length words ≤ most) × Each SpellsNumber words ns
few-sound most words ns e =
    let test = if_true (nat_le (length words) most) (numbers_of words) ns e in
    (le_true (length words) most test.0, numbers-sound words ns test.1)

pub few-complete : (most : ℕ) (words : List (List ℕ)) (ns : List (List Term)) → length words ≤ most → Each SpellsNumber words ns → few_numbers_of most words ≡ Some ns
few-complete most words ns few s = ap (λ b. if b then numbers_of words else None) (true_le (length words) most few) ∙ numbers-complete words ns s
