-- What a word looks like, and how its parts make it.
--
-- IsLook word look, look_is: the word is made as its look says
-- look_plain, look_named, look_joined: and looks as it is made
-- before_all: a text without `=` has nothing behind one
use Rattle.std.proofs.Common.{◌≡◌, ◌∙◌, Bool, true, false, suc, List, [], ◌∷◌, ◌++◌, codes, refl, ap, ap₂, sym, subst, arith, take, drop}
use Rattle.std.specs.Prelude.{◌+◌, ◌||◌, ◌&&◌, ◌==◌, not, if◌then◌else◌}
use Rattle.std.specs.List.{after_first, before_first, list_all, list_any, position_or_len}
use Rattle.std.specs.Str.{bytes_eq}
use Rattle.std.proofs.lemmas.Slice.Eq.{bytes_eq-Decides}
use Rattle.std.proofs.lemmas.Bool.Decides.{Decides-eqb}
use Rattle.iso_cli.specs.Options.{OptionRow, Text, options, stands_alone, takes_text, wants_text}
use Rattle.iso_cli.specs.Given.{begins_with_hyphen}
use Rattle.iso_cli.specs.JobOf.{Look, is_equals, look, long_look, short_look}
use Rattle.iso_cli.specs.JobOf as looks

pub or_neither : (a b : Bool) → (a || b) ≡ false → (a ≡ false) × (b ≡ false)
or_neither true b e = absurd (cc)
or_neither false b e = (refl, e)

-- a text without `=`
pub before_all : (text : Text) → list_any is_equals text ≡ false → before_first is_equals text ≡ text
before_all [] e = refl
before_all (c ∷ cs) e =
    let apart = or_neither (is_equals c) (list_any is_equals cs) e in
    let next : 1 + position_or_len is_equals cs ≡ suc (position_or_len is_equals cs) = omega arith in
    rw apart.0 (ap (λ n. take n (c ∷ cs)) next ∙ ap (λ t. c ∷ t) (before_all cs apart.1))

abbrev pub IsLook : Text → Look → Type 0
IsLook word looks.ends = word ≡ codes "--"
IsLook word (looks.joined x v) = word ≡ codes "--" ++ (x ++ (codes "=" ++ v))
IsLook word (looks.named x) = word ≡ codes "--" ++ x
IsLook word looks.hyphen = Unit {0}
IsLook word looks.plain = begins_with_hyphen word ≡ false

cut : (text : Text) → list_any is_equals text ≡ true → text ≡ before_first is_equals text ++ (61 ∷ after_first is_equals text)
cut [] e = absurd (cc)
cut (c ∷ cs) e = go (is_equals c) refl e (cut cs)
  where
    go : (b : Bool) → is_equals c ≡ b → (b || list_any is_equals cs) ≡ true → (list_any is_equals cs ≡ true → cs ≡ before_first is_equals cs ++ (61 ∷ after_first is_equals cs)) → c ∷ cs ≡ before_first is_equals (c ∷ cs) ++ (61 ∷ after_first is_equals (c ∷ cs))
    go true here e behind = rw here (ap (λ d. d ∷ cs) ((Decides-eqb c 61).0 here))
    go false here e behind =
        let next : 1 + position_or_len is_equals cs ≡ suc (position_or_len is_equals cs) = omega arith in
        let after : (1 + position_or_len is_equals cs) + 1 ≡ suc (position_or_len is_equals cs + 1) = omega arith in
        rw here (ap (λ t. c ∷ t) (behind e) ∙ ap₂ (λ m n. take m (c ∷ cs) ++ (61 ∷ drop n (c ∷ cs))) (sym next) (sym after))

cut_first : (x v : Text) → list_any is_equals x ≡ false → before_first is_equals (x ++ (61 ∷ v)) ≡ x
cut_first [] v free = refl
cut_first (c ∷ cs) v free =
    let apart = or_neither (is_equals c) (list_any is_equals cs) free in
    let next : 1 + position_or_len is_equals (cs ++ (61 ∷ v)) ≡ suc (position_or_len is_equals (cs ++ (61 ∷ v))) = omega arith in
    rw apart.0 (ap (λ n. take n (c ∷ (cs ++ (61 ∷ v)))) next ∙ ap (λ t. c ∷ t) (cut_first cs v apart.1))

cut_after : (x v : Text) → list_any is_equals x ≡ false → after_first is_equals (x ++ (61 ∷ v)) ≡ v
cut_after [] v free = refl
cut_after (c ∷ cs) v free =
    let apart = or_neither (is_equals c) (list_any is_equals cs) free in
    let next : (1 + position_or_len is_equals (cs ++ (61 ∷ v))) + 1 ≡ suc (position_or_len is_equals (cs ++ (61 ∷ v)) + 1) = omega arith in
    rw apart.0 (ap (λ n. drop n (c ∷ (cs ++ (61 ∷ v)))) next ∙ cut_after cs v apart.1)

has_equals : (x v : Text) → list_any is_equals (x ++ (61 ∷ v)) ≡ true
has_equals [] v = refl
has_equals (c ∷ cs) v = go (is_equals c) (has_equals cs v)
  where
    go : (b : Bool) → list_any is_equals (cs ++ (61 ∷ v)) ≡ true → (b || list_any is_equals (cs ++ (61 ∷ v))) ≡ true
    go true behind = refl
    go false behind = behind

long_is : (cs : Text) → IsLook (45 ∷ 45 ∷ cs) (long_look cs)
long_is [] = refl
long_is (c ∷ cs) = go (list_any is_equals (c ∷ cs)) refl
  where
    go : (b : Bool) → list_any is_equals (c ∷ cs) ≡ b → IsLook (45 ∷ 45 ∷ c ∷ cs) (if b then looks.joined (before_first is_equals (c ∷ cs)) (after_first is_equals (c ∷ cs)) else looks.named (c ∷ cs))
    go true e = ap (λ t. 45 ∷ 45 ∷ t) (cut (c ∷ cs) e)
    go false e = refl

short_is : (cs : Text) → IsLook (45 ∷ cs) (short_look cs)
short_is [] = tt
short_is (c ∷ cs) = go (c == 45) refl
  where
    go : (b : Bool) → (c == 45) ≡ b → IsLook (45 ∷ c ∷ cs) (if b then long_look cs else looks.hyphen)
    go true e = subst (λ d. IsLook (45 ∷ d ∷ cs) (long_look cs)) (sym ((Decides-eqb c 45).0 e)) (long_is cs)
    go false e = tt

pub look_is : (word : Text) → IsLook word (look word)
look_is [] = refl
look_is (c ∷ cs) = go (c == 45) refl
  where
    go : (b : Bool) → (c == 45) ≡ b → IsLook (c ∷ cs) (if b then short_look cs else looks.plain)
    go true e = subst (λ d. IsLook (d ∷ cs) (short_look cs)) (sym ((Decides-eqb c 45).0 e)) (short_is cs)
    go false e = e

pub look_plain : (word : Text) → begins_with_hyphen word ≡ false → look word ≡ looks.plain
look_plain [] e = refl
look_plain (c ∷ cs) e = rw e refl

-- ---- the options' names

and_both : (a b : Bool) → (a && b) ≡ true → (a ≡ true) × (b ≡ true)
and_both true b e = (refl, e)
and_both false b e = absurd (cc)

-- what holds of the names of the options of one kind
of_option : (which : OptionRow → Bool) (test : Text → Bool) (opts : List OptionRow) (x : Text) → list_all (λ o. not (which o) || test o.word) opts ≡ true → list_any (λ o. which o && bytes_eq o.word x) opts ≡ true → test x ≡ true
of_option which test [] x all any = absurd (cc)
of_option which test (o ∷ opts) x all any =
    let parts = and_both (not (which o) || test o.word) (list_all (λ p. not (which p) || test p.word) opts) all in
    go (which o) (bytes_eq o.word x) refl parts.0 any (of_option which test opts x parts.1)
  where
    go : (a b : Bool) → bytes_eq o.word x ≡ b → (not a || test o.word) ≡ true → ((a && b) || list_any (λ p. which p && bytes_eq p.word x) opts) ≡ true
        → (list_any (λ p. which p && bytes_eq p.word x) opts ≡ true → test x ≡ true) → test x ≡ true
    go true true same here any behind = ap test (sym ((bytes_eq-Decides o.word x).0 same)) ∙ here
    go true false same here any behind = behind any
    go false b same here any behind = behind any

pub is_plain_name : Text → Bool
is_plain_name [] = false
is_plain_name (c ∷ cs) = not (list_any is_equals (c ∷ cs))

pub plain_name : (x : Text) → takes_text x ≡ true → is_plain_name x ≡ true
unfolding is_plain_name
plain_name x e = of_option (λ o. wants_text o.kind) is_plain_name options x refl e

pub plain_flag : (x : Text) → stands_alone x ≡ true → is_plain_name x ≡ true
unfolding is_plain_name
plain_flag x e = of_option (λ o. not (wants_text o.kind)) is_plain_name options x refl e

-- an option that stands alone takes no text
pub flag_apart : (x : Text) → stands_alone x ≡ true → takes_text x ≡ false
flag_apart x e = not_true (of_option (λ o. not (wants_text o.kind)) (λ y. not (takes_text y)) options x refl e)
  where
    not_true : not (takes_text x) ≡ true → takes_text x ≡ false
    not_true h = go (takes_text x) h
      where
        go : (b : Bool) → not b ≡ true → b ≡ false
        go true h = absurd (cc)
        go false h = refl

pub look_named : (x : Text) → is_plain_name x ≡ true → look (codes "--" ++ x) ≡ looks.named x
unfolding is_plain_name
look_named [] e = absurd (cc)
look_named (c ∷ cs) e = go (list_any is_equals (c ∷ cs)) e
  where
    go : (b : Bool) → not b ≡ true → (if b then looks.joined (before_first is_equals (c ∷ cs)) (after_first is_equals (c ∷ cs)) else looks.named (c ∷ cs)) ≡ looks.named (c ∷ cs)
    go true h = absurd (cc)
    go false h = refl

pub look_joined : (x v : Text) → is_plain_name x ≡ true → look (codes "--" ++ (x ++ (codes "=" ++ v))) ≡ looks.joined x v
unfolding is_plain_name
look_joined [] v e = absurd (cc)
look_joined (c ∷ cs) v e =
    let free : list_any is_equals (c ∷ cs) ≡ false = not_free (list_any is_equals (c ∷ cs)) e in
    ap (λ b. if b then looks.joined (before_first is_equals (c ∷ (cs ++ (61 ∷ v)))) (after_first is_equals (c ∷ (cs ++ (61 ∷ v)))) else looks.named (c ∷ (cs ++ (61 ∷ v)))) (has_equals (c ∷ cs) v)
    ∙ ap₂ looks.joined (cut_first (c ∷ cs) v free) (cut_after (c ∷ cs) v free)
  where
    not_free : (b : Bool) → not b ≡ true → b ≡ false
    not_free true h = absurd (cc)
    not_free false h = refl
