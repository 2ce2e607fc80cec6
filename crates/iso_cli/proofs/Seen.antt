-- What `clap` sees in a word, by its look.
use Rattle.std.proofs.Common.{◌≡◌, Bool, true, false, [], ◌∷◌, Some, None, refl, ap, ap₂, sym, subst}
use Rattle.std.specs.Prelude.{◌==◌, if◌then◌else◌}
use Rattle.std.specs.List.{after_first, before_first, list_any}
use Rattle.std.specs.Str.{bytes_eq}
use Rattle.std.proofs.lemmas.Bool.Decides.{Decides-eqb}
use Rattle.clap.specs.Lexer.{long_of, short_of}
use Rattle.iso_cli.specs.Options.{Text}
use Rattle.iso_cli.specs.JobOf.{Look, ends, joined, named, hyphen, plain, is_equals, long_look, look, short_look}
use Rattle.iso_cli.specs.LookLaws.{before_all}

-- what `clap` sees where a word looks so
abbrev pub Seen : Text → Look → Type 0
Seen word ends = bytes_eq word (45 ∷ 45 ∷ []) ≡ true
Seen word (joined x v) = (bytes_eq word (45 ∷ 45 ∷ []) ≡ false) × (long_of word ≡ Some (x, Some v))
Seen word (named x) = (bytes_eq word (45 ∷ 45 ∷ []) ≡ false) × (long_of word ≡ Some (x, None))
Seen word hyphen = (bytes_eq word (45 ∷ 45 ∷ []) ≡ false) × (long_of word ≡ None)
Seen word plain = (bytes_eq word (45 ∷ 45 ∷ []) ≡ false) × (long_of word ≡ None) × (short_of word ≡ None)

seen_long : (cs : Text) → Seen (45 ∷ 45 ∷ cs) (long_look cs)
seen_long [] = refl
seen_long (c ∷ cs) = go (list_any is_equals (c ∷ cs)) refl
  where
    text : Text
    text = c ∷ cs

    go : (b : Bool) → list_any is_equals text ≡ b → Seen (45 ∷ 45 ∷ text) (if b then joined (before_first is_equals text) (after_first is_equals text) else named text)
    go true e = (refl, ap (λ b. Some (before_first is_equals text, if b then Some (after_first is_equals text) else None)) e)
    go false e = (refl, ap₂ (λ t b. Some (t, if b then Some (after_first is_equals text) else None)) (before_all text e) e)

seen_short : (cs : Text) → Seen (45 ∷ cs) (short_look cs)
seen_short [] = (refl, refl)
seen_short (c ∷ cs) = go (c == 45) refl
  where
    go : (b : Bool) → (c == 45) ≡ b → Seen (45 ∷ c ∷ cs) (if b then long_look cs else hyphen)
    go true e = subst (λ d. Seen (45 ∷ d ∷ cs) (long_look cs)) (sym ((Decides-eqb c 45).0 e)) (seen_long cs)
    go false e = (simp e, simp e)

pub seen : (word : Text) → Seen word (look word)
seen [] = (refl, refl, refl)
seen (c ∷ cs) = go (c == 45) refl
  where
    go : (b : Bool) → (c == 45) ≡ b → Seen (c ∷ cs) (if b then short_look cs else plain)
    go true e = subst (λ d. Seen (d ∷ cs) (short_look cs)) (sym ((Decides-eqb c 45).0 e)) (seen_short cs)
    go false e = (simp e, simp e, simp e)
