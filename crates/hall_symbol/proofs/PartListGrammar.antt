-- The parts that are read of words are those that they spell, each with its generator.
use Rattle.std.proofs.Common.{◌≡◌, ℕ, ℤ, suc, ◌+◌, ◌≤◌, ◌<◌, Bool, true, false, List, [], ◌∷◌, ◌++◌, ◌&&◌, nat_lt, length, map, Some, refl, sym, ap, ◌∙◌, arith, inl, inr, append_assoc, append-nil, length-append}
use Rattle.std.proofs.lemmas.List.Elements.{All-nil, All-cons, All-head, All-tail}
use Rattle.std.proofs.lemmas.Bool.Decides.{nat_tests}
use Rattle.std.specs.List.{list_all, All}
use Rattle.space_ops.specs.declared.lattice.Lattice.{Lattice}
use Rattle.hall_symbol.specs.declared.generator.Generator.{Generator}
use Rattle.hall_symbol.specs.declared.rotation.Order.{Order}
use Rattle.hall_symbol.specs.declared.part.Part.{Part}
use Rattle.hall_symbol.specs.Grammar.{head_text, IsOriginShift}
use Rattle.hall_symbol.specs.Steps.{◌>>=◌}
use Rattle.hall_symbol.specs.Spelling.{Spelling, IsSpelling, text_of, part_of, sign_text, order_byte}
use Rattle.hall_symbol.specs.Generators.{generator_of, generators_of}
use Rattle.hall_symbol.specs.SymbolReading.{ends_parts, generator_in, parts_at}
use Rattle.hall_symbol.specs.ShiftReading.{is_byte}
use Rattle.hall_symbol.proofs.PartsLemmas.{parts_at-ends, parts_at-more}
use Rattle.hall_symbol.specs.declared.rotation.Order.TheVariants as order
use Rattle.hall_symbol.proofs.Cases.{bind-some, chosen, some-value}
use Rattle.hall_symbol.proofs.WordsGrammar.{is_word}
use Rattle.hall_symbol.proofs.PartsGrammar.{is_word-text_of, part_in-sound, part_in-text_of}
use Rattle.hall_symbol.proofs.ShiftGrammar.{words-IsOriginShift}
use Rattle.hall_symbol.proofs.HeadGrammar.{is_word-head_text}

-- the parts that were read after those before, and what is left
pub record ReadsParts (before : List Generator) (ws : List (List ℕ)) (read : List Generator × List (List ℕ)) : Type 0 where
  pub parts : List Spelling
  pub generators : List Generator
  pub split : ws ≡ map text_of parts ++ read.1
  pub spelled : All IsSpelling parts
  pub generated : generators_of before (map part_of parts) ≡ Some generators
  pub joined : read.0 ≡ before ++ generators
  pub few : length before ≤ 4 → length before + length parts ≤ 4

pub generator_in-sound : (before : List Generator) (w : List ℕ) (g : Generator) → generator_in before w ≡ Some g
    → (s : Spelling) × IsSpelling s × (w ≡ text_of s) × (generator_of before (part_of s) ≡ Some g) × (length before < 4)
unfolding generator_in
generator_in-sound before w g h = elim (chosen (nat_lt (length before) 4) _ _ _ h) [
  | inl (room, read) ↦
      let part = bind-some _ _ g read in
      let s = part_in-sound w part.0 part.1 in
      (s.0, s.1, s.2, ap (generator_of before) s.3 ∙ part.2, grind (arith, nat_tests))
  | inr (_, none) ↦ cc none
]

pub generators_of-more : (before : List Generator) (p : Part) (ps : List Part) (g : Generator) (gs : List Generator)
    → generator_of before p ≡ Some g → generators_of (before ++ g ∷ []) ps ≡ Some gs → generators_of before (p ∷ ps) ≡ Some (g ∷ gs)
generators_of-more before p ps g gs e f = ap (λ o. o >>= λ h. generators_of (before ++ h ∷ []) ps >>= λ hs. Some (h ∷ hs)) e ∙ ap (λ o. o >>= λ hs. Some (g ∷ hs)) f

pub parts_at-sound : (before : List Generator) (ws : List (List ℕ)) (read : List Generator × List (List ℕ)) → parts_at before ws ≡ Some read → ReadsParts before ws read
unfolding parts_at
parts_at-sound before [] read h =
    let e = some-value _ _ h in
    record {
      parts = [];
      generators = [];
      split = ap (λ p. p.1) e;
      spelled = All-nil IsSpelling;
      generated = refl;
      joined = sym (ap (λ p. p.0) e) ∙ sym (append-nil before);
      few = λ small. omega arith;
    }
parts_at-sound before (w ∷ ws) read h = elim (chosen (is_byte 40 w) _ _ _ h) [
  | inl (_, stop) ↦
      let e = some-value _ _ stop in
      record {
        parts = [];
        generators = [];
        split = ap (λ p. p.1) e;
        spelled = All-nil IsSpelling;
        generated = refl;
        joined = sym (ap (λ p. p.0) e) ∙ sym (append-nil before);
        few = λ small. omega arith;
      }
  | inr (_, go) ↦
      let g = bind-some (generator_in before w) _ read go in
      let s = generator_in-sound before w g.0 g.1 in
      let more = parts_at-sound (before ++ g.0 ∷ []) ws read g.2 in
      let size : length (before ++ g.0 ∷ []) ≡ length before + 1 = length-append before (g.0 ∷ []) in
      let rest : length (before ++ g.0 ∷ []) ≤ 4 → length (before ++ g.0 ∷ []) + length more.parts ≤ 4 = more.few in
      record {
        parts = s.0 ∷ more.parts;
        generators = g.0 ∷ more.generators;
        split = (λ i. s.2 i ∷ more.split i);
        spelled = All-cons IsSpelling s.0 more.parts s.1 more.spelled;
        generated = generators_of-more before (part_of s.0) (map part_of more.parts) g.0 more.generators s.3 more.generated;
        joined = more.joined ∙ append_assoc before (g.0 ∷ []) more.generators;
        few = λ small. let last = rest (omega (arith, s.4)) in omega arith;
      }
]

pub is_byte-order : (b : Bool) (n : Order) (rest : List ℕ) → is_byte 40 (sign_text b ++ (order_byte n ∷ rest)) ≡ false
is_byte-order true n rest = refl
is_byte-order false order.One [] = refl
is_byte-order false order.Two [] = refl
is_byte-order false order.Three [] = refl
is_byte-order false order.Four [] = refl
is_byte-order false order.Six [] = refl
is_byte-order false n (c ∷ cs) = refl

pub generator_in-text_of : (before : List Generator) (s : Spelling) (g : Generator) → IsSpelling s → generator_of before (part_of s) ≡ Some g → length before < 4
    → generator_in before (text_of s) ≡ Some g
unfolding generator_in
generator_in-text_of before s g spelled e room =
    let small : nat_lt (length before) 4 ≡ true = grind (arith, nat_tests) in
    rw (small, part_in-text_of s spelled) e

-- the first of several parts has a generator, and so have the others behind it
pub generators_of-first : (before : List Generator) (p : Part) (ps : List Part) (gs : List Generator) → generators_of before (p ∷ ps) ≡ Some gs
    → (g : Generator) × (hs : List Generator) × (generator_of before p ≡ Some g) × (generators_of (before ++ g ∷ []) ps ≡ Some hs) × (g ∷ hs ≡ gs)
generators_of-first before p ps gs h =
    let first = bind-some (generator_of before p) _ gs h in
    let others = bind-some (generators_of (before ++ first.0 ∷ []) ps) _ gs first.2 in
    (first.0, others.0, first.1, others.1, some-value _ _ others.2)

pub parts_at-parts : (before : List Generator) (parts : List Spelling) (gs : List Generator) (ending : List (List ℕ))
    → All IsSpelling parts → generators_of before (map part_of parts) ≡ Some gs → length before + length parts ≤ 4 → ends_parts ending ≡ true
    → parts_at before (map text_of parts ++ ending) ≡ Some (before ++ gs, ending)
parts_at-parts before [] gs ending spelled e few ends =
    parts_at-ends before ending ends ∙ ap (λ hs. Some (hs, ending)) (sym (append-nil before) ∙ ap (λ hs. before ++ hs) (some-value _ _ e))
parts_at-parts before (s ∷ ss) gs ending spelled e few ends =
    let first = All-head IsSpelling s ss spelled in
    let others = All-tail IsSpelling s ss spelled in
    let g = generators_of-first before (part_of s) (map part_of ss) gs e in
    let read = generator_in-text_of before s g.0 first g.2 (omega arith) in
    let size : length (before ++ g.0 ∷ []) ≡ length before + 1 = length-append before (g.0 ∷ []) in
    let more = parts_at-parts (before ++ g.0 ∷ []) ss g.1 ending others g.3 (omega arith) ends in
    let joined : (before ++ g.0 ∷ []) ++ g.1 ≡ before ++ gs = append_assoc before (g.0 ∷ []) g.1 ∙ ap (λ hs. before ++ hs) g.4 in
    parts_at-more before (text_of s ∷ (map text_of ss ++ ending)) (text_of s) (map text_of ss ++ ending) g.0 refl (is_byte-order s.negated s.order _) read
    ∙ more ∙ ap (λ hs. Some (hs, ending)) joined

-- as many generators as parts
pub length-generators_of : (before : List Generator) (ps : List Part) (gs : List Generator) → generators_of before ps ≡ Some gs → length gs ≡ length ps
length-generators_of before [] gs h = ap length (sym (some-value _ _ h))
length-generators_of before (p ∷ ps) gs h =
    let g = generators_of-first before p ps gs h in
    ap length (sym g.4) ∙ ap suc (length-generators_of (before ++ g.0 ∷ []) ps g.1 g.3)

pub is_word-parts : (parts : List Spelling) (ending : List (List ℕ)) → All IsSpelling parts → list_all is_word ending ≡ true → list_all is_word (map text_of parts ++ ending) ≡ true
is_word-parts [] ending spelled h = h
is_word-parts (s ∷ ss) ending spelled h =
    ap (λ t. t && list_all is_word (map text_of ss ++ ending)) (is_word-text_of s (All-head IsSpelling s ss spelled)) ∙ is_word-parts ss ending (All-tail IsSpelling s ss spelled) h

-- the words of a symbol are words
pub is_word-symbol : (inverted : Bool) (l : Lattice) (parts : List Spelling) (ending : List (List ℕ)) (v : List ℤ) → All IsSpelling parts → IsOriginShift ending v
    → list_all is_word (head_text inverted l ∷ (map text_of parts ++ ending)) ≡ true
is_word-symbol inverted l parts ending v spelled shift =
    ap (λ t. t && list_all is_word (map text_of parts ++ ending)) (is_word-head_text inverted l) ∙ is_word-parts parts ending spelled (words-IsOriginShift ending v shift)
