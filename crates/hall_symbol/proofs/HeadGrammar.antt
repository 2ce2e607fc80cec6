-- The sign and the lattice that are read of a word are those that it spells.
use Rattle.std.proofs.Common.{◌≡◌, ℕ, Bool, true, false, List, [], ◌∷◌, ◌++◌, Some, refl, ap, ◌∙◌}
use Rattle.space_ops.specs.declared.lattice.Lattice.{Lattice}
use Rattle.space_ops.specs.declared.lattice.Lattice.TheVariants.{P, A, B, C, I, R, F}
use Rattle.space_ops.specs.Lattice.{letter_of}
use Rattle.space_ops.specs.LetterLaws.{lattice-letter}
use Rattle.hall_symbol.specs.Grammar.{head_text}
use Rattle.hall_symbol.specs.Spelling.{sign_text}
use Rattle.hall_symbol.specs.PartReading.{sign_at}
use Rattle.hall_symbol.specs.SymbolReading.{lattice_in, head_at}
use Rattle.hall_symbol.proofs.Cases.{bind-some, some-value}
use Rattle.hall_symbol.proofs.WordsGrammar.{is_word}
use Rattle.hall_symbol.proofs.PartFronts.{sign_at-split}

pub lattice_in-sound : (w : List ℕ) (l : Lattice) → lattice_in w ≡ Some l → w ≡ letter_of l ∷ []
unfolding lattice_in
lattice_in-sound [] l h = cc h
lattice_in-sound (c ∷ []) l h = ap (λ b. b ∷ []) (lattice-letter c l h)
lattice_in-sound (c ∷ d ∷ cs) l h = cc h

pub head_at-sound : (ws : List (List ℕ)) (h : Bool × Lattice × List (List ℕ)) → head_at ws ≡ Some h → ws ≡ head_text h.0 h.1 ∷ h.2
unfolding head_at
head_at-sound [] h e = cc e
head_at-sound (w ∷ ws) h e =
    let sign = sign_at w in
    let read = bind-some (lattice_in sign.1) _ h e in
    let value = some-value _ _ read.2 in
    let inverted : sign.0 ≡ h.0 = ap (λ p. p.0) value in
    let lattice : read.0 ≡ h.1 = ap (λ p. p.1) value in
    let rest : ws ≡ h.2 = ap (λ p. p.2) value in
    ap (λ v. v ∷ ws) (sign_at-split w ∙ ap (λ t. sign_text sign.0 ++ t) (lattice_in-sound sign.1 read.0 read.1))
    ∙ (λ i. head_text (inverted i) (lattice i) ∷ rest i)

pub head_at-head_text : (inverted : Bool) (l : Lattice) (ws : List (List ℕ)) → head_at (head_text inverted l ∷ ws) ≡ Some (inverted, l, ws)
unfolding head_at lattice_in
head_at-head_text true P ws = refl
head_at-head_text true A ws = refl
head_at-head_text true B ws = refl
head_at-head_text true C ws = refl
head_at-head_text true I ws = refl
head_at-head_text true R ws = refl
head_at-head_text true F ws = refl
head_at-head_text false P ws = refl
head_at-head_text false A ws = refl
head_at-head_text false B ws = refl
head_at-head_text false C ws = refl
head_at-head_text false I ws = refl
head_at-head_text false R ws = refl
head_at-head_text false F ws = refl

pub is_word-head_text : (inverted : Bool) (l : Lattice) → is_word (head_text inverted l) ≡ true
is_word-head_text true P = refl
is_word-head_text true A = refl
is_word-head_text true B = refl
is_word-head_text true C = refl
is_word-head_text true I = refl
is_word-head_text true R = refl
is_word-head_text true F = refl
is_word-head_text false P = refl
is_word-head_text false A = refl
is_word-head_text false B = refl
is_word-head_text false C = refl
is_word-head_text false I = refl
is_word-head_text false R = refl
is_word-head_text false F = refl
