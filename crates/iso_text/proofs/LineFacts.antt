-- Fronts of lines, and what lines can say.
use Rattle.std.proofs.Common.{◌≡◌, ℕ, zero, suc, ◌+◌, ◌≤◌, ◌==◌, ◌||◌, true, List, [], ◌∷◌, ◌++◌, length, take, drop, refl, sym, ◌∙◌, ap, arith, inl, inr}
use Rattle.std.specs.List.{list_all}
use Rattle.std.proofs.lemmas.Grind.{common_steps}
use Rattle.iso_text.specs.LineKinds.{kind_of}
use Rattle.iso_text.specs.LineSpellings.{SpellsLine, SayLines}
use Rattle.iso_text.specs.SectionSpellings.{SpellsFormat}
use Rattle.iso_text.specs.declared.line_kinds.Line.{Line}
use Rattle.iso_text.specs.declared.line_kinds.Line.TheVariants.{Skip, Bad, Head}
use Rattle.iso_text.proofs.BodyLemmas.{both}
use Rattle.iso_text.proofs.DraftLines.{is_said}
use Rattle.iso_text.proofs.KindsOfLines.{kinds}

format_said : (words : List (List ℕ)) (format : ℕ) → SpellsFormat words format → (format == 1 || format == 2) ≡ true
format_said words format (inl one) = ap (λ n. n == 1 || n == 2) one.1
format_said words format (inr two) = ap (λ n. n == 1 || n == 2) two.1

-- what a line spells can be said
line_said : (n : ℕ) (text : List ℕ) (line : Line) → SpellsLine n text line → is_said line ≡ true
line_said n text Skip spelled = absurd spelled.2
line_said n text Bad spelled = absurd spelled.2
line_said n text (Head format) spelled = format_said spelled.0 format spelled.2
line_said n text _ spelled = refl

pub lines_said : (n : ℕ) (lines : List (List ℕ)) (said : List Line) → SayLines n lines said → list_all is_said said ≡ true
lines_said n [] said says = ap (list_all is_said) says
lines_said n (text ∷ lines) said (inl skipped) = lines_said (n + 1) lines said skipped.1
lines_said n (text ∷ lines) said (inr kept) =
    ap (list_all is_said) kept.2 ∙ both (is_said kept.0) (list_all is_said kept.1) (line_said n text kept.0 kept.3.spelled) (lines_said (n + 1) lines kept.1 kept.4)

-- the front of what lines say
pub record SayFront (n : ℕ) (lines : List (List ℕ)) (k : ℕ) (said : List Line) : Type 0 where
  pub front : List Line
  pub rest : List Line
  pub says : SayLines n (take k lines) front
  pub joined : front ++ rest ≡ said

pub say_front : (n : ℕ) (lines : List (List ℕ)) (k : ℕ) (said : List Line) → SayLines n lines said → SayFront n lines k said
say_front n lines zero said says = record { front = []; rest = said; says = refl; joined = refl }
say_front n [] (suc k) said says = record { front = said; rest = []; says = says; joined = ap (λ x. x ++ []) says ∙ sym says }
say_front n (text ∷ lines) (suc k) said (inl skipped) =
    let more = say_front (n + 1) lines k said skipped.1 in
    record { front = more.front; rest = more.rest; says = inl (skipped.0, more.says); joined = more.joined }
say_front n (text ∷ lines) (suc k) said (inr kept) =
    let more = say_front (n + 1) lines k kept.1 kept.4 in
    record { front = kept.0 ∷ more.front; rest = more.rest; says = inr (kept.0, more.front, refl, kept.3, more.says); joined = ap (λ x. kept.0 ∷ x) more.joined ∙ sym kept.2 }

kinds_snoc : (n : ℕ) (lines : List (List ℕ)) (line : List ℕ) → kinds n (lines ++ line ∷ []) ≡ kinds n lines ++ kind_of (n + length lines) line ∷ []
kinds_snoc n [] line = ap (λ m. kind_of m line ∷ []) {y = n + 0} (omega arith)
kinds_snoc n (first ∷ lines) line = ap (λ x. kind_of n first ∷ x) (kinds_snoc (n + 1) lines line ∙ ap (λ m. kinds (n + 1) lines ++ kind_of m line ∷ []) {y = n + length (first ∷ lines)} (omega arith))

pub split_take : (lines : List (List ℕ)) (n : ℕ) (line : List ℕ) (left : List (List ℕ)) → drop n lines ≡ line ∷ left → (length (take n lines) ≡ n) × (take (n + 1) lines ≡ take n lines ++ line ∷ []) × (drop (n + 1) lines ≡ left)
split_take [] zero line left e = absurd cc
split_take [] (suc n) line left e = absurd cc
split_take (first ∷ lines) zero line left e =
    let heads : first ≡ line = cc in
    let tails : lines ≡ left = cc in
    (refl, ap (λ x. x ∷ []) heads, tails)
split_take (first ∷ lines) (suc n) line left e =
    let rest = split_take lines n line left e in
    (omega (arith, rest.0), rw suc_plus (ap (λ x. first ∷ x) rest.1), rw suc_plus rest.2)
  where
    suc_plus : (n : ℕ) → suc n + 1 ≡ suc (n + 1)
    suc_plus n = omega arith

pub kinds_more : (lines : List (List ℕ)) (n : ℕ) (line : List ℕ) (left : List (List ℕ)) → drop n lines ≡ line ∷ left → kinds 1 (take (n + 1) lines) ≡ kinds 1 (take n lines) ++ kind_of (n + 1) line ∷ []
kinds_more lines n line left e =
    let parts = split_take lines n line left e in
    ap (kinds 1) parts.1 ∙ kinds_snoc 1 (take n lines) line ∙ ap (λ m. kinds 1 (take n lines) ++ kind_of m line ∷ []) {y = n + 1} (omega (arith, parts.0))

pub length_take : (lines : List (List ℕ)) (n : ℕ) → length (take n lines) ≤ length lines
length_take lines n = grind (arith, common_steps)

pub take_length : (lines : List (List ℕ)) (n : ℕ) → length (take n lines) ≤ n
take_length lines n = grind (arith, common_steps)

pub all_taken : (lines : List (List ℕ)) (n : ℕ) → drop n lines ≡ [] → take n lines ≡ lines
all_taken [] zero e = refl
all_taken [] (suc n) e = refl
all_taken (first ∷ lines) zero e = absurd cc
all_taken (first ∷ lines) (suc n) e = ap (λ x. first ∷ x) (all_taken lines n e)
