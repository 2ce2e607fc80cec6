-- The line of a Hall symbol, by how it is put together, against its reader.
use Rattle.std.proofs.Common.{◌≡◌, ℕ, ◌<◌, ◌≤◌, Bool, true, false, List, [], ◌∷◌, ◌++◌, length, codes, refl, sym, ◌∙◌, ap, subst, arith, length-append, ◌&&◌, if◌then◌else◌, Some}
use Rattle.std.specs.List.{list_all}
use Rattle.std.proofs.lemmas.List.Folds.{list_all-append}
use Rattle.iso_text.specs.Cuts.{front, back, is_blank}
use Rattle.iso_text.specs.LineKinds.{hall_of}
use Rattle.iso_text.specs.Lines.{unindented, without_trail, trimmed}
use Rattle.iso_text.specs.SectionSpellings.{SpellsHall}
use Rattle.iso_text.specs.WordSpellings.{AreBlanks, IsWord, EndsWord}
use Rattle.iso_text.specs.declared.line_kinds.Line.{Line}
use Rattle.iso_text.specs.declared.line_kinds.Line.TheVariants.{Hall}
use Rattle.iso_text.proofs.BodyLemmas.{both, apart}
use Rattle.iso_text.proofs.LineLemmas.{true_right}
use Rattle.iso_text.proofs.SpellingLemmas.{Stops, front-back, none_some}
use Rattle.iso_text.proofs.WordsGrammar.{IsKeyed, is_keyed, indented, blank_unindented, other_unindented, unindented_behind}

-- a text is what is left without the blanks at its end, and these
record HasTrail (text : List ℕ) : Type 0 where
  trail : List ℕ
  blank : AreBlanks trail
  joined : text ≡ without_trail text ++ trail

trail_step : (c : ℕ) (cs : List ℕ) (t : Bool) → list_all is_blank (c ∷ cs) ≡ t → HasTrail cs → HasTrail (c ∷ cs)
trail_step c cs true all more = record { trail = c ∷ cs; blank = all; joined = ap (λ t. (if t then [] else c ∷ without_trail cs) ++ (c ∷ cs)) (sym all) }
trail_step c cs false all more =
    record { trail = more.trail; blank = more.blank; joined = ap (λ x. c ∷ x) more.joined ∙ ap (λ t. (if t then [] else c ∷ without_trail cs) ++ more.trail) (sym all) }

has_trail : (text : List ℕ) → HasTrail text
has_trail [] = record { trail = []; blank = refl; joined = refl }
has_trail (c ∷ cs) = trail_step c cs (list_all is_blank (c ∷ cs)) refl (has_trail cs)

-- blanks behind a text
all_behind : (text trail : List ℕ) → AreBlanks trail → list_all is_blank (text ++ trail) ≡ list_all is_blank text
all_behind text trail blank = list_all-append is_blank text trail ∙ true_right (list_all is_blank text) (list_all is_blank trail) blank

blanks_go : (trail : List ℕ) → AreBlanks trail → without_trail trail ≡ []
blanks_go [] blank = refl
blanks_go (c ∷ cs) blank = ap (λ t. if t then [] else c ∷ without_trail cs) blank

trail_drops : (text trail : List ℕ) → AreBlanks trail → without_trail (text ++ trail) ≡ without_trail text
trail_drops [] trail blank = blanks_go trail blank
trail_drops (c ∷ cs) trail blank =
    ap (λ t. if is_blank c && t then [] else c ∷ without_trail (cs ++ trail)) (all_behind cs trail blank)
    ∙ ap (λ x. if is_blank c && list_all is_blank cs then [] else c ∷ x) (trail_drops cs trail blank)

-- a text without blanks at its end has none there
trail_once : (text : List ℕ) → without_trail (without_trail text) ≡ without_trail text
trail_once text =
    let has = has_trail text in
    sym (trail_drops (without_trail text) has.trail has.blank) ∙ ap without_trail (sym has.joined)

trail_first : (c : ℕ) (cs : List ℕ) (t : Bool) → is_blank c ≡ false → (is_blank c && list_all is_blank cs) ≡ t → unindented (if t then [] else c ∷ without_trail cs) ≡ (if t then [] else c ∷ without_trail cs)
trail_first c cs true other is = refl
trail_first c cs false other is = other_unindented c (without_trail cs) other

-- neither has one in front, where the text has none there
bare_step : (c : ℕ) (cs : List ℕ) → is_blank c ≡ false → unindented (without_trail (c ∷ cs)) ≡ without_trail (c ∷ cs)
bare_step c cs other = trail_first c cs (is_blank c && list_all is_blank cs) other refl

bare_front_step : (c : ℕ) (cs : List ℕ) (t : Bool) → is_blank c ≡ t → unindented (without_trail (unindented cs)) ≡ without_trail (unindented cs) → unindented (without_trail (unindented (c ∷ cs))) ≡ without_trail (unindented (c ∷ cs))
bare_front_step c cs true is more = subst (λ x. unindented (without_trail x) ≡ without_trail x) (sym (blank_unindented c cs is)) more
bare_front_step c cs false is more = subst (λ x. unindented (without_trail x) ≡ without_trail x) (sym (other_unindented c cs is)) (bare_step c cs is)

bare_front : (text : List ℕ) → unindented (trimmed text) ≡ trimmed text
bare_front [] = refl
bare_front (c ∷ cs) = bare_front_step c cs (is_blank c) refl (bare_front cs)

trimmed_once : (text : List ℕ) → trimmed (trimmed text) ≡ trimmed text
trimmed_once text = ap without_trail (bare_front text) ∙ trail_once (unindented text)

-- a text that trimming keeps begins with no blank
shorter : (text : List ℕ) → length (trimmed text) ≤ length text
shorter text =
    let from = indented text in
    let has = has_trail (unindented text) in
    omega (arith, ap (λ x. length x) from.2, length-append from.0 (unindented text), ap (λ x. length x) has.joined, length-append (trimmed text) has.trail)

bare_first : (c : ℕ) (cs : List ℕ) (t : Bool) → is_blank c ≡ t → trimmed (c ∷ cs) ≡ c ∷ cs → is_blank c ≡ false
bare_first c cs true is bare =
    absurd (omega (arith, ap (λ x. length x) (sym bare ∙ ap without_trail (blank_unindented c cs is)), shorter cs))
bare_first c cs false is bare = is

trimmed_symbol : (gap trail : List ℕ) (c : ℕ) (cs : List ℕ) → AreBlanks gap → AreBlanks trail → trimmed (c ∷ cs) ≡ c ∷ cs → trimmed (gap ++ ((c ∷ cs) ++ trail)) ≡ c ∷ cs
trimmed_symbol gap trail c cs gap_blank trail_blank bare =
    let other = bare_first c cs (is_blank c) refl bare in
    ap without_trail (unindented_behind gap ((c ∷ cs) ++ trail) gap_blank ∙ other_unindented c (cs ++ trail) other)
    ∙ trail_drops (c ∷ cs) trail trail_blank ∙ sym (ap without_trail (other_unindented c cs other)) ∙ bare

hall_word : IsWord (codes "hall")
hall_word = record { some = omega arith; whole = refl }

gap_ends : (gap rest : List ℕ) → 0 < length gap → AreBlanks gap → EndsWord (gap ++ rest)
gap_ends [] rest some blank = absurd (omega arith)
gap_ends (b ∷ bs) rest some blank = (apart (is_blank b) (list_all is_blank bs) blank).0

hall_by : (n : ℕ) (text gap symbol trail : List ℕ) → IsKeyed text (codes "hall") (gap ++ (symbol ++ trail)) → AreBlanks gap → AreBlanks trail → 0 < length symbol → trimmed symbol ≡ symbol
    → hall_of n (trimmed (back is_blank (unindented text))) ≡ Some (Hall n symbol)
hall_by n text gap [] trail keyed gap_blank trail_blank some bare = absurd (omega arith)
hall_by n text gap (c ∷ cs) trail keyed gap_blank trail_blank some bare =
    ap (λ x. hall_of n (trimmed x)) keyed.back ∙ ap (hall_of n) (trimmed_symbol gap trail c cs gap_blank trail_blank bare)

-- what the reader does at a line of a Hall symbol
pub record ReadsHall (n : ℕ) (text symbol : List ℕ) : Type 0 where
  pub front : front is_blank (unindented text) ≡ codes "hall"
  pub read : hall_of n (trimmed (back is_blank (unindented text))) ≡ Some (Hall n symbol)

pub hall-complete : (n : ℕ) (text symbol : List ℕ) → SpellsHall text symbol → ReadsHall n text symbol
hall-complete n text symbol s =
    let keyed = is_keyed text s.indent (codes "hall") (s.gap ++ (symbol ++ s.trail)) s.joined s.indent_blank hall_word (gap_ends s.gap (symbol ++ s.trail) s.gap_some s.gap_blank) in
    record { front = keyed.front; read = hall_by n text s.gap symbol s.trail keyed s.gap_blank s.trail_blank s.some s.bare }

-- blanks, one at least, and what stands behind them
record HasGap (text : List ℕ) : Type 0 where
  gap : List ℕ
  blank : AreBlanks gap
  some : 0 < length gap
  joined : text ≡ gap ++ unindented text

has_gap : (c : ℕ) (cs : List ℕ) → is_blank c ≡ true → HasGap (c ∷ cs)
has_gap c cs first =
    let from = indented cs in
    record { gap = c ∷ from.0; blank = both (is_blank c) (list_all is_blank from.0) first from.1; some = omega arith; joined = ap (λ x. c ∷ x) from.2 ∙ ap (λ x. c ∷ (from.0 ++ x)) (sym (blank_unindented c cs first)) }

hall_is : (n : ℕ) (symbol : List ℕ) (line : Line) → hall_of n symbol ≡ Some line → (0 < length symbol) × (Hall n symbol ≡ line)
hall_is n [] line e = none_some e
hall_is n (c ∷ cs) line e = (omega arith, cc)

spells_hall : (text rest : List ℕ) → front is_blank (unindented text) ≡ codes "hall" → back is_blank (unindented text) ≡ rest → HasGap rest → 0 < length (trimmed rest) → SpellsHall text (trimmed rest)
spells_hall text rest is_hall is_rest gap some =
    let from = indented text in
    let parts = front-back is_blank (unindented text) in
    let has = has_trail (unindented rest) in
    let bare : unindented text ≡ codes "hall" ++ rest = sym parts.0 ∙ ap (λ x. x ++ back is_blank (unindented text)) is_hall ∙ ap (λ x. codes "hall" ++ x) is_rest in
    let whole : rest ≡ gap.gap ++ (trimmed rest ++ has.trail) = gap.joined ∙ ap (λ x. gap.gap ++ x) has.joined in
    record {
      indent = from.0;
      gap = gap.gap;
      trail = has.trail;
      joined = from.2 ∙ ap (λ x. from.0 ++ x) (bare ∙ ap (λ x. codes "hall" ++ x) whole);
      indent_blank = from.1;
      gap_blank = gap.blank;
      gap_some = gap.some;
      trail_blank = has.blank;
      some = some;
      bare = trimmed_once rest;
    }

hall_rest : (text rest : List ℕ) → front is_blank (unindented text) ≡ codes "hall" → back is_blank (unindented text) ≡ rest → Stops is_blank rest → 0 < length (trimmed rest) → SpellsHall text (trimmed rest)
hall_rest text [] is_hall is_rest stops some = absurd (omega arith)
hall_rest text (c ∷ cs) is_hall is_rest stops some = spells_hall text (c ∷ cs) is_hall is_rest (has_gap c cs stops) some

-- a line of a Hall symbol
pub record IsHall (n : ℕ) (text : List ℕ) (line : Line) : Type 0 where
  pub symbol : List ℕ
  pub is : Hall n symbol ≡ line
  pub spelled : SpellsHall text symbol

pub hall-sound : (n : ℕ) (text : List ℕ) (line : Line) → front is_blank (unindented text) ≡ codes "hall" → hall_of n (trimmed (back is_blank (unindented text))) ≡ Some line → IsHall n text line
hall-sound n text line is_hall e =
    let rest = back is_blank (unindented text) in
    let found = hall_is n (trimmed rest) line e in
    record { symbol = trimmed rest; is = found.1; spelled = hall_rest text rest is_hall refl (front-back is_blank (unindented text)).1 found.0 }
