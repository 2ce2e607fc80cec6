-- One word: `clap` does what the machine does.
use Rattle.std.proofs.Common.{◌≡◌, ◌∙◌, ℕ, Bool, true, false, List, [], ◌∷◌, ◌++◌, Option, Some, None, codes, refl, ap, ap₂, sym, subst}
use Rattle.std.specs.Prelude.{◌||◌, ◌&&◌, if◌then◌else◌, length, is_some, option_map, option_and_then, slice_get}
use Rattle.std.specs.Option.{option_map_or}
use Rattle.std.specs.Str.{bytes_eq, chars}
use Rattle.std.proofs.lemmas.Slice.Eq.{bytes_eq-Decides}
use Rattle.clap.specs.Walk.{Held, Outcome, Rule, Step, idle, option, next, trailing as trailing_from, value, Walk, after_flag, after_step, arg_by_long, bundle_met, bundle_step, has_row, is_pending, long_met, long_or_other, long_word, plain_word, pushed, reacted, settled, short_or_plain, subcommand_met, walked, word_met}
use Rattle.clap.specs.Walk.{plain as plain_flag}
use Rattle.clap.specs.Lexer.{long_of, short_of}
use Rattle.clap.specs.Simple.{Shape}
use Rattle.clap.specs.Faults.{bundle_fault, bundle_step_fault, flag_word_fault, flags_fault, long_fault, react_fault, settle_fault, step_fault, turn_fault, use_fault, word_fault}
use Rattle.clap.specs.Kinds.{Kinds, or_else}
use Rattle.iso_cli.specs.Options.{Text, takes_text, stands_alone}
use Rattle.iso_cli.specs.Given.{Given, command, is_given}
use Rattle.iso_cli.specs.JobOf.{Look, ends, joined, named, hyphen, plain, look}
use Rattle.iso_cli.proofs.Seen.{Seen, seen}
use Rattle.iso_cli.proofs.Facts.{Facts, text_option, flag, positional}
use Rattle.iso_cli.proofs.Machine.{Pending, none, waits, holds, State, has_flag, held_in, operand, operand_in, plain_in, settle, settle_in, step, step_by, use_in, wait_in, waiting_in, walk_at}
use Rattle.iso_cli.proofs.Settling.{IsTakenUp, Known, Settles, Uses, fails, has_row_given, put, put_new, repeat, settles, uses_flag, uses_opt, uses_positional}

abbrev pub held_at : State → Held
held_at st = held_in st.done st.pend

abbrev pub place : State → ℕ
place st = if st.taken then 2 else 1

-- a step with these faults, and what was met, leads to this state, or fails
abbrev pub NextBy : Shape → State → Text → Kinds → Held × Step → Option State → Type 0
NextBy s st word fault met (Some n) = (or_else fault (step_fault s (place st) met.0 met.1) ≡ []) × (after_step s.rules word (walk_at st) met.0 met.1 ≡ walk_at n) × Known s n.pend
NextBy s st word fault met None = fails (or_else fault (step_fault s (place st) met.0 met.1)) ≡ true

abbrev pub Next : Shape → State → Text → Option State → Type 0
Next s st word (Some n) = (turn_fault s [] (walk_at st) word ≡ []) × (walked s.rules [] (walk_at st) word ≡ walk_at n) × Known s n.pend
Next s st word None = fails (turn_fault s [] (walk_at st) word) ≡ true

abbrev fault_at : Shape → State → Text → Kinds
fault_at s st word = word_fault s [] st.trailing (waiting_in st.pend) word (held_at st)

abbrev met_at : Shape → State → Text → Held × Step
met_at s st word = word_met s.rules [] st.trailing (waiting_in st.pend) (place st) word (held_at st)

as_next : (s : Shape) (st : State) (word : Text) (o : Option State) → NextBy s st word (fault_at s st word) (met_at s st word) o → Next s st word o
unfolding walked
as_next s st word None h = h
as_next s st word (Some n) h = h

by_parts : (s : Shape) (st : State) (word : Text) (o : Option State) (fault : Kinds) (met : Held × Step) → fault_at s st word ≡ fault → met_at s st word ≡ met → NextBy s st word fault met o → Next s st word o
by_parts s st word o fault met f m h =
    as_next s st word o (subst (λ k. NextBy s st word k (met_at s st word) o) (sym f) (subst (λ x. NextBy s st word fault x o) (sym m) h))

pub or_else_fails : (a b : Kinds) → fails a ≡ true → fails (or_else a b) ≡ true
or_else_fails [] b e = absurd (cc)
or_else_fails (k ∷ a) b e = refl

and_false : (b : Bool) → (b && false) ≡ false
and_false true = refl
and_false false = refl

or_else_nothing : (a : Kinds) → or_else a [] ≡ a
or_else_nothing [] = refl
or_else_nothing (k ∷ a) = refl

or_nothing : (b : Bool) → (b || false) ≡ b
or_nothing true = refl
or_nothing false = refl

if_never : {A : Type 0} (b : Bool) (x y : A) → (if b && false then x else y) ≡ y
if_never true x y = refl
if_never false x y = refl

abbrev pub state : List Given → Pending → Bool → Bool → State
state done pend taken trailing = record { done = done; pend = pend; taken = taken; trailing = trailing }

-- ---- a positional word

positional_faults : (s : Shape) (f : Facts s) (h : Held) → step_fault s 1 h value ≡ settle_fault s.rules false h
positional_faults s f h = rw (f.first, f.again) (if_never (is_pending positional h.pending) [] (settle_fault s.rules false h))

positional_walks : (s : Shape) (f : Facts s) (done d : List Given) (pend : Pending) (trailing : Bool) (word : Text) → settled s.rules (held_in done pend) ≡ held_in d none
    → after_step s.rules word (walk_at (state done pend false trailing)) (held_in done pend) value ≡ walk_at (state d (holds (command, word)) true trailing)
positional_walks s f done d pend trailing word is =
    let h : Held = held_in done pend in
    let held : pushed command word (if is_pending positional h.pending && false then h else settled s.rules h) ≡ held_in d (holds (command, word)) = ap (pushed command word) (if_never (is_pending positional h.pending) h (settled s.rules h) ∙ is) in
    rw f.first (ap₂ (λ (k : Held) (t : Bool). let w : Walk = record { held = k; waiting = idle; position = 2; is_trailing = t; stopped = None } in w) held (or_nothing trailing))

operand_next : (s : Shape) (f : Facts s) (word : Text) (done : List Given) (pend : Pending) (taken trailing : Bool) → Settles s (held_in done pend) (settle_in done pend)
    → NextBy s (state done pend taken trailing) word [] (held_in done pend, value) (operand (state done pend taken trailing) word)
operand_next s f word done pend true trailing t = rw (f.second, f.leaf) refl
operand_next s f word done pend false trailing t = go (settle_in done pend) t
  where
    h : Held
    h = held_in done pend

    go : (o : Option (List Given)) → Settles s h o → NextBy s (state done pend false trailing) word [] (h, value) (option_map (operand_in (state done pend false trailing) word) o)
    go None u = ap fails (positional_faults s f h) ∙ u
    go (Some d) u = (positional_faults s f h ∙ u.0, positional_walks s f done d pend trailing word u.1, (positional, record { found = f.command_id; uses = uses_positional word }))

-- ---- a use

use_next : (s : Shape) (word : Text) (st : State) (r : Rule) (values : List Text) (g : Given) (known : Known s none) → Uses r values g → Settles s (held_at st) (settle st)
    → NextBy s st word (react_fault s.rules false r values (held_at st)) (reacted s.rules r values (held_at st), next idle) (option_and_then (use_in st g) (settle st))
use_next s word st r values g known uses t = go (settle st) t
  where
    h : Held
    h = held_at st

    met : Held × Step
    met = (reacted s.rules r values h, next idle)

    fault : Kinds
    fault = react_fault s.rules false r values h

    used_by : (d : List Given) → IsTakenUp s h d → use_fault false r values (settled s.rules h).rows ≡ repeat (is_given g.0 d)
    used_by d u = uses.fault (settled s.rules h).rows ∙ ap (λ (k : Held). repeat (has_row g.0 k.rows)) u.1 ∙ ap repeat (has_row_given g.0 d)

    faults : (d : List Given) → IsTakenUp s h d → or_else fault [] ≡ repeat (is_given g.0 d)
    faults d u = or_else_nothing fault ∙ ap₂ or_else u.0 (used_by d u)

    walks : (d : List Given) → IsTakenUp s h d → is_given g.0 d ≡ false → reacted s.rules r values h ≡ held_in (d ++ g ∷ []) none
    walks d u e = ap (λ rs. let k : Held = record { rows = rs; pending = None; skip = 0 } in k) (uses.rows (settled s.rules h).rows ∙ ap (λ (k : Held). put g k.rows) u.1 ∙ put_new g d e)

    more : (d : List Given) → IsTakenUp s h d → (b : Bool) → is_given g.0 d ≡ b → NextBy s st word fault met (if b then None else Some (record st { done = d ++ g ∷ []; pend = none }))
    more d u true e = ap fails (faults d u ∙ ap repeat e)
    more d u false e = (faults d u ∙ ap repeat e, ap (λ (k : Held). let w : Walk = record (walk_at st) { held = k; waiting = idle } in w) (walks d u e), known)

    go : (o : Option (List Given)) → Settles s h o → NextBy s st word fault met (option_and_then (use_in st g) o)
    go None u = or_else_fails fault [] (or_else_fails (settle_fault s.rules false h) _ u)
    go (Some d) u = more d u (is_given g.0 d) refl

wait_next : (s : Shape) (word : Text) (st : State) (x : Text) → takes_text x ≡ true → Settles s (held_at st) (settle st)
    → NextBy s st word (settle_fault s.rules false (held_at st)) (record (settled s.rules (held_at st)) { pending = Some (x, []) }, next (option x)) (option_map (wait_in st x) (settle st))
wait_next s word st x known t = go (settle st) t
  where
    h : Held
    h = held_at st

    go : (o : Option (List Given)) → Settles s h o → NextBy s st word (settle_fault s.rules false h) (record (settled s.rules h) { pending = Some (x, []) }, next (option x)) (option_map (wait_in st x) o)
    go None u = or_else_fails (settle_fault s.rules false h) [] u
    go (Some d) u = (or_else_nothing (settle_fault s.rules false h) ∙ u.0, ap (λ (k : Held). let w : Walk = record (walk_at st) { held = record k { pending = Some (x, []) }; waiting = option x } in w) u.1, known)

-- ---- a word that is no flag

text_next : (s : Shape) (f : Facts s) (word : Text) (done : List Given) (x : Text) (taken trailing : Bool) → takes_text x ≡ true
    → NextBy s (state done (waits x) taken trailing) word [] (plain_word s.rules (option x) word (held_in done (waits x))) (Some (state done (holds (x, word)) taken trailing))
text_next s f word done x taken trailing known =
    let same : bytes_eq x x ≡ true = (bytes_eq-Decides x x).1 refl in
    rw (f.text_id x known, same) (refl, refl, (text_option x, record { found = f.text_id x known; uses = uses_opt x word }))

plain_next : (s : Shape) (f : Facts s) (word : Text) (done : List Given) (pend : Pending) (taken trailing : Bool) → Known s pend → Settles s (held_in done pend) (settle_in done pend)
    → NextBy s (state done pend taken trailing) word [] (plain_word s.rules (waiting_in pend) word (held_in done pend)) (plain_in pend (state done pend taken trailing) word)
plain_next s f word done none taken trailing known t = operand_next s f word done none taken trailing t
plain_next s f word done (holds g) taken trailing known t = operand_next s f word done (holds g) taken trailing t
plain_next s f word done (waits x) taken trailing known t = text_next s f word done x taken trailing known

-- ---- a bundle of flags

-- a hyphen and a character: no option is so short
flag_seen : (s : Shape) (f : Facts s) (word : Text) (done : List Given) (pend : Pending) (taken trailing : Bool) (flags : Text) (o : Option ℕ) (faults : Text → ℕ → Held → Kinds) (meets : Text → ℕ → Outcome → Held → Held × Outcome)
    → Known s pend → Settles s (held_in done pend) (settle_in done pend)
    → NextBy s (state done pend taken trailing) word (bundle_step_fault s.rules false o flags 0 (held_in done pend) faults)
    (after_flag s.rules (waiting_in pend) word (bundle_step s.rules o flags 0 plain_flag (held_in done pend) meets).0 (bundle_step s.rules o flags 0 plain_flag (held_in done pend) meets).1)
    (if is_some o then None else plain_in pend (state done pend taken trailing) word)
flag_seen s f word done pend taken trailing flags None faults meets known t = plain_next s f word done pend taken trailing known t
flag_seen s f word done pend taken trailing flags (Some c) faults meets known t = rw (f.no_short c) refl

bundle_next : (s : Shape) (f : Facts s) (word : Text) (done : List Given) (pend : Pending) (taken trailing : Bool) (o : Option Text) → Known s pend → Settles s (held_in done pend) (settle_in done pend)
    → NextBy s (state done pend taken trailing) word (option_map_or (λ flags. bundle_fault s.rules false flags (held_in done pend)) o []) (short_or_plain s.rules (waiting_in pend) word o (held_in done pend))
    (if has_flag o then None else plain_in pend (state done pend taken trailing) word)
unfolding flags_fault bundle_met chars
bundle_next s f word done pend taken trailing None known t = plain_next s f word done pend taken trailing known t
bundle_next s f word done pend taken trailing (Some []) known t = plain_next s f word done pend taken trailing known t
bundle_next s f word done pend taken trailing (Some (c ∷ flags)) known t = flag_seen s f word done pend taken trailing (c ∷ flags) (slice_get (chars (c ∷ flags)) 0) (flags_fault s.rules false (length flags)) (bundle_met s.rules (length flags)) known t

-- ---- a word before any `--`

no_subcommand : (pend : Pending) (word : Text) → subcommand_met [] (waiting_in pend) word ≡ None
no_subcommand none word = refl
no_subcommand (waits x) word = refl
no_subcommand (holds g) word = refl

module _ (s : Shape) (f : Facts s) (word : Text) (done : List Given) (pend : Pending) (taken : Bool) (known : Known s pend) where
  st : State
  st = state done pend taken false

  abbrev h : Held
  h = held_in done pend

  t : Settles s h (settle_in done pend)
  t = settles s f done pend known

  -- what stands where the word isn't `--`, by what it is to `clap`
  other_fault_is : bytes_eq word (45 ∷ 45 ∷ []) ≡ false → fault_at s (state done pend taken false) word ≡ flag_word_fault s.rules s.args_override_self (long_of word) word h
  other_fault_is e = rw (no_subcommand pend word, e) refl

  other_met_is : bytes_eq word (45 ∷ 45 ∷ []) ≡ false → met_at s (state done pend taken false) word ≡ long_or_other s.rules (waiting_in pend) word (long_of word) h
  other_met_is e = rw (no_subcommand pend word, e) refl

  long_fault_is : (x : Text) (v : Option Text) → bytes_eq word (45 ∷ 45 ∷ []) ≡ false → long_of word ≡ Some (x, v) → fault_at s (state done pend taken false) word ≡ long_fault s.rules false (arg_by_long s.rules x) v h
  long_fault_is x v e l = other_fault_is e ∙ rw (l, f.again) refl

  long_met_is : (x : Text) (v : Option Text) → bytes_eq word (45 ∷ 45 ∷ []) ≡ false → long_of word ≡ Some (x, v) → met_at s (state done pend taken false) word ≡ long_word s.rules (waiting_in pend) word x v h
  long_met_is x v e l = other_met_is e ∙ rw l refl

  abbrev Leads : Option State → Type 0
  Leads o = Next s (state done pend taken false) word o

  refused_by : (x : Text) (v : Option Text) (o : Option Rule) (kinds : Kinds) → bytes_eq word (45 ∷ 45 ∷ []) ≡ false → long_of word ≡ Some (x, v) → arg_by_long s.rules x ≡ o → long_fault s.rules false o v h ≡ kinds → fails kinds ≡ true → Leads None
  refused_by x v o kinds e l found fault some =
      by_parts s (state done pend taken false) word None kinds (met_at s (state done pend taken false) word) (long_fault_is x v e l ∙ ap (λ r. long_fault s.rules false r v h) found ∙ fault) refl (or_else_fails kinds _ some)

  joined_step : (x v : Text) → Seen word (joined x v) → Leads (step_by (joined x v) (state done pend taken false) word)
  joined_step x v look_is = go (takes_text x) refl
    where
      go : (b : Bool) → takes_text x ≡ b → Leads (if b then option_and_then (use_in (state done pend taken false) (x, v)) (settle_in done pend) else None)
      go true k =
          by_parts s (state done pend taken false) word _ (react_fault s.rules false (text_option x) (v ∷ []) h) (reacted s.rules (text_option x) (v ∷ []) h, next idle)
          (long_fault_is x (Some v) look_is.0 look_is.1 ∙ ap (λ r. long_fault s.rules false r (Some v) h) (f.text_long x k))
          (long_met_is x (Some v) look_is.0 look_is.1 ∙ ap (λ r. after_flag s.rules (waiting_in pend) word (long_met s.rules r (Some v) h).0 (long_met s.rules r (Some v) h).1) (f.text_long x k))
          (use_next s word (state done pend taken false) (text_option x) (v ∷ []) (x, v) tt (uses_opt x v) t)
      go false k = flags (stands_alone x) refl
        where
          flags : (c : Bool) → stands_alone x ≡ c → Leads None
          flags true a = refused_by x (Some v) (Some (flag x)) _ look_is.0 look_is.1 (f.flag_long x k a) refl refl
          flags false a = refused_by x (Some v) None _ look_is.0 look_is.1 (f.no_long x k a) refl refl

  named_step : (x : Text) → Seen word (named x) → Leads (step_by (named x) (state done pend taken false) word)
  named_step x look_is = go (takes_text x) refl (stands_alone x) refl
    where
      go : (b : Bool) → takes_text x ≡ b → (c : Bool) → stands_alone x ≡ c
          → Leads (if b then option_map (wait_in (state done pend taken false) x) (settle_in done pend) else (if c then option_and_then (use_in (state done pend taken false) (x, codes "true")) (settle_in done pend) else None))
      go true k c a =
          by_parts s (state done pend taken false) word _ (settle_fault s.rules false h) (record (settled s.rules h) { pending = Some (x, []) }, next (option x))
          (long_fault_is x None look_is.0 look_is.1 ∙ ap (λ r. long_fault s.rules false r None h) (f.text_long x k))
          (long_met_is x None look_is.0 look_is.1 ∙ ap (λ r. after_flag s.rules (waiting_in pend) word (long_met s.rules r None h).0 (long_met s.rules r None h).1) (f.text_long x k))
          (wait_next s word (state done pend taken false) x k t)
      go false k true a =
          by_parts s (state done pend taken false) word _ (react_fault s.rules false (flag x) [] h) (reacted s.rules (flag x) [] h, next idle)
          (long_fault_is x None look_is.0 look_is.1 ∙ ap (λ r. long_fault s.rules false r None h) (f.flag_long x k a))
          (long_met_is x None look_is.0 look_is.1 ∙ ap (λ r. after_flag s.rules (waiting_in pend) word (long_met s.rules r None h).0 (long_met s.rules r None h).1) (f.flag_long x k a))
          (use_next s word (state done pend taken false) (flag x) [] (x, codes "true") tt (uses_flag x) t)
      go false k false a = refused_by x None None _ look_is.0 look_is.1 (f.no_long x k a) refl refl

  word_step : (l : Look) → Seen word l → Leads (step_by l (state done pend taken false) word)
  word_step ends look_is =
      by_parts s (state done pend taken false) word (Some (state done pend taken true)) [] (h, trailing_from (place (state done pend taken false))) (rw (no_subcommand pend word, look_is) refl) (rw (no_subcommand pend word, look_is) refl) (refl, refl, known)
  word_step (joined x v) look_is = joined_step x v look_is
  word_step (named x) look_is = named_step x look_is
  word_step hyphen look_is =
      by_parts s (state done pend taken false) word _ (option_map_or (λ flags. bundle_fault s.rules false flags h) (short_of word) []) (short_or_plain s.rules (waiting_in pend) word (short_of word) h)
      (other_fault_is look_is.0 ∙ rw (look_is.1, f.again) refl) (other_met_is look_is.0 ∙ rw look_is.1 refl)
      (bundle_next s f word done pend taken false (short_of word) known t)
  word_step plain look_is =
      by_parts s (state done pend taken false) word _ [] (plain_word s.rules (waiting_in pend) word h) (other_fault_is look_is.0 ∙ rw (look_is.1, look_is.2) refl) (other_met_is look_is.0 ∙ rw (look_is.1, look_is.2) refl)
      (plain_next s f word done pend taken false known t)

steps_in : (s : Shape) (f : Facts s) (word : Text) (done : List Given) (pend : Pending) (taken is_trailing : Bool) → Known s pend → Next s (state done pend taken is_trailing) word (step (state done pend taken is_trailing) word)
steps_in s f word done pend taken true known =
    by_parts s (state done pend taken true) word _ [] (held_in done pend, value) refl refl (operand_next s f word done pend taken true (settles s f done pend known))
steps_in s f word done pend taken false known = word_step s f word done pend taken known (look word) (seen word)

-- after every word `clap` stands where the machine stands, or fails where it does
pub steps : (s : Shape) → Facts s → (st : State) (word : Text) → Known s st.pend → Next s st word (step st word)
steps s f st word known = steps_in s f word st.done st.pend st.taken st.trailing known
