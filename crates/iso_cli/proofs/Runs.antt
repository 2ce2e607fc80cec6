-- All words: `clap` gives what the machine gives.
use Rattle.std.proofs.Common.{◌≡◌, true, false, List, [], ◌∷◌, Option, Some, None, refl, ap, ap₂, sym, subst, fold}
use Rattle.std.specs.Prelude.{option_and_then}
use Rattle.clap.specs.Walk.{Held, Walk, settled, walked}
use Rattle.clap.specs.Simple.{Shape}
use Rattle.clap.specs.Faults.{settle_fault, turn_fault, walk_fault}
use Rattle.clap.specs.Kinds.{Kinds, or_else}
use Rattle.iso_cli.specs.Options.{Text}
use Rattle.iso_cli.specs.Given.{Given}
use Rattle.iso_cli.proofs.Facts.{Facts}
use Rattle.iso_cli.proofs.Machine.{State, rows_of_given, run, settle, step, walk_at}
use Rattle.iso_cli.proofs.Settling.{Known, Settles, fails, settles}
use Rattle.iso_cli.proofs.Steps.{Next, held_at, or_else_fails, steps}

abbrev pub end_of : Shape → Walk → List Text → Walk
end_of s w words = fold (walked s.rules []) w words

-- the walk ends with these given, and no fault
pub record EndsWith (s : Shape) (w : Walk) (words : List Text) (gives : List Given) : Type 0 where
  pub walk : walk_fault s [] w words ≡ []
  pub settle : settle_fault s.rules false (end_of s w words).held ≡ []
  pub rows : (settled s.rules (end_of s w words).held).rows ≡ rows_of_given gives
  pub whole : (end_of s w words).stopped ≡ None

abbrev pub RunsTo : Shape → Walk → List Text → Option (List Given) → Type 0
RunsTo s w words (Some gives) = EndsWith s w words gives
RunsTo s w words None = fails (or_else (walk_fault s [] w words) (settle_fault s.rules false (end_of s w words).held)) ≡ true

at_end : (s : Shape) (st : State) (o : Option (List Given)) → Settles s (held_at st) o → RunsTo s (walk_at st) [] o
unfolding walk_fault
at_end s st None t = t
at_end s st (Some gives) t = record { walk = refl; settle = t.0; rows = ap (λ (h : Held). h.rows) t.1; whole = refl }

or_else_assoc_fails : (a b c : Kinds) → fails (or_else b c) ≡ true → fails (or_else (or_else a b) c) ≡ true
or_else_assoc_fails [] b c e = e
or_else_assoc_fails (k ∷ a) b c e = refl

after_word : (s : Shape) (w v : Walk) (word : Text) (rest : List Text) (o : Option (List Given)) → turn_fault s [] w word ≡ [] → walked s.rules [] w word ≡ v → RunsTo s v rest o → RunsTo s w (word ∷ rest) o
unfolding walk_fault
after_word s w v word rest None fault is h =
    or_else_assoc_fails (turn_fault s [] w word) (walk_fault s [] (walked s.rules [] w word) rest) _ (subst (λ x. RunsTo s x rest None) (sym is) h)
after_word s w v word rest (Some gives) fault is h =
    let g : EndsWith s (walked s.rules [] w word) rest gives = subst (λ x. EndsWith s x rest gives) (sym is) h in
    record { walk = ap₂ or_else fault g.walk; settle = g.settle; rows = g.rows; whole = g.whole }

fails_here : (s : Shape) (w : Walk) (word : Text) (rest : List Text) → fails (turn_fault s [] w word) ≡ true → RunsTo s w (word ∷ rest) None
unfolding walk_fault
fails_here s w word rest e = or_else_fails _ _ (or_else_fails (turn_fault s [] w word) _ e)

pub runs : (s : Shape) → Facts s → (words : List Text) (st : State) → Known s st.pend → RunsTo s (walk_at st) words (run st words)
unfolding run
runs s f [] st known = at_end s st (settle st) (settles s f st.done st.pend known)
runs s f (word ∷ rest) st known = go (step st word) (steps s f st word known) (runs s f rest)
  where
    go : (o : Option State) → Next s st word o → ((n : State) → Known s n.pend → RunsTo s (walk_at n) rest (run n rest)) → RunsTo s (walk_at st) (word ∷ rest) (option_and_then (λ n. run n rest) o)
    go None h behind = fails_here s (walk_at st) word rest h
    go (Some n) h behind = after_word s (walk_at st) (walk_at n) word rest (run n rest) h.0 h.1 (behind n h.2)
