-- `job_of` is the job of the words by their rules, and the words have no other.
--
-- reading-sound, reading-complete: what is read is what the words give by their rules
-- job_of-IsMeaning: the answer is `job_of`
-- job_is_one, IsMeaning-job_of: there is no other
use Rattle.std.proofs.Common.{◌≡◌, ◌∙◌, inl, inr, Bool, true, false, List, [], ◌∷◌, ◌++◌, map, Option, Some, None, codes, refl, ap, ap₂, sym, subst}
use Rattle.std.specs.Prelude.{if◌then◌else◌, option_and_then}
use Rattle.iso_cli.specs.Options.{Text, stands_alone, takes_text}
use Rattle.iso_cli.specs.Given.{Begins, joined, followed, alone, plain, Ends, Given, Reads, command, to_command}
use Rattle.iso_cli.specs.JobOf.{IsMeaning, IsJob, Look, before, job_from, job_of, read_word, reading, look}
use Rattle.iso_cli.specs.JobOf as looks
use Rattle.iso_cli.specs.LookLaws.{IsLook, flag_apart, look_is, look_joined, look_named, look_plain, plain_flag, plain_name}
use Rattle.iso_report.specs.declared.job.Job.{Job}

-- ---- what is read stands by the rules

before_some : (g : Given) (o : Option (List Given)) (gives : List Given) → before g o ≡ Some gives → (gs : List Given) × (o ≡ Some gs) × (g ∷ gs ≡ gives)
before_some g None gives e = absurd (cc)
before_some g (Some gs) gives e = (gs, refl, cc)

abbrev Told : List Text → Type 0
Told words = (gives : List Given) → reading None words ≡ Some gives → Reads words gives

cons_read : (words rest : List Text) (g : Given) (o : Option (List Given)) (gives : List Given) → Begins g words rest → ((gs : List Given) → o ≡ Some gs → Reads rest gs) → before g o ≡ Some gives → Reads words gives
cons_read words rest g o gives begins behind e =
    let parts = before_some g o gives e in
    subst (Reads words) parts.2 (inl (rest, begins, behind parts.0 parts.1))

ends_read : (words rest : List Text) (gives : List Given) → words ≡ codes "--" ∷ rest → map to_command rest ≡ gives → Reads words gives
ends_read words rest [] is e = inr (rest, is, sym e)
ends_read words rest (g ∷ gives) is e = inr (rest, is, sym e)

word_read : (word : Text) (rest : List Text) → Told rest → ((v : Text) (more : List Text) → rest ≡ v ∷ more → Told more) → (l : Look) → IsLook word l → (gives : List Given)
    → read_word l word (map to_command rest) (λ waiting. reading waiting rest) ≡ Some gives → Reads (word ∷ rest) gives
word_read word rest told later looks.ends is gives e = ends_read (word ∷ rest) rest gives (ap (λ w. w ∷ rest) is) cc
word_read word rest told later (looks.joined x v) is gives e = go (takes_text x) refl e
  where
    go : (b : Bool) → takes_text x ≡ b → (if b then before (x, v) (reading None rest) else None) ≡ Some gives → Reads (word ∷ rest) gives
    go true known e = cons_read (word ∷ rest) rest (x, v) (reading None rest) gives (joined known (ap (λ w. w ∷ rest) is)) told e
    go false known e = absurd (cc)
word_read word rest told later (looks.named x) is gives e = go (takes_text x) refl (stands_alone x) refl e
  where
    text : takes_text x ≡ true → (words : List Text) → rest ≡ words → reading (Some x) words ≡ Some gives → Reads (word ∷ rest) gives
    text known [] at e = absurd (cc)
    text known (v ∷ more) at e = cons_read (word ∷ rest) more (x, v) (reading None more) gives (followed known (ap₂ (λ (w : Text) (ws : List Text). w ∷ ws) is at)) (later v more at) e

    go : (b : Bool) → takes_text x ≡ b → (c : Bool) → stands_alone x ≡ c → (if b then reading (Some x) rest else (if c then before (x, codes "true") (reading None rest) else None)) ≡ Some gives → Reads (word ∷ rest) gives
    go true known c flag e = text known rest refl e
    go false known true flag e = cons_read (word ∷ rest) rest (x, codes "true") (reading None rest) gives (alone flag refl (ap (λ w. w ∷ rest) is)) told e
    go false known false flag e = absurd (cc)
word_read word rest told later looks.hyphen is gives e = absurd (cc)
word_read word rest told later looks.plain is gives e = cons_read (word ∷ rest) rest (command, word) (reading None rest) gives (plain refl is refl) told e

nothing_read : Told []
nothing_read [] e = inl refl
nothing_read (g ∷ gives) e = absurd (cc)

pub reading-sound : (words : List Text) → Told words
reading-sound [] = nothing_read
reading-sound (word ∷ []) = word_read word [] nothing_read (λ v more at. absurd (cc)) (look word) (look_is word)
reading-sound (word ∷ v ∷ more) = word_read word (v ∷ more) (reading-sound (v ∷ more)) (λ u rest at. subst Told (tail_same v u more rest at) (reading-sound more)) (look word) (look_is word)
  where
    tail_same : (v u : Text) (more rest : List Text) → v ∷ more ≡ u ∷ rest → more ≡ rest
    tail_same v u more rest at = cc

-- ---- what stands by the rules is read

ends_told : (words : List Text) (gives : List Given) → Ends words gives → reading None words ≡ Some gives
ends_told words gives h = ap (reading None) h.1 ∙ ap (λ gs. Some gs) (sym h.2)

begins_told : (g : Given) (words rest : List Text) (gives : List Given) → Begins g words rest → reading None rest ≡ Some gives → reading None words ≡ Some (g ∷ gives)
begins_told g words rest gives (joined known is) h =
    ap (reading None) is ∙ ap (λ l. read_word l (codes "--" ++ (g.0 ++ (codes "=" ++ g.1))) (map to_command rest) (λ waiting. reading waiting rest)) (look_joined g.0 g.1 (plain_name g.0 known))
    ∙ rw known (ap (before g) h)
begins_told g words rest gives (followed known is) h =
    ap (reading None) is ∙ ap (λ l. read_word l (codes "--" ++ g.0) (map to_command (g.1 ∷ rest)) (λ waiting. reading waiting (g.1 ∷ rest))) (look_named g.0 (plain_name g.0 known))
    ∙ rw known (ap (before g) h)
begins_told g words rest gives (alone flag text is) h =
    ap (reading None) is ∙ ap (λ l. read_word l (codes "--" ++ g.0) (map to_command rest) (λ waiting. reading waiting rest)) (look_named g.0 (plain_flag g.0 flag))
    ∙ rw (flag_apart g.0 flag, flag) (ap (before (g.0, codes "true")) h ∙ ap (λ t. Some ((g.0, t) ∷ gives)) (sym text))
begins_told g words rest gives (plain to bare is) h =
    ap (reading None) is ∙ ap (λ l. read_word l g.1 (map to_command rest) (λ waiting. reading waiting rest)) (look_plain g.1 bare)
    ∙ ap (before (command, g.1)) h ∙ ap (λ x. Some ((x, g.1) ∷ gives)) (sym to)

pub reading-complete : (gives : List Given) (words : List Text) → Reads words gives → reading None words ≡ Some gives
reading-complete [] words (inl none) = ap (reading None) none
reading-complete [] words (inr h) = ends_told words [] h
reading-complete (g ∷ gives) words (inl h) = begins_told g words h.0 gives h.1 (reading-complete gives h.0 h.2)
reading-complete (g ∷ gives) words (inr h) = ends_told words (g ∷ gives) h

-- ---- the job

pub job-complete : (words : List Text) (job : Job) → IsJob words job → job_of words ≡ Some job
unfolding job_of
job-complete words job h = ap (option_and_then job_from) (reading-complete h.0 words h.1) ∙ h.2

pub job-sound : (words : List Text) (job : Job) → job_of words ≡ Some job → IsJob words job
unfolding job_of
job-sound words job e = go (reading None words) refl e
  where
    go : (o : Option (List Given)) → reading None words ≡ o → option_and_then job_from o ≡ Some job → IsJob words job
    go None read e = absurd (cc)
    go (Some gives) read e = (gives, reading-sound words gives read, e)

-- the words have one job at most
pub job_is_one : (words : List Text) (a b : Job) → IsJob words a → IsJob words b → a ≡ b
job_is_one words a b h k = some_same a b (sym (job-complete words a h) ∙ job-complete words b k)
  where
    some_same : (a b : Job) → Some a ≡ Some b → a ≡ b
    some_same a b e = cc

pub job_of-IsMeaning : (words : List Text) → IsMeaning words (job_of words)
job_of-IsMeaning words = go (job_of words) refl
  where
    go : (o : Option Job) → job_of words ≡ o → IsMeaning words o
    go (Some job) e = job-sound words job e
    go None e = λ job h. absurd (none_some job (sym e ∙ job-complete words job h))
      where
        none_some : (job : Job) → None ≡ Some job → ⊥
        none_some job e = absurd (cc)

pub IsMeaning-job_of : (words : List Text) (answer : Option Job) → IsMeaning words answer → answer ≡ job_of words
IsMeaning-job_of words (Some job) h = sym (job-complete words job h)
IsMeaning-job_of words None h = go (job_of words) refl
  where
    go : (o : Option Job) → job_of words ≡ o → None ≡ o
    go None e = refl
    go (Some job) e = absurd (h job (job-sound words job e))
