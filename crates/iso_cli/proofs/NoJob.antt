-- What is given twice, or given wrongly, makes no job.
use Rattle.std.proofs.Common.{◌≡◌, ◌∙◌, ℕ, Bool, true, false, List, [], ◌∷◌, ◌++◌, Option, Some, None, refl, ap, ap₂, sym, subst, true≢false}
use Rattle.std.specs.Prelude.{◌||◌, ◌&&◌, ◌==◌, not, if◌then◌else◌, option_and_then}
use Rattle.std.specs.List.{list_all, list_any}
use Rattle.std.specs.Str.{bytes_eq}
use Rattle.std.proofs.lemmas.Slice.Eq.{bytes_eq-Decides}
use Rattle.std.proofs.lemmas.Bool.Decides.{Decides-eqb}
use Rattle.iso_cli.specs.Options.{Kind, name, number, nothing, OptionRow, Text, fits, is_among, options, suits, takes_text, wants_text}
use Rattle.iso_cli.specs.Given.{Given, begins_with_hyphen, command, is_given, is_once, text_given}
use Rattle.iso_cli.specs.Commands.{Texts, job_by, job_named, job_of_command}
use Rattle.iso_cli.specs.JobOf.{job_from}
use Rattle.iso_cli.specs.LookLaws.{or_neither}
use Rattle.iso_report.specs.declared.job.Job.{Job}

-- ---- once

pub and_false : (b : Bool) → (b && false) ≡ false
and_false true = refl
and_false false = refl

or_true : (b : Bool) → (b || true) ≡ true
or_true true = refl
or_true false = refl

pub same_text : (a b : Text) → bytes_eq a b ≡ true → a ≡ b
same_text a b e = (bytes_eq-Decides a b).0 e

same_true : (a b : Text) → a ≡ b → bytes_eq a b ≡ true
same_true a b e = (bytes_eq-Decides a b).1 e

-- what comes later is given
pub given_later : (x : Text) (done : List Given) (g : Given) (more : List Given) → bytes_eq g.0 x ≡ true → is_given x (done ++ g ∷ more) ≡ true
given_later x [] g more e = rw e refl
given_later x (h ∷ done) g more e = ap (λ b. bytes_eq h.0 x || b) (given_later x done g more e) ∙ or_true (bytes_eq h.0 x)

pub given_last : (x : Text) (done : List Given) (g : Given) → bytes_eq g.0 x ≡ false → is_given x (done ++ g ∷ []) ≡ is_given x done
given_last x [] g e = rw e refl
given_last x (h ∷ done) g e = ap (λ b. bytes_eq h.0 x || b) (given_last x done g e)

-- given twice
pub twice : (done : List Given) (g : Given) (more : List Given) → is_given g.0 done ≡ true → is_once (done ++ g ∷ more) ≡ false
twice [] g more e = absurd (cc)
twice (h ∷ done) g more e = go (bytes_eq h.0 g.0) refl e (twice done g more)
  where
    go : (b : Bool) → bytes_eq h.0 g.0 ≡ b → (b || is_given g.0 done) ≡ true → (is_given g.0 done ≡ true → is_once (done ++ g ∷ more) ≡ false) → (not (is_given h.0 (done ++ g ∷ more)) && is_once (done ++ g ∷ more)) ≡ false
    go true same e behind = ap (λ b. not b && is_once (done ++ g ∷ more)) (given_later h.0 done g more (same_true g.0 h.0 (sym (same_text h.0 g.0 same))))
    go false same e behind = ap (λ b. not (is_given h.0 (done ++ g ∷ more)) && b) (behind e) ∙ and_false (not (is_given h.0 (done ++ g ∷ more)))

and_both : (a b : Bool) → (a && b) ≡ true → (a ≡ true) × (b ≡ true)
and_both true b e = (refl, e)
and_both false b e = absurd (cc)

other_way : (a b : Text) → bytes_eq a b ≡ false → bytes_eq b a ≡ false
other_way a b e = go (bytes_eq b a) refl
  where
    go : (c : Bool) → bytes_eq b a ≡ c → c ≡ false
    go true same = absurd (true≢false (sym (same_true a b (sym (same_text b a same))) ∙ e))
    go false same = refl

pub once_more : (done : List Given) (g : Given) → is_once done ≡ true → is_given g.0 done ≡ false → is_once (done ++ g ∷ []) ≡ true
once_more [] g once new = refl
once_more (h ∷ done) g once new =
    let parts = and_both (not (is_given h.0 done)) (is_once done) once in
    let apart = or_neither (bytes_eq h.0 g.0) (is_given g.0 done) new in
    let kept : is_given h.0 (done ++ g ∷ []) ≡ is_given h.0 done = given_last h.0 done g (other_way h.0 g.0 apart.0) in
    ap₂ (λ a b. not a && b) kept (once_more done g parts.1 apart.1) ∙ ap (λ b. b && true) parts.0

-- the text of what isn't given before
first_given : (done : List Given) (g : Given) (more : List Given) → is_given g.0 done ≡ false → text_given (done ++ g ∷ more) g.0 ≡ Some g.1
first_given [] g more new = rw (same_true g.0 g.0 refl) refl
first_given (h ∷ done) g more new =
    let apart = or_neither (bytes_eq h.0 g.0) (is_given g.0 done) new in
    rw apart.0 (first_given done g more apart.1)

-- ---- words that make no job

pub if_same : {A : Type 0} (b : Bool) (x : A) → (if b then x else x) ≡ x
if_same true x = refl
if_same false x = refl

abbrev pub IsNoJob : List Given → Type 0
IsNoJob gives = job_from gives ≡ None

pub no_job_twice : (done : List Given) (g : Given) (more : List Given) → is_given g.0 done ≡ true → IsNoJob (done ++ g ∷ more)
no_job_twice done g more e = rw (twice done g more e) refl

-- the job, where g is given as it stands
no_job_at : (done : List Given) (g : Given) (more : List Given) → ((given : Texts) → given g.0 ≡ Some g.1 → job_by given ≡ None) → IsNoJob (done ++ g ∷ more)
no_job_at done g more bad = go (is_given g.0 done) refl
  where
    go : (b : Bool) → is_given g.0 done ≡ b → IsNoJob (done ++ g ∷ more)
    go true e = no_job_twice done g more e
    go false e = ap (λ (o : Option Job). if is_once (done ++ g ∷ more) then o else None) (bad (text_given (done ++ g ∷ more)) (first_given done g more e)) ∙ if_same (is_once (done ++ g ∷ more)) None

is_hyphen : (c : ℕ) → (c == 45) ≡ true → c ≡ 45
is_hyphen c e = (Decides-eqb c 45).0 e

-- no name and no number begins with a hyphen
unfit : (k : Kind) (v : Text) → wants_text k ≡ true → begins_with_hyphen v ≡ true → fits k v ≡ false
unfit k [] wants e = absurd (cc)
unfit name (c ∷ cs) wants e = subst (λ d. fits name (d ∷ cs) ≡ false) (sym (is_hyphen c e)) refl
unfit number (c ∷ cs) wants e = subst (λ d. fits number (d ∷ cs) ≡ false) (sym (is_hyphen c e)) refl
unfit nothing (c ∷ cs) wants e = absurd (cc)

unsuited : (word : Text) (given : Texts) (opts : List OptionRow) (x v : Text) → list_any (λ o. wants_text o.kind && bytes_eq o.word x) opts ≡ true → given x ≡ Some v → begins_with_hyphen v ≡ true → list_all (suits word given) opts ≡ false
unsuited word given [] x v known at e = absurd (cc)
unsuited word given (o ∷ opts) x v known at e = go (wants_text o.kind && bytes_eq o.word x) refl known (λ k. unsuited word given opts x v k at e)
  where
    go : (b : Bool) → (wants_text o.kind && bytes_eq o.word x) ≡ b → (b || list_any (λ p. wants_text p.kind && bytes_eq p.word x) opts) ≡ true
        → (list_any (λ p. wants_text p.kind && bytes_eq p.word x) opts ≡ true → list_all (suits word given) opts ≡ false) → list_all (suits word given) (o ∷ opts) ≡ false
    go true here rest behind =
        let parts = and_both (wants_text o.kind) (bytes_eq o.word x) here in
        let got : given o.word ≡ Some v = ap given (same_text o.word x parts.1) ∙ at in
        rw (got, unfit o.kind v parts.0 e) (ap (λ b. b && list_all (suits word given) opts) (and_false (is_among word o.commands)))
    go false here rest behind = ap (λ b. suits word given o && b) (behind rest) ∙ and_false (suits word given o)

pub no_job_value : (done : List Given) (x v : Text) (more : List Given) → takes_text x ≡ true → begins_with_hyphen v ≡ true → IsNoJob (done ++ (x, v) ∷ more)
no_job_value done x v more known e = no_job_at done (x, v) more (λ given at. go given at (given command))
  where
    go : (given : Texts) → given x ≡ Some v → (o : Option Text) → option_and_then (job_of_command given) o ≡ None
    go given at None = refl
    go given at (Some word) = rw (unsuited word given options x v known at e) refl

unnamed : (given : Texts) (word : Text) → begins_with_hyphen word ≡ true → job_named given word ≡ None
unnamed given [] e = absurd (cc)
unnamed given (c ∷ cs) e = subst (λ d. job_named given (d ∷ cs) ≡ None) (sym (is_hyphen c e)) refl

pub no_job_command : (done : List Given) (word : Text) (more : List Given) → begins_with_hyphen word ≡ true → IsNoJob (done ++ (command, word) ∷ more)
no_job_command done word more e = no_job_at done (command, word) more (λ given at. rw at (ap (λ (o : Option Job). if list_all (suits word given) options then o else None) (unnamed given word e) ∙ if_same (list_all (suits word given) options) None))
