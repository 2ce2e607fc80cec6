-- What is found of a listing that watchers are told of.
use Rattle.std.proofs.Common.{◌≡◌, refl, sym, ap, ◌∙◌, subst, ◌⊎◌, inl, inr, ℕ, ◌+◌, ◌-◌, ◌/◌, ◌<◌, ◌≤◌, Bool, List, [], ◌∷◌, ◌++◌, map, take, drop, slice_get, Option, Some, None, Result, Ok, Err, OnErr, append_assoc, arith}
use Rattle.std.specs.Prelude.{codes, decimal, length, flat_map}
use Rattle.std.specs.List.{concat, enumerate_from}
use Rattle.std.proofs.lemmas.List.{append-nil, length-drop, length-take, length-map}
use Rattle.std.proofs.lemmas.List.Concat.{flat_map_single}
use Rattle.std.proofs.lemmas.List.FromFn.{length-enumerate_from}
use Rattle.std.proofs.lemmas.List.Folds.{concat-append}
use Rattle.iso_watch.specs.declared.notice.Notice.{Notice}
use Rattle.cyclo24.specs.declared.k24.K24.{K24}
use Rattle.cyclo24.specs.K24.{exact24}
use Rattle.cyclo24.specs.ExactK24.{k24_laws}
use Rattle.iso_watch.specs.Watchers.{Watcher, Told, EndsAfter}
use Rattle.class_list.specs.Pages.{page, directions_at}
use Rattle.class_list.specs.Seen.{DirectionView, direction_of, directions_of}
use Rattle.super_group.specs.Quotient.{SupercellGroup, order_of}
use Rattle.report_buffer.specs.PieceLaws.{made-joined}
use Rattle.report_steps.specs.Contexts.{Divided}
use Rattle.report_steps.specs.Finding.{Finding, report, refused}
use Rattle.report_steps.specs.FoundBy.{FindsBy}
use Rattle.report_steps.specs.Steps.{After, never}
use Rattle.report_steps.specs.declared.refusal.Refusal.{Refusal}
use Rattle.report_steps.specs.declared.refusal.Refusal.TheVariants as refusal
use Rattle.report_steps.specs.declared.step.Step.TheVariants as step
use Rattle.list_report.specs.Choice.{RefusesChoice, IsChosen}
use Rattle.list_report.specs.Closing.{RefusesSubspaces, AreWideSubspaces, AreFew, RefusesNone, AreWideClasses, IsListed}
use Rattle.list_report.specs.Contexts.{Listed}
use Rattle.list_report.specs.FoundListing.{listed_text, IsTheOne, FindsListing}
use Rattle.list_report.specs.HeldListings.{listed_in}
use Rattle.list_report.specs.Listings.{AfterClosing, AfterForm, AfterChoice, IsListedThen}
use Rattle.list_report.specs.ListReport.{direction_text}
use Rattle.list_report.specs.PagePieces.{page_pieces}
use Rattle.list_report.specs.RealForms.{RefusesForm, IsWideFormOf, IsFormed}
use Rattle.list_report.specs.Telling.{notice_of, page_notices, told_report, IsTold, IsUntold, IsListTold}
use Rattle.list_report.specs.ToldPieces.{told_text, IsToldHeld, told_head, told_pieces}
use Rattle.list_report.specs.declared.listed.ListedIrrep.{ListedIrrep}
use Rattle.list_report.specs.declared.told.ToldListing.{ToldListing}
use Rattle.list_report.proofs.ListReportLemmas.{head-behind, page-more, rows-length}

-- an error's fact, of any answer
pub on-err : {T E : Type 0} (r : Result T E) (P : Type 0) → P → OnErr r P
on-err (Ok x) P p = tt
on-err (Err e) P p = p

-- another finding of what passes
after-moved : {A B : Type 0} (refuses : A → Refusal → Type 0) (wide : A → ℕ → Type 0) (passes : A → B → Type 0) (next other : B → Finding → Type 0) (a : A) (f g : Finding)
    → ((r : Refusal) → f ≡ refused r → g ≡ refused r) → ((b : B) → next b f → other b g) → After refuses wide passes next a f → After refuses wide passes other a g
after-moved refuses wide passes next other a f g same on (inl (r, x, e)) = inl (r, x, same r e)
after-moved refuses wide passes next other a f g same on (inr (inl (k, w, e))) = inr (inl (k, w, same (refusal.Wide k) e))
after-moved refuses wide passes next other a f g same on (inr (inr (b, p, n))) = inr (inr (b, p, on b n))

-- another finding of a listing
listed-moved : (wanted : Option (List ℕ)) (next other : Listed → Finding → Type 0) (d : Divided) (f g : Finding) → ((r : Refusal) → f ≡ refused r → g ≡ refused r)
    → ((l : Listed) → next l f → other l g) → IsListedThen wanted next d f → IsListedThen wanted other d g
listed-moved wanted next other d f g same on =
    after-moved (RefusesChoice wanted) never (IsChosen wanted) (AfterChoice next) (AfterChoice other) d f g same
    (λ c. after-moved RefusesForm IsWideFormOf IsFormed (AfterForm next) (AfterForm other) c f g same
    (λ x. after-moved RefusesSubspaces AreWideSubspaces AreFew (AfterClosing next) (AfterClosing other) x f g same
    (λ y. after-moved RefusesNone AreWideClasses IsListed next other y f g same on)))

-- a report is no refusal
no-refusal : (t : List ℕ) (r : Refusal) → report t ≡ refused r → ⊥
no-refusal t r e = cc

-- the finding of the listing that passed
told-passed : (wanted : Option (List ℕ)) (after : ℕ) (count : Option ℕ) (tally : Bool) (ws new : List Watcher) (d : Divided) (l : ListedIrrep) (f : Finding)
    → IsListedThen wanted (IsTheOne after count (step.Passed l)) d (report (listed_text l)) → IsTold l.after l.count tally ws new (listed_in l) f → IsListedThen wanted (IsTold after count tally ws new) d f
told-passed wanted after count tally ws new d l f found told =
    listed-moved wanted (IsTheOne after count (step.Passed l)) (IsTold after count tally ws new) d (report (listed_text l)) f
    (λ r e. absurd (no-refusal (listed_text l) r e))
    (λ m one.
    let P : ℕ → Type 0 = λ a. IsTold a l.count tally ws new (listed_in l) f in
    let Q : Option ℕ → Type 0 = λ n. IsTold after n tally ws new (listed_in l) f in
    let R : Listed → Type 0 = λ x. IsTold after count tally ws new x f in
    subst R (sym one.0) (subst Q one.2 (subst P one.1 told)))
    found

-- a refusal
told-refused : (wanted : Option (List ℕ)) (after : ℕ) (count : Option ℕ) (tally : Bool) (ws new : List Watcher) (d : Divided) (r : Refusal)
    → IsListedThen wanted (IsTheOne after count (step.Refused r)) d (refused r) → IsListedThen wanted (IsTold after count tally ws new) d (refused r)
told-refused wanted after count tally ws new d r found =
    listed-moved wanted (IsTheOne after count (step.Refused r)) (IsTold after count tally ws new) d (refused r) (refused r) (λ q e. e) (λ m none. absurd none) found

-- the finding of a told page is a report, which leaves no watcher untold
untold : (after : ℕ) (count : Option ℕ) (tally : Bool) (ws new : List Watcher) (l : Listed) (f : Finding) → IsTold after count tally ws new l f → IsUntold f ws new
untold after count tally ws new l f t = subst (λ x. IsUntold x ws new) (sym t.reported) tt

-- where memory is refused behind the notices
pub told-or-not : {Same : Type 0} (wanted : Option (List ℕ)) (after : ℕ) (count : Option ℕ) (tally : Bool) (ws new : List Watcher) (d : Divided) (l : ListedIrrep)
    → FindsListing after count (λ next. IsListedThen wanted next d) (step.Passed l) → Same ⊎ ((f : Finding) × IsTold l.after l.count tally ws new (listed_in l) f)
    → Same ⊎ ((f : Finding) × IsListTold wanted after count tally ws new d f)
told-or-not wanted after count tally ws new d l found (inl e) = inl e
told-or-not wanted after count tally ws new d l found (inr (f, t)) =
    inr (f, (told-passed wanted after count tally ws new d l f found.0 t, untold l.after l.count tally ws new (listed_in l) f t))

-- a listing that passed and is told
pub told-found : (wanted : Option (List ℕ)) (after : ℕ) (count : Option ℕ) (tally : Bool) (ws new : List Watcher) (d : Divided) (l : ListedIrrep) (t : ToldListing)
    → FindsListing after count (λ next. IsListedThen wanted next d) (step.Passed l) → IsTold l.after l.count tally ws new (listed_in l) (report (told_text t)) → IsToldHeld t
    → FindsBy told_text IsToldHeld (IsListTold wanted after count tally ws new d) (step.Passed t)
told-found wanted after count tally ws new d l t found told held = ((told-passed wanted after count tally ws new d l (report (told_text t)) found.0 told, tt), held)

-- a refusal, with the watchers as they were
pub untold-found : (wanted : Option (List ℕ)) (after : ℕ) (count : Option ℕ) (tally : Bool) (ws : List Watcher) (d : Divided) (r : Refusal)
    → FindsListing after count (λ next. IsListedThen wanted next d) (step.Refused r) → FindsBy told_text IsToldHeld (IsListTold wanted after count tally ws ws d) (step.Refused r)
untold-found wanted after count tally ws d r found = ((told-refused wanted after count tally ws ws d r found.0, refl), tt)

-- a page that is told, with its finding
pub page-told : {Same : Type 0} (after : ℕ) (count : Option ℕ) (tally : Bool) (ws new : List Watcher) (l : Listed) (ns : List Notice) (k : ℕ) → ns ≡ page_notices after count l → EndsAfter ns ws k
    → Told (take k ns) ws new → Same ⊎ ((f : Finding) × IsTold after count tally ws new l f)
page-told after count tally ws new l ns k e ends told =
    inr (
      report (told_report after k tally new l),
      record {
        told_count = k;
        ends = subst (λ xs. EndsAfter xs ws k) e ends;
        told = subst (λ xs. Told (take k xs) ws new) e told;
        reported = refl;
      },
    )

-- the pieces joined
pub told-joined : (t : ToldListing) → concat (told_pieces t) ≡ told_text t
told-joined t =
    let l = t.listed in
    let ds = directions_of k24_laws exact24 l.listing in
    let f = direction_text l.quotient l.dim in
    let body = flat_map f (page l.after l.count ds) in
    let head = told_head l in
    let rest : concat (page_pieces l.quotient l.dim l.after l.count ds ++ t.tail ∷ []) ≡ body ++ t.tail =
    concat-append (page_pieces l.quotient l.dim l.after l.count ds) (t.tail ∷ []) ∙ ap (λ x. x ++ (t.tail ++ [])) (made-joined f (page l.after l.count ds)) ∙ ap (λ x. body ++ x) (append-nil t.tail) in
    ap (λ x. head ++ x) rest ∙ sym (append_assoc head body t.tail)
    ∙ ap (λ x. x ++ t.tail)
    (head-behind (codes "isodist " ++ decimal l.format ++ codes " list") (codes "irrep " ++ l.name ++ codes " dim " ++ decimal l.dim ++ codes " order " ++ decimal (order_of l.quotient))
    (codes "total " ++ decimal (length ds)) body)

-- the notice of a direction, by its numbers
pub notice-made : (q : SupercellGroup) (dim number n o w : ℕ) (d e : DirectionView K24) → d ≡ e → d.equations.width ≡ dim → n ≡ d.equations.width - length d.equations.rows → o ≡ length d.stabiliser → w ≡ order_of q
    → ◌≡◌ {A = Notice} (record { number = number; dim = n; order = o; index = w / o }) (notice_of q dim (number, direction_of k24_laws exact24 e))
notice-made q dim number n o w d e same width a b c =
    let m : n ≡ dim - length (direction_of k24_laws exact24 d).equations = a ∙ (λ j. width j - sym (rows-length k24_laws exact24 d.equations.rows) j) in
    let made : ℕ → ℕ → ℕ → Notice = λ x y z. record { number = number; dim = x; order = y; index = z / y } in
    (λ j. made (m j) (b j) (c j)) ∙ ap (λ x. notice_of q dim (number, direction_of k24_laws exact24 x)) same

-- one notice more
pub notices-more : (q : SupercellGroup) (dim first i : ℕ) (ds : List (DirectionView K24)) (d : DirectionView K24) → first ≤ i → slice_get ds i ≡ Some d
    → map (notice_of q dim) (enumerate_from (first + 1) (directions_of k24_laws exact24 (directions_at ds (first, i + 1))))
    ≡ map (notice_of q dim) (enumerate_from (first + 1) (directions_of k24_laws exact24 (directions_at ds (first, i)))) ++ notice_of q dim (i + 1, direction_of k24_laws exact24 d) ∷ []
notices-more q dim first i ds d l e =
    let f = notice_of q dim in
    let g = direction_of k24_laws exact24 in
    let one : Notice = f (i + 1, g d) in
    sym (flat_map_single f (enumerate_from (first + 1) (map g (drop first (take (i + 1) ds))))) ∙ page-more (λ p. f p ∷ []) g first i ds d l e
    ∙ ap (λ t. t ++ one ∷ []) (flat_map_single f (enumerate_from (first + 1) (map g (drop first (take i ds)))))

-- the last number of a page is in the listing
page-length : {D : Type 0} (after : ℕ) (count : Option ℕ) (ds : List D) → length (page after count ds) ≤ length ds - after
page-length after None ds = omega (arith, length-enumerate_from (after + 1) (drop after ds), length-drop after ds)
page-length after (Some n) ds = omega (arith, length-enumerate_from (after + 1) (take n (drop after ds)), length-take n (drop after ds), length-drop after ds)

pub page-fits : {D : Type 0} {N : Type 0} (after : ℕ) (count : Option ℕ) (ds : List D) (f : ℕ × D → N) (k m : ℕ) → length ds ≤ m → k ≤ length (map f (page after count ds)) → 0 < k → after + k ≤ m
page-fits after count ds f k m few within some = omega (arith, length-map (page after count ds) f, page-length after count ds)
