-- Sinks that grow twice, and what is passed on to them.
use Rattle.std.proofs.Common.{◌≡◌, ◌⊎◌, inl, inr, ℕ, drop, subst, ◌+◌, ◌≤◌, ◌<◌, List, [], ◌∷◌, ◌++◌, Option, Some, None, Result, Ok, Err, OnErr, IfSome, length, take, get_or, sym, ◌∙◌, ap, append_assoc, arith}
use Rattle.std.specs.List.{concat}
use Rattle.std.specs.Prelude.{slice_get}
use Rattle.std.proofs.lemmas.Bool.{cases_order}
use Rattle.std.proofs.lemmas.Grind.{common_steps}
use Rattle.std.proofs.lemmas.Option.{get_or_from_slice_get, slice_get_cases}
use Rattle.std.proofs.lemmas.List.{append-nil, take-append-le, take-append-drop, take_more}
use Rattle.std.proofs.Math.Seq.{take-append_seam, take-append-add}
use Rattle.std.proofs.lemmas.List.Folds.{concat-append}
use Rattle.iso_text.specs.Streams.{GrownBy, GrownByPrefix}
use Rattle.report_buffer.specs.Passing.{IsPassedOn}

take_whole : {A : Type 0} (n : ℕ) (xs : List A) → length xs ≤ n → take n xs ≡ xs
take_whole n xs fits = grind (arith, common_steps)

-- it grows by nothing
pub grown-none : (old : Option (List ℕ)) → GrownBy [] old old
grown-none None = tt
grown-none (Some held) = ap Some (sym (append-nil held))

-- it grows, and then again
pub grown-twice : (a b : List ℕ) (old mid new : Option (List ℕ)) → GrownBy a old mid → GrownBy b mid new → GrownBy (a ++ b) old new
grown-twice a b None mid new p q = tt
grown-twice a b (Some held) mid new p q =
    let r : new ≡ Some ((held ++ a) ++ b) = subst (λ m. IfSome m (λ h. new ≡ Some (h ++ b))) p q in
    r ∙ ap Some (append_assoc held a b)

-- it grows, and then by a front
pub grown-on : (a b : List ℕ) (old mid new : Option (List ℕ)) → GrownBy a old mid → GrownByPrefix b mid new → GrownByPrefix (a ++ b) old new
grown-on a b None mid new p q = tt
grown-on a b (Some held) mid new p q =
    let r : (n : ℕ) × (new ≡ Some ((held ++ a) ++ take n b)) = subst (λ m. IfSome m (λ h. (n : ℕ) × (new ≡ Some (h ++ take n b)))) p q in
    (length a + r.0, r.1 ∙ ap Some (append_assoc held a (take r.0 b) ∙ ap (λ t. held ++ t) (sym (take-append-add a b r.0))))

-- by a front of the first list
pub grown-front : (a b : List ℕ) (old new : Option (List ℕ)) → GrownByPrefix a old new → GrownByPrefix (a ++ b) old new
grown-front a b None new p = tt
grown-front a b (Some held) new p = by-length (cases_order p.0 (length a))
  where
    few : p.0 ≤ length a → (n : ℕ) × (new ≡ Some (held ++ take n (a ++ b)))
    few l = (p.0, p.1 ∙ ap (λ t. Some (held ++ t)) (sym (take-append-le p.0 a b l)))

    many : length a ≤ p.0 → (n : ℕ) × (new ≡ Some (held ++ take n (a ++ b)))
    many l = (length a, p.1 ∙ ap (λ t. Some (held ++ t)) (take_whole p.0 a l ∙ sym (take-append_seam a b)))

    by-length : (p.0 ≡ length a) ⊎ ((p.0 < length a) ⊎ (length a < p.0)) → (n : ℕ) × (new ≡ Some (held ++ take n (a ++ b)))
    by-length (inl e) = few (omega arith)
    by-length (inr (inl l)) = few (omega arith)
    by-length (inr (inr l)) = many (omega arith)

-- by the first list alone
pub grown-first : (a b : List ℕ) (old new : Option (List ℕ)) → GrownBy a old new → GrownByPrefix (a ++ b) old new
grown-first a b None new p = tt
grown-first a b (Some held) new p = (length a, p ∙ ap (λ t. Some (held ++ t)) (sym (take-append_seam a b)))

slice_get_within : {A : Type 0} (xs : List A) (i : ℕ) (x : A) → slice_get xs i ≡ Some x → i < length xs
slice_get_within xs i x at = by-place (slice_get_cases xs i).1
  where
    by-place : ((y : _) × (i < length xs) × (slice_get xs i ≡ Some y) × (get_or xs i y ≡ y)) ⊎ ((length xs ≤ i) × (slice_get xs i ≡ None)) → i < length xs
    by-place (inl (y, within, is, same)) = within
    by-place (inr (past, none)) = absurd (cc)

-- an error's fact, of any answer
pub on-err : {T E P : Type 0} (r : Result T E) → P → OnErr r P
on-err (Ok x) p = tt
on-err (Err e) p = p

-- the pieces up to one, and that
concat_more : (ps : List (List ℕ)) (i : ℕ) (text : List ℕ) → slice_get ps i ≡ Some text → concat (take (i + 1) ps) ≡ concat (take i ps) ++ text
concat_more ps i text at =
    let within : i < length ps = slice_get_within ps i text at in
    ap concat (take_more ps i text within) ∙ concat-append (take i ps) (get_or ps i text ∷ []) ∙ ap (λ t. concat (take i ps) ++ t) (append-nil (get_or ps i text))
    ∙ ap (λ t. concat (take i ps) ++ t) (get_or_from_slice_get ps i text text at)

-- the pieces up to one, and those behind
concat_split : (ps : List (List ℕ)) (i : ℕ) → concat ps ≡ concat (take i ps) ++ concat (drop i ps)
concat_split ps i = ap concat (sym (take-append-drop i ps)) ∙ concat-append (take i ps) (drop i ps)

-- one more piece is passed on
pub passed-more : (ps : List (List ℕ)) (i : ℕ) (text kept now : List ℕ) (old mid new : Option (List ℕ)) → slice_get ps i ≡ Some text → IsPassedOn (concat (take i ps)) kept old mid
    → IsPassedOn (kept ++ text) now mid new → IsPassedOn (concat (take (i + 1) ps)) now old new
passed-more ps i text kept now old mid new at (g, grown, parts) (h, more, rest) = (
  g ++ h,
  grown-twice g h old mid new grown more,
  append_assoc g h now ∙ ap (λ t. g ++ t) rest ∙ sym (append_assoc g kept text) ∙ ap (λ t. t ++ text) parts ∙ sym (concat_more ps i text at),
)

-- a piece is passed on in part
pub passed-part : (ps : List (List ℕ)) (i : ℕ) (text kept : List ℕ) (old mid new : Option (List ℕ)) → slice_get ps i ≡ Some text → IsPassedOn (concat (take i ps)) kept old mid
    → GrownByPrefix (kept ++ text) mid new → GrownByPrefix (concat ps) old new
passed-part ps i text kept old mid new at (g, grown, parts) part =
    let whole : g ++ (kept ++ text) ≡ concat (take (i + 1) ps) = sym (append_assoc g kept text) ∙ ap (λ t. t ++ text) parts ∙ sym (concat_more ps i text at) in
    let front = subst (λ t. GrownByPrefix t old new) whole (grown-on g (kept ++ text) old mid new grown part) in
    subst (λ t. GrownByPrefix t old new) (sym (concat_split ps (i + 1))) (grown-front (concat (take (i + 1) ps)) (concat (drop (i + 1) ps)) old new front)

-- the pieces before one are passed on
pub passed-front : (ps : List (List ℕ)) (i : ℕ) (kept : List ℕ) (old new : Option (List ℕ)) → IsPassedOn (concat (take i ps)) kept old new → GrownByPrefix (concat ps) old new
passed-front ps i kept old new (g, grown, parts) =
    let front = subst (λ t. GrownByPrefix t old new) parts (grown-first g kept old new grown) in
    subst (λ t. GrownByPrefix t old new) (sym (concat_split ps i)) (grown-front (concat (take i ps)) (concat (drop i ps)) old new front)

-- nothing is passed on of no piece
pub passed-none : (ps : List (List ℕ)) (kept : List ℕ) (old : Option (List ℕ)) → kept ≡ [] → IsPassedOn (concat (take 0 ps)) kept old old
passed-none ps kept old none = ([], grown-none old, none)

-- all of the pieces are passed on
pub passed-all : (ps : List (List ℕ)) (i : ℕ) (kept : List ℕ) (old new : Option (List ℕ)) → length ps ≤ i → IsPassedOn (concat (take i ps)) kept old new → IsPassedOn (concat ps) kept old new
passed-all ps i kept old new all passed = subst (λ t. IsPassedOn t kept old new) (ap concat (take_whole i ps all)) passed

-- what was kept is written in part
pub flushed-part : (bytes kept : List ℕ) (old mid new : Option (List ℕ)) → IsPassedOn bytes kept old mid → GrownByPrefix kept mid new → GrownByPrefix bytes old new
flushed-part bytes kept old mid new (g, grown, parts) part = subst (λ t. GrownByPrefix t old new) parts (grown-on g kept old mid new grown part)
